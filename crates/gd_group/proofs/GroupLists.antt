-- Groups, requirement by requirement.
use Rattle.std.proofs.Common.{◌≡◌, ◌∙◌, ap, arith, refl, option_map, ℕ, ◌+◌, ◌<◌, ◌≤◌, ◌-◌, suc, zero, nat_eq, Bool, true, false, cond, List, [], ◌∷◌, ◌++◌, length, filter, map, take, get_or}
use Rattle.std.proofs.lemmas.List.{length-map, map-append}
use Rattle.std.proofs.lemmas.List.Elements.{filter_more}
use Rattle.std.proofs.lemmas.List.FromFn.{filter_of_map_range_with_len_more}
use Rattle.std.proofs.lemmas.Option.{slice_get-get_or, slice_get-map}
use Rattle.std.specs.List.{range_with_len}
use Rattle.std.specs.Prelude.{slice_get}
use Rattle.gd_frames.specs.Combinations.{passes}
use Rattle.gd_frames.specs.Counts.{joins}
use Rattle.gd_group.specs.Groups.{begins, groups, is_first, is_partner, judged_with, partners, whole}
use Rattle.gd_group.specs.declared.requirement.Requirement.{Requirement}
use Rattle.gd_tables.specs.Kinds.{File, Frame, file_of, frame_of}
use Rattle.gd_tables.specs.declared.file.FrameDef.{FrameDef}
use Rattle.gd_tables.specs.declared.file.FrameFile.{FrameFile}

-- what one is mapped to, where it passes
mapped : {A B : Type 0} (f : A → B) (b : Bool) (x : A) → map f (cond b (x ∷ []) []) ≡ cond b (f x ∷ []) []
mapped f true x = refl
mapped f false x = refl

-- one requirement more: its group, if it's the first there
pub groups-more : (file : File) (rs : List Requirement) (i : ℕ) (d : Requirement) → i < length rs
    → groups file (take (i + 1) rs) ≡ groups file (take i rs) ++ cond (is_first file (get_or rs i d)) (judged_with file (get_or rs i d) ∷ []) []
groups-more file rs i d h =
    ap (map (judged_with file)) (filter_more (is_first file) rs i d h)
    ∙ map-append (judged_with file) (filter (is_first file) (take i rs)) (cond (is_first file (get_or rs i d)) (get_or rs i d ∷ []) [])
    ∙ ap (λ ys. groups file (take i rs) ++ ys) (mapped (judged_with file) (is_first file (get_or rs i d)) (get_or rs i d))

-- ---- the frames that are joined to one
passes-at : (frames : List FrameDef) (f : Frame) (n : ℕ) (d : FrameDef) → n < length frames
    → passes (joins f) (slice_get (map frame_of frames) n) ≡ joins f (frame_of (get_or frames n d))
passes-at frames f n d h = ap (passes (joins f)) (slice_get-map frame_of frames n ∙ ap (option_map frame_of) (slice_get-get_or frames n d h))

pub partners_more : (file : FrameFile) (f : Frame) (n : ℕ) (d : FrameDef) → n < length file.frames.items
    → filter (is_partner (file_of file) f) (map whole (range_with_len 0 (n + 1)))
    ≡ filter (is_partner (file_of file) f) (map whole (range_with_len 0 n)) ++ cond (joins f (frame_of (get_or file.frames.items n d))) (whole n ∷ []) []
partners_more file f n d h =
    let same : 0 + n ≡ n = omega arith in
    filter_of_map_range_with_len_more (is_partner (file_of file) f) whole 0 n n same
    ∙ ap (λ b. filter (is_partner (file_of file) f) (map whole (range_with_len 0 n)) ++ cond b (whole n ∷ []) []) (passes-at file.frames.items f n d h)

-- those of the first n frames
abbrev before : FrameFile → Frame → ℕ → List Requirement
before file f n = filter (is_partner (file_of file) f) (map whole (range_with_len 0 n))

-- the first of them stays the first
stays : (file : FrameFile) (f : Frame) (r q : Requirement) (rest : List Requirement) (d : FrameDef) (k n : ℕ)
    → n + k ≤ length file.frames.items → before file f n ≡ q ∷ rest → begins r (before file f (n + k)) ≡ nat_eq q.frame r.frame
stays file f r q rest d zero n h e =
    let same : n + 0 ≡ n = omega arith in
    ap (λ m. begins r (before file f m)) same ∙ ap (begins r) e
stays file f r q rest d (suc k) n h e =
    let joined : Bool = joins f (frame_of (get_or file.frames.items n d)) in
    let next : n + suc k ≡ (n + 1) + k = omega arith in
    let within : n < length file.frames.items = omega (arith, h) in
    let far : (n + 1) + k ≤ length file.frames.items = omega (arith, h) in
    let more : before file f (n + 1) ≡ q ∷ (rest ++ cond joined (whole n ∷ []) []) =
    partners_more file f n d within ∙ ap (λ xs. xs ++ cond joined (whole n ∷ []) []) e
    in
    ap (λ m. begins r (before file f m)) next ∙ stays file f r q (rest ++ cond joined (whole n ∷ []) []) d k (n + 1) far more

-- the first frame that is joined to one begins its partners
pub partners-begin : (file : FrameFile) (f : Frame) (r : Requirement) (n : ℕ) (d : FrameDef) → n < length file.frames.items
    → filter (is_partner (file_of file) f) (map whole (range_with_len 0 n)) ≡ []
    → joins f (frame_of (get_or file.frames.items n d)) ≡ true → begins r (partners (file_of file) f) ≡ nat_eq n r.frame
partners-begin file f r n d h none joined =
    let count : ℕ = length file.frames.items in
    let rest : ℕ = count - (n + 1) in
    let all : length (map frame_of file.frames.items) ≡ (n + 1) + rest = length-map file.frames.items frame_of ∙ omega (arith, h) in
    let within : (n + 1) + rest ≤ count = omega (arith, h) in
    let first : before file f (n + 1) ≡ whole n ∷ [] =
    partners_more file f n d h ∙ ap (λ b. before file f n ++ cond b (whole n ∷ []) []) joined ∙ ap (λ xs. xs ++ whole n ∷ []) none
    in
    ap (λ m. begins r (before file f m)) all ∙ stays file f r (whole n) [] d rest (n + 1) within first

pub partners-none : (file : FrameFile) (f : Frame) (n : ℕ) (d : FrameDef) → n < length file.frames.items
    → filter (is_partner (file_of file) f) (map whole (range_with_len 0 n)) ≡ []
    → joins f (frame_of (get_or file.frames.items n d)) ≡ false
    → filter (is_partner (file_of file) f) (map whole (range_with_len 0 (n + 1))) ≡ []
partners-none file f n d h none joined =
    partners_more file f n d h ∙ ap (λ b. before file f n ++ cond b (whole n ∷ []) []) joined ∙ ap (λ xs. xs ++ []) none
