-- The groups that are still to be judged, each with its task and its first line.
use Rattle.std.proofs.Common.{arith, ◌≡◌, refl, sym, ap, ◌∙◌, subst, ℕ, ◌+◌, ◌<◌, ◌≤◌, ◌^◌, Option, Some, None, List, [], ◌∷◌, length, map, ◌⊎◌, inl, inr, length-append, codes}
use Rattle.std.proofs.lemmas.List.Elements.{All-head, All-tail}
use Rattle.std.specs.List.{All}
use Rattle.gd_base.specs.Limits.{FILE_BYTES}
use Rattle.gd_cells.specs.Meaning.{Questions}
use Rattle.gd_cert.proofs.Sizes.{lines_are_few}
use Rattle.gd_cert.specs.Bounds.{BodyFits, IsInBounds}
use Rattle.gd_cert.specs.Certificates.{Body, Certificate, body_of, certificate_of}
use Rattle.gd_cert.specs.Text.{KeepsLines, body_lines, first_lines, groups_lines, text}
use Rattle.gd_cert.specs.declared.cert.Cert.{Cert}
use Rattle.gd_cert.specs.declared.cert.CertGroup.{CertGroup}
use Rattle.gd_cert.specs.declared.fault.CertFault.{CertFault}
use Rattle.gd_check.specs.Wrong.{or_else, wrong_bodies, wrong_body}

-- ---- the lines of a text
-- how many lines some groups have
abbrev pub lines_count : List Body → ℕ
lines_count [] = 0
lines_count (b ∷ bs) = 1 + length (body_lines b) + lines_count bs

groups_counted : (number : ℕ) (bs : List Body) → length (groups_lines number bs) ≡ lines_count bs
groups_counted number [] = refl
groups_counted number (b ∷ bs) = omega (arith, length-append (body_lines b) (groups_lines (number + 1) bs), groups_counted (number + 1) bs)

text_room : (c : Certificate) → 5 + lines_count c.groups ≤ length (text c)
text_room c = omega (arith, lines_are_few c, length-append (groups_lines 1 c.groups) ((codes "end" ∷ []) ∷ []), groups_counted 1 c.groups)

-- ---- the groups that are left
abbrev pub bodies : List CertGroup → List Body
bodies groups = map (λ (group : CertGroup). body_of group.body) groups

-- the first wrong line of those that are left is the one of all
pub record Rests {T : Type 0} (questions : T → Questions) (budget : ℕ) (wrong : Option CertFault) (tasks : List T) (groups : List CertGroup) : Type 0 where
  pub line : ℕ
  pub fits : All BodyFits (bodies groups)
  pub keeps : map (λ (group : CertGroup). group.line) groups ≡ first_lines line (bodies groups)
  pub room : line + lines_count (bodies groups) ≤ FILE_BYTES
  pub left : wrong ≡ wrong_bodies (map questions tasks) budget line (bodies groups)

pub all_left : {T : Type 0} (questions : T → Questions) (tasks : List T) (c : Cert) → IsInBounds (certificate_of c) → KeepsLines c → length (text (certificate_of c)) ≤ FILE_BYTES →
    Rests questions c.share (wrong_bodies (map questions tasks) c.share 5 (certificate_of c).groups) tasks c.groups.items
all_left questions tasks c bounds keeps short = record { line = 5; fits = bounds.groups; keeps = keeps; room = omega (arith, text_room (certificate_of c), short); left = refl }

first_line : {T : Type 0} (questions : T → Questions) (budget : ℕ) (wrong : Option CertFault) (t : T) (ts : List T) (group : CertGroup) (groups : List CertGroup) → (r : Rests questions budget wrong (t ∷ ts) (group ∷ groups)) → group.line ≡ r.line
first_line questions budget wrong t ts group groups r = let e : map (λ (g : CertGroup). g.line) (group ∷ groups) ≡ first_lines r.line (bodies (group ∷ groups)) = r.keeps in cc

pub first_fits : {T : Type 0} (questions : T → Questions) (budget : ℕ) (wrong : Option CertFault) (t : T) (ts : List T) (group : CertGroup) (groups : List CertGroup) → Rests questions budget wrong (t ∷ ts) (group ∷ groups) → BodyFits (body_of group.body)
first_fits questions budget wrong t ts group groups r = All-head BodyFits (body_of group.body) (bodies groups) r.fits

pub first_room : {T : Type 0} (questions : T → Questions) (budget : ℕ) (wrong : Option CertFault) (t : T) (ts : List T) (group : CertGroup) (groups : List CertGroup) → Rests questions budget wrong (t ∷ ts) (group ∷ groups) → group.line + 1 + length (body_lines (body_of group.body)) < 2 ^ 32
first_room questions budget wrong t ts group groups r = omega (arith, first_line questions budget wrong t ts group groups r, r.room)

pub first_breaks : {T : Type 0} (questions : T → Questions) (budget : ℕ) (wrong : Option CertFault) (t : T) (ts : List T) (group : CertGroup) (groups : List CertGroup) → Rests questions budget wrong (t ∷ ts) (group ∷ groups) →
    (f : CertFault) → Some f ≡ wrong_body (questions t) budget group.line (body_of group.body) → Some f ≡ wrong
first_breaks questions budget wrong t ts group groups r f h =
    let e : Some f ≡ wrong_body (questions t) budget r.line (body_of group.body) = subst (λ line. Some f ≡ wrong_body (questions t) budget line (body_of group.body)) (first_line questions budget wrong t ts group groups r) h in
    let n : wrong ≡ or_else (wrong_body (questions t) budget r.line (body_of group.body)) (wrong_bodies (map questions ts) budget (r.line + 1 + length (body_lines (body_of group.body))) (bodies groups)) = r.left in
    sym (n ∙ ap (λ first. or_else first (wrong_bodies (map questions ts) budget (r.line + 1 + length (body_lines (body_of group.body))) (bodies groups))) (sym e))

pub first_keeps : {T : Type 0} (questions : T → Questions) (budget : ℕ) (wrong : Option CertFault) (t : T) (ts : List T) (group : CertGroup) (groups : List CertGroup) → Rests questions budget wrong (t ∷ ts) (group ∷ groups) →
    None ≡ wrong_body (questions t) budget group.line (body_of group.body) → Rests questions budget wrong ts groups
first_keeps questions budget wrong t ts group groups r h =
    let e : None ≡ wrong_body (questions t) budget r.line (body_of group.body) = subst (λ line. None ≡ wrong_body (questions t) budget line (body_of group.body)) (first_line questions budget wrong t ts group groups r) h in
    let n : wrong ≡ or_else (wrong_body (questions t) budget r.line (body_of group.body)) (wrong_bodies (map questions ts) budget (r.line + 1 + length (body_lines (body_of group.body))) (bodies groups)) = r.left in
    let k : map (λ (g : CertGroup). g.line) (group ∷ groups) ≡ r.line ∷ first_lines (r.line + 1 + length (body_lines (body_of group.body))) (bodies groups) = r.keeps in
    record {
      line = r.line + 1 + length (body_lines (body_of group.body));
      fits = All-tail BodyFits (body_of group.body) (bodies groups) r.fits;
      keeps = cc;
      room = omega (arith, r.room);
      left = n ∙ ap (λ first. or_else first (wrong_bodies (map questions ts) budget (r.line + 1 + length (body_lines (body_of group.body))) (bodies groups))) (sym e);
    }

pub none_left : {T : Type 0} (questions : T → Questions) (budget : ℕ) (wrong : Option CertFault) (tasks : List T) (groups : List CertGroup) → Rests questions budget wrong tasks groups → (tasks ≡ []) ⊎ (groups ≡ []) → None ≡ wrong
none_left questions budget wrong [] groups r end = sym r.left
none_left questions budget wrong (t ∷ ts) [] r end = sym r.left
none_left questions budget wrong (t ∷ ts) (group ∷ groups) r (inl e) = cc
none_left questions budget wrong (t ∷ ts) (group ∷ groups) r (inr e) = cc
