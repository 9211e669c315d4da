-- What is spelled so is read: the text of a certificate in bounds gives the certificate.
use Rattle.std.proofs.Common.{◌≡◌, ℕ, ◌+◌, ◌≤◌, ◌<◌, ◌^◌, Bool, true, false, List, [], ◌∷◌, ◌++◌, Some, ℤ, length, map, arith, sym, refl, ap, ◌∙◌, decimal}
use Rattle.std.specs.Prelude.{Result, Ok, codes}
use Rattle.std.specs.List.{All, flat_map}
use Rattle.std.proofs.lemmas.List.{append_assoc, append-nil, length-append, map-append}
use Rattle.std.proofs.lemmas.List.Elements.{All-tail}
use Rattle.gd_base.specs.declared.verdict.Counts.{Counts}
use Rattle.gd_cells.specs.declared.node.Node.{Node}
use Rattle.gd_cells.specs.declared.node.Node.TheVariants.{Split, Refuted, Left}
use Rattle.gd_cert.proofs.Lines.{counts_again, group_again, group_line, heading_again, node_again, ok_same, share_again, told_again, witness_again, witness_words}
use Rattle.gd_cert.proofs.Split.{Clean, Lines, counts_line, end_line, group_is_line, heading_line, line_step, node_line, share_line, title_line, told_line, witness_line}
use Rattle.gd_cert.specs.Bounds.{BodyFits, IsDecided, IsInBounds, NodeFits}
use Rattle.gd_cert.specs.Certificates.{Body, Accept, Reject, Open, Certificate}
use Rattle.gd_cert.specs.Lines.{ends_tree, verdict_in}
use Rattle.gd_cert.specs.Reading.{Draft, Placed, at_stage, bodies_of, certificate_in, drafted, drafted_from, empty_draft, reading, with_body, with_group, with_line, with_node, with_tree_in}
use Rattle.gd_cert.specs.Text.{body_lines, groups_lines, heading_words, line_text, lines, node_words, text, title, verdict_word, counts_words}
use Rattle.gd_cert.specs.Words.{and_then_read, pieces}
use Rattle.gd_cert.specs.declared.fault.CertFault.{CertFault}
use Rattle.gd_cert.specs.declared.stage.Stage.{Stage}
use Rattle.gd_cert.specs.declared.stage.Stage.TheVariants as stage

-- the lines that are left, read from a draft on
abbrev Reads : ℕ → Draft → Lines → Result Draft CertFault
Reads line d left = drafted_from line d (pieces 10 (flat_map line_text left))

-- ---- the lines of a tree

-- at this stage a line that doesn't end a tree is one of its lines
abbrev InTree : Stage → Bool → Type 0
InTree s undecided = (line : ℕ) (words : List (List ℕ)) (d : Draft) → d.stage ≡ s → ends_tree words ≡ false → with_line line words d ≡ with_node undecided words d

in_reject : InTree stage.Reject false
unfolding with_line
in_reject line words d at other = rw (at, other) refl

in_open : (o : Counts) → InTree (stage.Open o) true
unfolding with_line
in_open o line words d at other = rw (at, other) refl

abbrev grown : Draft → List Node → Draft
grown d tree = record { heading = d.heading; share = d.share; told = d.told; groups = d.groups; stage = d.stage; begun = d.begun; tree = tree }

node_ends_none : (node : Node) → ends_tree (node_words node) ≡ false
node_ends_none Split = refl
node_ends_none (Refuted e) = refl
node_ends_none Left = refl

abbrev MayBe : Bool → Node → Type 0
MayBe undecided node = undecided ≡ false → IsDecided node

tree_again : (s : Stage) (undecided : Bool) → InTree s undecided → (tree : List Node) (line : ℕ) (d : Draft) (more : Lines) → d.stage ≡ s → All NodeFits tree → All (MayBe undecided) tree
    → Reads line d (map node_words tree ++ more) ≡ Reads (line + length tree) (grown d (d.tree ++ tree)) more
tree_again s undecided taken [] line d more at fits may =
    let here : line ≡ line + 0 = omega arith in
    λ i. Reads (here i) (grown d (sym (append-nil d.tree) i)) more
tree_again s undecided taken (node ∷ tree) line d more at fits may =
    let e = grown d (d.tree ++ node ∷ []) in
    let one : with_line line (node_words node) d ≡ Ok e =
    taken line (node_words node) d at (node_ends_none node)
    ∙ ap (λ r. and_then_read r (λ n. Ok (grown d (d.tree ++ n ∷ [])))) (node_again undecided node (fits 0 node (omega arith)) (may 0 node (omega arith))) in
    let there : line + 1 + length tree ≡ line + length (node ∷ tree) = omega arith in
    line_step line (node_words node) (map node_words tree ++ more) d e (node_line node (fits 0 node (omega arith))) one
    ∙ tree_again s undecided taken tree (line + 1) e more at (All-tail NodeFits node tree fits) (All-tail (MayBe undecided) node tree may)
    ∙ (λ i. Reads (there i) (grown d (append_assoc d.tree (node ∷ []) tree i)) more)

-- ---- the groups

-- behind this draft a line that ends a tree is read as behind the other, between two groups
abbrev IsAsBetween : Draft → Draft → Type 0
IsAsBetween d g = (line : ℕ) (words : List (List ℕ)) → ends_tree words ≡ true → with_line line words d ≡ with_group line words g

between : (d : Draft) → d.stage ≡ stage.Group → IsAsBetween d d
unfolding with_line
between d at line words ends = rw at refl

behind_reject : (d : Draft) → d.stage ≡ stage.Reject → IsAsBetween d (with_tree_in (Reject d.tree) d)
unfolding with_line
behind_reject d at line words ends = rw (at, ends) refl

behind_open : (d : Draft) (o : Counts) → d.stage ≡ stage.Open o → IsAsBetween d (with_tree_in (Open o d.tree) d)
unfolding with_line
behind_open d o at line words ends = rw (at, ends) refl

-- the certificate with these groups behind those of a draft
abbrev with_bodies : Draft → List Body → Certificate
with_bodies g bodies = record { heading = g.heading; share = g.share; told = g.told; groups = bodies_of g.groups ++ bodies }

record IsRead (line : ℕ) (d : Draft) (left : Lines) (c : Certificate) : Type 0 where
  pub last : Draft
  pub whole : Reads line d left ≡ Ok last
  pub certificate : certificate_in last ≡ c

-- by steps
stepped : (line further : ℕ) (d e : Draft) (left later : Lines) (c b : Certificate) → Reads line d left ≡ Reads further e later → c ≡ b → IsRead further e later c → IsRead line d left b
stepped line further d e left later c b same eq is = record { last = is.last; whole = same ∙ is.whole; certificate = is.certificate ∙ eq }

end_again : (line : ℕ) (d g : Draft) → IsAsBetween d g → IsRead line d ((codes "end" ∷ []) ∷ []) (with_bodies g [])
end_again line d g like =
    let e : Draft = record { heading = g.heading; share = g.share; told = g.told; groups = g.groups; stage = stage.Done; begun = line; tree = g.tree } in
    record { last = e; whole = line_step line (codes "end" ∷ []) [] d e end_line (like line (codes "end" ∷ []) refl); certificate = ap (λ (bs : List Body). record { heading = g.heading; share = g.share; told = g.told; groups = bs }) (sym (append-nil (bodies_of g.groups))) }

abbrev begun_draft : ℕ → Stage → Draft → Draft
begun_draft line s g = record { heading = g.heading; share = g.share; told = g.told; groups = g.groups; stage = s; begun = line; tree = g.tree }

-- the line of a group is read, with what comes behind it
group_step : (line : ℕ) (d g : Draft) (word : List ℕ) (s : Stage) (more : Lines) → IsAsBetween d g → length g.groups + 1 < 2 ^ 32 → Clean word → verdict_in (word ∷ []) ≡ Some s
    → Reads line d (group_line (length g.groups + 1) word ∷ more) ≡ Reads (line + 1) (begun_draft line s g) more
group_step line d g word s more like small clean verdict =
    let next = length g.groups + 1 in
    line_step line (group_line next word) more d (begun_draft line s g) (group_is_line next word small clean)
    (like line (group_line next word) refl ∙ ap (λ r. and_then_read r (λ t. Ok (begun_draft line t g))) (group_again next word s small verdict))

abbrev AllRead : List Body → Type 0
AllRead bodies = (line : ℕ) (d g : Draft) → IsAsBetween d g → g.tree ≡ [] → length g.groups + 1 + length bodies ≤ 2 ^ 32
    → IsRead line d (groups_lines (length g.groups + 1) bodies ++ (codes "end" ∷ []) ∷ []) (with_bodies g bodies)

-- a group more is one body more
one_more : (g : Draft) (body : Body) (bodies : List Body) (line : ℕ) → bodies_of (g.groups ++ record { line = line; body = body } ∷ []) ++ bodies ≡ bodies_of g.groups ++ body ∷ bodies
one_more g body bodies line =
    ap (λ (bs : List Body). bs ++ bodies) (map-append (λ (group : Placed). group.body) g.groups (record { line = line; body = body } ∷ []))
    ∙ append_assoc (bodies_of g.groups) (body ∷ []) bodies

more_groups : (g : Draft) (body : Body) (line : ℕ) → length (g.groups ++ record { line = line; body = body } ∷ []) ≡ length g.groups + 1
more_groups g body line = length-append g.groups (record { line = line; body = body } ∷ [])

-- the groups behind one that is whole
then_all : (bodies : List Body) (line begun : ℕ) (d g h : Draft) (body : Body) → AllRead bodies → IsAsBetween d h → h.tree ≡ []
    → h ≡ record { heading = g.heading; share = g.share; told = g.told; groups = g.groups ++ record { line = begun; body = body } ∷ []; stage = h.stage; begun = h.begun; tree = h.tree }
    → length g.groups + 1 + length (body ∷ bodies) ≤ 2 ^ 32
    → IsRead line d (groups_lines (length g.groups + 1 + 1) bodies ++ (codes "end" ∷ []) ∷ []) (with_bodies g (body ∷ bodies))
then_all bodies line begun d g h body all like none is few =
    let count : length h.groups ≡ length g.groups + 1 = ap (λ (e : Draft). length e.groups) is ∙ more_groups g body begun in
    let read = all line d h like none (omega (arith, count, few)) in
    stepped line line d d _ _ (with_bodies h bodies) (with_bodies g (body ∷ bodies))
    (λ i. Reads line d (groups_lines (sym count i + 1) bodies ++ (codes "end" ∷ []) ∷ []))
    (λ i. record { heading = (is i).heading; share = (is i).share; told = (is i).told; groups = (ap (λ (e : Draft). bodies_of e.groups ++ bodies) is ∙ one_more g body bodies begun) i })
    read

-- the lines of a group, whose first stands before the others
split_group : (number : ℕ) (body : Body) (bodies : List Body) (last : Lines)
    → groups_lines number (body ∷ bodies) ++ last ≡ group_line number (verdict_word body) ∷ (body_lines body ++ (groups_lines (number + 1) bodies ++ last))
split_group number body bodies last = ap (λ (ls : Lines). group_line number (verdict_word body) ∷ ls) (append_assoc (body_lines body) (groups_lines (number + 1) bodies) last)

abbrev End : Lines
End = (codes "end" ∷ []) ∷ []

abbrev next_number : Draft → ℕ
next_number g = length g.groups + 1

-- a line that is read, and then the rest
then_read : (line further : ℕ) (d e : Draft) (left later : Lines) (c : Certificate) → Reads line d left ≡ Reads further e later → IsRead further e later c → IsRead line d left c
then_read line further d e left later c same is = stepped line further d e left later c c same refl is

accept_again : (root : ℕ) (at : List ℤ) (bodies : List Body) (line : ℕ) (g : Draft) → BodyFits (Accept root at) → AllRead bodies → g.tree ≡ [] → next_number g + length (Accept root at ∷ bodies) ≤ 2 ^ 32
    → IsRead (line + 1) (begun_draft line stage.Witness g) (body_lines (Accept root at) ++ (groups_lines (next_number g + 1) bodies ++ End)) (with_bodies g (Accept root at ∷ bodies))
unfolding with_line
accept_again root at bodies line g fits all none few =
    let e = begun_draft line stage.Witness g in
    let u = with_body (Accept root at) e in
    then_read (line + 1) (line + 1 + 1) e u _ (groups_lines (next_number g + 1) bodies ++ End) (with_bodies g (Accept root at ∷ bodies))
    (line_step (line + 1) (witness_words root at) (groups_lines (next_number g + 1) bodies ++ End) e u (witness_line root at fits) (ap (λ r. and_then_read r (λ body. Ok (with_body body e))) (witness_again root at fits)))
    (then_all bodies (line + 1 + 1) line u g u (Accept root at) all (between u refl) none refl few)

reject_again : (tree : List Node) (bodies : List Body) (line : ℕ) (g : Draft) → BodyFits (Reject tree) → AllRead bodies → g.tree ≡ [] → next_number g + length (Reject tree ∷ bodies) ≤ 2 ^ 32
    → IsRead (line + 1) (begun_draft line stage.Reject g) (body_lines (Reject tree) ++ (groups_lines (next_number g + 1) bodies ++ End)) (with_bodies g (Reject tree ∷ bodies))
reject_again tree bodies line g fits all none few =
    let e = begun_draft line stage.Reject g in
    let u = grown e tree in
    let whole : g.tree ++ tree ≡ tree = ap (λ (ns : List Node). ns ++ tree) none in
    then_read (line + 1) (line + 1 + length tree) e u _ (groups_lines (next_number g + 1) bodies ++ End) (with_bodies g (Reject tree ∷ bodies))
    (
    tree_again stage.Reject false in_reject tree (line + 1) e (groups_lines (next_number g + 1) bodies ++ End) refl fits.0 (λ k d lt no_open. fits.1 k d lt)
    ∙ (λ i. Reads (line + 1 + length tree) (grown e (whole i)) (groups_lines (next_number g + 1) bodies ++ End))
    )
    (then_all bodies (line + 1 + length tree) line u g (with_tree_in (Reject tree) u) (Reject tree) all (behind_reject u refl) refl refl few)

open_again : (o : Counts) (tree : List Node) (bodies : List Body) (line : ℕ) (g : Draft) → BodyFits (Open o tree) → AllRead bodies → g.tree ≡ []
    → next_number g + length (Open o tree ∷ bodies) ≤ 2 ^ 32
    → IsRead (line + 1) (begun_draft line stage.Counts g) (body_lines (Open o tree) ++ (groups_lines (next_number g + 1) bodies ++ End)) (with_bodies g (Open o tree ∷ bodies))
unfolding with_line
open_again o tree bodies line g fits all none few =
    let later = groups_lines (next_number g + 1) bodies ++ End in
    let e = begun_draft line stage.Counts g in
    let f = at_stage (stage.Open o) e in
    let v = grown f tree in
    let whole : g.tree ++ tree ≡ tree = ap (λ (ns : List Node). ns ++ tree) none in
    then_read (line + 1) (line + 1 + 1 + length tree) e v _ later (with_bodies g (Open o tree ∷ bodies))
    (
    line_step (line + 1) (counts_words o) (map node_words tree ++ later) e f (counts_line o fits.0) (ap (λ q. and_then_read q (λ s. Ok (at_stage s e))) (counts_again o fits.0))
    ∙ tree_again (stage.Open o) true (in_open o) tree (line + 1 + 1) f later refl fits.1 (λ k d lt is. cc is)
    ∙ (λ i. Reads (line + 1 + 1 + length tree) (grown f (whole i)) later)
    )
    (then_all bodies (line + 1 + 1 + length tree) line v g (with_tree_in (Open o tree) v) (Open o tree) all (behind_open v o refl) refl refl few)

group_of : (body : Body) (bodies : List Body) (word : List ℕ) (s : Stage) (line : ℕ) (d g : Draft) → word ≡ verdict_word body → IsAsBetween d g → next_number g + length (body ∷ bodies) ≤ 2 ^ 32
    → Clean word → verdict_in (word ∷ []) ≡ Some s
    → IsRead (line + 1) (begun_draft line s g) (body_lines body ++ (groups_lines (next_number g + 1) bodies ++ End)) (with_bodies g (body ∷ bodies))
    → IsRead line d (groups_lines (next_number g) (body ∷ bodies) ++ End) (with_bodies g (body ∷ bodies))
group_of body bodies word s line d g is like few clean verdict read =
    then_read line (line + 1) d (begun_draft line s g) _ (body_lines body ++ (groups_lines (next_number g + 1) bodies ++ End)) (with_bodies g (body ∷ bodies))
    (
    ap (λ (ls : Lines). Reads line d ls) (split_group (next_number g) body bodies End)
    ∙ (λ i. Reads line d (group_line (next_number g) (sym is i) ∷ (body_lines body ++ (groups_lines (next_number g + 1) bodies ++ End))))
    ∙ group_step line d g word s (body_lines body ++ (groups_lines (next_number g + 1) bodies ++ End)) like (omega (arith, few)) clean verdict
    )
    read

groups_again : (bodies : List Body) → All BodyFits bodies → AllRead bodies
groups_again [] fits = λ line d g like none few. end_again line d g like
groups_again (Accept root at ∷ bodies) fits = λ line d g like none few.
    group_of (Accept root at) bodies (codes "accept") stage.Witness line d g refl like few refl refl
    (accept_again root at bodies line g (fits 0 (Accept root at) (omega arith)) (groups_again bodies (All-tail BodyFits (Accept root at) bodies fits)) none few)
groups_again (Reject tree ∷ bodies) fits = λ line d g like none few.
    group_of (Reject tree) bodies (codes "reject") stage.Reject line d g refl like few refl refl
    (reject_again tree bodies line g (fits 0 (Reject tree) (omega arith)) (groups_again bodies (All-tail BodyFits (Reject tree) bodies fits)) none few)
groups_again (Open o tree ∷ bodies) fits = λ line d g like none few.
    group_of (Open o tree) bodies (codes "open") stage.Counts line d g refl like few refl refl
    (open_again o tree bodies line g (fits 0 (Open o tree) (omega arith)) (groups_again bodies (All-tail BodyFits (Open o tree) bodies fits)) none few)

-- ---- the head, and the whole text

head_again : (c : Certificate) → IsInBounds c
    → Reads 1 empty_draft (lines c) ≡ Reads 5 (record { heading = c.heading; share = c.share; told = c.told; groups = []; stage = stage.Group; begun = 0; tree = [] }) (groups_lines 1 c.groups ++ End)
unfolding with_line
head_again c is =
    let groups = groups_lines 1 c.groups ++ End in
    let line_4 = codes "groups" ∷ decimal c.told ∷ [] in
    let line_3 = codes "share" ∷ decimal c.share ∷ [] in
    let d1 : Draft = at_stage stage.Heading empty_draft in
    let d2 : Draft = record { heading = c.heading; share = 0; told = 1; groups = []; stage = stage.Share; begun = 0; tree = [] } in
    let d3 : Draft = record { heading = c.heading; share = c.share; told = 1; groups = []; stage = stage.Told; begun = 0; tree = [] } in
    let d4 : Draft = record { heading = c.heading; share = c.share; told = c.told; groups = []; stage = stage.Group; begun = 0; tree = [] } in
    line_step 1 title (heading_words c.heading ∷ line_3 ∷ line_4 ∷ groups) empty_draft d1 title_line refl
    ∙ line_step 2 (heading_words c.heading) (line_3 ∷ line_4 ∷ groups) d1 d2 (heading_line c.heading is.heading)
    (ap (λ r. and_then_read r (λ h. Ok (record { heading = h; share = 0; told = 1; groups = []; stage = stage.Share; begun = 0; tree = [] }))) (heading_again c.heading is.heading))
    ∙ line_step 3 line_3 (line_4 ∷ groups) d2 d3 (share_line c.share is.share)
    (ap (λ r. and_then_read r (λ n. Ok (record { heading = c.heading; share = n; told = 1; groups = []; stage = stage.Told; begun = 0; tree = [] }))) (share_again c.share is.share))
    ∙ line_step 4 line_4 groups d3 d4 (told_line c.told is.few_told)
    (ap (λ r. and_then_read r (λ n. Ok (record { heading = c.heading; share = c.share; told = n; groups = []; stage = stage.Group; begun = 0; tree = [] }))) (told_again c.told is.some_told is.few_told))

-- the text of a certificate is read as the certificate
pub reading_again : (c : Certificate) → IsInBounds c → reading (text c) ≡ Ok c
unfolding reading drafted text
reading_again c is =
    let d : Draft = record { heading = c.heading; share = c.share; told = c.told; groups = []; stage = stage.Group; begun = 0; tree = [] } in
    let read = groups_again c.groups is.groups 5 d d (between d refl) refl (omega (arith, is.count)) in
    ap (λ r. and_then_read r (λ e. Ok (certificate_in e))) (head_again c is ∙ read.whole) ∙ ap Ok read.certificate

-- so the text tells which certificate it is
pub one_text : (c d : Certificate) → IsInBounds c → IsInBounds d → text c ≡ text d → c ≡ d
one_text c d is other same = ok_same c d (sym (reading_again c is) ∙ ap reading same ∙ reading_again d other)
