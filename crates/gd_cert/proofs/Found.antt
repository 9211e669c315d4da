-- What is read is spelled so: the lines that a draft tells are the lines that were read.
use Rattle.std.proofs.Common.{◌≡◌, ℕ, ◌+◌, ◌<◌, ◌^◌, true, false, List, [], ◌∷◌, ◌++◌, length, map, arith, sym, refl, ap, subst, ◌∙◌, decimal, inl, inr}
use Rattle.std.specs.Prelude.{Ok, codes}
use Rattle.std.specs.List.{All}
use Rattle.std.proofs.lemmas.List.{length-append, length-map, map-append, append_assoc, append-nil}
use Rattle.std.proofs.lemmas.List.Elements.{All-nil, All-push}
use Rattle.gd_base.specs.declared.verdict.Counts.{Counts}
use Rattle.gd_cells.specs.declared.node.Node.{Node}
use Rattle.gd_cert.proofs.Lines.{IsCountsLine, IsGroupLine, IsNodeLine, IsWitness, bind_ok, chosen, group_found, group_line, node_found, ok_same}
use Rattle.gd_cert.specs.Bounds.{BodyFits, CountsFit, IsDecided, IsInBounds, NodeFits}
use Rattle.gd_cert.specs.Certificates.{Body, Accept, Reject, Open}
use Rattle.gd_cert.specs.Lines.{ends_tree, group_in, node_in}
use Rattle.gd_cert.specs.Reading.{Draft, Placed, at_stage, bodies_of, certificate_in, lines_of, with_tree_in, with_body, with_group, with_tree_line}
use Rattle.gd_cert.specs.Text.{body_lines, first_lines, groups_lines, heading_words, node_words, title, verdict_word, counts_words}
use Rattle.gd_cert.specs.declared.stage.Stage.{Stage}
use Rattle.gd_cert.specs.declared.stage.Stage.TheVariants as stage

abbrev pub Lines : Type 0
Lines = List (List (List ℕ))

-- ---- groups with one more at their end

pub groups_last : (number : ℕ) (bodies : List Body) (body : Body) → groups_lines number (bodies ++ body ∷ []) ≡ groups_lines number bodies ++ group_line (number + length bodies) (verdict_word body) ∷ body_lines body
groups_last number [] body =
    let here : number ≡ number + 0 = omega arith in
    λ i. group_line (here i) (verdict_word body) ∷ append-nil (body_lines body) i
groups_last number (b ∷ bodies) body =
    let there : number + 1 + length bodies ≡ number + length (b ∷ bodies) = omega arith in
    ap (λ (ls : Lines). group_line number (verdict_word b) ∷ ls) (
    ap (λ (ls : Lines). body_lines b ++ ls) (groups_last (number + 1) bodies body ∙ ap (λ n. groups_lines (number + 1) bodies ++ group_line n (verdict_word body) ∷ body_lines body) there)
    ∙ sym (append_assoc (body_lines b) (groups_lines (number + 1) bodies) (group_line (number + length (b ∷ bodies)) (verdict_word body) ∷ body_lines body))
    )

first_last : (line number : ℕ) (bodies : List Body) (body : Body) → first_lines line (bodies ++ body ∷ []) ≡ first_lines line bodies ++ (line + length (groups_lines number bodies)) ∷ []
first_last line number [] body = let here : line ≡ line + 0 = omega arith in λ i. here i ∷ []
first_last line number (b ∷ bodies) body =
    let more = length-append (body_lines b) (groups_lines (number + 1) bodies) in
    let there : line + 1 + length (body_lines b) + length (groups_lines (number + 1) bodies) ≡ line + length (groups_lines number (b ∷ bodies)) = omega (arith, more) in
    ap (λ (ls : List ℕ). line ∷ ls) (
    first_last (line + 1 + length (body_lines b)) (number + 1) bodies body
    ∙ ap (λ n. first_lines (line + 1 + length (body_lines b)) bodies ++ n ∷ []) there
    )

-- ---- the lines that a draft tells

abbrev pub next_number : Draft → ℕ
next_number d = length d.groups + 1

-- the head, and groups
abbrev pub front : Draft → List Placed → Lines
front d groups =
    title ∷ heading_words d.heading ∷ (codes "share" ∷ decimal d.share ∷ []) ∷ (codes "groups" ∷ decimal d.told ∷ []) ∷ groups_lines 1 (bodies_of groups)

abbrev pub extended : Draft → Body → List Placed
extended d body = d.groups ++ record { line = d.begun; body = body } ∷ []

abbrev pub told_lines : Stage → Draft → Lines
told_lines stage.Title d = []
told_lines stage.Heading d = title ∷ []
told_lines stage.Share d = title ∷ heading_words d.heading ∷ []
told_lines stage.Told d = title ∷ heading_words d.heading ∷ (codes "share" ∷ decimal d.share ∷ []) ∷ []
told_lines stage.Group d = front d d.groups
told_lines stage.Witness d = front d d.groups ++ group_line (next_number d) (codes "accept") ∷ []
told_lines stage.Counts d = front d d.groups ++ group_line (next_number d) (codes "open") ∷ []
told_lines stage.Reject d = front d (extended d (Reject d.tree))
told_lines (stage.Open o) d = front d (extended d (Open o d.tree))
told_lines stage.Done d = front d d.groups ++ (codes "end" ∷ []) ∷ []

-- the group that was begun has a number, and its line is known
pub record Begun (d : Draft) : Type 0 where
  pub number : next_number d < 2 ^ 32
  pub line : d.begun ≡ 5 + length (groups_lines 1 (bodies_of d.groups))

-- no group was begun
abbrev pub Fresh : Draft → Type 0
Fresh d = (d.tree ≡ []) × (d.groups ≡ [])

abbrev pub Current : Stage → Draft → Type 0
Current stage.Title d = Fresh d
Current stage.Heading d = Fresh d
Current stage.Share d = Fresh d
Current stage.Told d = Fresh d
Current stage.Witness d = Begun d × (d.tree ≡ [])
Current stage.Counts d = Begun d × (d.tree ≡ [])
Current stage.Reject d = Begun d × All NodeFits d.tree × All IsDecided d.tree
Current (stage.Open o) d = Begun d × CountsFit o × All NodeFits d.tree
Current s d = d.tree ≡ []

-- what a draft keeps whose next line is this one
pub record IsDraft (s : Stage) (line : ℕ) (d : Draft) : Type 0 where
  pub bounds : IsInBounds (certificate_in d)
  pub starts : lines_of d.groups ≡ first_lines 5 (bodies_of d.groups)
  pub place : line ≡ length (told_lines s d) + 1
  pub current : Current s d

front_last : (d : Draft) (body : Body) → front d (extended d body) ≡ front d d.groups ++ group_line (next_number d) (verdict_word body) ∷ body_lines body
front_last d body =
    let bodies : bodies_of (extended d body) ≡ bodies_of d.groups ++ body ∷ [] = map-append (λ (group : Placed). group.body) d.groups (record { line = d.begun; body = body } ∷ []) in
    let many : 1 + length (bodies_of d.groups) ≡ next_number d = omega (arith, length-map d.groups (λ (group : Placed). group.body)) in
    ap (λ (ls : Lines). title ∷ heading_words d.heading ∷ (codes "share" ∷ decimal d.share ∷ []) ∷ (codes "groups" ∷ decimal d.told ∷ []) ∷ ls) (
    ap (groups_lines 1) bodies ∙ groups_last 1 (bodies_of d.groups) body
    ∙ ap (λ n. groups_lines 1 (bodies_of d.groups) ++ group_line n (verdict_word body) ∷ body_lines body) many
    )

-- what holds of the groups with the one that was begun
record Extends (d : Draft) (body : Body) : Type 0 where
  pub bounds : IsInBounds (record { heading = d.heading; share = d.share; told = d.told; groups = bodies_of (extended d body) })
  pub starts : lines_of (extended d body) ≡ first_lines 5 (bodies_of (extended d body))

extends : (d : Draft) (body : Body) → IsInBounds (certificate_in d) → lines_of d.groups ≡ first_lines 5 (bodies_of d.groups) → Begun d → BodyFits body → Extends d body
extends d body bounds starts begun fits =
    let bodies : bodies_of (extended d body) ≡ bodies_of d.groups ++ body ∷ [] = map-append (λ (group : Placed). group.body) d.groups (record { line = d.begun; body = body } ∷ []) in
    let begins : lines_of (extended d body) ≡ lines_of d.groups ++ d.begun ∷ [] = map-append (λ (group : Placed). group.line) d.groups (record { line = d.begun; body = body } ∷ []) in
    let many = length-map d.groups (λ (group : Placed). group.body) in
    let more = length-append (bodies_of d.groups) (body ∷ []) in
    record {
      bounds = record {
        heading = bounds.heading;
        share = bounds.share;
        some_told = bounds.some_told;
        few_told = bounds.few_told;
        count = omega (arith, ap (λ (bs : List Body). length bs) bodies, many, more, begun.number);
        groups = subst (All BodyFits) (sym bodies) (All-push BodyFits (bodies_of d.groups) body bounds.groups fits);
      };
      starts = begins ∙ (λ i. starts i ++ begun.line i ∷ []) ∙ sym (ap (first_lines 5) bodies ∙ first_last 5 1 (bodies_of d.groups) body);
    }

-- ---- one line more

abbrev pub Stepped : ℕ → Lines → List (List ℕ) → Draft → Type 0
Stepped line before words e = (told_lines e.stage e ≡ before ++ words ∷ []) × IsDraft e.stage (line + 1) e

pub last_place : (line : ℕ) (before after : Lines) (words : List (List ℕ)) → after ≡ before ++ words ∷ [] → line ≡ length before + 1 → line + 1 ≡ length after + 1
last_place line before after words is place = let more = length-append before (words ∷ []) in omega (arith, ap (λ (ls : Lines). length ls) is, more, place)

abbrev group_draft : ℕ → Stage → Draft → Draft
group_draft line s d = record { heading = d.heading; share = d.share; told = d.told; groups = d.groups; stage = s; begun = line; tree = d.tree }

begins : (line : ℕ) (d : Draft) → IsDraft stage.Group line d → next_number d < 2 ^ 32 → (s : Stage) → Begun (group_draft line s d)
begins line d is small s = record { number = small; line = omega (arith, is.place) }

with_group_found : (line : ℕ) (words : List (List ℕ)) (d : Draft) (s : Stage) → IsDraft stage.Group line d → IsGroupLine (next_number d) words s → Stepped line (front d d.groups) words (group_draft line s d)
with_group_found line words d stage.Witness is h =
    let after : told_lines stage.Witness (group_draft line stage.Witness d) ≡ front d d.groups ++ words ∷ [] = ap (λ (w : List (List ℕ)). front d d.groups ++ w ∷ []) (sym h.0) in
    (after, record { bounds = is.bounds; starts = is.starts; place = last_place line (front d d.groups) _ words after is.place; current = (begins line d is h.1 stage.Witness, is.current) })
with_group_found line words d stage.Counts is h =
    let after : told_lines stage.Counts (group_draft line stage.Counts d) ≡ front d d.groups ++ words ∷ [] = ap (λ (w : List (List ℕ)). front d d.groups ++ w ∷ []) (sym h.0) in
    (after, record { bounds = is.bounds; starts = is.starts; place = last_place line (front d d.groups) _ words after is.place; current = (begins line d is h.1 stage.Counts, is.current) })
with_group_found line words d stage.Reject is h =
    let e = group_draft line stage.Reject d in
    let none : map node_words d.tree ≡ [] = ap (map node_words) is.current in
    let after : told_lines stage.Reject e ≡ front d d.groups ++ words ∷ [] = front_last e (Reject d.tree) ∙ (λ i. front d d.groups ++ sym h.0 i ∷ none i) in (
      after,
      record {
        bounds = is.bounds;
        starts = is.starts;
        place = last_place line (front d d.groups) _ words after is.place;
        current = (begins line d is h.1 stage.Reject, subst (All NodeFits) (sym is.current) (All-nil NodeFits), subst (All IsDecided) (sym is.current) (All-nil IsDecided));
      },
    )
with_group_found line words d stage.Done is h =
    let after : told_lines stage.Done (group_draft line stage.Done d) ≡ front d d.groups ++ words ∷ [] = ap (λ (w : List (List ℕ)). front d d.groups ++ w ∷ []) (sym h) in
    (after, record { bounds = is.bounds; starts = is.starts; place = last_place line (front d d.groups) _ words after is.place; current = is.current })
with_group_found line words d stage.Title is h = absurd h
with_group_found line words d stage.Heading is h = absurd h
with_group_found line words d stage.Share is h = absurd h
with_group_found line words d stage.Told is h = absurd h
with_group_found line words d stage.Group is h = absurd h
with_group_found line words d (stage.Open o) is h = absurd h

pub group_step : (line : ℕ) (words : List (List ℕ)) (d e : Draft) → IsDraft stage.Group line d → with_group line words d ≡ Ok e → Stepped line (front d d.groups) words e
group_step line words d e is h =
    let (s, found, made) = bind_ok (group_in (next_number d) words) _ e h in
    subst (Stepped line (front d d.groups) words) (ok_same (group_draft line s d) e made) (with_group_found line words d s is (group_found (next_number d) words s found))

-- a group is whole
pub body_step : (s : Stage) (line : ℕ) (words : List (List ℕ)) (d : Draft) (body : Body) → IsDraft s line d → Begun d → d.tree ≡ [] → BodyFits body
    → told_lines s d ++ words ∷ [] ≡ front d (extended d body) → Stepped line (told_lines s d) words (with_body body d)
body_step s line words d body is begun none fits lines_are =
    let more = extends d body is.bounds is.starts begun fits in
    (sym lines_are, record { bounds = more.bounds; starts = more.starts; place = last_place line (told_lines s d) _ words (sym lines_are) is.place; current = none })

pub witness_step : (line : ℕ) (words : List (List ℕ)) (d : Draft) (body : Body) → IsDraft stage.Witness line d → IsWitness words body → Stepped line (told_lines stage.Witness d) words (with_body body d)
witness_step line words d (Accept root at) is h =
    body_step stage.Witness line words d (Accept root at) is is.current.0 is.current.1 h.1
    (append_assoc (front d d.groups) (group_line (next_number d) (codes "accept") ∷ []) (words ∷ []) ∙ (λ i. front d d.groups ++ group_line (next_number d) (codes "accept") ∷ h.0 i ∷ [])
    ∙ sym (front_last d (Accept root at)))
witness_step line words d (Reject tree) is h = absurd h
witness_step line words d (Open o tree) is h = absurd h

pub counts_step : (line : ℕ) (words : List (List ℕ)) (d : Draft) (s : Stage) → IsDraft stage.Counts line d → IsCountsLine words s
    → Stepped line (told_lines stage.Counts d) words (at_stage s d)
counts_step line words d (stage.Open o) is h =
    let e = at_stage (stage.Open o) d in
    let none : map node_words d.tree ≡ [] = ap (map node_words) is.current.1 in
    let after : told_lines (stage.Open o) e ≡ told_lines stage.Counts d ++ words ∷ [] =
    front_last e (Open o d.tree) ∙ (λ i. front d d.groups ++ group_line (next_number d) (codes "open") ∷ sym h.0 i ∷ none i)
    ∙ sym (append_assoc (front d d.groups) (group_line (next_number d) (codes "open") ∷ []) (words ∷ [])) in (
      after,
      record {
        bounds = is.bounds;
        starts = is.starts;
        place = last_place line (told_lines stage.Counts d) _ words after is.place;
        current = (record { number = is.current.0.number; line = is.current.0.line }, h.1, subst (All NodeFits) (sym is.current.1) (All-nil NodeFits));
      },
    )
counts_step line words d stage.Title is h = absurd h
counts_step line words d stage.Heading is h = absurd h
counts_step line words d stage.Share is h = absurd h
counts_step line words d stage.Told is h = absurd h
counts_step line words d stage.Group is h = absurd h
counts_step line words d stage.Witness is h = absurd h
counts_step line words d stage.Counts is h = absurd h
counts_step line words d stage.Reject is h = absurd h
counts_step line words d stage.Done is h = absurd h

-- one line more of a tree
more_words : (tree : List Node) (node : Node) (words : List (List ℕ)) → words ≡ node_words node → map node_words (tree ++ node ∷ []) ≡ map node_words tree ++ words ∷ []
more_words tree node words is = map-append node_words tree (node ∷ []) ∙ (λ i. map node_words tree ++ sym is i ∷ [])

abbrev node_draft : Draft → Stage → Node → Draft
node_draft d s node = record { heading = d.heading; share = d.share; told = d.told; groups = d.groups; stage = s; begun = d.begun; tree = d.tree ++ node ∷ [] }

reject_node : (line : ℕ) (words : List (List ℕ)) (d : Draft) (node : Node) → IsDraft stage.Reject line d → IsNodeLine false words node → Stepped line (told_lines stage.Reject d) words (node_draft d stage.Reject node)
reject_node line words d node is h =
    let e = node_draft d stage.Reject node in
    let group = group_line (next_number d) (codes "reject") in
    let after : told_lines stage.Reject e ≡ told_lines stage.Reject d ++ words ∷ [] =
    front_last e (Reject (d.tree ++ node ∷ [])) ∙ (λ i. front d d.groups ++ group ∷ more_words d.tree node words h.0 i)
    ∙ sym (append_assoc (front d d.groups) (group ∷ map node_words d.tree) (words ∷ [])) ∙ (λ i. sym (front_last d (Reject d.tree)) i ++ words ∷ []) in (
      after,
      record {
        bounds = is.bounds;
        starts = is.starts;
        place = last_place line (told_lines stage.Reject d) _ words after is.place;
        current = (record { number = is.current.0.number; line = is.current.0.line }, All-push NodeFits d.tree node is.current.1 h.1, All-push IsDecided d.tree node is.current.2 (h.2 refl));
      },
    )

open_node : (line : ℕ) (o : Counts) (words : List (List ℕ)) (d : Draft) (node : Node) → IsDraft (stage.Open o) line d → IsNodeLine true words node
    → Stepped line (told_lines (stage.Open o) d) words (node_draft d (stage.Open o) node)
open_node line o words d node is h =
    let e = node_draft d (stage.Open o) node in
    let group = group_line (next_number d) (codes "open") in
    let counts = body_lines (Open o d.tree) in
    let after : told_lines (stage.Open o) e ≡ told_lines (stage.Open o) d ++ words ∷ [] =
    front_last e (Open o (d.tree ++ node ∷ [])) ∙ (λ i. front d d.groups ++ group ∷ counts_words o ∷ more_words d.tree node words h.0 i)
    ∙ sym (append_assoc (front d d.groups) (group ∷ counts) (words ∷ [])) ∙ (λ i. sym (front_last d (Open o d.tree)) i ++ words ∷ []) in (
      after,
      record {
        bounds = is.bounds;
        starts = is.starts;
        place = last_place line (told_lines (stage.Open o) d) _ words after is.place;
        current = (record { number = is.current.0.number; line = is.current.0.line }, is.current.1, All-push NodeFits d.tree node is.current.2 h.1);
      },
    )

-- a tree is whole, and the line behind it is one behind a group
closed : (s : Stage) (line : ℕ) (d : Draft) (body : Body) → IsDraft s line d → told_lines s d ≡ front d (extended d body) → Begun d → BodyFits body → IsDraft stage.Group line (with_tree_in body d)
closed s line d body is lines_are begun fits =
    let more = extends d body is.bounds is.starts begun fits in
    record { bounds = more.bounds; starts = more.starts; place = is.place ∙ ap (λ (ls : Lines). length ls + 1) lines_are; current = refl }

pub reject_step : (line : ℕ) (words : List (List ℕ)) (d e : Draft) → d.stage ≡ stage.Reject → IsDraft stage.Reject line d → with_tree_line line words false (Reject d.tree) d ≡ Ok e → Stepped line (told_lines stage.Reject d) words e
reject_step line words d e at is h = elim (chosen (ends_tree words) _ _ _ h) [
  | inl x ↦ group_step line words (with_tree_in (Reject d.tree) d) e (closed stage.Reject line d (Reject d.tree) is refl is.current.0 (is.current.1, is.current.2)) x.1
  | inr x ↦
      let (node, found, made) = bind_ok (node_in false words) _ e x.1 in
      let eq : node_draft d stage.Reject node ≡ e = ap (λ s. node_draft d s node) (sym at) ∙ ok_same _ e made in
      subst (Stepped line (told_lines stage.Reject d) words) eq (reject_node line words d node is (node_found false words node found))
]

pub open_step : (line : ℕ) (o : Counts) (words : List (List ℕ)) (d e : Draft) → d.stage ≡ stage.Open o → IsDraft (stage.Open o) line d → with_tree_line line words true (Open o d.tree) d ≡ Ok e
    → Stepped line (told_lines (stage.Open o) d) words e
open_step line o words d e at is h = elim (chosen (ends_tree words) _ _ _ h) [
  | inl x ↦ group_step line words (with_tree_in (Open o d.tree) d) e (closed (stage.Open o) line d (Open o d.tree) is refl is.current.0 (is.current.1, is.current.2)) x.1
  | inr x ↦
      let (node, found, made) = bind_ok (node_in true words) _ e x.1 in
      let eq : node_draft d (stage.Open o) node ≡ e = ap (λ s. node_draft d s node) (sym at) ∙ ok_same _ e made in
      subst (Stepped line (told_lines (stage.Open o) d) words) eq (open_node line o words d node is (node_found true words node found))
]
