-- The groups of a file as tasks, one by one.
use Rattle.std.proofs.Common.{◌≡◌, ◌∙◌, ap, sym, subst, ℕ, ◌+◌, ◌<◌, List, [], ◌∷◌, ◌++◌, length, map, take, get_or}
use Rattle.std.specs.List.{All}
use Rattle.std.specs.declared.alloc.Global.{Global}
use Rattle.std.specs.declared.vec.Vec.{Vec}
use Rattle.std.proofs.lemmas.List.{get_or-map, length-map, map-append, map_more}
use Rattle.gd_group.specs.Lists.{lists_of}
use Rattle.gd_group.specs.Tasks.{Asked, asked_by}
use Rattle.gd_group.specs.declared.group_task.GroupTask.{GroupTask}
use Rattle.gd_group.specs.declared.requirement.Requirement.{Requirement}

abbrev Group : Type 0
Group = Vec Requirement Global

abbrev items : Group → List Requirement
items v = v.items

-- what is so of each group is so of the one at a place
pub group-at : (P : List Requirement → Type 0) (gs : List Group) (i : ℕ) (v : Group) → i < length gs → v ≡ get_or gs i v
    → All P (lists_of gs) → P v.items
group-at P gs i v less is all =
    subst P (get_or-map items gs i v v.items less ∙ ap items (sym is))
    (all i v.items (subst (λ n. i < n) (sym (length-map gs items)) less))

-- one task more is one group more
pub tasks-more : (f : List Requirement → Asked) (gs : List Group) (i : ℕ) (v : Group) (ts us : List GroupTask) (t : GroupTask) → i < length gs → v ≡ get_or gs i v
    → us ≡ ts ++ t ∷ [] → map asked_by ts ≡ map f (lists_of (take i gs)) → asked_by t ≡ f v.items
    → map asked_by us ≡ map f (lists_of (take (i + 1) gs))
tasks-more f gs i v ts us t less is more before this =
    ap (map asked_by) more ∙ map-append asked_by ts (t ∷ []) ∙ ap (λ (qs : List Asked). qs ++ asked_by t ∷ []) before
    ∙ ap (λ q. map f (lists_of (take i gs)) ++ q ∷ []) (this ∙ ap (λ (w : Group). f w.items) is)
    ∙ sym (ap (map f) (map_more items gs i v less) ∙ map-append f (lists_of (take i gs)) ((get_or gs i v).items ∷ []))

-- there is one task for each group
pub same-count : (f : List Requirement → Asked) (ts : List GroupTask) (gs all : List (List Requirement)) → map asked_by ts ≡ map f gs → gs ≡ all → length ts ≡ length all
same-count f ts gs all h e = sym (length-map ts asked_by) ∙ ap length h ∙ length-map gs f ∙ ap length e
