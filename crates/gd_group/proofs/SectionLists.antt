-- The sections of points, point by point.
use Rattle.std.proofs.Common.{◌≡◌, ◌∙◌, ap, refl, sym, subst, inl, inr, ℕ, zero, suc, ◌≤◌, ◌<◌, Bool, true, false, not, cond, ◌||◌, List, [], ◌∷◌, ◌++◌, length, filter, map, get_or, set, replicate, nat_eq, arith}
use Rattle.std.specs.List.{list_any}
use Rattle.std.specs.Prelude.{slice_get, unsigned_abs, pos}
use Rattle.std.proofs.lemmas.Bool.{false≢true}
use Rattle.std.proofs.lemmas.Bool.Decides.{eqb_tells}
use Rattle.std.proofs.lemmas.List.{append-nil, get_or-set_same, get_or-set_other, get_or_past, length-replicate, length-set}
use Rattle.std.proofs.lemmas.List.Elements.{filter-append}
use Rattle.std.proofs.lemmas.List.Folds.{list_any-append}
use Rattle.std.proofs.lemmas.Option.{get_or_from_slice_get, slice_get_cases}
use Rattle.std.proofs.Math.Path.{fun_ext}
use Rattle.gd_points.specs.Index.{is_of, numbers_where}
use Rattle.gd_points.specs.declared.table.Row.{Row}
use Rattle.gd_quat.specs.Formulas.{Ends}
use Rattle.gd_zone.proofs.Numbers.{values-by-number}
use Rattle.gd_zone.specs.Extremes.{row_at}
use Rattle.gd_group.specs.Met.{HasMet, group_in}
use Rattle.gd_group.specs.Requirements.{first_ones}
use Rattle.gd_group.specs.declared.sections.Met.{Met}

-- one that was left out stays so, and another comes last
kept : (p : ℕ → Bool) (a b : Bool) (x : ℕ) → p x ≡ not a → filter p (cond b [] (x ∷ [])) ≡ cond (a || b) [] (x ∷ [])
kept p true true x h = refl
kept p false true x h = refl
kept p true false x h = rw h refl
kept p false false x h = rw h refl

-- one number more comes last, where it wasn't met
pub first-more : (xs : List ℕ) (x : ℕ) → first_ones (xs ++ x ∷ []) ≡ first_ones xs ++ cond (list_any (nat_eq x) xs) [] (x ∷ [])
first-more [] x = refl
first-more (n ∷ more) x =
    let p : ℕ → Bool = λ m. not (nat_eq m n) in
    let rest = first-more more x in
    ap (λ ys. n ∷ filter p ys) rest
    ∙ ap (λ ys. n ∷ ys) (filter-append p (first_ones more) (cond (list_any (nat_eq x) more) [] (x ∷ []))
    ∙ ap (λ ys. filter p (first_ones more) ++ ys) (kept p (nat_eq x n) (list_any (nat_eq x) more) x refl))

one-more : (group g : ℕ) (groups : List ℕ) → list_any (nat_eq group) (groups ++ g ∷ []) ≡ (list_any (nat_eq group) groups || (nat_eq group g || false))
one-more group g groups = list_any-append (nat_eq group) groups (g ∷ [])

or-false : (b : Bool) → b ≡ (b || false)
or-false true = refl
or-false false = refl

or-true : (b : Bool) → true ≡ (b || true)
or-true true = refl
or-true false = refl

or-known : (b c : Bool) → (c ≡ true → b ≡ true) → b ≡ (b || (c || false))
or-known true c h = refl
or-known false true h = h refl
or-known false false h = refl

-- a group that was met before
pub met-again : (groups : List ℕ) (g : ℕ) (met : Met) → g ≤ 999 → get_or met.flags.items g false ≡ true → HasMet groups met → HasMet (groups ++ g ∷ []) met
met-again groups g met small again h =
    let among : list_any (nat_eq g) groups ≡ true = sym (h.flags g small) ∙ again in
    record {
      room = h.room;
      flags = λ group few. h.flags group few ∙ or-known (list_any (nat_eq group) groups) (nat_eq group g) (λ same.
          elim (eqb_tells group g) [
            | inl e ↦ subst (λ k. list_any (nat_eq k) groups ≡ true) (sym e.1) among
            | inr o ↦ absurd (false≢true (sym o.0 ∙ same))
          ]) ∙ sym (one-more group g groups);
      sections = h.sections ∙ sym (append-nil (first_ones groups)) ∙ sym (first-more groups g ∙ ap (λ b. first_ones groups ++ cond b [] (g ∷ [])) among);
    }

-- a group that is new
pub met-new : (groups : List ℕ) (g : ℕ) (old new : Met) → g ≤ 999 → get_or old.flags.items g false ≡ false
    → new.flags.items ≡ set old.flags.items g true → new.sections.items ≡ old.sections.items ++ g ∷ []
    → HasMet groups old → HasMet (groups ++ g ∷ []) new
met-new groups g old new small none flags sections h =
    let among : list_any (nat_eq g) groups ≡ false = sym (h.flags g small) ∙ none in
    let within : g < length old.flags.items = omega (arith, small, h.room) in
    record {
      room = ap length flags ∙ length-set old.flags.items g true ∙ h.room;
      flags = λ group few. ap (λ fs. get_or fs group false) flags ∙ elim (eqb_tells group g) [
        | inl e ↦
            ap (λ k. get_or (set old.flags.items g true) k false) e.1 ∙ get_or-set_same old.flags.items g true false within
            ∙ or-true (list_any (nat_eq group) groups) ∙ ap (λ b. list_any (nat_eq group) groups || (b || false)) (sym e.0) ∙ sym (one-more group g groups)
        | inr o ↦
            get_or-set_other old.flags.items g group true false o.1 ∙ h.flags group few ∙ or-false (list_any (nat_eq group) groups)
            ∙ ap (λ b. list_any (nat_eq group) groups || (b || false)) (sym o.0) ∙ sym (one-more group g groups)
      ];
      sections = sections ∙ ap (λ ss. ss ++ g ∷ []) h.sections ∙ sym (first-more groups g ∙ ap (λ b. first_ones groups ++ cond b [] (g ∷ [])) among);
    }

-- ---- the groups of a feature's points, by the numbers of these
abbrev in_ends : Row → Ends
in_ends row = record { lo = pos row.group; hi = pos 0 }

map-twice : {A B C : Type 0} (g : B → C) (f : A → B) (xs : List A) → map g (map f xs) ≡ map (λ x. g (f x)) xs
map-twice g f [] = refl
map-twice g f (x ∷ xs) = ap (λ ys. g (f x) ∷ ys) (map-twice g f xs)

group-at : (rows : List Row) (i : ℕ) → group_in (slice_get rows i) ≡ (row_at rows i).group
group-at rows i = elim ((slice_get_cases rows i).1) [
  | inl (row, within, is, same) ↦ ap group_in is ∙ ap (λ (r : Row). r.group) (sym (get_or_from_slice_get rows i row _ is))
  | inr (past, none) ↦ ap group_in none ∙ ap (λ (r : Row). r.group) (sym (get_or_past rows i _ past))
]

pub by-number : (feature : ℕ) (rows : List Row) → map (λ i. group_in (slice_get rows i)) (numbers_where (is_of feature) rows) ≡ map (λ (row : Row). row.group) (filter (is_of feature) rows)
by-number feature rows =
    let group : Ends → ℕ = λ e. unsigned_abs e.lo in
    let numbers = numbers_where (is_of feature) rows in
    ap (λ f. map f numbers) (fun_ext (group-at rows))
    ∙ sym (map-twice group (λ i. in_ends (row_at rows i)) numbers)
    ∙ ap (map group) (values-by-number in_ends (is_of feature) rows)
    ∙ map-twice group in_ends (filter (is_of feature) rows)

-- before the first point
falses : (n i : ℕ) → get_or (replicate n false) i false ≡ false
falses zero i = refl
falses (suc n) zero = refl
falses (suc n) (suc i) = falses n i

pub none-met : (met : Met) → met.flags.items ≡ replicate 1000 false → met.sections.items ≡ [] → HasMet [] met
none-met met flags sections = record {
  room = ap length flags ∙ length-replicate 1000 false;
  flags = λ group few. ap (λ fs. get_or fs group false) flags ∙ falses 1000 group;
  sections = sections;
}
