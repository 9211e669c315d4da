-- The first evidence of a group refutes the condition that it names, where there is none, none refutes, and its numbers
-- are small.
use Rattle.std.proofs.Common.{arith, ◌≡◌, refl, sym, subst, ◌∙◌, ℕ, zero, suc, ◌+◌, ◌-◌, ◌≤◌, ◌<◌, Bool, true, false}
use Rattle.std.proofs.Common.{◌&&◌, ◌==◌, Option, None, Some, List, [], ◌∷◌, length}
use Rattle.std.proofs.lemmas.Bool.{false≢true}
use Rattle.std.proofs.lemmas.Bool.Decides.{nat_tests}
use Rattle.std.proofs.lemmas.List.Elements.{All-head, All-tail}
use Rattle.std.specs.List.{All, list_all}
use Rattle.std.specs.Option.{IfSome, option_or}
use Rattle.std.specs.Prelude.{filter, map, option_map, slice_get}
use Rattle.gd_base.specs.Limits.{CONDITIONS, POINTS}
use Rattle.gd_bound.proofs.Firsts.{first-refutes, none-refutes}
use Rattle.gd_bound.proofs.Refuting.{and-left, and-right}
use Rattle.gd_bound.specs.Evidence.{evidence_of, first, names, passes_by_more, refuted_at, refutes_by, refuting_pair}
use Rattle.gd_bound.specs.Evidence.{value_outside}
use Rattle.gd_bound.specs.declared.pair.Pair.{Pair}
use Rattle.gd_cells.specs.Laws.{IsShort}
use Rattle.gd_cells.specs.declared.cell.Evidence.{Evidence}
use Rattle.gd_fit.specs.Tests.{first_against, numbered, refutes_named}
use Rattle.gd_points.specs.Index.{passes}
use Rattle.gd_points.specs.declared.table.Row.{Row}
use Rattle.gd_quat.specs.Formulas.{Ends}
use Rattle.gd_vec.specs.declared.vector.V3.{V3}
use Rattle.gd_zone.specs.Boxes.{PlacedEnds}
use Rattle.gd_zone.specs.Conditions.{IsCondition, belongs, is_of_feature, length2_of}
use Rattle.gd_zone.specs.Extremes.{ends_by}
use Rattle.gd_zone.specs.Refutations.{is_more}
use Rattle.gd_zone.specs.Tests.{ends_at}
use Rattle.gd_zone.specs.declared.condition.Condition.{Condition}
use Rattle.gd_zone.specs.declared.condition.Demand.{Demand}
use Rattle.gd_zone.specs.declared.condition.Demand.TheVariants.{Within, Spread, Contact, HugInner, HugOuter}

-- ---- conditions by their places
pub listed : (P : Condition → Type 0) (cs : List Condition) (i : ℕ) (c : Condition) → All P cs
    → slice_get cs i ≡ Some c → P c
listed P [] i c h e = cc
listed P (k ∷ ks) zero c h e = subst P (some_is k c e) (All-head P k ks h)
  where
    some_is : (a b : Condition) → ◌≡◌ {A = Option Condition} (Some a) (Some b) → a ≡ b
    some_is a b e = cc
listed P (k ∷ ks) (suc i) c h e = listed P ks i c (All-tail P k ks h) e

-- what all conditions have, the one with a number has
pub named : (P : Condition → Type 0) (cs : List Condition) (n : ℕ) (c : Condition) → All P cs
    → numbered cs n ≡ Some c → P c
named P cs zero c h e = cc
named P cs (suc i) c h e = listed P cs i c h e

-- ---- the first evidence
module _ (b : PlacedEnds) (base : V3) (rows : List Row) where
  -- evidence that refutes a condition of a list whose conditions are numbered from a number on
  pub record Refutes (number : ℕ) (cs : List Condition) (e : Evidence) : Type 0 where
    pub place : ℕ
    pub inside : place < length cs
    pub numbers : e.condition ≡ number + place
    pub condition : Condition
    pub there : slice_get cs place ≡ Some condition
    pub refuted : refuted_at b base rows condition e ≡ true

  -- the first evidence against a condition bears its number
  kept : (number : ℕ) (o : Option Pair) (e : Evidence) → option_map (evidence_of number) o ≡ Some e
      → e.condition ≡ number
  kept number None e h = cc
  kept number (Some p) e h = sym (condition_is (evidence_of number p) e h)
    where
      condition_is : (f g : Evidence) → ◌≡◌ {A = Option Evidence} (Some f) (Some g) → f.condition ≡ g.condition
      condition_is f g h = cc

  of_some : (P : Evidence → Type 0) (o : Option Evidence) (e : Evidence) → o ≡ Some e → IfSome o P → P e
  of_some P o e h i = some (subst (λ (z : Option Evidence). IfSome z P) h i)
    where
      some : IfSome (Some e) P → P e
      some j = j

  here : (number : ℕ) (c : Condition) (cs : List Condition) (e : Evidence) → IsCondition c
      → first b base rows c number ≡ Some e → Refutes number (c ∷ cs) e
  here number c cs e is h = record {
    place = 0;
    inside = omega arith;
    numbers = omega (arith, kept number (refuting_pair b base rows c) e h);
    condition = c;
    there = refl;
    refuted = of_some (λ f. refuted_at b base rows c f ≡ true) (first b base rows c number) e h
        (first-refutes b base rows c number is);
  }

  there_too : (number : ℕ) (c : Condition) (cs : List Condition) (e : Evidence) → Refutes (number + 1) cs e
      → Refutes number (c ∷ cs) e
  there_too number c cs e r = record {
    place = suc r.place;
    inside = omega (arith, r.inside);
    numbers = omega (arith, r.numbers);
    condition = r.condition;
    there = r.there;
    refuted = r.refuted;
  }

  pub first_found : (number : ℕ) (cs : List Condition) (e : Evidence) → All IsCondition cs
      → first_against b base rows number cs ≡ Some e → Refutes number cs e
  first_found number [] e is h = cc
  first_found number (c ∷ cs) e is h =
      by (λ g. first_found (number + 1) cs e (All-tail IsCondition c cs is) g) (first b base rows c number) refl h
    where
      by : (first_against b base rows (number + 1) cs ≡ Some e → Refutes (number + 1) cs e) → (o : Option Evidence)
          → first b base rows c number ≡ o
          → option_or o (first_against b base rows (number + 1) cs) ≡ Some e → Refutes number (c ∷ cs) e
      by more None is_none g = there_too number c cs e (more g)
      by more (Some f) is_some g = here number c cs e (All-head IsCondition c cs is) (is_some ∙ g)

  -- so it refutes the condition that it names
  pub first_refutes_named : (cs : List Condition) (e : Evidence) → All IsCondition cs
      → first_against b base rows 1 cs ≡ Some e → refutes_named b base rows e (numbered cs e.condition) ≡ true
  first_refutes_named cs e is h = by (first_found 1 cs e is h)
    where
      by : Refutes 1 cs e → refutes_named b base rows e (numbered cs e.condition) ≡ true
      by r = at_place e.condition r.place r.condition (omega (arith, r.numbers)) r.there r.refuted
        where
          at_place : (n i : ℕ) (c : Condition) → n ≡ suc i → slice_get cs i ≡ Some c
              → refuted_at b base rows c e ≡ true → refutes_named b base rows e (numbered cs n) ≡ true
          at_place n i c k there r =
              subst (λ m. refutes_named b base rows e (numbered cs m) ≡ true) (sym k)
              (subst (λ (o : Option Condition). refutes_named b base rows e o ≡ true) (sym there) r)

  -- ---- where there is none
  neither : (o p : Option Evidence) → option_or o p ≡ None → (o ≡ None) × (p ≡ None)
  neither None p h = (refl, h)
  neither (Some e) p h = cc

  none_at : (number : ℕ) (cs : List Condition) (i : ℕ) (e : Evidence) → All IsCondition cs
      → first_against b base rows number cs ≡ None → refutes_named b base rows e (slice_get cs i) ≡ false
  none_at number [] i e is h = refl
  none_at number (c ∷ cs) zero e is h =
      none-refutes b base rows c number e (All-head IsCondition c cs is)
      (neither (first b base rows c number) (first_against b base rows (number + 1) cs) h).0
  none_at number (c ∷ cs) (suc i) e is h =
      none_at (number + 1) cs i e (All-tail IsCondition c cs is)
      (neither (first b base rows c number) (first_against b base rows (number + 1) cs) h).1

  pub none_refutes_named : (cs : List Condition) (e : Evidence) → All IsCondition cs
      → first_against b base rows 1 cs ≡ None → refutes_named b base rows e (numbered cs e.condition) ≡ false
  none_refutes_named cs e is h = by e.condition
    where
      by : (n : ℕ) → refutes_named b base rows e (numbered cs n) ≡ false
      by zero = refl
      by (suc i) = none_at 1 cs i e is h

-- ---- the numbers of evidence that refutes are those of points
passes_inside : (test : Row → Bool) (rows : List Row) (i : ℕ) → passes test (slice_get rows i) ≡ true
    → i < length rows
passes_inside test [] i h = absurd (false≢true h)
passes_inside test (r ∷ rows) zero h = omega arith
passes_inside test (r ∷ rows) (suc i) h = omega (arith, passes_inside test rows i h)

names_inside : (test : Row → Bool) (rows : List Row) (a : ℕ) → names test rows a ≡ true → a ≤ length rows
names_inside test rows zero h = omega arith
names_inside test rows (suc i) h = omega (arith, passes_inside test rows i h)

zero_inside : (rows : List Row) (a : ℕ) → (a == 0) ≡ true → a ≤ length rows
zero_inside rows a h = let e : a ≡ 0 = grind (arith, nat_tests) in omega (arith, e)

pair_inside : (c : Condition) (rows : List Row) (d : Demand) (e : ℕ → Ends) (vs : List Ends) (a b : ℕ)
    → refutes_by c rows d e vs a b ≡ true → (a ≤ length rows) × (b ≤ length rows)
unfolding refutes_by
pair_inside c rows (Within lo hi) e vs a b h =
    let n = and-left (names (belongs c) rows a && (b == 0)) (value_outside c.surface lo hi (e (a - 1))) h in (
      names_inside (belongs c) rows a (and-left (names (belongs c) rows a) (b == 0) n),
      zero_inside rows b (and-right (names (belongs c) rows a) (b == 0) n),
    )
pair_inside c rows (Spread t) e vs a b h =
    let n = and-left (names (belongs c) rows a && names (belongs c) rows b)
    (passes_by_more c.surface t (e (a - 1)) (e (b - 1))) h in (
      names_inside (belongs c) rows a (and-left (names (belongs c) rows a) (names (belongs c) rows b) n),
      names_inside (belongs c) rows b (and-right (names (belongs c) rows a) (names (belongs c) rows b) n),
    )
pair_inside c rows (Contact hi) e vs a b h =
    let n = and-left ((a == 0) && (b == 0)) (list_all (λ v. is_more v.lo hi (length2_of c.surface)) vs) h in (
      zero_inside rows a (and-left (a == 0) (b == 0) n),
      zero_inside rows b (and-right (a == 0) (b == 0) n),
    )
pair_inside c rows (HugInner t) e vs a b h =
    let n = and-left (names (is_of_feature c) rows b && (a == 0))
    (list_all (λ v. passes_by_more c.surface t v (e (b - 1))) vs) h in (
      zero_inside rows a (and-right (names (is_of_feature c) rows b) (a == 0) n),
      names_inside (is_of_feature c) rows b (and-left (names (is_of_feature c) rows b) (a == 0) n),
    )
pair_inside c rows (HugOuter t) e vs a b h =
    let n = and-left (names (is_of_feature c) rows a && (b == 0))
    (list_all (λ v. passes_by_more c.surface t (e (a - 1)) v) vs) h in (
      names_inside (is_of_feature c) rows a (and-left (names (is_of_feature c) rows a) (b == 0) n),
      zero_inside rows b (and-right (names (is_of_feature c) rows a) (b == 0) n),
    )

pub points_inside : (b : PlacedEnds) (base : V3) (rows : List Row) (c : Condition) (e : Evidence)
    → refuted_at b base rows c e ≡ true → (e.a ≤ length rows) × (e.b ≤ length rows)
unfolding refuted_at
points_inside b base rows c e h =
    pair_inside c rows c.demand (ends_by b base c rows) (map (ends_at b base c) (filter (belongs c) rows)) e.a e.b h

-- those of a first evidence are below 2^32
pub first_is_short : (b : PlacedEnds) (base : V3) (rows : List Row) (cs : List Condition) (e : Evidence)
    → All IsCondition cs → length cs ≤ CONDITIONS → (0 < length cs → length rows ≤ POINTS)
    → first_against b base rows 1 cs ≡ Some e
    → IsShort e
first_is_short b base rows cs e is few points h = by (first_found b base rows 1 cs e is h)
  where
    by : Refutes b base rows 1 cs e → IsShort e
    by r =
        let n = points_inside b base rows r.condition e r.refuted in
        let most : length rows ≤ POINTS = points (omega (arith, r.inside)) in
        record {
          condition = omega (arith, r.numbers, r.inside, few);
          a = omega (arith, n.0, most);
          b = omega (arith, n.1, most);
        }
