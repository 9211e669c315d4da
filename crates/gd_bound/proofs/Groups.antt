-- All points of a condition against a bound, and against one point.
use Rattle.std.proofs.Common.{◌≡◌, ◌∙◌, sym, subst, ap, ℕ, zero, suc, ◌-◌, ◌<◌, ◌≤◌, Bool, true, false, ◌&&◌, ◌==◌, List, length, map, get_or, Option, Some, None, arith}
use Rattle.std.proofs.lemmas.Bool.{false≢true}
use Rattle.std.proofs.lemmas.List.{get_or-map, length-map}
use Rattle.std.proofs.lemmas.List.Folds.{list_all_at}
use Rattle.std.proofs.lemmas.List.Sums.{list_all-from_AllPass}
use Rattle.std.proofs.lemmas.Option.{slice_get_within}
use Rattle.std.specs.List.{list_all}
use Rattle.std.specs.Option.{IfSome}
use Rattle.std.specs.Prelude.{ℤ, slice_get}
use Rattle.gd_bound.specs.Evidence.{named_row, names, passes_by_more, refutes_by}
use Rattle.gd_points.specs.declared.table.Row.{Row}
use Rattle.gd_quat.specs.Formulas.{Ends}
use Rattle.gd_zone.proofs.Pairs.{all-is, more-falls, z-refl}
use Rattle.gd_zone.specs.Conditions.{belongs, is_of_feature, length2_of}
use Rattle.gd_zone.specs.Extremes.{AreExtremes, at_narrowest}
use Rattle.gd_zone.specs.Refutations.{is_more}
use Rattle.gd_zone.specs.declared.condition.Condition.{Condition}
use Rattle.gd_zone.specs.declared.condition.Demand.{Demand}
use Rattle.gd_zone.specs.declared.condition.Demand.TheVariants.{Contact, HugInner, HugOuter, Spread}
use Rattle.gd_zone.specs.declared.condition.Surface.{Surface}

-- ---- points one by one
pub above-all : (hi n : ℤ) (f : ℕ → Ends) (ns : List ℕ) → ((j : ℕ) → j < length ns → is_more (f (get_or ns j 0)).lo hi n ≡ true) → true ≡ list_all (λ v. is_more v.lo hi n) (map f ns)
above-all hi n f ns h =
    sym (list_all-from_AllPass (λ (v : Ends). is_more v.lo hi n) (map f ns) (λ k d l.
    let m : k < length ns = omega (arith, l, length-map ns f) in
    subst (λ (v : Ends). is_more v.lo hi n ≡ true) (sym (get_or-map f ns k 0 d m)) (h k m)))

pub above-not : (hi n : ℤ) (f : ℕ → Ends) (ns : List ℕ) (j : ℕ) → j < length ns → is_more (f (get_or ns j 0)).lo hi n ≡ false → false ≡ list_all (λ v. is_more v.lo hi n) (map f ns)
above-not hi n f ns j l h =
    sym (list_all_at (λ (v : Ends). is_more v.lo hi n) (map f ns) j (f (get_or ns j 0)) (omega (arith, l, length-map ns f))
    (ap (λ (v : Ends). is_more v.lo hi n) (get_or-map f ns j 0 (f (get_or ns j 0)) l) ∙ h))

-- ---- by their extremes
pub all-pass : (s : Surface) (t : ℤ) (b : Ends) (vs : List Ends) (least greatest : Ends) → AreExtremes vs least greatest → passes_by_more s t least b ≡ list_all (λ v. passes_by_more s t v b) vs
all-pass s t b vs least greatest e =
    let r = e.least_lo.reached in
    sym (all-is (λ (v : Ends). passes_by_more s t v b) vs (passes_by_more s t least b) (λ k d l. more-falls s t b.hi b.hi least.lo (get_or vs k d).lo (z-refl b.hi) (e.least_lo.below k d l))
    (r.0, r.1, r.2, r.3, ap (λ z. is_more (at_narrowest s z b.hi) t (length2_of s)) r.4))

pub passes-all : (s : Surface) (t : ℤ) (a : Ends) (vs : List Ends) (least greatest : Ends) → AreExtremes vs least greatest → passes_by_more s t a greatest ≡ list_all (λ v. passes_by_more s t a v) vs
passes-all s t a vs least greatest e =
    let r = e.greatest_hi.reached in
    sym (all-is (λ (v : Ends). passes_by_more s t a v) vs (passes_by_more s t a greatest) (λ k d l. more-falls s t greatest.hi (get_or vs k d).hi a.lo a.lo (e.greatest_hi.above k d l) (z-refl a.lo))
    (r.0, r.1, r.2, r.3, ap (λ z. is_more (at_narrowest s a.lo z) t (length2_of s)) r.4))

-- ---- the test of a demand, where the numbers name what they have to
and-front : (p r q : Bool) → p ≡ true → r ≡ q → r ≡ (p && q)
and-front true r q h k = k
and-front false r q h k = absurd (false≢true h)

module _ (c : Condition) (rows : List Row) (e : ℕ → Ends) (vs : List Ends) (a b : ℕ) (r : Bool) (d : Demand) where
  pub contact-by : (hi : ℤ) → d ≡ Contact hi → ((a == 0) && (b == 0)) ≡ true → r ≡ list_all (λ v. is_more v.lo hi (length2_of c.surface)) vs → r ≡ refutes_by c rows d e vs a b
  unfolding refutes_by
  contact-by hi is n l = subst (λ z. r ≡ refutes_by c rows z e vs a b) (sym is) (and-front ((a == 0) && (b == 0)) r (list_all (λ v. is_more v.lo hi (length2_of c.surface)) vs) n l)

  pub inner-by : (t : ℤ) → d ≡ HugInner t → (names (is_of_feature c) rows b && (a == 0)) ≡ true → r ≡ list_all (λ v. passes_by_more c.surface t v (e (b - 1))) vs → r ≡ refutes_by c rows d e vs a b
  unfolding refutes_by
  inner-by t is n l = subst (λ z. r ≡ refutes_by c rows z e vs a b) (sym is) (and-front (names (is_of_feature c) rows b && (a == 0)) r (list_all (λ v. passes_by_more c.surface t v (e (b - 1))) vs) n l)

  pub outer-by : (t : ℤ) → d ≡ HugOuter t → (names (is_of_feature c) rows a && (b == 0)) ≡ true → r ≡ list_all (λ v. passes_by_more c.surface t (e (a - 1)) v) vs → r ≡ refutes_by c rows d e vs a b
  unfolding refutes_by
  outer-by t is n l = subst (λ z. r ≡ refutes_by c rows z e vs a b) (sym is) (and-front (names (is_of_feature c) rows a && (b == 0)) r (list_all (λ v. passes_by_more c.surface t (e (a - 1)) v) vs) n l)

  pub spread-by : (t : ℤ) → d ≡ Spread t → (names (belongs c) rows a && names (belongs c) rows b) ≡ true → r ≡ passes_by_more c.surface t (e (a - 1)) (e (b - 1)) → r ≡ refutes_by c rows d e vs a b
  unfolding refutes_by
  spread-by t is n l = subst (λ z. r ≡ refutes_by c rows z e vs a b) (sym is) (and-front (names (belongs c) rows a && names (belongs c) rows b) r (passes_by_more c.surface t (e (a - 1)) (e (b - 1))) n l)

-- ---- the row of a number from 1
pub row-named : (rows : List Row) (n : ℕ) → 1 ≤ n → slice_get rows (n - 1) ≡ named_row rows n
row-named rows zero h = absurd (omega (arith, h))
row-named rows (suc n) h = ap (slice_get rows) (one-less n)
  where
    one-less : (n : ℕ) → suc n - 1 ≡ n
    one-less n = omega arith

pub row-inside : (o : Option Row) (rows : List Row) (n : ℕ) → o ≡ slice_get rows (n - 1) → IfSome o (λ _. n - 1 < length rows)
row-inside None rows n e = tt {0}
row-inside (Some r) rows n e = slice_get_within rows (n - 1) r (sym e)
