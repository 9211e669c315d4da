-- The first evidence refutes, and where there is none, none does.
use Rattle.std.proofs.Common.{◌≡◌, refl, sym, subst, ap, ◌∙◌, ℕ, suc, ◌-◌, ◌<◌, List, [], ◌∷◌, map, filter, length, get_or, Bool, true, false, cond, ◌&&◌, ◌||◌, ◌==◌, Option, Some, None, arith, inl, inr, ⊎_elim}
use Rattle.std.proofs.lemmas.Bool.{false≢true}
use Rattle.std.proofs.lemmas.Float.{T_from_true}
use Rattle.std.proofs.lemmas.Int.{ints}
use Rattle.std.proofs.lemmas.List.Elements.{All-cons, All-head, All-nil, All-tail, filter_passes}
use Rattle.std.proofs.lemmas.List.Folds.{list_any_at}
use Rattle.std.proofs.lemmas.List.Sums.{AllPass-from_list_all, list_all-from_AllPass}
use Rattle.std.specs.List.{All, list_all, list_any, range_with_len}
use Rattle.std.specs.Option.{IfSome}
use Rattle.std.specs.Prelude.{ℤ, ◌-ℤ◌, ◌≤ℤ◌, ◌⊎◌, find, int_le, is_some, option_map, slice_get}
use Rattle.gd_bound.specs.Evidence.{evidence_of, first, first_highest, first_lowest, first_pair, high_end, low_end, names, passes_by_more, point_number, refuted_at, refutes_by, refuting_pair, value_outside}
use Rattle.gd_bound.specs.Laws.{FirstRefutes, NoneRefutes}
use Rattle.gd_bound.proofs.Refuting.{and-both, evidence-refutes}
use Rattle.gd_bound.proofs.Written.{contact-is, inner-is, outer-is, spread-is, within-is}
use Rattle.gd_cells.specs.declared.cell.Evidence.{Evidence}
use Rattle.gd_points.specs.Index.{numbers_where, passes}
use Rattle.gd_points.specs.declared.table.Row.{Row}
use Rattle.gd_quat.specs.Formulas.{Ends}
use Rattle.gd_vec.specs.declared.vector.V3.{V3}
use Rattle.gd_zone.proofs.Numbers.{ends-are}
use Rattle.gd_zone.proofs.Pairs.{more-above}
use Rattle.gd_zone.specs.Boxes.{PlacedEnds}
use Rattle.gd_zone.specs.Conditions.{IsCondition, IsPair, belongs, is_of_feature, length2_of}
use Rattle.gd_zone.specs.Extremes.{at_narrowest, ends_by}
use Rattle.gd_zone.specs.Refutations.{condition_refuted, surface_refuted}
use Rattle.gd_zone.specs.Tests.{ends_at}
use Rattle.gd_zone.specs.declared.condition.Condition.{Condition}
use Rattle.gd_zone.specs.declared.condition.Demand.{Demand}
use Rattle.gd_zone.specs.declared.condition.Demand.TheVariants.{Within, Spread, Contact, HugInner, HugOuter}
use Rattle.gd_zone.specs.declared.condition.Surface.{Surface}
use Rattle.gd_zone.specs.declared.condition.Surface.TheVariants.{Plane, Axis, Ball}

-- ---- what is found
or-cases : (a b : Bool) → (a || b) ≡ true → (a ≡ true) ⊎ (b ≡ true)
or-cases true b h = inl refl
or-cases false b h = inr h

-- a number of the list that passes, with what all of the list have
any-number : (p : ℕ → Bool) (Q : ℕ → Type 0) (ns : List ℕ) → All Q ns → list_any p ns ≡ true → (i : ℕ) × (p i ≡ true) × Q i
any-number p Q [] q h = absurd (false≢true h)
any-number p Q (n ∷ ns) q h = ⊎_elim (λ t. (n, t, All-head Q n ns q)) (λ t. any-number p Q ns (All-tail Q n ns q) t) (or-cases (p n) (list_any p ns) h)

-- the first of them
pub found-number : (p : ℕ → Bool) (Q : ℕ → Type 0) (ns : List ℕ) → All Q ns → list_any p ns ≡ true → (i : ℕ) × (find p ns ≡ Some i) × (p i ≡ true) × Q i
found-number p Q [] q h = absurd (false≢true h)
found-number p Q (n ∷ ns) q h = by (p n) refl (λ k. found-number p Q ns (All-tail Q n ns q) k)
  where
    by : (t : Bool) → p n ≡ t → (list_any p ns ≡ true → (i : ℕ) × (find p ns ≡ Some i) × (p i ≡ true) × Q i) → (i : ℕ) × (cond t (Some n) (find p ns) ≡ Some i) × (p i ≡ true) × Q i
    by true e more = (n, refl, e, All-head Q n ns q)
    by false e more = more (sym (ap (λ t. t || list_any p ns) e) ∙ h)

pub any-of-map : (p : Ends → Bool) (f : ℕ → Ends) (ns : List ℕ) → list_any p (map f ns) ≡ list_any (λ i. p (f i)) ns
any-of-map p f [] = refl
any-of-map p f (n ∷ ns) = ap (λ t. p (f n) || t) (any-of-map p f ns)

-- ---- the first number at which an order has its end
module _ (le : ℕ → ℕ → Bool) (same : (i : ℕ) → le i i ≡ true) (total : (i j : ℕ) → (le i j ≡ true) ⊎ (le j i ≡ true)) (trans : (i j k : ℕ) → le i j ≡ true → le j k ≡ true → le i k ≡ true) where
  end-of : (Q : ℕ → Type 0) (n : ℕ) (ns : List ℕ) → All Q (n ∷ ns) → (i : ℕ) × Q i × All (λ j. le j i ≡ true) (n ∷ ns)
  end-of Q n [] q = (n, All-head Q n [] q, All-cons (λ j. le j n ≡ true) n [] (same n) (All-nil (λ j. le j n ≡ true)))
  end-of Q n (m ∷ ns) q =
      let r = end-of Q m ns (All-tail Q n (m ∷ ns) q) in
      ⊎_elim (λ t. (r.0, r.1, All-cons (λ j. le j r.0 ≡ true) n (m ∷ ns) t r.2))
      (λ t. (n, All-head Q n (m ∷ ns) q, All-cons (λ j. le j n ≡ true) n (m ∷ ns) (same n) (λ k d l. trans (get_or (m ∷ ns) k d) r.0 n (r.2 k d l) t))) (total n r.0)

  -- its place in the list
  abbrev Stands : List ℕ → ℕ → Type 0
  Stands ns i = (k : ℕ) × (d : ℕ) × (k < length ns) × (get_or ns k d ≡ i)

  pub first-end : (Q : ℕ → Type 0) (ns : List ℕ) → 0 < length ns → All Q ns → (i : ℕ) × (find (λ i. list_all (λ j. le j i) ns) ns ≡ Some i) × All (λ j. le j i ≡ true) ns × Q i
  first-end Q [] some q = absurd (omega (arith, some))
  first-end Q (n ∷ ns) some q =
      let p : ℕ → Bool = λ i. list_all (λ j. le j i) (n ∷ ns) in
      let e = end-of (Stands (n ∷ ns)) n ns (λ k d l. (k, d, l, refl)) in
      let s = e.1 in
      let any : list_any p (n ∷ ns) ≡ true = list_any_at p (n ∷ ns) s.0 s.1 s.2 (ap p s.3 ∙ list_all-from_AllPass (λ j. le j e.0) (n ∷ ns) e.2) in
      let f = found-number p Q (n ∷ ns) q any in
      (f.0, f.1, AllPass-from_list_all (λ j. le j f.0) (n ∷ ns) f.2, f.3)

pub le-true : (a b : ℤ) → int_le a b ≡ true → a ≤ℤ b
le-true a b h = record { le = T_from_true (int_le a b) h }

pub true-le : (a b : ℤ) → a ≤ℤ b → int_le a b ≡ true
true-le a b h = by (int_le a b) refl
  where
    by : (t : Bool) → int_le a b ≡ t → t ≡ true
    by true e = refl
    by false e = absurd (omega (arith, ints, h))

le-total : (a b : ℤ) → (a ≤ℤ b) ⊎ (b ≤ℤ a)
le-total a b = by (int_le a b) refl
  where
    by : (t : Bool) → int_le a b ≡ t → (a ≤ℤ b) ⊎ (b ≤ℤ a)
    by true e = inl (le-true a b e)
    by false e = inr (omega (arith, ints))

pub highest : (f : ℕ → ℤ) (Q : ℕ → Type 0) (ns : List ℕ) → 0 < length ns → All Q ns → (i : ℕ) × (first_highest f ns ≡ Some i) × All (λ j. f j ≤ℤ f i) ns × Q i
highest f Q ns some q =
    let r = first-end (λ j i. int_le (f j) (f i)) (λ i. true-le (f i) (f i) (omega (arith, ints))) (λ i j. ⊎_elim (λ h. inl (true-le (f i) (f j) h)) (λ h. inr (true-le (f j) (f i) h)) (le-total (f i) (f j)))
    (λ i j k h l. true-le (f i) (f k) (omega (arith, ints, le-true (f i) (f j) h, le-true (f j) (f k) l))) Q ns some q in
    (r.0, r.1, (λ k d l. le-true (f (get_or ns k d)) (f r.0) (r.2 k d l)), r.3)

pub lowest : (f : ℕ → ℤ) (Q : ℕ → Type 0) (ns : List ℕ) → 0 < length ns → All Q ns → (i : ℕ) × (first_lowest f ns ≡ Some i) × All (λ j. f i ≤ℤ f j) ns × Q i
lowest f Q ns some q =
    let r = first-end (λ j i. int_le (f i) (f j)) (λ i. true-le (f i) (f i) (omega (arith, ints))) (λ i j. ⊎_elim (λ h. inl (true-le (f j) (f i) h)) (λ h. inr (true-le (f i) (f j) h)) (le-total (f j) (f i)))
    (λ i j k h l. true-le (f k) (f i) (omega (arith, ints, le-true (f j) (f i) h, le-true (f k) (f j) l))) Q ns some q in
    (r.0, r.1, (λ k d l. le-true (f r.0) (f (get_or ns k d)) (r.2 k d l)), r.3)

-- ---- more by what is higher, or lower
narrowest-is : (s : Surface) (a b : Ends) → at_narrowest s a.lo b.hi ≡ low_end s a.lo -ℤ high_end s b.hi
narrowest-is (Plane d p) a b = refl
narrowest-is (Axis d p) a b = refl
narrowest-is (Ball p) a b = refl

pub more-by : (s : Surface) (t : ℤ) (a a' b b' : Ends) → low_end s a.lo ≤ℤ low_end s a'.lo → high_end s b'.hi ≤ℤ high_end s b.hi → passes_by_more s t a b ≡ true → passes_by_more s t a' b' ≡ true
more-by s t a a' b b' h k m =
    let u = narrowest-is s a b in
    let v = narrowest-is s a' b' in
    more-above (at_narrowest s a.lo b.hi) (at_narrowest s a'.lo b'.hi) t (length2_of s) (omega (arith, ints, u, v, h, k)) m

-- ---- numbers of points
named-is : (test : Row → Bool) (rows : List Row) (o : Option ℕ) (i : ℕ) → o ≡ Some i → passes test (slice_get rows i) ≡ true → names test rows (point_number o) ≡ true
named-is test rows o i e h = subst (λ z. names test rows (point_number z) ≡ true) (sym e) h

number-is : (o : Option ℕ) (i : ℕ) → o ≡ Some i → point_number o - 1 ≡ i
number-is o i e = subst (λ z. point_number z - 1 ≡ i) (sym e) (one-less i)
  where
    one-less : (i : ℕ) → suc i - 1 ≡ i
    one-less i = omega arith

some-number : (p : ℕ → Bool) (ns : List ℕ) → list_any p ns ≡ true → 0 < length ns
some-number p [] h = absurd (false≢true h)
some-number p (n ∷ ns) h = omega arith

both : (P Q : ℕ → Type 0) (ns : List ℕ) → All P ns → All Q ns → All (λ i. P i × Q i) ns
both P Q ns h k i d l = (h i d l, k i d l)

pub all-onward : (p q : Ends → Bool) (vs : List Ends) → ((v : Ends) → p v ≡ true → q v ≡ true) → list_all p vs ≡ true → list_all q vs ≡ true
all-onward p q vs f h = list_all-from_AllPass q vs (λ k d l. f (get_or vs k d) (AllPass-from_list_all p vs h k d l))

module _ (b : PlacedEnds) (base : V3) (rows : List Row) (c : Condition) where
  abbrev E : ℕ → Ends
  E = ends_by b base c rows

  abbrev points : List ℕ
  points = numbers_where (belongs c) rows

  abbrev features : List ℕ
  features = numbers_where (is_of_feature c) rows

  abbrev Stays : (Row → Bool) → ℕ → Type 0
  Stays test i = passes test (slice_get rows i) ≡ true

  all-stay : (test : Row → Bool) → All (Stays test) (numbers_where test rows)
  all-stay test = filter_passes (λ i. passes test (slice_get rows i)) (range_with_len 0 (length rows))

  pair-refutes : (d : Demand) → IsPair c.surface d → surface_refuted c.surface d (map E points) (map E features) ≡ true
      → refutes_by c rows d E (map E points) (first_pair c.surface d E points features).a (first_pair c.surface d E points features).b ≡ true
  unfolding refutes_by first_pair
  pair-refutes (Within lo hi) is h =
      let p : ℕ → Bool = λ i. value_outside c.surface lo hi (E i) in
      let any : list_any p points ≡ true = sym (within-is c.surface lo hi (map E points) (map E features) ∙ any-of-map (value_outside c.surface lo hi) E points) ∙ h in
      let f = found-number p (Stays (belongs c)) points (all-stay (belongs c)) any in
      let o : Option ℕ = find p points in
      and-both (names (belongs c) rows (point_number o) && (0 == 0)) (value_outside c.surface lo hi (E (point_number o - 1)))
      (and-both (names (belongs c) rows (point_number o)) (0 == 0) (named-is (belongs c) rows o f.0 f.1 f.3) refl)
      (ap (λ i. value_outside c.surface lo hi (E i)) (number-is o f.0 f.1) ∙ f.2)
  pair-refutes (Spread t) is h =
      let s : Surface = c.surface in
      let up : ℕ → ℤ = λ i. low_end s (E i).lo in
      let down : ℕ → ℤ = λ i. high_end s (E i).hi in
      let outer : ℕ → Bool = λ i. list_any (λ w. passes_by_more s t (E i) w) (map E points) in
      let any : list_any outer points ≡ true = sym (spread-is s t (map E points) (map E features) ∙ any-of-map (λ v. list_any (λ w. passes_by_more s t v w) (map E points)) E points) ∙ h in
      let some : 0 < length points = some-number outer points any in
      let far = highest up (Stays (belongs c)) points some (all-stay (belongs c)) in
      let near = lowest down (Stays (belongs c)) points some (all-stay (belongs c)) in
      let i = any-number outer (λ j. up j ≤ℤ up far.0) points far.2 any in
      let inner : list_any (λ j. passes_by_more s t (E i.0) (E j)) points ≡ true = sym (any-of-map (λ w. passes_by_more s t (E i.0) w) E points) ∙ i.1 in
      let j = any-number (λ j. passes_by_more s t (E i.0) (E j)) (λ j. down near.0 ≤ℤ down j) points near.2 inner in
      let m : passes_by_more s t (E far.0) (E near.0) ≡ true = more-by s t (E i.0) (E far.0) (E j.0) (E near.0) i.2 j.2 j.1 in
      let o : Option ℕ = first_highest up points in
      let q : Option ℕ = first_lowest down points in
      and-both (names (belongs c) rows (point_number o) && names (belongs c) rows (point_number q)) (passes_by_more s t (E (point_number o - 1)) (E (point_number q - 1)))
      (and-both (names (belongs c) rows (point_number o)) (names (belongs c) rows (point_number q)) (named-is (belongs c) rows o far.0 far.1 far.3) (named-is (belongs c) rows q near.0 near.1 near.3))
      (ap (λ x. passes_by_more s t (E x) (E (point_number q - 1))) (number-is o far.0 far.1) ∙ ap (λ x. passes_by_more s t (E far.0) (E x)) (number-is q near.0 near.1) ∙ m)
  pair-refutes (Contact hi) is h = sym (contact-is c.surface hi is (map E points) (map E features)) ∙ h
  pair-refutes (HugInner t) is h =
      let s : Surface = c.surface in
      let down : ℕ → ℤ = λ i. high_end s (E i).hi in
      let outer : ℕ → Bool = λ i. list_all (λ v. passes_by_more s t v (E i)) (map E points) in
      let any : list_any outer features ≡ true = sym (inner-is s t is (map E points) (map E features) ∙ any-of-map (λ w. list_all (λ v. passes_by_more s t v w) (map E points)) E features) ∙ h in
      let near = lowest down (Stays (is_of_feature c)) features (some-number outer features any) (all-stay (is_of_feature c)) in
      let i = any-number outer (λ j. down near.0 ≤ℤ down j) features near.2 any in
      let q : Option ℕ = first_lowest down features in
      let m : list_all (λ v. passes_by_more s t v (E near.0)) (map E points) ≡ true =
      all-onward (λ v. passes_by_more s t v (E i.0)) (λ v. passes_by_more s t v (E near.0)) (map E points) (λ v k. more-by s t v v (E i.0) (E near.0) (omega (arith, ints)) i.2 k) i.1 in
      and-both (names (is_of_feature c) rows (point_number q) && (0 == 0)) (list_all (λ v. passes_by_more s t v (E (point_number q - 1))) (map E points))
      (and-both (names (is_of_feature c) rows (point_number q)) (0 == 0) (named-is (is_of_feature c) rows q near.0 near.1 near.3) refl)
      (ap (λ x. list_all (λ v. passes_by_more s t v (E x)) (map E points)) (number-is q near.0 near.1) ∙ m)
  pair-refutes (HugOuter t) is h =
      let s : Surface = c.surface in
      let up : ℕ → ℤ = λ i. low_end s (E i).lo in
      let outer : ℕ → Bool = λ i. list_all (λ v. passes_by_more s t (E i) v) (map E points) in
      let any : list_any outer features ≡ true = sym (outer-is s t is (map E points) (map E features) ∙ any-of-map (λ w. list_all (λ v. passes_by_more s t w v) (map E points)) E features) ∙ h in
      let far = highest up (Stays (is_of_feature c)) features (some-number outer features any) (all-stay (is_of_feature c)) in
      let i = any-number outer (λ j. up j ≤ℤ up far.0) features far.2 any in
      let o : Option ℕ = first_highest up features in
      let m : list_all (λ v. passes_by_more s t (E far.0) v) (map E points) ≡ true =
      all-onward (λ v. passes_by_more s t (E i.0) v) (λ v. passes_by_more s t (E far.0) v) (map E points) (λ v k. more-by s t (E i.0) (E far.0) v v i.2 (omega (arith, ints)) k) i.1 in
      and-both (names (is_of_feature c) rows (point_number o) && (0 == 0)) (list_all (λ v. passes_by_more s t (E (point_number o - 1)) v) (map E points))
      (and-both (names (is_of_feature c) rows (point_number o)) (0 == 0) (named-is (is_of_feature c) rows o far.0 far.1 far.3) refl)
      (ap (λ x. list_all (λ v. passes_by_more s t (E x) v) (map E points)) (number-is o far.0 far.1) ∙ m)

  -- the written test by numbers
  pub refuted-is : condition_refuted b base rows c ≡ surface_refuted c.surface c.demand (map E points) (map E features)
  unfolding condition_refuted
  refuted-is = ap (λ vs. surface_refuted c.surface c.demand vs (map (ends_at b base c) (filter (is_of_feature c) rows))) (sym (ends-are b base c rows (belongs c)))
      ∙ ap (λ vs. surface_refuted c.surface c.demand (map E points) vs) (sym (ends-are b base c rows (is_of_feature c)))

  pub refuted-by : (e : Evidence) → refuted_at b base rows c e ≡ refutes_by c rows c.demand E (map E points) e.a e.b
  unfolding refuted_at
  refuted-by e = ap (λ vs. refutes_by c rows c.demand E vs e.a e.b) (sym (ends-are b base c rows (belongs c)))

  pub first-by : (number : ℕ) → IsCondition c → IfSome (first b base rows c number) (λ e. refuted_at b base rows c e ≡ true)
  unfolding refuting_pair
  first-by number is = by (condition_refuted b base rows c) refl
    where
      by : (t : Bool) → condition_refuted b base rows c ≡ t → IfSome (option_map (evidence_of number) (cond t (Some (first_pair c.surface c.demand E points features)) None)) (λ e. refuted_at b base rows c e ≡ true)
      by true h = refuted-by (evidence_of number (first_pair c.surface c.demand E points features)) ∙ pair-refutes c.demand is.pair (sym refuted-is ∙ h)
      by false h = tt {0}

  pub none-by : (number : ℕ) (e : Evidence) → IsCondition c → first b base rows c number ≡ None → refuted_at b base rows c e ≡ false
  unfolding refuting_pair
  none-by number e is = by (condition_refuted b base rows c) refl
    where
      not-true : (t : Bool) → (t ≡ true → ⊥) → t ≡ false
      not-true true f = absurd (f refl)
      not-true false f = refl

      some-none : {A : Type 0} (x : A) → Some x ≡ None → ⊥
      some-none x h = false≢true (sym (ap is_some h))

      by : (t : Bool) → condition_refuted b base rows c ≡ t → option_map (evidence_of number) (cond t (Some (first_pair c.surface c.demand E points features)) None) ≡ None → refuted_at b base rows c e ≡ false
      by true h n = absurd (some-none (evidence_of number (first_pair c.surface c.demand E points features)) n)
      by false h n = not-true (refuted_at b base rows c e) (λ t. false≢true (sym h ∙ evidence-refutes b base rows c e is t))

pub first-refutes : FirstRefutes
first-refutes b base rows c number is = first-by b base rows c number is

pub none-refutes : NoneRefutes
none-refutes b base rows c number e is n = none-by b base rows c number e is n
