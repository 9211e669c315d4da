-- The pair that refutes a demand, from the extremes of the points.
use Rattle.std.proofs.Common.{◌≡◌, refl, sym, ap, ◌∙◌, ℕ, zero, suc, ◌+◌, ◌<◌, arith, List, [], ◌∷◌, map, length, get_or, Bool, true, false, cond, ◌||◌, Option, Some, None}
use Rattle.std.specs.List.{list_all, list_any}
use Rattle.std.specs.Prelude.{ℤ, find, is_some}
use Rattle.gd_bound.proofs.Firsts.{all-onward, any-of-map, refuted-is}
use Rattle.gd_bound.proofs.Written.{contact-is, inner-is, outer-is, spread-is, within-is}
use Rattle.gd_bound.specs.Evidence.{first_highest, first_lowest, first_pair, high_end, low_end, passes_by_more, point_number, refuting_pair, value_outside}
use Rattle.gd_bound.specs.Thresholds.{pair_by}
use Rattle.gd_bound.specs.declared.pair.Pair.{Pair}
use Rattle.gd_points.specs.Index.{numbers_where}
use Rattle.gd_points.specs.declared.table.Row.{Row}
use Rattle.gd_quat.specs.Formulas.{Ends}
use Rattle.gd_vec.specs.declared.vector.V3.{V3}
use Rattle.gd_zone.proofs.Pairs as pairs
use Rattle.gd_zone.specs.Boxes.{PlacedEnds}
use Rattle.gd_zone.specs.Conditions.{IsPair, belongs, is_of_feature, length2_of}
use Rattle.gd_zone.specs.Extremes.{AreExtremes, at_narrowest, ends_by}
use Rattle.gd_zone.specs.Refutations.{is_more, surface_refuted}
use Rattle.gd_zone.specs.declared.condition.Condition.{Condition}
use Rattle.gd_zone.specs.declared.condition.Demand.{Demand}
use Rattle.gd_zone.specs.declared.condition.Demand.TheVariants.{Within, Spread, Contact, HugInner, HugOuter}
use Rattle.gd_zone.specs.declared.condition.Surface.{Surface}

-- ---- the first number that passes
find-here : (p : ℕ → Bool) (ns : List ℕ) (k : ℕ) → k < length ns → ((j : ℕ) → j < k → p (get_or ns j 0) ≡ false) → p (get_or ns k 0) ≡ true → find p ns ≡ Some (get_or ns k 0)
find-here p [] k l n h = absurd (omega (arith, l))
find-here p (x ∷ xs) zero l n h = ap (λ t. cond t (Some x) (find p xs)) h
find-here p (x ∷ xs) (suc k) l n h =
    ap (λ t. cond t (Some x) (find p xs)) (n 0 (omega arith)) ∙ find-here p xs k (omega (arith, l)) (λ j m. n (suc j) (omega (arith, m))) h

find-nowhere : (p : ℕ → Bool) (ns : List ℕ) → ((j : ℕ) → j < length ns → p (get_or ns j 0) ≡ false) → find p ns ≡ None
find-nowhere p [] n = refl
find-nowhere p (x ∷ xs) n = ap (λ t. cond t (Some x) (find p xs)) (n 0 (omega arith)) ∙ find-nowhere p xs (λ j m. n (suc j) (omega (arith, m)))

pub number-here : (p : ℕ → Bool) (ns : List ℕ) (k : ℕ) → k < length ns → ((j : ℕ) → j < k → p (get_or ns j 0) ≡ false) → p (get_or ns k 0) ≡ true → get_or ns k 0 + 1 ≡ point_number (find p ns)
number-here p ns k l n h = plus-one (get_or ns k 0) ∙ sym (ap point_number (find-here p ns k l n h))
  where
    plus-one : (i : ℕ) → i + 1 ≡ suc i
    plus-one i = omega arith

pub number-nowhere : (p : ℕ → Bool) (ns : List ℕ) (k : ℕ) → k ≡ length ns → ((j : ℕ) → j < k → p (get_or ns j 0) ≡ false) → 0 ≡ point_number (find p ns)
number-nowhere p ns k e n = sym (ap point_number (find-nowhere p ns (λ j m. n j (omega (arith, m, e)))))

-- ---- refuted, or not
then-pair : (s : Surface) (d : Demand) (e : ℕ → Ends) (ns ms : List ℕ) (x : Pair) → surface_refuted s d (map e ns) (map e ms) ≡ true → x ≡ first_pair s d e ns ms → Some x ≡ pair_by s d e ns ms
unfolding pair_by
then-pair s d e ns ms x h k = ap Some k ∙ sym (ap (λ t. cond t (Some (first_pair s d e ns ms)) None) h)

else-pair : (s : Surface) (d : Demand) (e : ℕ → Ends) (ns ms : List ℕ) → surface_refuted s d (map e ns) (map e ms) ≡ false → None ≡ pair_by s d e ns ms
unfolding pair_by
else-pair s d e ns ms h = sym (ap (λ t. cond t (Some (first_pair s d e ns ms)) None) h)

abbrev pub pair-of : ℕ → ℕ → Pair
pair-of a b = record { a = a; b = b }

any-found : (p : ℕ → Bool) (ns : List ℕ) → list_any p ns ≡ is_some (find p ns)
any-found p [] = refl
any-found p (n ∷ ns) = by (p n) (any-found p ns)
  where
    by : (t : Bool) → list_any p ns ≡ is_some (find p ns) → (t || list_any p ns) ≡ is_some (cond t (Some n) (find p ns))
    by true more = refl
    by false more = more

none-number : (o : Option ℕ) → 0 ≡ point_number o → is_some o ≡ false
none-number None h = refl
none-number (Some i) h = absurd (zero-suc i h)
  where
    zero-suc : (i : ℕ) → 0 ≡ suc i → ⊥
    zero-suc i h = cc

some-number : (o : Option ℕ) (a : ℕ) → a ≡ point_number o → (a ≡ 0 → ⊥) → is_some o ≡ true
some-number None a h n = absurd (n h)
some-number (Some i) a h n = refl

module _ (s : Surface) (e : ℕ → Ends) (ns ms : List ℕ) where
  -- ---- within
  within-refuted : (lo hi : Option ℤ) → surface_refuted s (Within lo hi) (map e ns) (map e ms) ≡ is_some (find (λ i. value_outside s lo hi (e i)) ns)
  within-refuted lo hi = within-is s lo hi (map e ns) (map e ms) ∙ any-of-map (value_outside s lo hi) e ns ∙ any-found (λ i. value_outside s lo hi (e i)) ns

  pub within-none : (lo hi : Option ℤ) (a : ℕ) → a ≡ point_number (find (λ i. value_outside s lo hi (e i)) ns) → a ≡ 0 → None ≡ pair_by s (Within lo hi) e ns ms
  within-none lo hi a h z = else-pair s (Within lo hi) e ns ms (within-refuted lo hi ∙ none-number (find (λ i. value_outside s lo hi (e i)) ns) (sym z ∙ h))

  pub within-some : (lo hi : Option ℤ) (a : ℕ) → a ≡ point_number (find (λ i. value_outside s lo hi (e i)) ns) → (a ≡ 0 → ⊥) → Some (pair-of a 0) ≡ pair_by s (Within lo hi) e ns ms
  unfolding first_pair
  within-some lo hi a h n = then-pair s (Within lo hi) e ns ms (pair-of a 0) (within-refuted lo hi ∙ some-number (find (λ i. value_outside s lo hi (e i)) ns) a h n) (ap (λ z. pair-of z 0) h)

  -- ---- spread
  spread-refuted : (t : ℤ) (least greatest : Ends) → AreExtremes (map e ns) least greatest → passes_by_more s t greatest least ≡ surface_refuted s (Spread t) (map e ns) (map e ms)
  spread-refuted t least greatest x =
      sym (spread-is s t (map e ns) (map e ms) ∙ pairs.any-any (pairs.passes_by_more s t) (pairs.more-falls s t) (λ (v : Ends). v.hi) (λ (v : Ends). v.lo) (map e ns) (map e ns) least.hi greatest.lo x.least_hi x.greatest_lo)

  pub spread-else : (t : ℤ) (least greatest : Ends) → AreExtremes (map e ns) least greatest → passes_by_more s t greatest least ≡ false → None ≡ pair_by s (Spread t) e ns ms
  spread-else t least greatest x h = else-pair s (Spread t) e ns ms (sym (spread-refuted t least greatest x) ∙ h)

  pub spread-then : (t : ℤ) (least greatest : Ends) (a b : ℕ) → AreExtremes (map e ns) least greatest → passes_by_more s t greatest least ≡ true
      → a ≡ point_number (first_highest (λ i. low_end s (e i).lo) ns) → b ≡ point_number (first_lowest (λ i. high_end s (e i).hi) ns) → Some (pair-of a b) ≡ pair_by s (Spread t) e ns ms
  unfolding first_pair
  spread-then t least greatest a b x h k l =
      then-pair s (Spread t) e ns ms (pair-of a b) (sym (spread-refuted t least greatest x) ∙ h) (ap (λ z. pair-of z b) k ∙ ap (pair-of (point_number (first_highest (λ i. low_end s (e i).lo) ns))) l)

  pub spread-empty : (t : ℤ) → ns ≡ [] → None ≡ pair_by s (Spread t) e ns ms
  spread-empty t z = else-pair s (Spread t) e ns ms (spread-is s t (map e ns) (map e ms) ∙ ap (λ xs. list_any (λ a. list_any (λ b. passes_by_more s t a b) (map e ns)) (map e xs)) z)

  -- ---- contact
  pub contact-then : (hi : ℤ) → IsPair s (Contact hi) → list_all (λ v. is_more v.lo hi (length2_of s)) (map e ns) ≡ true → Some (pair-of 0 0) ≡ pair_by s (Contact hi) e ns ms
  unfolding first_pair
  contact-then hi is h = then-pair s (Contact hi) e ns ms (pair-of 0 0) (contact-is s hi is (map e ns) (map e ms) ∙ h) refl

  pub contact-else : (hi : ℤ) → IsPair s (Contact hi) → list_all (λ v. is_more v.lo hi (length2_of s)) (map e ns) ≡ false → None ≡ pair_by s (Contact hi) e ns ms
  contact-else hi is h = else-pair s (Contact hi) e ns ms (contact-is s hi is (map e ns) (map e ms) ∙ h)

  -- ---- one of the feature against the group
  inner-refuted : (t : ℤ) → IsPair s (HugInner t) → (least greatest : Ends) → AreExtremes (map e ms) least greatest
      → list_all (λ v. passes_by_more s t v least) (map e ns) ≡ surface_refuted s (HugInner t) (map e ns) (map e ms)
  inner-refuted t is least greatest x =
      let r = x.least_hi.reached in
      sym (inner-is s t is (map e ns) (map e ms) ∙ pairs.any-is (λ b. list_all (λ a. passes_by_more s t a b) (map e ns)) (map e ms) (list_all (λ a. passes_by_more s t a least) (map e ns))
      (λ k d l. all-onward (λ a. passes_by_more s t a (get_or (map e ms) k d)) (λ a. passes_by_more s t a least) (map e ns)
      (λ v h. pairs.more-falls s t (get_or (map e ms) k d).hi least.hi v.lo v.lo (x.least_hi.below k d l) (pairs.z-refl v.lo) h))
      (r.0, r.1, r.2, r.3, ap (λ z. list_all (λ (a : Ends). is_more (at_narrowest s a.lo z) t (length2_of s)) (map e ns)) r.4))

  outer-refuted : (t : ℤ) → IsPair s (HugOuter t) → (least greatest : Ends) → AreExtremes (map e ms) least greatest
      → list_all (λ v. passes_by_more s t greatest v) (map e ns) ≡ surface_refuted s (HugOuter t) (map e ns) (map e ms)
  outer-refuted t is least greatest x =
      let r = x.greatest_lo.reached in
      sym (outer-is s t is (map e ns) (map e ms) ∙ pairs.any-is (λ b. list_all (λ a. passes_by_more s t b a) (map e ns)) (map e ms) (list_all (λ a. passes_by_more s t greatest a) (map e ns))
      (λ k d l. all-onward (λ a. passes_by_more s t (get_or (map e ms) k d) a) (λ a. passes_by_more s t greatest a) (map e ns)
      (λ v h. pairs.more-falls s t v.hi v.hi (get_or (map e ms) k d).lo greatest.lo (pairs.z-refl v.hi) (x.greatest_lo.above k d l) h))
      (r.0, r.1, r.2, r.3, ap (λ z. list_all (λ (a : Ends). is_more (at_narrowest s z a.hi) t (length2_of s)) (map e ns)) r.4))

  pub inner-then : (t : ℤ) → IsPair s (HugInner t) → (least greatest : Ends) (b : ℕ) → AreExtremes (map e ms) least greatest → list_all (λ v. passes_by_more s t v least) (map e ns) ≡ true
      → b ≡ point_number (first_lowest (λ i. high_end s (e i).hi) ms) → Some (pair-of 0 b) ≡ pair_by s (HugInner t) e ns ms
  unfolding first_pair
  inner-then t is least greatest b x h k = then-pair s (HugInner t) e ns ms (pair-of 0 b) (sym (inner-refuted t is least greatest x) ∙ h) (ap (pair-of 0) k)

  pub inner-else : (t : ℤ) → IsPair s (HugInner t) → (least greatest : Ends) → AreExtremes (map e ms) least greatest → list_all (λ v. passes_by_more s t v least) (map e ns) ≡ false → None ≡ pair_by s (HugInner t) e ns ms
  inner-else t is least greatest x h = else-pair s (HugInner t) e ns ms (sym (inner-refuted t is least greatest x) ∙ h)

  pub inner-empty : (t : ℤ) → IsPair s (HugInner t) → ms ≡ [] → None ≡ pair_by s (HugInner t) e ns ms
  inner-empty t is z = else-pair s (HugInner t) e ns ms (inner-is s t is (map e ns) (map e ms) ∙ ap (λ xs. list_any (λ b. list_all (λ a. passes_by_more s t a b) (map e ns)) (map e xs)) z)

  pub outer-then : (t : ℤ) → IsPair s (HugOuter t) → (least greatest : Ends) (a : ℕ) → AreExtremes (map e ms) least greatest → list_all (λ v. passes_by_more s t greatest v) (map e ns) ≡ true
      → a ≡ point_number (first_highest (λ i. low_end s (e i).lo) ms) → Some (pair-of a 0) ≡ pair_by s (HugOuter t) e ns ms
  unfolding first_pair
  outer-then t is least greatest a x h k = then-pair s (HugOuter t) e ns ms (pair-of a 0) (sym (outer-refuted t is least greatest x) ∙ h) (ap (λ z. pair-of z 0) k)

  pub outer-else : (t : ℤ) → IsPair s (HugOuter t) → (least greatest : Ends) → AreExtremes (map e ms) least greatest → list_all (λ v. passes_by_more s t greatest v) (map e ns) ≡ false → None ≡ pair_by s (HugOuter t) e ns ms
  outer-else t is least greatest x h = else-pair s (HugOuter t) e ns ms (sym (outer-refuted t is least greatest x) ∙ h)

  pub outer-empty : (t : ℤ) → IsPair s (HugOuter t) → ms ≡ [] → None ≡ pair_by s (HugOuter t) e ns ms
  outer-empty t is z = else-pair s (HugOuter t) e ns ms (outer-is s t is (map e ns) (map e ms) ∙ ap (λ xs. list_any (λ b. list_all (λ a. passes_by_more s t b a) (map e ns)) (map e xs)) z)

-- ---- a condition
pub pair-is : (b : PlacedEnds) (base : V3) (rows : List Row) (c : Condition)
    → pair_by c.surface c.demand (ends_by b base c rows) (numbers_where (belongs c) rows) (numbers_where (is_of_feature c) rows) ≡ refuting_pair b base rows c
unfolding pair_by refuting_pair
pair-is b base rows c =
    ap (λ t. cond t (Some (first_pair c.surface c.demand (ends_by b base c rows) (numbers_where (belongs c) rows) (numbers_where (is_of_feature c) rows))) None) (sym (refuted-is b base rows c))
