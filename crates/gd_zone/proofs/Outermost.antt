-- The extremes of values, one value after another.
use Rattle.std.proofs.Common.{◌≡◌, refl, sym, subst, ap, ◌∙◌, ℕ, zero, suc, ◌+◌, ◌<◌, ◌≤◌, List, map, length, get_or, Bool, true, false, cond, ◌==◌, arith, inl, inr, ⊎_elim}
use Rattle.std.proofs.lemmas.Bool.{cases_lt, false≢true}
use Rattle.std.proofs.lemmas.Int.{ints, clamps}
use Rattle.std.proofs.lemmas.List.{get_or-map, length-map}
use Rattle.std.specs.Int.{int_max, int_min}
use Rattle.std.specs.Prelude.{ℤ, ◌≤ℤ◌, ◌⊎◌, int_lt}
use Rattle.gd_quat.specs.Formulas.{Ends}
use Rattle.gd_zone.specs.Extremes.{AreExtremes, IsGreatest, IsLeast, lower, upper}

-- one of both is the lesser, and one the greater
min-is : (x y : ℤ) → (int_min x y ≡ x) ⊎ (int_min x y ≡ y)
min-is x y = by (int_lt y x)
  where
    by : (t : Bool) → (cond t y x ≡ x) ⊎ (cond t y x ≡ y)
    by true = inr refl
    by false = inl refl

max-is : (x y : ℤ) → (int_max x y ≡ x) ⊎ (int_max x y ≡ y)
max-is x y = ⊎_elim (λ h. inl h) (λ h. inr h) (either x y)
  where
    either : (x y : ℤ) → (int_max x y ≡ x) ⊎ (int_max x y ≡ y)
    either x y = by (int_lt x y) refl
      where
        by : (t : Bool) → int_lt x y ≡ t → (int_max x y ≡ x) ⊎ (int_max x y ≡ y)
        by true e = inr (omega (arith, ints, clamps))
        by false e = inl (omega (arith, ints, clamps))

-- ---- the extremes of f at the first k numbers
pub record LeastTo (f : ℕ → ℤ) (ns : List ℕ) (k : ℕ) (x : ℤ) : Type 0 where
  pub below : (j : ℕ) → j < k → x ≤ℤ f (get_or ns j 0)
  pub place : ℕ
  pub inside : place < k
  pub reached : f (get_or ns place 0) ≡ x

pub record GreatestTo (f : ℕ → ℤ) (ns : List ℕ) (k : ℕ) (x : ℤ) : Type 0 where
  pub above : (j : ℕ) → j < k → f (get_or ns j 0) ≤ℤ x
  pub place : ℕ
  pub inside : place < k
  pub reached : f (get_or ns place 0) ≡ x

least-first : (f : ℕ → ℤ) (ns : List ℕ) → LeastTo f ns 1 (f (get_or ns 0 0))
least-first f ns = record { below = λ j h. at j h; place = 0; inside = omega arith; reached = refl }
  where
    at : (j : ℕ) → j < 1 → f (get_or ns 0 0) ≤ℤ f (get_or ns j 0)
    at zero h = omega (arith, ints)
    at (suc j) h = absurd (omega (arith, h))

greatest-first : (f : ℕ → ℤ) (ns : List ℕ) → GreatestTo f ns 1 (f (get_or ns 0 0))
greatest-first f ns = record { above = λ j h. at j h; place = 0; inside = omega arith; reached = refl }
  where
    at : (j : ℕ) → j < 1 → f (get_or ns j 0) ≤ℤ f (get_or ns 0 0)
    at zero h = omega (arith, ints)
    at (suc j) h = absurd (omega (arith, h))

-- j is below k, or is k
last-or : (j k : ℕ) → j < k + 1 → (j < k) ⊎ (j ≡ k)
last-or j k h = elim (cases_lt j k) as (λ _. (j < k) ⊎ (j ≡ k)) [ inl l ↦ inl l | inr l ↦ inr (omega (arith, h, l)) ]

-- what all below k have, and k too
pub below-more : (P : ℕ → Type 0) (k : ℕ) → ((j : ℕ) → j < k → P j) → P k → (j : ℕ) → j < k + 1 → P j
below-more P k all last j l = ⊎_elim (λ m. all j m) (λ e. subst P (sym e) last) (last-or j k l)

least-more : (f : ℕ → ℤ) (ns : List ℕ) (k : ℕ) (x y : ℤ) → LeastTo f ns k x → f (get_or ns k 0) ≡ y → LeastTo f ns (k + 1) (int_min x y)
least-more f ns k x y h e = ⊎_elim old new (min-is x y)
  where
    all : (j : ℕ) → j < k + 1 → int_min x y ≤ℤ f (get_or ns j 0)
    all j l = ⊎_elim (λ m. let b = h.below j m in omega (arith, ints, clamps, b)) (λ m. subst (λ i. int_min x y ≤ℤ f (get_or ns i 0)) (sym m) (omega (arith, ints, clamps, e))) (last-or j k l)

    old : int_min x y ≡ x → LeastTo f ns (k + 1) (int_min x y)
    old s = record { below = all; place = h.place; inside = omega (arith, h.inside); reached = h.reached ∙ sym s }

    new : int_min x y ≡ y → LeastTo f ns (k + 1) (int_min x y)
    new s = record { below = all; place = k; inside = omega arith; reached = e ∙ sym s }

greatest-more : (f : ℕ → ℤ) (ns : List ℕ) (k : ℕ) (x y : ℤ) → GreatestTo f ns k x → f (get_or ns k 0) ≡ y → GreatestTo f ns (k + 1) (int_max x y)
greatest-more f ns k x y h e = ⊎_elim old new (max-is x y)
  where
    all : (j : ℕ) → j < k + 1 → f (get_or ns j 0) ≤ℤ int_max x y
    all j l = ⊎_elim (λ m. let b = h.above j m in omega (arith, ints, clamps, b)) (λ m. subst (λ i. f (get_or ns i 0) ≤ℤ int_max x y) (sym m) (omega (arith, ints, clamps, e))) (last-or j k l)

    old : int_max x y ≡ x → GreatestTo f ns (k + 1) (int_max x y)
    old s = record { above = all; place = h.place; inside = omega (arith, h.inside); reached = h.reached ∙ sym s }

    new : int_max x y ≡ y → GreatestTo f ns (k + 1) (int_max x y)
    new s = record { above = all; place = k; inside = omega arith; reached = e ∙ sym s }

-- ---- of all numbers
least-all : (f : ℕ → Ends) (end : Ends → ℤ) (ns : List ℕ) (x : ℤ) → LeastTo (λ i. end (f i)) ns (length ns) x → IsLeast end (map f ns) x
least-all f end ns x h = record {
  below = λ k d l.
      let m : k < length ns = omega (arith, l, length-map ns f) in
      subst (λ v. x ≤ℤ end v) (sym (get_or-map f ns k 0 d m)) (h.below k m);
  reached = (h.place, f (get_or ns h.place 0), omega (arith, h.inside, length-map ns f), get_or-map f ns h.place 0 (f (get_or ns h.place 0)) h.inside, h.reached);
}

greatest-all : (f : ℕ → Ends) (end : Ends → ℤ) (ns : List ℕ) (x : ℤ) → GreatestTo (λ i. end (f i)) ns (length ns) x → IsGreatest end (map f ns) x
greatest-all f end ns x h = record {
  above = λ k d l.
      let m : k < length ns = omega (arith, l, length-map ns f) in
      subst (λ v. end v ≤ℤ x) (sym (get_or-map f ns k 0 d m)) (h.above k m);
  reached = (h.place, f (get_or ns h.place 0), omega (arith, h.inside, length-map ns f), get_or-map f ns h.place 0 (f (get_or ns h.place 0)) h.inside, h.reached);
}

-- ---- all four
pub record ExtremesTo (f : ℕ → Ends) (ns : List ℕ) (k : ℕ) (least greatest : Ends) : Type 0 where
  pub least_lo : LeastTo (λ i. (f i).lo) ns k least.lo
  pub least_hi : LeastTo (λ i. (f i).hi) ns k least.hi
  pub greatest_lo : GreatestTo (λ i. (f i).lo) ns k greatest.lo
  pub greatest_hi : GreatestTo (λ i. (f i).hi) ns k greatest.hi

extremes-first-of : (f : ℕ → Ends) (ns : List ℕ) → ExtremesTo f ns 1 (f (get_or ns 0 0)) (f (get_or ns 0 0))
extremes-first-of f ns = record {
  least_lo = least-first (λ i. (f i).lo) ns;
  least_hi = least-first (λ i. (f i).hi) ns;
  greatest_lo = greatest-first (λ i. (f i).lo) ns;
  greatest_hi = greatest-first (λ i. (f i).hi) ns;
}

pub extremes-first : (f : ℕ → Ends) (ns : List ℕ) (v : Ends) → v ≡ f (get_or ns 0 0) → ExtremesTo f ns 1 v v
extremes-first f ns v e = subst (λ z. ExtremesTo f ns 1 z z) (sym e) (extremes-first-of f ns)

pub extremes-more : (f : ℕ → Ends) (ns : List ℕ) (k : ℕ) (least greatest v l g : Ends) → ExtremesTo f ns k least greatest → v ≡ f (get_or ns k 0)
    → l ≡ lower least v → g ≡ upper greatest v → ExtremesTo f ns (k + 1) l g
extremes-more f ns k least greatest v l g h e m n =
    subst (λ z. ExtremesTo f ns (k + 1) z g) (sym m) (subst (λ z. ExtremesTo f ns (k + 1) (lower least v) z) (sym n) (record {
      least_lo = least-more (λ i. (f i).lo) ns k least.lo v.lo h.least_lo (ap (λ z. z.lo) (sym e));
      least_hi = least-more (λ i. (f i).hi) ns k least.hi v.hi h.least_hi (ap (λ z. z.hi) (sym e));
      greatest_lo = greatest-more (λ i. (f i).lo) ns k greatest.lo v.lo h.greatest_lo (ap (λ z. z.lo) (sym e));
      greatest_hi = greatest-more (λ i. (f i).hi) ns k greatest.hi v.hi h.greatest_hi (ap (λ z. z.hi) (sym e));
    }))

pub extremes-all : (f : ℕ → Ends) (ns : List ℕ) (k : ℕ) (least greatest : Ends) → k ≡ length ns → ExtremesTo f ns k least greatest → AreExtremes (map f ns) least greatest
extremes-all f ns k least greatest e h =
    let g : ExtremesTo f ns (length ns) least greatest = subst (λ z. ExtremesTo f ns z least greatest) e h in
    record {
      least_lo = least-all f (λ v. v.lo) ns least.lo g.least_lo;
      least_hi = least-all f (λ v. v.hi) ns least.hi g.least_hi;
      greatest_lo = greatest-all f (λ v. v.lo) ns greatest.lo g.greatest_lo;
      greatest_hi = greatest-all f (λ v. v.hi) ns greatest.hi g.greatest_hi;
    }

-- a list that isn't empty
pub some-of : (n : ℕ) (b : Bool) → b ≡ (n == 0) → b ≡ false → 1 ≤ n
some-of zero b e f = absurd (false≢true (sym f ∙ e))
some-of (suc n) b e f = omega arith
