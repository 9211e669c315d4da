-- A condition that holds by its written test is met at every placement of the box.
use Rattle.std.proofs.Common.{◌≡◌, refl, sym, subst, ℕ, suc, ◌*◌, ◌^◌, List, [], ◌∷◌, map, Bool, true, false, ◌&&◌, ◌||◌, Option, Some, None, arith, inl, inr, ⊎_elim}
use Rattle.std.proofs.lemmas.Bool.{false≢true}
use Rattle.std.proofs.lemmas.Float.{T_from_true}
use Rattle.std.proofs.lemmas.Int.{ints}
use Rattle.std.proofs.lemmas.List.Elements.{All-cons, All-nil}
use Rattle.std.specs.List.{All, Any, list_all, list_any}
use Rattle.std.specs.Option.{IfSome}
use Rattle.std.specs.Prelude.{ℤ, pos, neg_ℤ, ◌-ℤ◌, ◌*ℤ◌, ◌≤ℤ◌, ◌⊎◌, int_le}
use Rattle.gd_int.proofs.Integers.{mul-sub_left, neg-mul_left}
use Rattle.gd_int.proofs.Orders.{at_least_from_cmp, at_most_from_cmp}
use Rattle.gd_int.specs.Comparisons.{AtMost, RootAtMost}
use Rattle.gd_interval.specs.Interval.{Inside}
use Rattle.gd_points.specs.declared.table.Row.{Row}
use Rattle.gd_quat.specs.Formulas.{Ends}
use Rattle.gd_zone.proofs.Comparisons.{at-most, ceil-root_sign, farthest-above, floor-root_sign, nearest-below, root-at_most, square-at_least, square-at_most}
use Rattle.gd_zone.specs.Conditions.{DistanceDemand, HasBounds, PlaneDemand, four, squared_bound, twice}
use Rattle.gd_zone.specs.Tests.{distance_holds, distance_within, farthest, is_at_least, is_at_most, nearest, passes, plane_holds, plane_within, square_bound}
use Rattle.gd_zone.specs.declared.condition.Demand.{Demand}
use Rattle.gd_zone.specs.declared.condition.Demand.TheVariants.{Within, Spread, Contact, HugInner, HugOuter}

-- ---- tests of all, and of some
and-left : (a b : Bool) → (a && b) ≡ true → a ≡ true
and-left true b h = refl
and-left false b h = h

and-right : (a b : Bool) → (a && b) ≡ true → b ≡ true
and-right true b h = h
and-right false b h = cc

or-cases : (a b : Bool) → (a || b) ≡ true → (a ≡ true) ⊎ (b ≡ true)
or-cases true b h = inl refl
or-cases false b h = inr h

le-true : (a b : ℤ) → int_le a b ≡ true → a ≤ℤ b
le-true a b h = record { le = T_from_true (int_le a b) h }

all-sound : (f : Ends → Bool) (P : ℤ → Type 0) (e : Row → Ends) (x : Row → ℤ) (rows : List Row) → ((r : Row) → f (e r) ≡ true → P (x r)) → list_all f (map e rows) ≡ true → All P (map x rows)
all-sound f P e x [] g h = All-nil P
all-sound f P e x (r ∷ rows) g h = All-cons P (x r) (map x rows) (g r (and-left (f (e r)) (list_all f (map e rows)) h)) (all-sound f P e x rows g (and-right (f (e r)) (list_all f (map e rows)) h))

any-here : (P : ℤ → Type 0) (y : ℤ) (ys : List ℤ) → P y → Any P (y ∷ ys)
any-here P y ys p = (0, y, omega arith, refl, p)

any-there : (P : ℤ → Type 0) (y : ℤ) (ys : List ℤ) → Any P ys → Any P (y ∷ ys)
any-there P y ys h = (suc h.0, h.1, omega (arith, h.2), h.3, h.4)

any-sound : (f : Ends → Bool) (P : ℤ → Type 0) (e : Row → Ends) (x : Row → ℤ) (rows : List Row) → ((r : Row) → f (e r) ≡ true → P (x r)) → list_any f (map e rows) ≡ true → Any P (map x rows)
any-sound f P e x [] g h = cc
any-sound f P e x (r ∷ rows) g h = ⊎_elim (λ t. any-here P (x r) (map x rows) (g r t)) (λ t. any-there P (x r) (map x rows) (any-sound f P e x rows g t)) (or-cases (f (e r)) (list_any f (map e rows)) h)

-- ---- a plane: the values of points over k lie between their ends
module _ (n : ℤ) (k : ℕ) (e : Row → Ends) (x : Row → ℤ) (holds : (r : Row) → Inside (e r).lo (e r).hi k (pos (2 ^ 16) *ℤ x r)) where
  upper : (r : Row) (h : ℤ) → is_at_most (e r).hi h n ≡ true → AtMost (twice (x r)) (h *ℤ pos k) n
  upper r h t = at-most (e r).hi (x r) h n k (holds r).1 ((at_most_from_cmp (e r).hi (h *ℤ pos (2 ^ 15)) n).0 t)

  lower : (r : Row) (l : ℤ) → is_at_least (e r).lo l n ≡ true → AtMost (neg_ℤ (twice (x r))) (neg_ℤ (l *ℤ pos k)) n
  lower r l t =
      let a : AtMost (neg_ℤ (e r).lo) (neg_ℤ (l *ℤ pos (2 ^ 15))) n = (at_least_from_cmp (e r).lo (l *ℤ pos (2 ^ 15)) n).0 t in
      let b : AtMost (neg_ℤ (e r).lo) (neg_ℤ l *ℤ pos (2 ^ 15)) n = subst (λ z. AtMost (neg_ℤ (e r).lo) z n) (sym (neg-mul_left l (pos (2 ^ 15)))) a in
      let c = at-most (neg_ℤ (e r).lo) (neg_ℤ (x r)) (neg_ℤ l) n k (opposite (e r).lo (x r) (holds r).0) b in
      subst (λ z. AtMost z (neg_ℤ (l *ℤ pos k)) n) (minus (x r)) (subst (λ z. AtMost (twice (neg_ℤ (x r))) z n) (neg-mul_left l (pos k)) c)
    where
      opposite : (a b : ℤ) → (a *ℤ pos k) ≤ℤ (pos (2 ^ 16) *ℤ b) → (pos (2 ^ 16) *ℤ neg_ℤ b) ≤ℤ (neg_ℤ a *ℤ pos k)
      opposite a b h = omega (arith, ints, h, neg-mul_left a (pos k))

      minus : (b : ℤ) → twice (neg_ℤ b) ≡ neg_ℤ (twice b)
      minus b = omega (arith, ints)

  apart : (a b : Row) (t : ℤ) → is_at_most ((e a).hi -ℤ (e b).lo) t n ≡ true → AtMost (twice (x a -ℤ x b)) (t *ℤ pos k) n
  apart a b t h = at-most ((e a).hi -ℤ (e b).lo) (x a -ℤ x b) t n k (less (e a).hi (e b).lo (x a) (x b) (holds a).1 (holds b).0) ((at_most_from_cmp ((e a).hi -ℤ (e b).lo) (t *ℤ pos (2 ^ 15)) n).0 h)
    where
      less : (u l v w : ℤ) → (pos (2 ^ 16) *ℤ v) ≤ℤ (u *ℤ pos k) → (l *ℤ pos k) ≤ℤ (pos (2 ^ 16) *ℤ w) → (pos (2 ^ 16) *ℤ (v -ℤ w)) ≤ℤ ((u -ℤ l) *ℤ pos k)
      less u l v w h i = omega (arith, ints, h, i, mul-sub_left u l (pos k))

  pub plane-sound : (d : Demand) (rows : List Row) → HasBounds d → plane_holds d n (map e rows) ≡ true → PlaneDemand d (pos k) n (map x rows)
  unfolding plane_holds
  plane-sound (Within lo hi) rows bound h =
      all-sound (plane_within lo hi n) (λ s. IfSome hi (λ g. AtMost (twice s) (g *ℤ pos k) n) × IfSome lo (λ l. AtMost (neg_ℤ (twice s)) (neg_ℤ (l *ℤ pos k)) n)) e x rows
      (λ r t. (top r hi (and-left (passes (λ h. is_at_most (e r).hi h n) hi) (passes (λ l. is_at_least (e r).lo l n) lo) t), low r lo (and-right (passes (λ h. is_at_most (e r).hi h n) hi) (passes (λ l. is_at_least (e r).lo l n) lo) t))) h
    where
      top : (r : Row) (o : Option ℤ) → passes (λ h. is_at_most (e r).hi h n) o ≡ true → IfSome o (λ g. AtMost (twice (x r)) (g *ℤ pos k) n)
      top r None t = tt {0}
      top r (Some g) t = upper r g t

      low : (r : Row) (o : Option ℤ) → passes (λ l. is_at_least (e r).lo l n) o ≡ true → IfSome o (λ l. AtMost (neg_ℤ (twice (x r))) (neg_ℤ (l *ℤ pos k)) n)
      low r None t = tt {0}
      low r (Some l) t = lower r l t
  plane-sound (Spread t) rows bound h = (
    bound.0,
    all-sound (λ a. list_all (λ b. is_at_most (a.hi -ℤ b.lo) t n) (map e rows)) (λ a. All (λ b. AtMost (twice (a -ℤ b)) (t *ℤ pos k) n) (map x rows)) e x rows
        (λ a i. all-sound (λ b. is_at_most ((e a).hi -ℤ b.lo) t n) (λ b. AtMost (twice (x a -ℤ b)) (t *ℤ pos k) n) e x rows (λ b j. apart a b t j) i) h,
  )
  plane-sound (Contact hi) rows bound h = any-sound (λ v. is_at_most v.hi hi n) (λ s. AtMost (twice s) (hi *ℤ pos k) n) e x rows (λ r t. upper r hi t) h
  plane-sound (HugInner slack) rows bound h = absurd (false≢true h)
  plane-sound (HugOuter slack) rows bound h = absurd (false≢true h)

-- ---- an axis or a ball: the squared distances over k^2 lie between their ends, and none is below 0
module _ (n : ℤ) (n0 : pos 0 ≤ℤ n) (k : ℕ) (e : Row → Ends) (x : Row → ℤ) (holds : (r : Row) → Inside (e r).lo (e r).hi (k * k) (pos (2 ^ 32) *ℤ x r))
    (positive : (r : Row) → pos 0 ≤ℤ x r) (ordered : (r : Row) → (pos 0 ≤ℤ (e r).lo) × ((e r).lo ≤ℤ (e r).hi)) where
  distances : (a b : Row) (t : ℤ) → pos 0 ≤ℤ t → is_at_most (farthest (e a) -ℤ nearest (e b)) t n ≡ true → RootAtMost (four (x a)) (four (x b)) (squared_bound t (pos k) n)
  distances a b t p h =
      root-at_most (e a).hi (e b).lo (farthest (e a)) (nearest (e b)) (x a) (x b) t n k (positive a) (positive b) n0 p (ceil-root_sign (e a).hi) (floor-root_sign (e b).lo) (holds a).1 (holds b).0
      (farthest-above (e a)) (nearest-below (e b) (ordered b).0) ((at_most_from_cmp (farthest (e a) -ℤ nearest (e b)) (t *ℤ pos (2 ^ 15)) n).0 h)

  pub distance-sound : (d : Demand) (rows all : List Row) → HasBounds d → distance_holds d n (map e rows) (map e all) ≡ true → DistanceDemand d (pos k) n (map x rows) (map x all)
  unfolding distance_holds
  distance-sound (Within lo hi) rows all bound h =
      all-sound (distance_within lo hi n) (λ c. IfSome hi (λ g. (pos 0 ≤ℤ g) × (four c ≤ℤ squared_bound g (pos k) n)) × IfSome lo (λ l. (l ≤ℤ pos 0) ⊎ (squared_bound l (pos k) n ≤ℤ four c))) e x rows
      (λ r t. (
        top r hi (and-left (passes (λ h. int_le (pos 0) h && int_le (e r).hi (square_bound h n)) hi) (passes (λ l. int_le l (pos 0) || int_le (square_bound l n) (e r).lo) lo) t),
        low r lo (and-right (passes (λ h. int_le (pos 0) h && int_le (e r).hi (square_bound h n)) hi) (passes (λ l. int_le l (pos 0) || int_le (square_bound l n) (e r).lo) lo) t),
      )) h
    where
      top : (r : Row) (o : Option ℤ) → passes (λ h. int_le (pos 0) h && int_le (e r).hi (square_bound h n)) o ≡ true → IfSome o (λ g. (pos 0 ≤ℤ g) × (four (x r) ≤ℤ squared_bound g (pos k) n))
      top r None t = tt {0}
      top r (Some g) t = (
        le-true (pos 0) g (and-left (int_le (pos 0) g) (int_le (e r).hi (square_bound g n)) t),
        square-at_most (e r).hi (x r) g n k (holds r).1 (le-true (e r).hi (square_bound g n) (and-right (int_le (pos 0) g) (int_le (e r).hi (square_bound g n)) t)),
      )

      low : (r : Row) (o : Option ℤ) → passes (λ l. int_le l (pos 0) || int_le (square_bound l n) (e r).lo) o ≡ true → IfSome o (λ l. (l ≤ℤ pos 0) ⊎ (squared_bound l (pos k) n ≤ℤ four (x r)))
      low r None t = tt {0}
      low r (Some l) t = ⊎_elim (λ u. inl (le-true l (pos 0) u)) (λ u. inr (square-at_least (e r).lo (x r) l n k (holds r).0 (le-true (square_bound l n) (e r).lo u))) (or-cases (int_le l (pos 0)) (int_le (square_bound l n) (e r).lo) t)
  distance-sound (Spread t) rows all bound h = (
    bound.0,
    all-sound (λ a. list_all (λ b. is_at_most (farthest a -ℤ nearest b) t n) (map e rows)) (λ a. All (λ b. RootAtMost (four a) (four b) (squared_bound t (pos k) n)) (map x rows)) e x rows
        (λ a i. all-sound (λ b. is_at_most (farthest (e a) -ℤ nearest b) t n) (λ b. RootAtMost (four (x a)) (four b) (squared_bound t (pos k) n)) e x rows (λ b j. distances a b t bound.0 j) i) h,
  )
  distance-sound (Contact hi) rows all bound h = absurd (false≢true h)
  distance-sound (HugInner t) rows all bound h = (
    bound.0,
    any-sound (λ a. list_all (λ b. is_at_most (farthest a -ℤ nearest b) t n) (map e all)) (λ a. All (λ b. RootAtMost (four a) (four b) (squared_bound t (pos k) n)) (map x all)) e x rows
        (λ a i. all-sound (λ b. is_at_most (farthest (e a) -ℤ nearest b) t n) (λ b. RootAtMost (four (x a)) (four b) (squared_bound t (pos k) n)) e x all (λ b j. distances a b t bound.0 j) i) h,
  )
  distance-sound (HugOuter t) rows all bound h = (
    bound.0,
    any-sound (λ a. list_all (λ b. is_at_most (farthest b -ℤ nearest a) t n) (map e all)) (λ a. All (λ b. RootAtMost (four b) (four a) (squared_bound t (pos k) n)) (map x all)) e x rows
        (λ a i. all-sound (λ b. is_at_most (farthest b -ℤ nearest (e a)) t n) (λ b. RootAtMost (four b) (four (x a)) (squared_bound t (pos k) n)) e x all (λ b j. distances b a t bound.0 j) i) h,
  )
