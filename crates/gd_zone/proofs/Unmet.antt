-- A condition that is refuted by its written test is met at no placement of the box.
use Rattle.std.proofs.Common.{◌≡◌, refl, sym, subst, ℕ, zero, suc, ◌*◌, ◌^◌, ◌<◌, List, [], ◌∷◌, map, filter, Bool, true, false, not, ◌&&◌, ◌||◌, Option, Some, None, arith, inl, inr, ⊎_elim}
use Rattle.std.proofs.lemmas.Bool.{false≢true}
use Rattle.std.proofs.lemmas.Float.{T_from_true}
use Rattle.std.proofs.lemmas.Int.{ints}
use Rattle.std.proofs.Math.Nat.{mul-pos}
use Rattle.std.specs.List.{All, Any, list_all, list_any}
use Rattle.std.specs.Option.{IfSome}
use Rattle.std.specs.Prelude.{ℤ, pos, neg_ℤ, ◌-ℤ◌, ◌*ℤ◌, ◌≤ℤ◌, ◌<ℤ◌, ◌⊎◌, int_lt}
use Rattle.gd_int.proofs.Integers.{mul-sub_left, neg-mul_left}
use Rattle.gd_int.proofs.Orders.{at_least_from_cmp, at_most_from_cmp}
use Rattle.gd_int.specs.Comparisons.{AtMost, RootAtMost}
use Rattle.gd_interval.specs.Interval.{Inside}
use Rattle.gd_points.specs.declared.table.Row.{Row}
use Rattle.gd_quat.specs.Formulas.{Ends, turned_formula}
use Rattle.gd_quat.specs.Placements.{IsPlacement, Placement, denominator_of}
use Rattle.gd_vec.specs.Vector.{difference, norm2_of}
use Rattle.gd_vec.specs.declared.vector.V3.{V3}
use Rattle.gd_zone.proofs.Comparisons.{at-most-out, ceil-root_sign, farthest-above, floor-root_sign, nearest-below, root-at_most-out, square-at_least-out, square-at_most-out}
use Rattle.gd_zone.proofs.Encloses.{inside-value, planes-apart, turned-along-inside, turned_along}
use Rattle.gd_zone.proofs.Ordered.{axis-ordered, ball-ordered, norm2-nonneg}
use Rattle.gd_zone.proofs.Spreads.{spread-moved}
use Rattle.gd_zone.specs.Boxes.{HoldsPlacement, placed_ends}
use Rattle.gd_zone.specs.Conditions.{DistanceDemand, Meets, MeetsDemand, PlaneDemand, belongs, cross, exact_value, four, from_surface, is_of_feature, squared_bound, twice}
use Rattle.gd_zone.specs.Refutations.{RefutedIsUnmet, condition_refuted, distance_outside, distance_refuted, fails, is_less, is_more, plane_outside, plane_refuted, surface_refuted}
use Rattle.gd_zone.specs.Tests.{demanded_ends, farthest, is_at_least, is_at_most, nearest, square_bound}
use Rattle.gd_zone.specs.Values.{along, value_ends}
use Rattle.gd_zone.specs.declared.condition.Demand.{Demand}
use Rattle.gd_zone.specs.declared.condition.Demand.TheVariants.{Within, Spread, Contact, HugInner, HugOuter}
use Rattle.gd_zone.specs.declared.condition.Surface.{Surface}
use Rattle.gd_zone.specs.declared.condition.Surface.TheVariants.{Plane, Axis, Ball}
use Rattle.gd_zone.specs.declared.placed.Placed.{Placed}

-- ---- tests
and-left : (a b : Bool) → (a && b) ≡ true → a ≡ true
and-left true b h = refl
and-left false b h = h

and-right : (a b : Bool) → (a && b) ≡ true → b ≡ true
and-right true b h = h
and-right false b h = cc

or-cases : (a b : Bool) → (a || b) ≡ true → (a ≡ true) ⊎ (b ≡ true)
or-cases true b h = inl refl
or-cases false b h = inr h

not-both : (a : Bool) → not a ≡ true → a ≡ true → ⊥
not-both true h k = false≢true h
not-both false h k = false≢true k

lt-true : (a b : ℤ) → int_lt a b ≡ true → a <ℤ b
lt-true a b h = record { lt = T_from_true (int_lt a b) h }

apart-z : (a b : ℤ) → a <ℤ b → b ≤ℤ a → ⊥
apart-z a b h k = absurd (omega (arith, ints, h, k))

-- ---- one that fails against all, and all that fail against one
head-of : (P : ℤ → Type 0) (y : ℤ) (ys : List ℤ) → All P (y ∷ ys) → P y
head-of P y ys h = h 0 y (omega arith)

tail-of : (P : ℤ → Type 0) (y : ℤ) (ys : List ℤ) → All P (y ∷ ys) → All P ys
tail-of P y ys h k d l = h (suc k) d (omega (arith, l))

any-out : (f : Ends → Bool) (P : ℤ → Type 0) (e : Row → Ends) (x : Row → ℤ) (rows : List Row) → ((r : Row) → f (e r) ≡ true → P (x r) → ⊥) → list_any f (map e rows) ≡ true → All P (map x rows) → ⊥
any-out f P e x [] g h a = cc
any-out f P e x (r ∷ rows) g h a = ⊎_elim (λ t. g r t (head-of P (x r) (map x rows) a)) (λ t. any-out f P e x rows g t (tail-of P (x r) (map x rows) a)) (or-cases (f (e r)) (list_any f (map e rows)) h)

any-cases : (P : ℤ → Type 0) (y : ℤ) (ys : List ℤ) → Any P (y ∷ ys) → P y ⊎ Any P ys
any-cases P y ys (zero, z, l, s, p) = inl (subst P (sym s) p)
any-cases P y ys (suc k, z, l, s, p) = inr (k, z, omega (arith, l), s, p)

all-out : (f : Ends → Bool) (P : ℤ → Type 0) (e : Row → Ends) (x : Row → ℤ) (rows : List Row) → ((r : Row) → f (e r) ≡ true → P (x r) → ⊥) → list_all f (map e rows) ≡ true → Any P (map x rows) → ⊥
all-out f P e x [] g h a = absurd (omega (arith, a.2))
all-out f P e x (r ∷ rows) g h a =
    ⊎_elim (λ p. g r (and-left (f (e r)) (list_all f (map e rows)) h) p) (λ b. all-out f P e x rows g (and-right (f (e r)) (list_all f (map e rows)) h) b) (any-cases P (x r) (map x rows) a)

-- one point that does for all of the others does for each of them
for-each : (R : ℤ → ℤ → Type 0) (vs all : List ℤ) → Any (λ a. All (R a) all) vs → All (λ b. Any (λ a. R a b) vs) all
for-each R vs all h k d l = (h.0, h.1, h.2, h.3, h.4 k d l)

-- ---- a plane
module _ (n : ℤ) (k : ℕ) (kp : 0 < k) (e : Row → Ends) (x : Row → ℤ) (holds : (r : Row) → Inside (e r).lo (e r).hi k (pos (2 ^ 16) *ℤ x r)) where
  upper : (r : Row) (h : ℤ) → is_more (e r).lo h n ≡ true → AtMost (twice (x r)) (h *ℤ pos k) n → ⊥
  upper r h t a = not-both (is_at_most (e r).lo h n) t ((at_most_from_cmp (e r).lo (h *ℤ pos (2 ^ 15)) n).1 (at-most-out (e r).lo (x r) h n k kp (holds r).0 a))

  lower : (r : Row) (l : ℤ) → is_less (e r).hi l n ≡ true → AtMost (neg_ℤ (twice (x r))) (neg_ℤ (l *ℤ pos k)) n → ⊥
  lower r l t a =
      let b : AtMost (twice (neg_ℤ (x r))) (neg_ℤ l *ℤ pos k) n = subst (λ z. AtMost (twice (neg_ℤ (x r))) z n) (sym (neg-mul_left l (pos k))) (subst (λ z. AtMost z (neg_ℤ (l *ℤ pos k)) n) (sym (minus (x r))) a) in
      let c : AtMost (neg_ℤ (e r).hi) (neg_ℤ l *ℤ pos (2 ^ 15)) n = at-most-out (neg_ℤ (e r).hi) (neg_ℤ (x r)) (neg_ℤ l) n k kp (opposite (e r).hi (x r) (holds r).1) b in
      not-both (is_at_least (e r).hi l n) t ((at_least_from_cmp (e r).hi (l *ℤ pos (2 ^ 15)) n).1 (subst (λ z. AtMost (neg_ℤ (e r).hi) z n) (neg-mul_left l (pos (2 ^ 15))) c))
    where
      opposite : (a b : ℤ) → (pos (2 ^ 16) *ℤ b) ≤ℤ (a *ℤ pos k) → (neg_ℤ a *ℤ pos k) ≤ℤ (pos (2 ^ 16) *ℤ neg_ℤ b)
      opposite a b h = omega (arith, ints, h, neg-mul_left a (pos k))

      minus : (b : ℤ) → twice (neg_ℤ b) ≡ neg_ℤ (twice b)
      minus b = omega (arith, ints)

  apart : (a b : Row) (t : ℤ) → is_more ((e a).lo -ℤ (e b).hi) t n ≡ true → AtMost (twice (x a -ℤ x b)) (t *ℤ pos k) n → ⊥
  apart a b t h m =
      not-both (is_at_most ((e a).lo -ℤ (e b).hi) t n) h
      ((at_most_from_cmp ((e a).lo -ℤ (e b).hi) (t *ℤ pos (2 ^ 15)) n).1 (at-most-out ((e a).lo -ℤ (e b).hi) (x a -ℤ x b) t n k kp (less (e a).lo (e b).hi (x a) (x b) (holds a).0 (holds b).1) m))
    where
      less : (l u v w : ℤ) → (l *ℤ pos k) ≤ℤ (pos (2 ^ 16) *ℤ v) → (pos (2 ^ 16) *ℤ w) ≤ℤ (u *ℤ pos k) → ((l -ℤ u) *ℤ pos k) ≤ℤ (pos (2 ^ 16) *ℤ (v -ℤ w))
      less l u v w h i = omega (arith, ints, h, i, mul-sub_left l u (pos k))

  pub plane-unmet : (d : Demand) (rows : List Row) → plane_refuted d n (map e rows) ≡ true → PlaneDemand d (pos k) n (map x rows) → ⊥
  unfolding plane_refuted
  plane-unmet (Within lo hi) rows h m =
      any-out (plane_outside lo hi n) (λ s. IfSome hi (λ g. AtMost (twice s) (g *ℤ pos k) n) × IfSome lo (λ l. AtMost (neg_ℤ (twice s)) (neg_ℤ (l *ℤ pos k)) n)) e x rows
      (λ r t a. ⊎_elim (λ u. top r hi u a.0) (λ u. low r lo u a.1) (or-cases (fails (λ h. is_more (e r).lo h n) hi) (fails (λ l. is_less (e r).hi l n) lo) t)) h m
    where
      top : (r : Row) (o : Option ℤ) → fails (λ h. is_more (e r).lo h n) o ≡ true → IfSome o (λ g. AtMost (twice (x r)) (g *ℤ pos k) n) → ⊥
      top r None t a = false≢true t
      top r (Some g) t a = upper r g t a

      low : (r : Row) (o : Option ℤ) → fails (λ l. is_less (e r).hi l n) o ≡ true → IfSome o (λ l. AtMost (neg_ℤ (twice (x r))) (neg_ℤ (l *ℤ pos k)) n) → ⊥
      low r None t a = false≢true t
      low r (Some l) t a = lower r l t a
  plane-unmet (Spread t) rows h m =
      any-out (λ a. list_any (λ b. is_more (a.lo -ℤ b.hi) t n) (map e rows)) (λ a. All (λ b. AtMost (twice (a -ℤ b)) (t *ℤ pos k) n) (map x rows)) e x rows
      (λ a i p. any-out (λ b. is_more ((e a).lo -ℤ b.hi) t n) (λ b. AtMost (twice (x a -ℤ b)) (t *ℤ pos k) n) e x rows (λ b j q. apart a b t j q) i p) h m.1
  plane-unmet (Contact hi) rows h m = all-out (λ v. is_more v.lo hi n) (λ s. AtMost (twice s) (hi *ℤ pos k) n) e x rows (λ r t a. upper r hi t a) h m
  plane-unmet (HugInner slack) rows h m = m
  plane-unmet (HugOuter slack) rows h m = m

-- ---- an axis or a ball
module _ (n : ℤ) (n0 : pos 0 ≤ℤ n) (k : ℕ) (kp : 0 < k) (e : Row → Ends) (x : Row → ℤ) (holds : (r : Row) → Inside (e r).lo (e r).hi (k * k) (pos (2 ^ 32) *ℤ x r))
    (positive : (r : Row) → pos 0 ≤ℤ x r) (ordered : (r : Row) → (pos 0 ≤ℤ (e r).lo) × ((e r).lo ≤ℤ (e r).hi)) where
  distances : (a b : Row) (t : ℤ) → pos 0 ≤ℤ t → is_more (nearest (e a) -ℤ farthest (e b)) t n ≡ true → RootAtMost (four (x a)) (four (x b)) (squared_bound t (pos k) n) → ⊥
  distances a b t p h m =
      not-both (is_at_most (nearest (e a) -ℤ farthest (e b)) t n) h
      ((at_most_from_cmp (nearest (e a) -ℤ farthest (e b)) (t *ℤ pos (2 ^ 15)) n).1
      (root-at_most-out (e a).lo (e b).hi (nearest (e a)) (farthest (e b)) (x a) (x b) t n k kp (positive a) (positive b) n0 p (floor-root_sign (e a).lo) (ceil-root_sign (e b).hi) (holds a).0 (holds b).1
      (nearest-below (e a) (ordered a).0) (farthest-above (e b)) m))

  pub distance-unmet : (d : Demand) (rows all : List Row) → distance_refuted d n (map e rows) (map e all) ≡ true → DistanceDemand d (pos k) n (map x rows) (map x all) → ⊥
  unfolding distance_refuted
  distance-unmet (Within lo hi) rows all h m =
      any-out (distance_outside lo hi n) (λ c. IfSome hi (λ g. (pos 0 ≤ℤ g) × (four c ≤ℤ squared_bound g (pos k) n)) × IfSome lo (λ l. (l ≤ℤ pos 0) ⊎ (squared_bound l (pos k) n ≤ℤ four c))) e x rows
      (λ r t a. ⊎_elim (λ u. top r hi u a.0) (λ u. low r lo u a.1) (or-cases (fails (λ h. int_lt h (pos 0) || int_lt (square_bound h n) (e r).lo) hi) (fails (λ l. int_lt (pos 0) l && int_lt (e r).hi (square_bound l n)) lo) t)) h m
    where
      top : (r : Row) (o : Option ℤ) → fails (λ h. int_lt h (pos 0) || int_lt (square_bound h n) (e r).lo) o ≡ true → IfSome o (λ g. (pos 0 ≤ℤ g) × (four (x r) ≤ℤ squared_bound g (pos k) n)) → ⊥
      top r None t a = false≢true t
      top r (Some g) t a = ⊎_elim (λ u. apart-z g (pos 0) (lt-true g (pos 0) u) a.0) (λ u. apart-z (square_bound g n) (e r).lo (lt-true (square_bound g n) (e r).lo u) (square-at_most-out (e r).lo (x r) g n k kp (holds r).0 a.1)) (or-cases (int_lt g (pos 0)) (int_lt (square_bound g n) (e r).lo) t)

      low : (r : Row) (o : Option ℤ) → fails (λ l. int_lt (pos 0) l && int_lt (e r).hi (square_bound l n)) o ≡ true → IfSome o (λ l. (l ≤ℤ pos 0) ⊎ (squared_bound l (pos k) n ≤ℤ four (x r))) → ⊥
      low r None t a = false≢true t
      low r (Some l) t a =
          ⊎_elim (λ u. apart-z (pos 0) l (lt-true (pos 0) l (and-left (int_lt (pos 0) l) (int_lt (e r).hi (square_bound l n)) t)) u)
          (λ u. apart-z (e r).hi (square_bound l n) (lt-true (e r).hi (square_bound l n) (and-right (int_lt (pos 0) l) (int_lt (e r).hi (square_bound l n)) t)) (square-at_least-out (e r).hi (x r) l n k kp (holds r).1 u)) a
  distance-unmet (Spread t) rows all h m =
      any-out (λ a. list_any (λ b. is_more (nearest a -ℤ farthest b) t n) (map e rows)) (λ a. All (λ b. RootAtMost (four a) (four b) (squared_bound t (pos k) n)) (map x rows)) e x rows
      (λ a i p. any-out (λ b. is_more (nearest (e a) -ℤ farthest b) t n) (λ b. RootAtMost (four (x a)) (four b) (squared_bound t (pos k) n)) e x rows (λ b j q. distances a b t m.0 j q) i p) h m.1
  distance-unmet (Contact hi) rows all h m = m
  distance-unmet (HugInner t) rows all h m =
      any-out (λ b. list_all (λ a. is_more (nearest a -ℤ farthest b) t n) (map e rows)) (λ b. Any (λ a. RootAtMost (four a) (four b) (squared_bound t (pos k) n)) (map x rows)) e x all
      (λ b i p. all-out (λ a. is_more (nearest a -ℤ farthest (e b)) t n) (λ a. RootAtMost (four a) (four (x b)) (squared_bound t (pos k) n)) e x rows (λ a j q. distances a b t m.0 j q) i p) h
      (for-each (λ a b. RootAtMost (four a) (four b) (squared_bound t (pos k) n)) (map x rows) (map x all) m.1)
  distance-unmet (HugOuter t) rows all h m =
      any-out (λ b. list_all (λ a. is_more (nearest b -ℤ farthest a) t n) (map e rows)) (λ b. Any (λ a. RootAtMost (four b) (four a) (squared_bound t (pos k) n)) (map x rows)) e x all
      (λ b i p. all-out (λ a. is_more (nearest (e b) -ℤ farthest a) t n) (λ a. RootAtMost (four (x b)) (four a) (squared_bound t (pos k) n)) e x rows (λ a j q. distances b a t m.0 j q) i p) h
      (for-each (λ a b. RootAtMost (four b) (four a) (squared_bound t (pos k) n)) (map x rows) (map x all) m.1)

-- ---- all surfaces and demands
module _ (b : Placed) (p : Placement) (ok : IsPlacement p) (held : HoldsPlacement b p) (base : V3) (offset : ℕ) (rows all : List Row) where
  counts : 0 < denominator_of p
  counts = mul-pos ok.turn (omega (arith, ok.scale))

  -- a plane, but for a spread
  plane-by : (n a : V3) (d : Demand) → plane_refuted d (norm2_of n) (map (λ (r : Row). value_ends (Plane n a) (placed_ends b) offset (difference r.at base)) rows) ≡ true
      → PlaneDemand d (pos (denominator_of p)) (norm2_of n) (map (λ (r : Row). exact_value (Plane n a) p offset (difference r.at base)) rows) → ⊥
  plane-by n a d h m =
      plane-unmet (norm2_of n) (denominator_of p) counts (λ (r : Row). value_ends (Plane n a) (placed_ends b) offset (difference r.at base)) (λ (r : Row). exact_value (Plane n a) p offset (difference r.at base))
      (λ r. inside-value (Plane n a) b offset (difference r.at base) p held) d rows h m

  -- a spread along a direction, where all but the turned vectors cancels
  spread-by : (n a : V3) (t : ℤ) → plane_refuted (Spread t) (norm2_of n) (map (λ (r : Row). along n (turned_formula (placed_ends b).matrix (difference r.at base))) rows) ≡ true
      → PlaneDemand (Spread t) (pos (denominator_of p)) (norm2_of n) (map (λ (r : Row). exact_value (Plane n a) p offset (difference r.at base)) rows) → ⊥
  spread-by n a t h m =
      plane-unmet (norm2_of n) (denominator_of p) counts (λ (r : Row). along n (turned_formula (placed_ends b).matrix (difference r.at base))) (λ (r : Row). turned_along n p (difference r.at base))
      (λ r. turned-along-inside n b (difference r.at base) p held) (Spread t) rows h (
        m.0,
        spread-moved (t *ℤ pos (denominator_of p)) (norm2_of n) (λ (r : Row). exact_value (Plane n a) p offset (difference r.at base)) (λ (r : Row). turned_along n p (difference r.at base)) rows
            (λ v w. planes-apart n a p offset (difference v.at base) (difference w.at base)) m.1,
      )

  unmet-by : (s : Surface) (d : Demand)
      → surface_refuted s d (map (λ (r : Row). demanded_ends s d (placed_ends b) offset (difference r.at base)) rows) (map (λ (r : Row). demanded_ends s d (placed_ends b) offset (difference r.at base)) all) ≡ true
      → MeetsDemand s d (pos (denominator_of p)) (map (λ (r : Row). exact_value s p offset (difference r.at base)) rows) (map (λ (r : Row). exact_value s p offset (difference r.at base)) all) → ⊥
  unmet-by (Plane n a) (Spread t) h m = spread-by n a t h m
  unmet-by (Plane n a) (Within lo hi) h m = plane-by n a (Within lo hi) h m
  unmet-by (Plane n a) (Contact hi) h m = plane-by n a (Contact hi) h m
  unmet-by (Plane n a) (HugInner t) h m = plane-by n a (HugInner t) h m
  unmet-by (Plane n a) (HugOuter t) h m = plane-by n a (HugOuter t) h m
  unmet-by (Axis n a) d h m =
      distance-unmet (norm2_of n) (norm2-nonneg n) (denominator_of p) counts (λ (r : Row). value_ends (Axis n a) (placed_ends b) offset (difference r.at base)) (λ (r : Row). exact_value (Axis n a) p offset (difference r.at base))
      (λ r. inside-value (Axis n a) b offset (difference r.at base) p held) (λ r. norm2-nonneg (cross n (from_surface p offset a (difference r.at base)))) (λ r. axis-ordered n a b offset (difference r.at base)) d rows all h m
  unmet-by (Ball a) d h m =
      distance-unmet (pos 1) (omega (arith, ints)) (denominator_of p) counts (λ (r : Row). value_ends (Ball a) (placed_ends b) offset (difference r.at base)) (λ (r : Row). exact_value (Ball a) p offset (difference r.at base))
      (λ r. inside-value (Ball a) b offset (difference r.at base) p held) (λ r. norm2-nonneg (from_surface p offset a (difference r.at base))) (λ r. ball-ordered a b offset (difference r.at base)) d rows all h m

pub refuted-is-unmet : RefutedIsUnmet
unfolding Meets condition_refuted
refuted-is-unmet b p base rows c ok held is h m = unmet-by b p ok held base c.offset (filter (belongs c) rows) (filter (is_of_feature c) rows) c.surface c.demand h m
