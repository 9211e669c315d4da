-- One point, or two, against the tolerance: k s is the denominator of their values, c the exact ones, n the squared
-- length of the direction.
use Rattle.std.proofs.Common.{◌≡◌, refl, sym, subst, ℕ, ◌*◌, ◌^◌, [], ◌∷◌, arith}
use Rattle.std.proofs.lemmas.Int.{ints}
use Rattle.std.specs.Prelude.{ℤ, pos, ◌-ℤ◌, ◌*ℤ◌, ◌≤ℤ◌, ◌<ℤ◌}
use Rattle.gd_axis.specs.Sizes.{UNIT_SQUARE}
use Rattle.gd_int.proofs.Comparisons.{AtMost-scale_root, AtMost-unscale_root, RootAtMost-from_difference}
use Rattle.gd_int.proofs.Comparisons.{RootAtMost-scale, RootAtMost-second, RootAtMost-to_difference, RootAtMost-unscale}
use Rattle.gd_int.proofs.Integers.{mul_le_left, mul_le_out, mul_le_right_pos, mul_nonneg, mul_pos, square_nonneg}
use Rattle.gd_int.proofs.Integers.{≤ℤ_trans}
use Rattle.gd_int.specs.Comparisons.{AtMost, RootAtMost}
use Rattle.gd_quat.proofs.Polynomials.{var, num, ◌⊖◌, ◌⊗◌, equal}

-- a squared length over k^2, and over (k s)^2
over-both : (m s k : ℤ) → ((k *ℤ s) *ℤ (k *ℤ s)) *ℤ m ≡ (s *ℤ s) *ℤ (m *ℤ (k *ℤ k))
over-both m s k = equal (m ∷ s ∷ k ∷ []) (((var 2 ⊗ var 1) ⊗ (var 2 ⊗ var 1)) ⊗ var 0)
    ((var 1 ⊗ var 1) ⊗ (var 0 ⊗ (var 2 ⊗ var 2))) refl

-- fine units are left out
fine-out : (t s n : ℤ) → (t *ℤ t) *ℤ ((s *ℤ s) *ℤ (pos UNIT_SQUARE *ℤ n))
    ≡ pos UNIT_SQUARE *ℤ ((t *ℤ t) *ℤ ((s *ℤ s) *ℤ n))
fine-out t s n = equal (t ∷ s ∷ n ∷ []) ((var 0 ⊗ var 0) ⊗ ((var 1 ⊗ var 1) ⊗ (num (pos UNIT_SQUARE) ⊗ var 2)))
    (num (pos UNIT_SQUARE) ⊗ ((var 0 ⊗ var 0) ⊗ ((var 1 ⊗ var 1) ⊗ var 2))) refl

apart : (x y k : ℤ) → k *ℤ (x -ℤ y) ≡ (k *ℤ x) -ℤ (k *ℤ y)
apart x y k = equal (x ∷ y ∷ k ∷ []) (var 2 ⊗ (var 0 ⊖ var 1)) (var 2 ⊗ var 0 ⊖ var 2 ⊗ var 1) refl

squared-times : (x : ℤ) (k : ℕ) → (x *ℤ x) *ℤ pos (k * k) ≡ (pos k *ℤ x) *ℤ (pos k *ℤ x)
squared-times x k = equal (x ∷ pos k ∷ []) ((var 0 ⊗ var 0) ⊗ (var 1 ⊗ var 1)) ((var 1 ⊗ var 0) ⊗ (var 1 ⊗ var 0)) refl

four-over : (e k : ℤ) → (pos 4 *ℤ e) *ℤ k ≡ pos 4 *ℤ (e *ℤ k)
four-over e k = equal (e ∷ k ∷ []) ((num (pos 4) ⊗ var 0) ⊗ var 1) (num (pos 4) ⊗ (var 0 ⊗ var 1)) refl

four-fine : (c : ℤ) → pos 4 *ℤ (pos UNIT_SQUARE *ℤ c) ≡ (pos 4 *ℤ c) *ℤ pos UNIT_SQUARE
four-fine c = equal (c ∷ []) (num (pos 4) ⊗ (num (pos UNIT_SQUARE) ⊗ var 0))
    ((num (pos 4) ⊗ var 0) ⊗ num (pos UNIT_SQUARE)) refl

tolerance-over : (t m s k : ℤ) → ((t *ℤ t) *ℤ m) *ℤ ((k *ℤ s) *ℤ (k *ℤ s)) ≡ (t *ℤ t) *ℤ (((k *ℤ s) *ℤ (k *ℤ s)) *ℤ m)
tolerance-over t m s k =
    equal (t ∷ m ∷ s ∷ k ∷ []) (((var 0 ⊗ var 0) ⊗ var 1) ⊗ ((var 3 ⊗ var 2) ⊗ (var 3 ⊗ var 2)))
    ((var 0 ⊗ var 0) ⊗ (((var 3 ⊗ var 2) ⊗ (var 3 ⊗ var 2)) ⊗ var 1)) refl

turned : (a b : ℤ) → a *ℤ b ≡ b *ℤ a
turned a b = omega (arith, ints)

-- ---- the squared length times the squares of the tolerance: m is its lower end, or its upper one
module _ (t s k : ℕ) (m n : ℤ) where
  below : (m *ℤ pos (k * k)) ≤ℤ (pos UNIT_SQUARE *ℤ n)
      → ((pos t *ℤ pos t) *ℤ ((pos (k * s) *ℤ pos (k * s)) *ℤ m))
      ≤ℤ ((pos t *ℤ pos t) *ℤ ((pos s *ℤ pos s) *ℤ (pos UNIT_SQUARE *ℤ n)))
  below h =
      mul_le_left ((pos (k * s) *ℤ pos (k * s)) *ℤ m) ((pos s *ℤ pos s) *ℤ (pos UNIT_SQUARE *ℤ n)) (pos t *ℤ pos t)
      (subst (λ z. z ≤ℤ ((pos s *ℤ pos s) *ℤ (pos UNIT_SQUARE *ℤ n))) (sym (over-both m (pos s) (pos k)))
      (mul_le_left (m *ℤ pos (k * k)) (pos UNIT_SQUARE *ℤ n) (pos s *ℤ pos s) h (square_nonneg (pos s))))
      (square_nonneg (pos t))

  above : (pos UNIT_SQUARE *ℤ n) ≤ℤ (m *ℤ pos (k * k))
      → ((pos t *ℤ pos t) *ℤ ((pos s *ℤ pos s) *ℤ (pos UNIT_SQUARE *ℤ n)))
      ≤ℤ ((pos t *ℤ pos t) *ℤ ((pos (k * s) *ℤ pos (k * s)) *ℤ m))
  above h =
      mul_le_left ((pos s *ℤ pos s) *ℤ (pos UNIT_SQUARE *ℤ n)) ((pos (k * s) *ℤ pos (k * s)) *ℤ m) (pos t *ℤ pos t)
      (subst (λ z. ((pos s *ℤ pos s) *ℤ (pos UNIT_SQUARE *ℤ n)) ≤ℤ z) (sym (over-both m (pos s) (pos k)))
      (mul_le_left (pos UNIT_SQUARE *ℤ n) (m *ℤ pos (k * k)) (pos s *ℤ pos s) h (square_nonneg (pos s))))
      (square_nonneg (pos t))

  over-sign : pos 0 ≤ℤ m → pos 0 ≤ℤ ((pos (k * s) *ℤ pos (k * s)) *ℤ m)
  over-sign h = mul_nonneg (pos (k * s) *ℤ pos (k * s)) m (square_nonneg (pos (k * s))) h

fine-sign : (c : ℤ) → pos 0 ≤ℤ c → pos 0 ≤ℤ (pos UNIT_SQUARE *ℤ c)
fine-sign c h = omega (arith, ints)

count-sign : (k : ℕ) → pos 0 ≤ℤ pos k
count-sign k = omega (arith, ints)

-- ---- two distances: x is at least the root of p, the upper end of the one value, and y at most that of q, the lower
-- end of the other
pub pair-holds : (t s k : ℕ) (p q x y m ca cb n : ℤ) → pos 0 ≤ℤ cb → pos 0 ≤ℤ m → pos 0 ≤ℤ x → pos 0 ≤ℤ y
    → (pos UNIT_SQUARE *ℤ ca) ≤ℤ (p *ℤ pos ((k * s) * (k * s)))
    → (q *ℤ pos ((k * s) * (k * s))) ≤ℤ (pos UNIT_SQUARE *ℤ cb)
    → (m *ℤ pos (k * k)) ≤ℤ (pos UNIT_SQUARE *ℤ n)
    → p ≤ℤ (x *ℤ x) → (y *ℤ y) ≤ℤ q → AtMost (x -ℤ y) (pos t) m
    → RootAtMost ca cb ((pos t *ℤ pos t) *ℤ ((pos s *ℤ pos s) *ℤ n))
pair-holds t s k p q x y m ca cb n cb0 m0 x0 y0 pa qb mn px qy a =
    let d : ℕ = k * s in
    let w : ℤ = pos d in
    let w0 : pos 0 ≤ℤ w = count-sign d in
    let b : AtMost ((w *ℤ x) -ℤ (w *ℤ y)) (pos t) ((w *ℤ w) *ℤ m) =
    subst (λ z. AtMost z (pos t) ((w *ℤ w) *ℤ m)) (apart x y w) (AtMost-scale_root (x -ℤ y) (pos t) m w w0 a) in
    let up : (pos UNIT_SQUARE *ℤ ca) ≤ℤ ((w *ℤ x) *ℤ (w *ℤ x)) =
    subst (λ z. (pos UNIT_SQUARE *ℤ ca) ≤ℤ z) (squared-times x d)
    (≤ℤ_trans (pos UNIT_SQUARE *ℤ ca) (p *ℤ pos (d * d)) ((x *ℤ x) *ℤ pos (d * d)) pa
    (mul_le_right_pos p (x *ℤ x) (d * d) px)) in
    let down : ((w *ℤ y) *ℤ (w *ℤ y)) ≤ℤ (pos UNIT_SQUARE *ℤ cb) =
    subst (λ z. z ≤ℤ (pos UNIT_SQUARE *ℤ cb)) (squared-times y d)
    (≤ℤ_trans ((y *ℤ y) *ℤ pos (d * d)) (q *ℤ pos (d * d)) (pos UNIT_SQUARE *ℤ cb)
    (mul_le_right_pos (y *ℤ y) q (d * d) qy) qb) in
    let r : RootAtMost (pos UNIT_SQUARE *ℤ ca) (pos UNIT_SQUARE *ℤ cb) ((pos t *ℤ pos t) *ℤ ((w *ℤ w) *ℤ m)) =
    RootAtMost-from_difference (pos UNIT_SQUARE *ℤ ca) (pos UNIT_SQUARE *ℤ cb) (w *ℤ x) (w *ℤ y) (pos t) ((w *ℤ w) *ℤ m)
    (fine-sign cb cb0) (over-sign t s k m n m0) (count-sign t) (mul_nonneg w x w0 x0)
    (mul_nonneg w y w0 y0) up down b in
    let g : RootAtMost (pos UNIT_SQUARE *ℤ ca) (pos UNIT_SQUARE *ℤ cb)
    ((pos t *ℤ pos t) *ℤ ((pos s *ℤ pos s) *ℤ (pos UNIT_SQUARE *ℤ n))) =
    RootAtMost-second (pos UNIT_SQUARE *ℤ ca) (pos UNIT_SQUARE *ℤ cb) ((pos t *ℤ pos t) *ℤ ((w *ℤ w) *ℤ m))
    ((pos t *ℤ pos t) *ℤ ((pos s *ℤ pos s) *ℤ (pos UNIT_SQUARE *ℤ n))) (fine-sign cb cb0) (below t s k m n mn) r in
    RootAtMost-unscale ca cb ((pos t *ℤ pos t) *ℤ ((pos s *ℤ pos s) *ℤ n)) (pos UNIT_SQUARE) (omega (arith, ints))
    (subst (λ z. RootAtMost (pos UNIT_SQUARE *ℤ ca) (pos UNIT_SQUARE *ℤ cb) z) (fine-out (pos t) (pos s) n) g)

-- the other way round: x is at most the root of p, the lower end of the one value, and y at least that of q, the upper
-- end of the other
pub pair-out : (t s k : ℕ) (p q x y m ca cb n : ℤ) → pos 0 <ℤ pos (k * s) → pos 0 ≤ℤ cb → pos 0 ≤ℤ m → pos 0 ≤ℤ x
    → pos 0 ≤ℤ y
    → (p *ℤ pos ((k * s) * (k * s))) ≤ℤ (pos UNIT_SQUARE *ℤ ca)
    → (pos UNIT_SQUARE *ℤ cb) ≤ℤ (q *ℤ pos ((k * s) * (k * s)))
    → (pos UNIT_SQUARE *ℤ n) ≤ℤ (m *ℤ pos (k * k))
    → (x *ℤ x) ≤ℤ p → q ≤ℤ (y *ℤ y) → RootAtMost ca cb ((pos t *ℤ pos t) *ℤ ((pos s *ℤ pos s) *ℤ n))
    → AtMost (x -ℤ y) (pos t) m
pair-out t s k p q x y m ca cb n w1 cb0 m0 x0 y0 pa qb mn px qy a =
    let d : ℕ = k * s in
    let w : ℤ = pos d in
    let w0 : pos 0 ≤ℤ w = count-sign d in
    let f : RootAtMost (pos UNIT_SQUARE *ℤ ca) (pos UNIT_SQUARE *ℤ cb)
    ((pos t *ℤ pos t) *ℤ ((pos s *ℤ pos s) *ℤ (pos UNIT_SQUARE *ℤ n))) =
    subst (λ z. RootAtMost (pos UNIT_SQUARE *ℤ ca) (pos UNIT_SQUARE *ℤ cb) z) (sym (fine-out (pos t) (pos s) n))
    (RootAtMost-scale ca cb ((pos t *ℤ pos t) *ℤ ((pos s *ℤ pos s) *ℤ n)) (pos UNIT_SQUARE) (omega (arith, ints)) a) in
    let g : RootAtMost (pos UNIT_SQUARE *ℤ ca) (pos UNIT_SQUARE *ℤ cb) ((pos t *ℤ pos t) *ℤ ((w *ℤ w) *ℤ m)) =
    RootAtMost-second (pos UNIT_SQUARE *ℤ ca) (pos UNIT_SQUARE *ℤ cb)
    ((pos t *ℤ pos t) *ℤ ((pos s *ℤ pos s) *ℤ (pos UNIT_SQUARE *ℤ n))) ((pos t *ℤ pos t) *ℤ ((w *ℤ w) *ℤ m))
    (fine-sign cb cb0) (above t s k m n mn) f in
    let up : ((w *ℤ x) *ℤ (w *ℤ x)) ≤ℤ (pos UNIT_SQUARE *ℤ ca) =
    subst (λ z. z ≤ℤ (pos UNIT_SQUARE *ℤ ca)) (squared-times x d)
    (≤ℤ_trans ((x *ℤ x) *ℤ pos (d * d)) (p *ℤ pos (d * d)) (pos UNIT_SQUARE *ℤ ca)
    (mul_le_right_pos (x *ℤ x) p (d * d) px) pa) in
    let down : (pos UNIT_SQUARE *ℤ cb) ≤ℤ ((w *ℤ y) *ℤ (w *ℤ y)) =
    subst (λ z. (pos UNIT_SQUARE *ℤ cb) ≤ℤ z) (squared-times y d)
    (≤ℤ_trans (pos UNIT_SQUARE *ℤ cb) (q *ℤ pos (d * d)) ((y *ℤ y) *ℤ pos (d * d)) qb
    (mul_le_right_pos q (y *ℤ y) (d * d) qy)) in
    let r : AtMost ((w *ℤ x) -ℤ (w *ℤ y)) (pos t) ((w *ℤ w) *ℤ m) =
    RootAtMost-to_difference (pos UNIT_SQUARE *ℤ ca) (pos UNIT_SQUARE *ℤ cb) (w *ℤ x) (w *ℤ y) (pos t) ((w *ℤ w) *ℤ m)
    (fine-sign cb cb0) (over-sign t s k m n m0) (count-sign t) (mul_nonneg w x w0 x0)
    (mul_nonneg w y w0 y0) up down g in
    AtMost-unscale_root (x -ℤ y) (pos t) m w w1 (subst (λ z. AtMost z (pos t) ((w *ℤ w) *ℤ m)) (sym (apart x y w)) r)

-- ---- one squared distance: p is its upper end
pub point-holds : (t s k : ℕ) (p m c n : ℤ) → (pos UNIT_SQUARE *ℤ c) ≤ℤ (p *ℤ pos ((k * s) * (k * s)))
    → (m *ℤ pos (k * k)) ≤ℤ (pos UNIT_SQUARE *ℤ n)
    → (pos 4 *ℤ p) ≤ℤ ((pos t *ℤ pos t) *ℤ m) → (pos 4 *ℤ c) ≤ℤ ((pos t *ℤ pos t) *ℤ ((pos s *ℤ pos s) *ℤ n))
point-holds t s k p m c n pc mn h =
    let d : ℕ = k * s in
    let w : ℤ = pos d in
    let tt : ℤ = pos t *ℤ pos t in
    let exact : ℤ = tt *ℤ ((pos s *ℤ pos s) *ℤ n) in
    let a : (pos 4 *ℤ (pos UNIT_SQUARE *ℤ c)) ≤ℤ (pos 4 *ℤ (p *ℤ pos (d * d))) =
    mul_le_left (pos UNIT_SQUARE *ℤ c) (p *ℤ pos (d * d)) (pos 4) pc (omega (arith, ints)) in
    let b : (pos 4 *ℤ (p *ℤ pos (d * d))) ≤ℤ ((tt *ℤ m) *ℤ pos (d * d)) =
    subst (λ z. z ≤ℤ ((tt *ℤ m) *ℤ pos (d * d))) (four-over p (pos (d * d)))
    (mul_le_right_pos (pos 4 *ℤ p) (tt *ℤ m) (d * d) h) in
    let e : ((tt *ℤ m) *ℤ pos (d * d)) ≤ℤ (exact *ℤ pos UNIT_SQUARE) =
    subst (λ z. z ≤ℤ (exact *ℤ pos UNIT_SQUARE)) (sym (tolerance-over (pos t) m (pos s) (pos k)))
    (subst (λ z. (tt *ℤ ((w *ℤ w) *ℤ m)) ≤ℤ z) (turned (pos UNIT_SQUARE) exact)
    (subst (λ z. (tt *ℤ ((w *ℤ w) *ℤ m)) ≤ℤ z) (fine-out (pos t) (pos s) n) (below t s k m n mn))) in
    mul_le_out (pos 4 *ℤ c) exact (pos UNIT_SQUARE) (omega (arith, ints))
    (subst (λ z. z ≤ℤ (exact *ℤ pos UNIT_SQUARE)) (four-fine c)
    (≤ℤ_trans (pos 4 *ℤ (pos UNIT_SQUARE *ℤ c)) (pos 4 *ℤ (p *ℤ pos (d * d))) (exact *ℤ pos UNIT_SQUARE) a
    (≤ℤ_trans (pos 4 *ℤ (p *ℤ pos (d * d))) ((tt *ℤ m) *ℤ pos (d * d)) (exact *ℤ pos UNIT_SQUARE) b e)))

-- the other way round: p is its lower end
pub point-out : (t s k : ℕ) (p m c n : ℤ) → pos 0 <ℤ pos (k * s)
    → (p *ℤ pos ((k * s) * (k * s))) ≤ℤ (pos UNIT_SQUARE *ℤ c)
    → (pos UNIT_SQUARE *ℤ n) ≤ℤ (m *ℤ pos (k * k))
    → (pos 4 *ℤ c) ≤ℤ ((pos t *ℤ pos t) *ℤ ((pos s *ℤ pos s) *ℤ n)) → (pos 4 *ℤ p) ≤ℤ ((pos t *ℤ pos t) *ℤ m)
point-out t s k p m c n w1 pc mn h =
    let d : ℕ = k * s in
    let w : ℤ = pos d in
    let tt : ℤ = pos t *ℤ pos t in
    let exact : ℤ = tt *ℤ ((pos s *ℤ pos s) *ℤ n) in
    let a : (pos 4 *ℤ (p *ℤ pos (d * d))) ≤ℤ (pos 4 *ℤ (pos UNIT_SQUARE *ℤ c)) =
    mul_le_left (p *ℤ pos (d * d)) (pos UNIT_SQUARE *ℤ c) (pos 4) pc (omega (arith, ints)) in
    let b : (pos 4 *ℤ (pos UNIT_SQUARE *ℤ c)) ≤ℤ (exact *ℤ pos UNIT_SQUARE) =
    subst (λ z. z ≤ℤ (exact *ℤ pos UNIT_SQUARE)) (sym (four-fine c))
    (mul_le_right_pos (pos 4 *ℤ c) exact UNIT_SQUARE h) in
    let e : (exact *ℤ pos UNIT_SQUARE) ≤ℤ ((tt *ℤ m) *ℤ pos (d * d)) =
    subst (λ z. (exact *ℤ pos UNIT_SQUARE) ≤ℤ z) (sym (tolerance-over (pos t) m (pos s) (pos k)))
    (subst (λ z. z ≤ℤ (tt *ℤ ((w *ℤ w) *ℤ m))) (turned (pos UNIT_SQUARE) exact)
    (subst (λ z. z ≤ℤ (tt *ℤ ((w *ℤ w) *ℤ m))) (fine-out (pos t) (pos s) n) (above t s k m n mn))) in
    mul_le_out (pos 4 *ℤ p) (tt *ℤ m) (pos (d * d)) (mul_pos w w w1 w1)
    (subst (λ z. z ≤ℤ ((tt *ℤ m) *ℤ pos (d * d))) (sym (four-over p (pos (d * d))))
    (≤ℤ_trans (pos 4 *ℤ (p *ℤ pos (d * d))) (exact *ℤ pos UNIT_SQUARE) ((tt *ℤ m) *ℤ pos (d * d))
    (≤ℤ_trans (pos 4 *ℤ (p *ℤ pos (d * d))) (pos 4 *ℤ (pos UNIT_SQUARE *ℤ c)) (exact *ℤ pos UNIT_SQUARE) a b) e))
