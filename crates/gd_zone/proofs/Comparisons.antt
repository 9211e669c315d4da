-- What the comparisons of a written test say of exact values, and the other way round.
use Rattle.std.proofs.Common.{◌≡◌, ◌≢◌, refl, sym, subst, ◌∙◌, ℕ, zero, suc, ◌+◌, ◌-◌, ◌*◌, ◌^◌, ◌<◌, ◌≤◌, [], ◌∷◌, Bool, true, false, ◌==◌, arith, ⊎_elim}
use Rattle.std.proofs.lemmas.Int.{ints}
use Rattle.std.specs.Prelude.{ℤ, pos, negsuc, ◌-ℤ◌, ◌*ℤ◌, ◌≤ℤ◌, nat_le, if◌then◌else◌}
use Rattle.gd_int.proofs.Comparisons.{AtMost-below, AtMost-scale, AtMost-unscale, RootAtMost-from_difference, RootAtMost-to_difference, RootAtMost-scale, RootAtMost-unscale}
use Rattle.gd_int.proofs.Integers.{mul_le_out, mul_le_right_pos, mul_nonneg, ≤ℤ_trans}
use Rattle.gd_int.specs.Comparisons.{AtMost, RootAtMost}
use Rattle.gd_quat.proofs.Polynomials.{var, num, ◌⊖◌, ◌⊗◌, equal}
use Rattle.gd_zone.specs.Conditions.{four, squared_bound, twice}
use Rattle.std.proofs.Math.Nat.{eq-or-lt_of_le, mul-pos}
use Rattle.std.proofs.lemmas.Bool.{eqb-false, eqb-true, false≢true, leb-true}
use Rattle.std.proofs.lemmas.Bool.Decides.{leb_tells}
use Rattle.gd_quat.specs.Formulas.{Ends}
use Rattle.gd_zone.specs.Tests.{ceil_root, farthest, floor_root, nearest, root_above, root_below, square_bound}

-- ---- along a direction: w over k is a distance, u its end in fine units, g is in half units
-- 2^16 w = 2^15 (2 w), and k (g 2^15) = 2^15 (g k)
fine : (w : ℤ) → pos (2 ^ 16) *ℤ w ≡ pos (2 ^ 15) *ℤ twice w
fine w = equal (w ∷ []) (num (pos (2 ^ 16)) ⊗ var 0) (num (pos (2 ^ 15)) ⊗ (num (pos 2) ⊗ var 0)) refl

half : (g k : ℤ) → k *ℤ (g *ℤ pos (2 ^ 15)) ≡ pos (2 ^ 15) *ℤ (g *ℤ k)
half g k = equal (g ∷ k ∷ []) (var 1 ⊗ (var 0 ⊗ num (pos (2 ^ 15)))) (num (pos (2 ^ 15)) ⊗ (var 0 ⊗ var 1)) refl

turned : (u k : ℤ) → u *ℤ k ≡ k *ℤ u
turned u k = omega (arith, ints)

pub at-most : (u w g n : ℤ) (k : ℕ) → (pos (2 ^ 16) *ℤ w) ≤ℤ (u *ℤ pos k) → AtMost u (g *ℤ pos (2 ^ 15)) n → AtMost (twice w) (g *ℤ pos k) n
at-most u w g n k h a =
    let b : AtMost (pos k *ℤ u) (pos k *ℤ (g *ℤ pos (2 ^ 15))) n = AtMost-scale u (g *ℤ pos (2 ^ 15)) n (pos k) (omega (arith, ints)) a in
    let c : AtMost (pos (2 ^ 16) *ℤ w) (pos k *ℤ (g *ℤ pos (2 ^ 15))) n = AtMost-below (pos k *ℤ u) (pos (2 ^ 16) *ℤ w) (pos k *ℤ (g *ℤ pos (2 ^ 15))) n (subst (λ z. (pos (2 ^ 16) *ℤ w) ≤ℤ z) (turned u (pos k)) h) b in
    AtMost-unscale (twice w) (g *ℤ pos k) n (pos (2 ^ 15)) (omega (arith, ints)) (subst (λ z. AtMost z (pos (2 ^ 15) *ℤ (g *ℤ pos k)) n) (fine w) (subst (λ z. AtMost (pos (2 ^ 16) *ℤ w) z n) (half g (pos k)) c))

-- the other way round
pub at-most-out : (u w g n : ℤ) (k : ℕ) → 0 < k → (u *ℤ pos k) ≤ℤ (pos (2 ^ 16) *ℤ w) → AtMost (twice w) (g *ℤ pos k) n → AtMost u (g *ℤ pos (2 ^ 15)) n
at-most-out u w g n k p h a =
    let b : AtMost (pos (2 ^ 15) *ℤ twice w) (pos (2 ^ 15) *ℤ (g *ℤ pos k)) n = AtMost-scale (twice w) (g *ℤ pos k) n (pos (2 ^ 15)) (omega (arith, ints)) a in
    let c : AtMost (pos (2 ^ 16) *ℤ w) (pos k *ℤ (g *ℤ pos (2 ^ 15))) n = subst (λ z. AtMost z (pos k *ℤ (g *ℤ pos (2 ^ 15))) n) (sym (fine w)) (subst (λ z. AtMost (pos (2 ^ 15) *ℤ twice w) z n) (sym (half g (pos k))) b) in
    AtMost-unscale u (g *ℤ pos (2 ^ 15)) n (pos k) (omega (arith, ints)) (AtMost-below (pos (2 ^ 16) *ℤ w) (pos k *ℤ u) (pos k *ℤ (g *ℤ pos (2 ^ 15))) n (subst (λ z. z ≤ℤ (pos (2 ^ 16) *ℤ w)) (turned u (pos k)) h) c)

-- ---- squared distances: c over k^2, e its end in squares of fine units
square-left : (e : ℤ) (k : ℕ) → e *ℤ pos (k * k) ≡ e *ℤ (pos k *ℤ pos k)
square-left e k = refl

pub square-at_most : (e c h n : ℤ) (k : ℕ) → (pos (2 ^ 32) *ℤ c) ≤ℤ (e *ℤ pos (k * k)) → e ≤ℤ square_bound h n → four c ≤ℤ squared_bound h (pos k) n
square-at_most e c h n k i j =
    let m : (e *ℤ pos (k * k)) ≤ℤ (square_bound h n *ℤ pos (k * k)) = mul_le_right_pos e (square_bound h n) (k * k) j in
    let l : pos (2 ^ 32) *ℤ c ≡ four c *ℤ pos (2 ^ 30) = equal (c ∷ []) (num (pos (2 ^ 32)) ⊗ var 0) ((num (pos 4) ⊗ var 0) ⊗ num (pos (2 ^ 30))) refl in
    let r : square_bound h n *ℤ pos (k * k) ≡ squared_bound h (pos k) n *ℤ pos (2 ^ 30) =
    equal (h ∷ n ∷ pos k ∷ []) ((((var 0 ⊗ var 0) ⊗ var 1) ⊗ num (pos (2 ^ 30))) ⊗ (var 2 ⊗ var 2)) ((((var 0 ⊗ var 0) ⊗ var 1) ⊗ (var 2 ⊗ var 2)) ⊗ num (pos (2 ^ 30))) refl in
    mul_le_out (four c) (squared_bound h (pos k) n) (pos (2 ^ 30)) (omega (arith, ints))
    (subst (λ z. z ≤ℤ (squared_bound h (pos k) n *ℤ pos (2 ^ 30))) l (subst (λ z. (pos (2 ^ 32) *ℤ c) ≤ℤ z) r (≤ℤ_trans (pos (2 ^ 32) *ℤ c) (e *ℤ pos (k * k)) (square_bound h n *ℤ pos (k * k)) i m)))

pub square-at_least : (e c h n : ℤ) (k : ℕ) → (e *ℤ pos (k * k)) ≤ℤ (pos (2 ^ 32) *ℤ c) → square_bound h n ≤ℤ e → squared_bound h (pos k) n ≤ℤ four c
square-at_least e c h n k i j =
    let m : (square_bound h n *ℤ pos (k * k)) ≤ℤ (e *ℤ pos (k * k)) = mul_le_right_pos (square_bound h n) e (k * k) j in
    let l : pos (2 ^ 32) *ℤ c ≡ four c *ℤ pos (2 ^ 30) = equal (c ∷ []) (num (pos (2 ^ 32)) ⊗ var 0) ((num (pos 4) ⊗ var 0) ⊗ num (pos (2 ^ 30))) refl in
    let r : square_bound h n *ℤ pos (k * k) ≡ squared_bound h (pos k) n *ℤ pos (2 ^ 30) =
    equal (h ∷ n ∷ pos k ∷ []) ((((var 0 ⊗ var 0) ⊗ var 1) ⊗ num (pos (2 ^ 30))) ⊗ (var 2 ⊗ var 2)) ((((var 0 ⊗ var 0) ⊗ var 1) ⊗ (var 2 ⊗ var 2)) ⊗ num (pos (2 ^ 30))) refl in
    mul_le_out (squared_bound h (pos k) n) (four c) (pos (2 ^ 30)) (omega (arith, ints))
    (subst (λ z. z ≤ℤ (four c *ℤ pos (2 ^ 30))) r (subst (λ z. (square_bound h n *ℤ pos (k * k)) ≤ℤ z) l (≤ℤ_trans (square_bound h n *ℤ pos (k * k)) (e *ℤ pos (k * k)) (pos (2 ^ 32) *ℤ c) m i)))

-- the other way round
pub square-at_most-out : (e c h n : ℤ) (k : ℕ) → 0 < k → (e *ℤ pos (k * k)) ≤ℤ (pos (2 ^ 32) *ℤ c) → four c ≤ℤ squared_bound h (pos k) n → e ≤ℤ square_bound h n
square-at_most-out e c h n k p i j =
    let l : four c *ℤ pos (2 ^ 30) ≡ pos (2 ^ 32) *ℤ c = equal (c ∷ []) ((num (pos 4) ⊗ var 0) ⊗ num (pos (2 ^ 30))) (num (pos (2 ^ 32)) ⊗ var 0) refl in
    let r : squared_bound h (pos k) n *ℤ pos (2 ^ 30) ≡ square_bound h n *ℤ pos (k * k) =
    equal (h ∷ n ∷ pos k ∷ []) ((((var 0 ⊗ var 0) ⊗ var 1) ⊗ (var 2 ⊗ var 2)) ⊗ num (pos (2 ^ 30))) ((((var 0 ⊗ var 0) ⊗ var 1) ⊗ num (pos (2 ^ 30))) ⊗ (var 2 ⊗ var 2)) refl in
    let m : (pos (2 ^ 32) *ℤ c) ≤ℤ (square_bound h n *ℤ pos (k * k)) = subst (λ z. z ≤ℤ (square_bound h n *ℤ pos (k * k))) l (subst (λ z. (four c *ℤ pos (2 ^ 30)) ≤ℤ z) r (mul_le_right_pos (four c) (squared_bound h (pos k) n) (2 ^ 30) j)) in
    mul_le_out e (square_bound h n) (pos (k * k)) (omega (arith, ints, mul-pos p p)) (≤ℤ_trans (e *ℤ pos (k * k)) (pos (2 ^ 32) *ℤ c) (square_bound h n *ℤ pos (k * k)) i m)

pub square-at_least-out : (e c h n : ℤ) (k : ℕ) → 0 < k → (pos (2 ^ 32) *ℤ c) ≤ℤ (e *ℤ pos (k * k)) → squared_bound h (pos k) n ≤ℤ four c → square_bound h n ≤ℤ e
square-at_least-out e c h n k p i j =
    let l : four c *ℤ pos (2 ^ 30) ≡ pos (2 ^ 32) *ℤ c = equal (c ∷ []) ((num (pos 4) ⊗ var 0) ⊗ num (pos (2 ^ 30))) (num (pos (2 ^ 32)) ⊗ var 0) refl in
    let r : squared_bound h (pos k) n *ℤ pos (2 ^ 30) ≡ square_bound h n *ℤ pos (k * k) =
    equal (h ∷ n ∷ pos k ∷ []) ((((var 0 ⊗ var 0) ⊗ var 1) ⊗ (var 2 ⊗ var 2)) ⊗ num (pos (2 ^ 30))) ((((var 0 ⊗ var 0) ⊗ var 1) ⊗ num (pos (2 ^ 30))) ⊗ (var 2 ⊗ var 2)) refl in
    let m : (square_bound h n *ℤ pos (k * k)) ≤ℤ (pos (2 ^ 32) *ℤ c) = subst (λ z. (square_bound h n *ℤ pos (k * k)) ≤ℤ z) l (subst (λ z. z ≤ℤ (four c *ℤ pos (2 ^ 30))) r (mul_le_right_pos (squared_bound h (pos k) n) (four c) (2 ^ 30) j)) in
    mul_le_out (square_bound h n) e (pos (k * k)) (omega (arith, ints, mul-pos p p)) (≤ℤ_trans (square_bound h n *ℤ pos (k * k)) (pos (2 ^ 32) *ℤ c) (e *ℤ pos (k * k)) m i)

-- ---- differences of distances: x is at least the root of a's upper end, and y at most that of b's lower end
scaled-root : (c : ℤ) → pos (2 ^ 32) *ℤ c ≡ pos (2 ^ 30) *ℤ four c
scaled-root c = equal (c ∷ []) (num (pos (2 ^ 32)) ⊗ var 0) (num (pos (2 ^ 30)) ⊗ (num (pos 4) ⊗ var 0)) refl

scaled-bound : (h n k : ℤ) → ((k *ℤ (h *ℤ pos (2 ^ 15))) *ℤ (k *ℤ (h *ℤ pos (2 ^ 15)))) *ℤ n ≡ pos (2 ^ 30) *ℤ squared_bound h k n
scaled-bound h n k = equal (h ∷ n ∷ k ∷ []) (((var 2 ⊗ (var 0 ⊗ num (pos (2 ^ 15)))) ⊗ (var 2 ⊗ (var 0 ⊗ num (pos (2 ^ 15))))) ⊗ var 1) (num (pos (2 ^ 30)) ⊗ (((var 0 ⊗ var 0) ⊗ var 1) ⊗ (var 2 ⊗ var 2))) refl

apart : (x y k : ℤ) → k *ℤ (x -ℤ y) ≡ (k *ℤ x) -ℤ (k *ℤ y)
apart x y k = equal (x ∷ y ∷ k ∷ []) (var 2 ⊗ (var 0 ⊖ var 1)) (var 2 ⊗ var 0 ⊖ var 2 ⊗ var 1) refl

squared-times : (x : ℤ) (k : ℕ) → (x *ℤ x) *ℤ pos (k * k) ≡ (pos k *ℤ x) *ℤ (pos k *ℤ x)
squared-times x k = equal (x ∷ pos k ∷ []) ((var 0 ⊗ var 0) ⊗ (var 1 ⊗ var 1)) ((var 1 ⊗ var 0) ⊗ (var 1 ⊗ var 0)) refl

fine-nonneg : (c : ℤ) → pos 0 ≤ℤ c → pos 0 ≤ℤ (pos (2 ^ 32) *ℤ c)
fine-nonneg c h = omega (arith, ints)

half-nonneg : (h : ℤ) → pos 0 ≤ℤ h → pos 0 ≤ℤ (h *ℤ pos (2 ^ 15))
half-nonneg h p = omega (arith, ints)

pub root-at_most : (p q x y ca cb h n : ℤ) (k : ℕ) → pos 0 ≤ℤ ca → pos 0 ≤ℤ cb → pos 0 ≤ℤ n → pos 0 ≤ℤ h → pos 0 ≤ℤ x → pos 0 ≤ℤ y
    → (pos (2 ^ 32) *ℤ ca) ≤ℤ (p *ℤ pos (k * k)) → (q *ℤ pos (k * k)) ≤ℤ (pos (2 ^ 32) *ℤ cb) → p ≤ℤ (x *ℤ x) → (y *ℤ y) ≤ℤ q
    → AtMost (x -ℤ y) (h *ℤ pos (2 ^ 15)) n → RootAtMost (four ca) (four cb) (squared_bound h (pos k) n)
root-at_most p q x y ca cb h n k ca0 cb0 n0 h0 x0 y0 pa qb px qy a =
    let kk : ℤ = pos k in
    let k0 : pos 0 ≤ℤ kk = omega (arith, ints) in
    let s : AtMost ((kk *ℤ x) -ℤ (kk *ℤ y)) (kk *ℤ (h *ℤ pos (2 ^ 15))) n = subst (λ z. AtMost z (kk *ℤ (h *ℤ pos (2 ^ 15))) n) (apart x y kk) (AtMost-scale (x -ℤ y) (h *ℤ pos (2 ^ 15)) n kk k0 a) in
    let up : (pos (2 ^ 32) *ℤ ca) ≤ℤ ((kk *ℤ x) *ℤ (kk *ℤ x)) = subst (λ z. (pos (2 ^ 32) *ℤ ca) ≤ℤ z) (squared-times x k) (≤ℤ_trans (pos (2 ^ 32) *ℤ ca) (p *ℤ pos (k * k)) ((x *ℤ x) *ℤ pos (k * k)) pa (mul_le_right_pos p (x *ℤ x) (k * k) px)) in
    let down : ((kk *ℤ y) *ℤ (kk *ℤ y)) ≤ℤ (pos (2 ^ 32) *ℤ cb) = subst (λ z. z ≤ℤ (pos (2 ^ 32) *ℤ cb)) (squared-times y k) (≤ℤ_trans ((y *ℤ y) *ℤ pos (k * k)) (q *ℤ pos (k * k)) (pos (2 ^ 32) *ℤ cb) (mul_le_right_pos (y *ℤ y) q (k * k) qy) qb) in
    let r = RootAtMost-from_difference (pos (2 ^ 32) *ℤ ca) (pos (2 ^ 32) *ℤ cb) (kk *ℤ x) (kk *ℤ y) (kk *ℤ (h *ℤ pos (2 ^ 15))) n
    (fine-nonneg cb cb0) n0 (mul_nonneg kk (h *ℤ pos (2 ^ 15)) k0 (half-nonneg h h0)) (mul_nonneg kk x k0 x0) (mul_nonneg kk y k0 y0) up down s in
    RootAtMost-unscale (four ca) (four cb) (squared_bound h kk n) (pos (2 ^ 30)) (omega (arith, ints))
    (subst (λ z. RootAtMost z (pos (2 ^ 30) *ℤ four cb) (pos (2 ^ 30) *ℤ squared_bound h kk n)) (scaled-root ca)
    (subst (λ z. RootAtMost (pos (2 ^ 32) *ℤ ca) z (pos (2 ^ 30) *ℤ squared_bound h kk n)) (scaled-root cb)
    (subst (λ z. RootAtMost (pos (2 ^ 32) *ℤ ca) (pos (2 ^ 32) *ℤ cb) z) (scaled-bound h n kk) r)))

-- the other way round: x is at most the root of a's lower end, and y at least that of b's upper end
pub root-at_most-out : (p q x y ca cb h n : ℤ) (k : ℕ) → 0 < k → pos 0 ≤ℤ ca → pos 0 ≤ℤ cb → pos 0 ≤ℤ n → pos 0 ≤ℤ h → pos 0 ≤ℤ x → pos 0 ≤ℤ y
    → (p *ℤ pos (k * k)) ≤ℤ (pos (2 ^ 32) *ℤ ca) → (pos (2 ^ 32) *ℤ cb) ≤ℤ (q *ℤ pos (k * k)) → (x *ℤ x) ≤ℤ p → q ≤ℤ (y *ℤ y)
    → RootAtMost (four ca) (four cb) (squared_bound h (pos k) n) → AtMost (x -ℤ y) (h *ℤ pos (2 ^ 15)) n
root-at_most-out p q x y ca cb h n k kp ca0 cb0 n0 h0 x0 y0 pa qb px qy a =
    let kk : ℤ = pos k in
    let k0 : pos 0 ≤ℤ kk = omega (arith, ints) in
    let s : RootAtMost (pos (2 ^ 32) *ℤ ca) (pos (2 ^ 32) *ℤ cb) (((kk *ℤ (h *ℤ pos (2 ^ 15))) *ℤ (kk *ℤ (h *ℤ pos (2 ^ 15)))) *ℤ n) =
    subst (λ z. RootAtMost z (pos (2 ^ 32) *ℤ cb) (((kk *ℤ (h *ℤ pos (2 ^ 15))) *ℤ (kk *ℤ (h *ℤ pos (2 ^ 15)))) *ℤ n)) (sym (scaled-root ca))
    (subst (λ z. RootAtMost (pos (2 ^ 30) *ℤ four ca) z (((kk *ℤ (h *ℤ pos (2 ^ 15))) *ℤ (kk *ℤ (h *ℤ pos (2 ^ 15)))) *ℤ n)) (sym (scaled-root cb))
    (subst (λ z. RootAtMost (pos (2 ^ 30) *ℤ four ca) (pos (2 ^ 30) *ℤ four cb) z) (sym (scaled-bound h n kk)) (RootAtMost-scale (four ca) (four cb) (squared_bound h kk n) (pos (2 ^ 30)) (omega (arith, ints)) a))) in
    let up : ((kk *ℤ x) *ℤ (kk *ℤ x)) ≤ℤ (pos (2 ^ 32) *ℤ ca) = subst (λ z. z ≤ℤ (pos (2 ^ 32) *ℤ ca)) (squared-times x k) (≤ℤ_trans ((x *ℤ x) *ℤ pos (k * k)) (p *ℤ pos (k * k)) (pos (2 ^ 32) *ℤ ca) (mul_le_right_pos (x *ℤ x) p (k * k) px) pa) in
    let down : (pos (2 ^ 32) *ℤ cb) ≤ℤ ((kk *ℤ y) *ℤ (kk *ℤ y)) = subst (λ z. (pos (2 ^ 32) *ℤ cb) ≤ℤ z) (squared-times y k) (≤ℤ_trans (pos (2 ^ 32) *ℤ cb) (q *ℤ pos (k * k)) ((y *ℤ y) *ℤ pos (k * k)) qb (mul_le_right_pos q (y *ℤ y) (k * k) qy)) in
    let r = RootAtMost-to_difference (pos (2 ^ 32) *ℤ ca) (pos (2 ^ 32) *ℤ cb) (kk *ℤ x) (kk *ℤ y) (kk *ℤ (h *ℤ pos (2 ^ 15))) n
    (fine-nonneg cb cb0) n0 (mul_nonneg kk (h *ℤ pos (2 ^ 15)) k0 (half-nonneg h h0)) (mul_nonneg kk x k0 x0) (mul_nonneg kk y k0 y0) up down s in
    AtMost-unscale (x -ℤ y) (h *ℤ pos (2 ^ 15)) n kk (omega (arith, ints)) (subst (λ z. AtMost z (kk *ℤ (h *ℤ pos (2 ^ 15))) n) (sym (apart x y kk)) r)

-- ---- roots
below-step : (r n : ℕ) (b : Bool) → (b ≡ true → (r + 1) * (r + 1) ≤ n) → r * r ≤ n → (if b then r + 1 else r) * (if b then r + 1 else r) ≤ n
below-step r n true f h = f refl
below-step r n false f h = h

pub below-square : (a : ℕ) → root_below a * root_below a ≤ a
unfolding root_below
below-square zero = omega arith
below-square (suc a) = below-step (root_below a) (suc a) (nat_le ((root_below a + 1) * (root_below a + 1)) (suc a)) (leb-true ((root_below a + 1) * (root_below a + 1)) (suc a)) (omega (arith, below-square a))

next-step : (r a : ℕ) (b : Bool) → (b ≡ false → suc a < (r + 1) * (r + 1)) → a < (r + 1) * (r + 1) → suc a < ((if b then r + 1 else r) + 1) * ((if b then r + 1 else r) + 1)
next-step r a true f h = omega arith
next-step r a false f h = f refl

leb-false : (a b : ℕ) → nat_le a b ≡ false → b < a
leb-false a b h = ⊎_elim (λ t. absurd (false≢true (sym h ∙ t.0))) (λ t. t.1) (leb_tells a b)

pub below-next : (a : ℕ) → a < (root_below a + 1) * (root_below a + 1)
unfolding root_below
below-next zero = omega arith
below-next (suc a) = next-step (root_below a) a (nat_le ((root_below a + 1) * (root_below a + 1)) (suc a)) (leb-false ((root_below a + 1) * (root_below a + 1)) (suc a)) (below-next a)

above-step : (r a : ℕ) (b : Bool) → (b ≡ true → r * r ≡ a) → a < (r + 1) * (r + 1) → a ≤ (if b then r else r + 1) * (if b then r else r + 1)
above-step r a true f h = let e : r * r ≡ a = f refl in omega (arith, e)
above-step r a false f h = omega arith

pub above-square : (a : ℕ) → a ≤ root_above a * root_above a
unfolding root_above
above-square a = above-step (root_below a) a (root_below a * root_below a == a) (eqb-true (root_below a * root_below a) a) (below-next a)

-- no lesser number has a square of at least a
least-step : (r a : ℕ) (b : Bool) → (b ≡ false → r * r ≢ a) → r * r ≤ a → 0 < (if b then r else r + 1) → (b ≡ true → r * r ≡ a) → ((if b then r else r + 1) - 1) * ((if b then r else r + 1) - 1) < a
least-step zero a true f h p e = absurd (omega (arith, p))
least-step (suc r) a true f h p e = let i : suc r * suc r ≡ a = e refl in let j : r * r < a = omega (arith, i) in subst (λ z. z * z < a) (sym (one-less r)) j
  where
    one-less : (r : ℕ) → suc r - 1 ≡ r
    one-less r = omega arith
least-step r a false f h p e = let i : r * r < a = below-of (r * r) a h (f refl) in subst (λ z. z * z < a) (sym (drop-one r)) i
  where
    below-of : (m n : ℕ) → m ≤ n → m ≢ n → m < n
    below-of m n h k = ⊎_elim (λ e. absurd (k e)) (λ l. l) (eq-or-lt_of_le h)

    drop-one : (r : ℕ) → (r + 1) - 1 ≡ r
    drop-one r = omega arith

pub above-least : (a : ℕ) → 0 < root_above a → (root_above a - 1) * (root_above a - 1) < a
unfolding root_above
above-least a p = least-step (root_below a) a (root_below a * root_below a == a) (eqb-false (root_below a * root_below a) a) (below-square a) p (eqb-true (root_below a * root_below a) a)

-- the same of numbers with a sign
floor-root_below : (z : ℤ) → pos 0 ≤ℤ z → (floor_root z *ℤ floor_root z) ≤ℤ z
floor-root_below (pos a) h = let b = below-square a in omega (arith, ints, b)
floor-root_below (negsuc a) h = absurd (omega (arith, ints, h))

ceil-root_above : (z : ℤ) → z ≤ℤ (ceil_root z *ℤ ceil_root z)
ceil-root_above (pos a) = let b = above-square a in omega (arith, ints, b)
ceil-root_above (negsuc a) = omega (arith, ints)

pub nearest-below : (e : Ends) → pos 0 ≤ℤ e.lo → (nearest e *ℤ nearest e) ≤ℤ e.lo
nearest-below e h = floor-root_below e.lo h

pub farthest-above : (e : Ends) → e.hi ≤ℤ (farthest e *ℤ farthest e)
farthest-above e = ceil-root_above e.hi

pub floor-root_sign : (z : ℤ) → pos 0 ≤ℤ floor_root z
floor-root_sign (pos a) = omega (arith, ints)
floor-root_sign (negsuc a) = omega (arith, ints)

pub ceil-root_sign : (z : ℤ) → pos 0 ≤ℤ ceil_root z
ceil-root_sign (pos a) = omega (arith, ints)
ceil-root_sign (negsuc a) = omega (arith, ints)
