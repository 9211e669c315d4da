-- Laws of the two comparisons with roots.
use Rattle.std.proofs.Common.{suc, ◌≡◌, refl, sym, ap, ◌∙◌, ℕ, ◌+◌, ◌-◌, ◌*◌, ◌≤◌, ◌<◌, ◌⊎◌, ◌↔◌, inl, inr, arith}
use Rattle.std.proofs.lemmas.Int.{ints, by_lt_z}
use Rattle.std.proofs.lemmas.Bool.{cases_lt}
use Rattle.std.proofs.Math.Nat.{mul-le-mul_right}
use Rattle.std.specs.Prelude.{ℤ, pos, negsuc, ◌+ℤ◌, ◌-ℤ◌, ◌*ℤ◌, neg_ℤ, ◌≤ℤ◌, ◌<ℤ◌}
use borrow.Author.Differences.{le_out}
use Rattle.gd_int.specs.Comparisons.{AtMost, RootAtMost, excess}
use Rattle.gd_int.specs.Roots.{signed_square}
use Rattle.gd_int.proofs.Integers.{≤ℤ_trans, mul_le_right, mul_le_left, mul_le_out, mul_pos, mul-assoc_ℤ, mul_comm_ℤ, mul_swap_ℤ, mul_nonneg, square_nonneg, neg-mul_left, neg-add, add_comm_ℤ, mul_le_mul, mul-sub_right, mul-add_right}
use Rattle.gd_int.proofs.SignedSquares.{signed_square-mul, signed_square-neg, signed_square-nonneg, signed_square-nonpos, signed_square_le, signed_square_lt, signed_square-le_out}
use Rattle.gd_int.proofs.Squares.{square_le, square_lt, square-le_out, sum-le, sum-lt, sum-ge, sum-gt}
use Rattle.gd_int.proofs.RootBounds.{from_bounds, to_bounds}

-- ---- AtMost falls with the first number, and grows with the factor and with n
pub AtMost-below : (a a' h n : ℤ) → a' ≤ℤ a → AtMost a h n → AtMost a' h n
unfolding AtMost
AtMost-below a a' h n l b = ≤ℤ_trans (signed_square a') (signed_square a) (signed_square h *ℤ n) (signed_square_le a' a l) b

pub AtMost-above : (a h h' n : ℤ) → pos 0 ≤ℤ n → h ≤ℤ h' → AtMost a h n → AtMost a h' n
unfolding AtMost
AtMost-above a h h' n i l b = ≤ℤ_trans (signed_square a) (signed_square h *ℤ n) (signed_square h' *ℤ n) b (mul_le_right (signed_square h) (signed_square h') n (signed_square_le h h' l) i)

pub AtMost-longer : (a h n n' : ℤ) → pos 0 ≤ℤ h → n ≤ℤ n' → AtMost a h n → AtMost a h n'
unfolding AtMost
AtMost-longer a h n n' i l b = ≤ℤ_trans (signed_square a) (signed_square h *ℤ n) (signed_square h *ℤ n') b (mul_le_left n n' (signed_square h) l (signed_square_le (pos 0) h i))

-- ---- AtMost by the sign of the factor
pub AtMost-free : (a h n : ℤ) → pos 0 ≤ℤ n → a ≤ℤ pos 0 → pos 0 ≤ℤ h → AtMost a h n
unfolding AtMost
AtMost-free a h n i j k = ≤ℤ_trans (signed_square a) (pos 0) (signed_square h *ℤ n) (signed_square_le a (pos 0) j) (mul_nonneg (signed_square h) n (signed_square_le (pos 0) h k) i)

pub AtMost-nonneg : (a h n : ℤ) → pos 0 ≤ℤ n → pos 0 ≤ℤ h → AtMost a h n ↔ ((a ≤ℤ pos 0) ⊎ ((a *ℤ a) ≤ℤ ((h *ℤ h) *ℤ n)))
unfolding AtMost
AtMost-nonneg (pos a) (pos h) n i j =
    (λ b. inr b, λ c. elim c as (λ _. AtMost (pos a) (pos h) n) [ inl z ↦ AtMost-free (pos a) (pos h) n i z j | inr s ↦ s ])
AtMost-nonneg (negsuc a) (pos h) n i j = (λ _. inl (omega (arith, ints)), λ _. AtMost-free (negsuc a) (pos h) n i (omega (arith, ints)) j)
AtMost-nonneg a (negsuc h) n i j = absurd (omega (arith, le_out (pos 0) (negsuc h) j))

pub AtMost-negative : (a h n : ℤ) → pos 0 ≤ℤ n → h <ℤ pos 0 → AtMost a h n ↔ ((a ≤ℤ pos 0) × (((h *ℤ h) *ℤ n) ≤ℤ (a *ℤ a)))
unfolding AtMost
AtMost-negative a h n i j =
    let e : signed_square h *ℤ n ≡ neg_ℤ ((h *ℤ h) *ℤ n) = ap (λ z. z *ℤ n) (signed_square-nonpos h (omega (arith, ints))) ∙ neg-mul_left (h *ℤ h) n in
    let s : pos 0 ≤ℤ ((h *ℤ h) *ℤ n) = mul_nonneg (h *ℤ h) n (square_nonneg h) i in (
      λ b.
          let l : a ≤ℤ pos 0 = signed_square-le_out a (pos 0) (omega (arith, ints)) in
          (l, omega (arith, ints, signed_square-nonpos a l)),
      λ c. omega (arith, ints, signed_square-nonpos a c.0, c.1),
    )

-- ---- AtMost scales
pub AtMost-scale : (a h n k : ℤ) → pos 0 ≤ℤ k → AtMost a h n → AtMost (k *ℤ a) (k *ℤ h) n
unfolding AtMost
AtMost-scale a h n k i b =
    rw (signed_square-mul k a, signed_square-mul k h, mul-assoc_ℤ (signed_square k) (signed_square h) n) (mul_le_left (signed_square a) (signed_square h *ℤ n) (signed_square k) b (signed_square_le (pos 0) k i))

pub AtMost-unscale : (a h n k : ℤ) → pos 0 <ℤ k → AtMost (k *ℤ a) (k *ℤ h) n → AtMost a h n
unfolding AtMost
AtMost-unscale a h n k i b =
    let c : (signed_square k *ℤ signed_square a) ≤ℤ (signed_square k *ℤ (signed_square h *ℤ n)) = rw (sym (mul-assoc_ℤ (signed_square k) (signed_square h) n), sym (signed_square-mul k h), sym (signed_square-mul k a)) b in
    mul_le_out (signed_square a) (signed_square h *ℤ n) (signed_square k) (signed_square_lt (pos 0) k i) (omega (arith, ints))

-- k times under the root of k squared
scaled_root : (h n k : ℤ) → pos 0 ≤ℤ k → signed_square h *ℤ ((k *ℤ k) *ℤ n) ≡ signed_square k *ℤ (signed_square h *ℤ n)
scaled_root h n k i =
    rw (signed_square-nonneg k i) (sym (mul-assoc_ℤ (signed_square h) (k *ℤ k) n) ∙ (ap (λ z. z *ℤ n) (mul_comm_ℤ (signed_square h) (k *ℤ k)) ∙ mul-assoc_ℤ (k *ℤ k) (signed_square h) n))

pub AtMost-scale_root : (a h n k : ℤ) → pos 0 ≤ℤ k → AtMost a h n → AtMost (k *ℤ a) h ((k *ℤ k) *ℤ n)
unfolding AtMost
AtMost-scale_root a h n k i b =
    rw (signed_square-mul k a, scaled_root h n k i) (mul_le_left (signed_square a) (signed_square h *ℤ n) (signed_square k) b (signed_square_le (pos 0) k i))

pub AtMost-unscale_root : (a h n k : ℤ) → pos 0 <ℤ k → AtMost (k *ℤ a) h ((k *ℤ k) *ℤ n) → AtMost a h n
unfolding AtMost
AtMost-unscale_root a h n k i b =
    let c : (signed_square k *ℤ signed_square a) ≤ℤ (signed_square k *ℤ (signed_square h *ℤ n)) = rw (sym (scaled_root h n k (omega (arith, ints))), sym (signed_square-mul k a)) b in
    mul_le_out (signed_square a) (signed_square h *ℤ n) (signed_square k) (signed_square_lt (pos 0) k i) (omega (arith, ints))

-- ---- AtMost adds
AtMost-neg : (x y n : ℕ) → y * y * n ≤ x * x → AtMost (neg_ℤ (pos x)) (neg_ℤ (pos y)) (pos n)
unfolding AtMost
AtMost-neg x y n h =
    rw (signed_square-neg (pos x), signed_square-neg (pos y)) (omega (arith, ints, neg-mul_left (pos (y * y)) (pos n), h))

-- a bound with a factor of at least 0 and one below 0, by squares: x' and y' are the sizes of the second
AtMost-mixed : (x y x' y' n : ℕ) → x * x ≤ y * y * n → y' * y' * n ≤ x' * x' → AtMost (pos x +ℤ neg_ℤ (pos x')) (pos y +ℤ neg_ℤ (pos y')) (pos n)
unfolding AtMost
AtMost-mixed x y x' y' n b c = elim (cases_lt x' x) as (λ _. AtMost (pos x +ℤ neg_ℤ (pos x')) (pos y +ℤ neg_ℤ (pos y')) (pos n)) [
  | inl l ↦ elim (cases_lt y y') as (λ _. AtMost (pos x +ℤ neg_ℤ (pos x')) (pos y +ℤ neg_ℤ (pos y')) (pos n)) [
    | inl m ↦ absurd (omega (arith, square_lt x' x l, mul-le-mul_right n (square_le y y' (omega arith))))
    | inr m ↦
        let ex : pos x +ℤ neg_ℤ (pos x') ≡ pos (x - x') = omega (arith, ints) in
        let ey : pos y +ℤ neg_ℤ (pos y') ≡ pos (y - y') = omega (arith, ints) in
        let s : (x - x') * (x - x') ≤ (y - y') * (y - y') * n = elim (cases_lt ((y - y') * (y - y') * n) ((x - x') * (x - x'))) as (λ _. (x - x') * (x - x') ≤ (y - y') * (y - y') * n) [
          | inl o ↦
              let t = sum-gt (x - x') x' (y - y') y' n o c in
              let fx : (x - x') + x' ≡ x = omega arith in
              let fy : (y - y') + y' ≡ y = omega arith in
              let u : y * y * n < x * x = rw (fx, fy) at t in
              absurd (omega arith)
          | inr o ↦ o
        ] in
        rw (ex, ey) (omega (arith, ints, s))
  ]
  | inr l ↦ elim (cases_lt y y') as (λ _. AtMost (pos x +ℤ neg_ℤ (pos x')) (pos y +ℤ neg_ℤ (pos y')) (pos n)) [
    | inl m ↦
        let ex : pos x +ℤ neg_ℤ (pos x') ≡ neg_ℤ (pos (x' - x)) = omega (arith, ints) in
        let ey : pos y +ℤ neg_ℤ (pos y') ≡ neg_ℤ (pos (y' - y)) = omega (arith, ints) in
        let s : (y' - y) * (y' - y) * n ≤ (x' - x) * (x' - x) = elim (cases_lt ((x' - x) * (x' - x)) ((y' - y) * (y' - y) * n)) as (λ _. (y' - y) * (y' - y) * n ≤ (x' - x) * (x' - x)) [
          | inl o ↦
              let t = sum-lt (x' - x) x (y' - y) y n o b in
              let fx : (x' - x) + x ≡ x' = omega arith in
              let fy : (y' - y) + y ≡ y' = omega arith in
              let u : x' * x' < y' * y' * n = rw (fx, fy) at t in
              absurd (omega arith)
          | inr o ↦ o
        ] in
        rw (ex, ey) (AtMost-neg (x' - x) (y' - y) n s)
    | inr m ↦ AtMost-free (pos x +ℤ neg_ℤ (pos x')) (pos y +ℤ neg_ℤ (pos y')) (pos n) (omega (arith, ints)) (omega (arith, ints)) (omega (arith, ints))
  ]
]

-- a bound is free, or says that squares are bounded above, or that they are bounded below
by_bound : {P : Type 0} (a h : ℤ) (n : ℕ) → AtMost a h (pos n) → (a ≤ℤ pos 0 → pos 0 ≤ℤ h → P) → ((x y : ℕ) → a ≡ pos x → h ≡ pos y → x * x ≤ y * y * n → P) → ((x y : ℕ) → a ≡ neg_ℤ (pos x) → h ≡ neg_ℤ (pos y) → y * y * n ≤ x * x → P) → P
unfolding AtMost
by_bound (pos x) (pos y) n b free above below = above x y refl refl (omega (arith, le_out (pos (x * x)) (pos (y * y * n)) b))
by_bound (negsuc x) (pos y) n b free above below = free (omega (arith, ints)) (omega (arith, ints))
by_bound (negsuc x) (negsuc y) n b free above below =
    below (suc x) (suc y) refl refl (omega (arith, ints, b, neg-mul_left (pos (suc y * suc y)) (pos n)))
by_bound (pos x) (negsuc y) n b free above below =
    let z : x ≤ 0 = square-le_out x 0 (omega (arith, ints, b, neg-mul_left (pos (suc y * suc y)) (pos n))) in
    let e : x ≡ 0 = omega arith in
    below 0 (suc y) (ap pos e) refl (omega (arith, ints, b, neg-mul_left (pos (suc y * suc y)) (pos n)))

AtMost-add_free : (a b h k n : ℤ) → pos 0 ≤ℤ n → a ≤ℤ pos 0 → pos 0 ≤ℤ h → AtMost b k n → AtMost (a +ℤ b) (h +ℤ k) n
AtMost-add_free a b h k n i l m c =
    AtMost-above (a +ℤ b) k (h +ℤ k) n i (omega (arith, ints)) (AtMost-below b (a +ℤ b) k n (omega (arith, ints)) c)

AtMost-swap : (a b h k n : ℤ) → AtMost (b +ℤ a) (k +ℤ h) n → AtMost (a +ℤ b) (h +ℤ k) n
AtMost-swap a b h k n c = rw (add_comm_ℤ a b, add_comm_ℤ h k) c

AtMost-add_pos : (a b h k : ℤ) (n : ℕ) → AtMost a h (pos n) → AtMost b k (pos n) → AtMost (a +ℤ b) (h +ℤ k) (pos n)
unfolding AtMost
AtMost-add_pos a b h k n c d =
    by_bound a h n c
    (λ l m. AtMost-add_free a b h k (pos n) (omega (arith, ints)) l m d)
    (λ x y ex ey s. by_bound b k n d
    (λ l m. AtMost-swap a b h k (pos n) (AtMost-add_free b a k h (pos n) (omega (arith, ints)) l m c))
    (λ x' y' ex' ey' t. rw (ex, ey, ex', ey') (omega (arith, ints, sum-le x x' y y' n s t)))
    (λ x' y' ex' ey' t. rw (ex, ey, ex', ey') (AtMost-mixed x y x' y' n s t)))
    (λ x y ex ey s. by_bound b k n d
    (λ l m. AtMost-swap a b h k (pos n) (AtMost-add_free b a k h (pos n) (omega (arith, ints)) l m c))
    (λ x' y' ex' ey' t. AtMost-swap a b h k (pos n) (rw (ex, ey, ex', ey') (AtMost-mixed x' y' x y n t s)))
    (λ x' y' ex' ey' t. rw (ex, ey, ex', ey', sym (neg-add (pos x) (pos x')), sym (neg-add (pos y) (pos y'))) (AtMost-neg (x + x') (y + y') n (sum-ge x x' y y' n s t))))

pub AtMost-add : (a b h k n : ℤ) → pos 0 ≤ℤ n → AtMost a h n → AtMost b k n → AtMost (a +ℤ b) (h +ℤ k) n
AtMost-add a b h k (pos n) i c d = AtMost-add_pos a b h k n c d
AtMost-add a b h k (negsuc n) i c d = absurd (omega (arith, le_out (pos 0) (negsuc n) i))

-- ---- RootAtMost: what decides it, and that it grows
-- one comparison gives another where the excess falls and the product grows
RootAtMost-from : (p q r p' q' r' : ℤ) → excess p' q' r' ≤ℤ excess p q r → (q *ℤ r) ≤ℤ (q' *ℤ r') → RootAtMost p q r → RootAtMost p' q' r'
unfolding RootAtMost
RootAtMost-from p q r p' q' r' l m c = by_lt_z (pos 0) (excess p' q' r')
    (λ (o : pos 0 <ℤ excess p' q' r').
    let s : (excess p' q' r' *ℤ excess p' q' r') ≤ℤ (excess p q r *ℤ excess p q r) = mul_le_mul (excess p' q' r') (excess p q r) (excess p' q' r') (excess p q r) l l (≤ℤ_trans (pos 0) (excess p' q' r') (excess p q r) (omega (arith, ints)) l) (omega (arith, ints)) in
    let t : (pos 4 *ℤ (q *ℤ r)) ≤ℤ (pos 4 *ℤ (q' *ℤ r')) = mul_le_left (q *ℤ r) (q' *ℤ r') (pos 4) m (omega (arith, ints)) in
    elim c as (λ _. RootAtMost p' q' r') [
      | inl z ↦ inl (≤ℤ_trans (excess p' q' r') (excess p q r) (pos 0) l z)
      | inr z ↦ inr (≤ℤ_trans (excess p' q' r' *ℤ excess p' q' r') (excess p q r *ℤ excess p q r) (pos 4 *ℤ (q' *ℤ r')) s (≤ℤ_trans (excess p q r *ℤ excess p q r) (pos 4 *ℤ (q *ℤ r)) (pos 4 *ℤ (q' *ℤ r')) z t))
    ])
    (λ (o : excess p' q' r' ≤ℤ pos 0). inl o)

pub RootAtMost-below : (p p' q r : ℤ) → p' ≤ℤ p → RootAtMost p q r → RootAtMost p' q r
RootAtMost-below p p' q r l c = RootAtMost-from p q r p' q r (omega (arith, ints)) (omega (arith, ints)) c

pub RootAtMost-first : (p q q' r : ℤ) → pos 0 ≤ℤ r → q ≤ℤ q' → RootAtMost p q r → RootAtMost p q' r
RootAtMost-first p q q' r i l c = RootAtMost-from p q r p q' r (omega (arith, ints)) (mul_le_right q q' r l i) c

pub RootAtMost-second : (p q r r' : ℤ) → pos 0 ≤ℤ q → r ≤ℤ r' → RootAtMost p q r → RootAtMost p q r'
RootAtMost-second p q r r' i l c = RootAtMost-from p q r p q r' (omega (arith, ints)) (mul_le_left r r' q l i) c

-- ---- RootAtMost scales
scaled_excess : (p q r k : ℤ) → excess (k *ℤ p) (k *ℤ q) (k *ℤ r) ≡ k *ℤ excess p q r
scaled_excess p q r k = omega (arith, ints, mul-sub_right k p (q +ℤ r), mul-add_right k q r)

scaled_square : (p q r k : ℤ) → excess (k *ℤ p) (k *ℤ q) (k *ℤ r) *ℤ excess (k *ℤ p) (k *ℤ q) (k *ℤ r) ≡ (k *ℤ k) *ℤ (excess p q r *ℤ excess p q r)
scaled_square p q r k = rw (scaled_excess p q r k) (mul_swap_ℤ k (excess p q r) k (excess p q r))

scaled_product : (q r k : ℤ) → pos 4 *ℤ ((k *ℤ q) *ℤ (k *ℤ r)) ≡ (k *ℤ k) *ℤ (pos 4 *ℤ (q *ℤ r))
scaled_product q r k =
    ap (λ z. pos 4 *ℤ z) (mul_swap_ℤ k q k r) ∙ (sym (mul-assoc_ℤ (pos 4) (k *ℤ k) (q *ℤ r)) ∙ (ap (λ z. z *ℤ (q *ℤ r)) (mul_comm_ℤ (pos 4) (k *ℤ k)) ∙ mul-assoc_ℤ (k *ℤ k) (pos 4) (q *ℤ r)))

pub RootAtMost-scale : (p q r k : ℤ) → pos 0 ≤ℤ k → RootAtMost p q r → RootAtMost (k *ℤ p) (k *ℤ q) (k *ℤ r)
unfolding RootAtMost
RootAtMost-scale p q r k i c = elim c as (λ _. RootAtMost (k *ℤ p) (k *ℤ q) (k *ℤ r)) [
  | inl z ↦ inl (rw (scaled_excess p q r k) (omega (arith, ints, mul_le_left (excess p q r) (pos 0) k z i)))
  | inr z ↦ inr (rw (scaled_square p q r k, scaled_product q r k) (mul_le_left (excess p q r *ℤ excess p q r) (pos 4 *ℤ (q *ℤ r)) (k *ℤ k) z (square_nonneg k)))
]

pub RootAtMost-unscale : (p q r k : ℤ) → pos 0 <ℤ k → RootAtMost (k *ℤ p) (k *ℤ q) (k *ℤ r) → RootAtMost p q r
unfolding RootAtMost
RootAtMost-unscale p q r k i c = elim c as (λ _. RootAtMost p q r) [
  | inl z ↦
      let y : (excess p q r *ℤ k) ≤ℤ (pos 0 *ℤ k) = omega (arith, ints, scaled_excess p q r k) in
      inl (mul_le_out (excess p q r) (pos 0) k i y)
  | inr z ↦
      let y : ((k *ℤ k) *ℤ (excess p q r *ℤ excess p q r)) ≤ℤ ((k *ℤ k) *ℤ (pos 4 *ℤ (q *ℤ r))) = rw (sym (scaled_square p q r k), sym (scaled_product q r k)) z in
      inr (mul_le_out (excess p q r *ℤ excess p q r) (pos 4 *ℤ (q *ℤ r)) (k *ℤ k) (mul_pos k k i i) (omega (arith, ints)))
]

-- ---- RootAtMost and bounds of the roots: x bounds the root of p, y that of q
pub RootAtMost-from_bounds : (p q r x y : ℤ) → pos 0 ≤ℤ q → pos 0 ≤ℤ r → pos 0 ≤ℤ x → pos 0 ≤ℤ y → p ≤ℤ (x *ℤ x) → (y *ℤ y) ≤ℤ q → ((x ≤ℤ y) ⊎ (((x -ℤ y) *ℤ (x -ℤ y)) ≤ℤ r)) → RootAtMost p q r
unfolding RootAtMost
RootAtMost-from_bounds (pos p) (pos q) (pos r) (pos x) (pos y) _ _ _ _ a b c =
    from_bounds p q r x y (omega (arith, le_out (pos p) (pos (x * x)) a)) (omega (arith, le_out (pos (y * y)) (pos q) b)) c
RootAtMost-from_bounds (negsuc p) q r x y i j _ _ _ _ _ = inl (omega (arith, ints))
RootAtMost-from_bounds p (negsuc q) r x y i _ _ _ _ _ _ = absurd (omega (arith, le_out (pos 0) (negsuc q) i))
RootAtMost-from_bounds p q (negsuc r) x y _ i _ _ _ _ _ = absurd (omega (arith, le_out (pos 0) (negsuc r) i))
RootAtMost-from_bounds p q r (negsuc x) y _ _ i _ _ _ _ = absurd (omega (arith, le_out (pos 0) (negsuc x) i))
RootAtMost-from_bounds p q r x (negsuc y) _ _ _ i _ _ _ = absurd (omega (arith, le_out (pos 0) (negsuc y) i))

pub RootAtMost-to_bounds : (p q r x y : ℤ) → pos 0 ≤ℤ q → pos 0 ≤ℤ r → pos 0 ≤ℤ x → pos 0 ≤ℤ y → (x *ℤ x) ≤ℤ p → q ≤ℤ (y *ℤ y) → RootAtMost p q r → (x ≤ℤ y) ⊎ (((x -ℤ y) *ℤ (x -ℤ y)) ≤ℤ r)
RootAtMost-to_bounds (pos p) (pos q) (pos r) (pos x) (pos y) _ _ _ _ a b c =
    to_bounds p q r x y (omega (arith, le_out (pos (x * x)) (pos p) a)) (omega (arith, le_out (pos q) (pos (y * y)) b)) c
RootAtMost-to_bounds (negsuc p) q r (pos x) y _ _ _ _ a _ _ = absurd (omega (arith, le_out (pos (x * x)) (negsuc p) a))
RootAtMost-to_bounds p (negsuc q) r x y i _ _ _ _ _ _ = absurd (omega (arith, le_out (pos 0) (negsuc q) i))
RootAtMost-to_bounds p q (negsuc r) x y _ i _ _ _ _ _ = absurd (omega (arith, le_out (pos 0) (negsuc r) i))
RootAtMost-to_bounds p q r (negsuc x) y _ _ i _ _ _ _ = absurd (omega (arith, le_out (pos 0) (negsuc x) i))
RootAtMost-to_bounds p q r x (negsuc y) _ _ _ i _ _ _ = absurd (omega (arith, le_out (pos 0) (negsuc y) i))

-- ---- RootAtMost where the bounds of the roots differ by at most h roots of n
pub RootAtMost-from_difference : (p q x y h n : ℤ) → pos 0 ≤ℤ q → pos 0 ≤ℤ n → pos 0 ≤ℤ h → pos 0 ≤ℤ x → pos 0 ≤ℤ y → p ≤ℤ (x *ℤ x) → (y *ℤ y) ≤ℤ q → AtMost (x -ℤ y) h n → RootAtMost p q ((h *ℤ h) *ℤ n)
RootAtMost-from_difference p q x y h n i j k l m a b c =
    RootAtMost-from_bounds p q ((h *ℤ h) *ℤ n) x y i (mul_nonneg (h *ℤ h) n (square_nonneg h) j) l m a b (elim ((AtMost-nonneg (x -ℤ y) h n j k).0 c) as (λ _. (x ≤ℤ y) ⊎ (((x -ℤ y) *ℤ (x -ℤ y)) ≤ℤ ((h *ℤ h) *ℤ n))) [
      | inl z ↦ inl (omega (arith, ints))
      | inr z ↦ inr z
    ])

pub RootAtMost-to_difference : (p q x y h n : ℤ) → pos 0 ≤ℤ q → pos 0 ≤ℤ n → pos 0 ≤ℤ h → pos 0 ≤ℤ x → pos 0 ≤ℤ y → (x *ℤ x) ≤ℤ p → q ≤ℤ (y *ℤ y) → RootAtMost p q ((h *ℤ h) *ℤ n) → AtMost (x -ℤ y) h n
RootAtMost-to_difference p q x y h n i j k l m a b c =
    (AtMost-nonneg (x -ℤ y) h n j k).1 (elim (RootAtMost-to_bounds p q ((h *ℤ h) *ℤ n) x y i (mul_nonneg (h *ℤ h) n (square_nonneg h) j) l m a b c) as (λ _. ((x -ℤ y) ≤ℤ pos 0) ⊎ (((x -ℤ y) *ℤ (x -ℤ y)) ≤ℤ ((h *ℤ h) *ℤ n))) [
      | inl z ↦ inl (omega (arith, ints))
      | inr z ↦ inr z
    ])
