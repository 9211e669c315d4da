-- How wide the results are.
use Rattle.std.proofs.Common.{◌≡◌, ap, ◌∙◌, ℕ, ◌^◌, arith, cond, suc}
use Rattle.std.proofs.lemmas.Int.{ints, clamps, by_lt_z}
use Rattle.std.specs.Int.{int_min, int_max}
use Rattle.std.specs.Prelude.{ℤ, pos, negsuc, ◌+ℤ◌, ◌-ℤ◌, ◌*ℤ◌, neg_ℤ, ◌≤ℤ◌, ◌<ℤ◌, unsigned_abs}
use borrow.Author.Differences.{le_out, lt_out}
use Rattle.gd_int.proofs.Integers.{mul_comm_ℤ, mul-add_left, mul-assoc_ℤ, neg-mul_left, mul_le_right, mul_le_left, mul_ge_right, ≤ℤ_trans, mul-sub_left, mul-sub_right}
use Rattle.gd_int.proofs.Divisions.{floor-next, ceil-before}
use Rattle.gd_int.specs.Division.{floor_of, ceil_of}
use Rattle.gd_interval.specs.declared.iv.Iv.{Iv}
use Rattle.gd_interval.specs.Interval.{IsWithin}
use Rattle.gd_interval.specs.Formulas.{scale_lo, scale_hi, mul_lo, mul_hi, square_lo, square_hi, quot_lo, quot_hi}
use Rattle.gd_interval.specs.Widths.{ProductWidth, MultipleWidth, SquareWidth, QuotientWidth}
use Rattle.gd_interval.proofs.Wholes.{mul-turn, within_product, by_int_lt}
use Rattle.gd_interval.proofs.Products.{mul_lo-reached, mul_hi-reached, square_lo-reached, square_hi-reached}
use Rattle.gd_interval.proofs.Quotients.{scaled, scaled_grows, positive_above}

-- ---- products: x y - x' y' = x (y - y') + y' (x - x')
through : (p q z r s : ℤ) → (p -ℤ z) ≤ℤ r → (z -ℤ q) ≤ℤ s → (p -ℤ q) ≤ℤ (r +ℤ s)
through p q z r s h i = omega (arith, ints)

product-spread : (a b c d m n x y x' y' : ℤ) → IsWithin a b m → IsWithin c d n → a ≤ℤ x → x ≤ℤ b → c ≤ℤ y → y ≤ℤ d → a ≤ℤ x' → x' ≤ℤ b → c ≤ℤ y' → y' ≤ℤ d
    → ((x *ℤ y) -ℤ (x' *ℤ y')) ≤ℤ (m *ℤ (d -ℤ c) +ℤ n *ℤ (b -ℤ a))
product-spread a b c d m n x y x' y' h i xl xh yl yh ul uh vl vh =
    let f : (x *ℤ (y -ℤ y')) ≤ℤ (m *ℤ (d -ℤ c)) = within_product x m (y -ℤ y') (d -ℤ c) (≤ℤ_trans (neg_ℤ m) a x h.0 xl) (≤ℤ_trans x b m xh h.1) (omega (arith, ints)) (omega (arith, ints)) in
    let g : (y' *ℤ (x -ℤ x')) ≤ℤ (n *ℤ (b -ℤ a)) = within_product y' n (x -ℤ x') (b -ℤ a) (≤ℤ_trans (neg_ℤ n) c y' i.0 vl) (≤ℤ_trans y' d n vh i.1) (omega (arith, ints)) (omega (arith, ints)) in
    let e : ((x *ℤ y) -ℤ (x *ℤ y')) ≤ℤ (m *ℤ (d -ℤ c)) = rw (← mul-sub_right x y y') f in
    let k : ((x *ℤ y') -ℤ (x' *ℤ y')) ≤ℤ (n *ℤ (b -ℤ a)) = rw (mul_comm_ℤ x y', mul_comm_ℤ x' y', ← mul-sub_right y' x x') g in
    through (x *ℤ y) (x' *ℤ y') (x *ℤ y') (m *ℤ (d -ℤ c)) (n *ℤ (b -ℤ a)) e k

pub product-width : (a b c d m n : ℤ) → a ≤ℤ b → c ≤ℤ d → IsWithin a b m → IsWithin c d n → (mul_hi a b c d -ℤ mul_lo a b c d) ≤ℤ (m *ℤ (d -ℤ c) +ℤ n *ℤ (b -ℤ a))
product-width a b c d m n ab cd h i =
    mul_hi-reached (λ v. (v -ℤ mul_lo a b c d) ≤ℤ (m *ℤ (d -ℤ c) +ℤ n *ℤ (b -ℤ a))) a b c d ab cd
    (λ x y xl xh yl yh. mul_lo-reached (λ u. ((x *ℤ y) -ℤ u) ≤ℤ (m *ℤ (d -ℤ c) +ℤ n *ℤ (b -ℤ a))) a b c d ab cd
    (λ x' y' ul uh vl vh. product-spread a b c d m n x y x' y' h i xl xh yl yh ul uh vl vh))

-- ---- squares
twice : (m w : ℤ) → m *ℤ w +ℤ m *ℤ w ≡ (pos 2 *ℤ m) *ℤ w
twice m w = omega (arith, ints, mul-assoc_ℤ (pos 2) m w)

pub square-width : (a b m : ℤ) → a ≤ℤ b → IsWithin a b m → (square_hi a b -ℤ square_lo a b) ≤ℤ ((pos 2 *ℤ m) *ℤ (b -ℤ a))
square-width a b m ab h = rw (← twice m (b -ℤ a))
    (square_hi-reached (λ v. (v -ℤ square_lo a b) ≤ℤ (m *ℤ (b -ℤ a) +ℤ m *ℤ (b -ℤ a))) a b ab
    (λ x xl xh. square_lo-reached (λ u. ((x *ℤ x) -ℤ u) ≤ℤ (m *ℤ (b -ℤ a) +ℤ m *ℤ (b -ℤ a))) a b ab
    (λ y yl yh. product-spread a b a b m m x x y y h h xl xh xl xh yl yh yl yh)))

-- ---- multiples
two-apart : (p q : ℤ) → p ≤ℤ q → int_max p q -ℤ int_min p q ≡ q -ℤ p
two-apart p q h = omega (arith, ints, clamps)

two-apart' : (p q : ℤ) → q ≤ℤ p → int_max p q -ℤ int_min p q ≡ p -ℤ q
two-apart' p q h = omega (arith, ints, clamps)

pub multiple-width : (a b f : ℤ) → a ≤ℤ b → scale_hi a b f -ℤ scale_lo a b f ≡ pos (unsigned_abs f) *ℤ (b -ℤ a)
multiple-width a b (pos n) h = two-apart (a *ℤ pos n) (b *ℤ pos n) (mul_le_right a b (pos n) h (omega (arith, ints))) ∙ omega (arith, ints, mul-sub_right (pos n) b a)
multiple-width a b (negsuc n) h = two-apart' (a *ℤ negsuc n) (b *ℤ negsuc n) (mul_ge_right a b (negsuc n) h (omega (arith, ints))) ∙ omega (arith, ints, mul-sub_right (pos (suc n)) b a)

-- ---- quotients
-- where m is at most u d and g d, u c is at least m less g (d - c)
shrunk : (u g c d m : ℤ) → c ≤ℤ d → pos 0 ≤ℤ c → m ≤ℤ (u *ℤ d) → m ≤ℤ (g *ℤ d) → (m +ℤ g *ℤ c) ≤ℤ (u *ℤ c +ℤ g *ℤ d)
shrunk u g c d m cd cp h i = by_lt_z u g
    (λ (l : u <ℤ g). omega (arith, ints, mul_le_right u g (d -ℤ c) (omega (arith, ints)) (omega (arith, ints)), mul-sub_right u d c, mul-sub_right g d c))
    (λ (l : g ≤ℤ u). omega (arith, ints, mul_le_right g u c l cp))

-- with the step from each end that the rounding makes, in the products of the bound
finish : (q r c d a b g : ℤ) → (((r -ℤ pos 1) *ℤ c +ℤ scaled a) +ℤ scaled g *ℤ c) ≤ℤ ((scaled b +ℤ (q +ℤ pos 1) *ℤ c) +ℤ scaled g *ℤ d)
    → (((r -ℤ q) -ℤ pos 2) *ℤ c) ≤ℤ (((b -ℤ a) +ℤ g *ℤ (d -ℤ c)) *ℤ pos (2 ^ 30))
finish q r c d a b g h = rw (left, right) (omega (arith, ints, mul-sub_left r (pos 1) c, mul-add_left q (pos 1) c))
  where
    left : ((r -ℤ q) -ℤ pos 2) *ℤ c ≡ (r *ℤ c -ℤ q *ℤ c) -ℤ pos 2 *ℤ c
    left = mul-sub_left (r -ℤ q) (pos 2) c ∙ ap (λ z. z -ℤ pos 2 *ℤ c) (mul-sub_left r q c)

    right : ((b -ℤ a) +ℤ g *ℤ (d -ℤ c)) *ℤ pos (2 ^ 30) ≡ (scaled b -ℤ scaled a) +ℤ (scaled g *ℤ d -ℤ scaled g *ℤ c)
    right = mul-add_left (b -ℤ a) (g *ℤ (d -ℤ c)) (pos (2 ^ 30)) ∙ ap (λ z. z +ℤ (g *ℤ (d -ℤ c)) *ℤ pos (2 ^ 30)) (mul-sub_left b a (pos (2 ^ 30)))
        ∙ ap (λ z. (scaled b -ℤ scaled a) +ℤ z) (mul-turn g (d -ℤ c) (pos (2 ^ 30)) ∙ mul-sub_right (scaled g) d c)

-- g d times 2^30
scaled_bound : (n g d : ℤ) → n ≤ℤ (g *ℤ d) → scaled n ≤ℤ (scaled g *ℤ d)
scaled_bound n g d h = rw (← mul-turn g d (pos (2 ^ 30))) (scaled_grows n (g *ℤ d) h)

pub quotient-width : (a b c d : ℤ) (g : ℕ) → a ≤ℤ b → pos 0 <ℤ c → c ≤ℤ d → a ≤ℤ (pos g *ℤ d) → neg_ℤ b ≤ℤ (pos g *ℤ d)
    → (((quot_hi b c d -ℤ quot_lo a c d) -ℤ pos 2) *ℤ c) ≤ℤ (((b -ℤ a) +ℤ pos g *ℤ (d -ℤ c)) *ℤ pos (2 ^ 30))
quotient-width a b c d g ab cp cd h i =
    finish (quot_lo a c d) (quot_hi b c d) c d a b (pos g)
    (by_int_lt a (λ v. (((quot_hi b c d -ℤ pos 1) *ℤ c +ℤ scaled a) +ℤ gg *ℤ c) ≤ℤ ((scaled b +ℤ (floor_of (scaled a) (cond v d c) +ℤ pos 1) *ℤ c) +ℤ gg *ℤ d))
    (λ (p : pos 0 ≤ℤ a). by_int_lt b (λ v. (((ceil_of (scaled b) (cond v c d) -ℤ pos 1) *ℤ c +ℤ scaled a) +ℤ gg *ℤ c) ≤ℤ ((scaled b +ℤ (floor_of (scaled a) d +ℤ pos 1) *ℤ c) +ℤ gg *ℤ d))
    (λ (o : pos 0 ≤ℤ b). both_up (floor_of (scaled a) d) (ceil_of (scaled b) c) (low_shrunk (floor_of (scaled a) d) (floor-next (scaled a) d dp)) (ceil-before (scaled b) c cp))
    (λ (o : b <ℤ pos 0). absurd (omega (arith, ints, lt_out b (pos 0) o, le_out (pos 0) a p, le_out a b ab))))
    (λ (p : a <ℤ pos 0). by_int_lt b (λ v. (((ceil_of (scaled b) (cond v c d) -ℤ pos 1) *ℤ c +ℤ scaled a) +ℤ gg *ℤ c) ≤ℤ ((scaled b +ℤ (floor_of (scaled a) c +ℤ pos 1) *ℤ c) +ℤ gg *ℤ d))
    (λ (o : pos 0 ≤ℤ b). mixed (floor_of (scaled a) c) (ceil_of (scaled b) c) (floor-next (scaled a) c cp) (ceil-before (scaled b) c cp))
    (λ (o : b <ℤ pos 0). both_down (floor_of (scaled a) c) (ceil_of (scaled b) d) (floor-next (scaled a) c cp) (high_shrunk (ceil_of (scaled b) d) (ceil-before (scaled b) d dp)))))
  where
    gg : ℤ
    gg = scaled (pos g)

    dp : pos 0 <ℤ d
    dp = positive_above c d cp cd

    low_shrunk : (q : ℤ) → scaled a <ℤ ((q +ℤ pos 1) *ℤ d) → (scaled a +ℤ gg *ℤ c) ≤ℤ ((q +ℤ pos 1) *ℤ c +ℤ gg *ℤ d)
    low_shrunk q f = shrunk (q +ℤ pos 1) gg c d (scaled a) cd (omega (arith, ints)) (omega (arith, ints)) (scaled_bound a (pos g) d h)

    high_shrunk : (r : ℤ) → ((r -ℤ pos 1) *ℤ d) <ℤ scaled b → (neg_ℤ (scaled b) +ℤ gg *ℤ c) ≤ℤ (neg_ℤ ((r -ℤ pos 1) *ℤ c) +ℤ gg *ℤ d)
    high_shrunk r f = rw (← neg-mul_left (r -ℤ pos 1) c) (shrunk (neg_ℤ (r -ℤ pos 1)) gg c d (neg_ℤ (scaled b)) cd (omega (arith, ints)) (rw (neg-mul_left (r -ℤ pos 1) d) (omega (arith, ints))) (rw (← neg-mul_left b (pos (2 ^ 30))) (scaled_bound (neg_ℤ b) (pos g) d i)))

    grown : (gg *ℤ c) ≤ℤ (gg *ℤ d)
    grown = mul_le_left c d gg cd (omega (arith, ints))

    both_up : (q r : ℤ) → (scaled a +ℤ gg *ℤ c) ≤ℤ ((q +ℤ pos 1) *ℤ c +ℤ gg *ℤ d) → ((r -ℤ pos 1) *ℤ c) <ℤ scaled b
        → (((r -ℤ pos 1) *ℤ c +ℤ scaled a) +ℤ gg *ℤ c) ≤ℤ ((scaled b +ℤ (q +ℤ pos 1) *ℤ c) +ℤ gg *ℤ d)
    both_up q r f k = omega (arith, ints)

    mixed : (q r : ℤ) → scaled a <ℤ ((q +ℤ pos 1) *ℤ c) → ((r -ℤ pos 1) *ℤ c) <ℤ scaled b
        → (((r -ℤ pos 1) *ℤ c +ℤ scaled a) +ℤ gg *ℤ c) ≤ℤ ((scaled b +ℤ (q +ℤ pos 1) *ℤ c) +ℤ gg *ℤ d)
    mixed q r f k = omega (arith, ints, grown)

    both_down : (q r : ℤ) → scaled a <ℤ ((q +ℤ pos 1) *ℤ c) → (neg_ℤ (scaled b) +ℤ gg *ℤ c) ≤ℤ (neg_ℤ ((r -ℤ pos 1) *ℤ c) +ℤ gg *ℤ d)
        → (((r -ℤ pos 1) *ℤ c +ℤ scaled a) +ℤ gg *ℤ c) ≤ℤ ((scaled b +ℤ (q +ℤ pos 1) *ℤ c) +ℤ gg *ℤ d)
    both_down q r f k = omega (arith, ints)

-- ---- the same of an interval that has these ends
pub width-product : (a b r : Iv) → r.lo ≡ mul_lo a.lo a.hi b.lo b.hi → r.hi ≡ mul_hi a.lo a.hi b.lo b.hi → ProductWidth a b r
width-product a b r e f m n h i = rw (e, f) (product-width a.lo a.hi b.lo b.hi m n a.ordered b.ordered h i)

pub width-multiple : (a : Iv) (f : ℤ) (r : Iv) → r.lo ≡ scale_lo a.lo a.hi f → r.hi ≡ scale_hi a.lo a.hi f → MultipleWidth a f r
width-multiple a f r d e = rw (d, e) (multiple-width a.lo a.hi f a.ordered)

pub width-square : (a r : Iv) → r.lo ≡ square_lo a.lo a.hi → r.hi ≡ square_hi a.lo a.hi → SquareWidth a r
width-square a r e f m h = rw (e, f) (square-width a.lo a.hi m a.ordered h)

pub width-quotient : (n d r : Iv) → pos 0 <ℤ d.lo → r.lo ≡ quot_lo n.lo d.lo d.hi → r.hi ≡ quot_hi n.hi d.lo d.hi → QuotientWidth n d r
width-quotient n d r p e f g h i = rw (e, f) (quotient-width n.lo n.hi d.lo d.hi g n.ordered p d.ordered h i)
