-- Smaller arguments give a result inside.
use Rattle.std.proofs.Common.{◌^◌, arith}
use Rattle.std.proofs.lemmas.Int.{ints}
use Rattle.std.specs.Prelude.{ℤ, pos, ◌*ℤ◌, ◌≤ℤ◌, ◌<ℤ◌}
use Rattle.gd_int.proofs.Integers.{≤ℤ_trans}
use Rattle.gd_interval.specs.Formulas.{scale_lo, scale_hi, mul_lo, mul_hi, square_lo, square_hi, quot_lo, quot_hi}
use Rattle.gd_interval.specs.Nests.{SumNests, DifferenceNests, MultipleNests, ProductNests, SquareNests, QuotientNests, NarrowedNests, RootNests}
use Rattle.gd_int.proofs.Divisions.{floor-mono, ceil-mono}
use Rattle.gd_interval.proofs.Wholes.{products_below, products_above, power_is_positive}
use Rattle.gd_interval.proofs.Products.{mul_lo-below, mul_hi-above, mul_lo-reached, mul_hi-reached, square_lo-below, square_hi-above, square_lo-reached, square_hi-reached, scale_lo-below, scale_hi-above, scale_lo-reached, scale_hi-reached}
use Rattle.gd_interval.proofs.Quotients.{scaled, scaled_grows, quot_lo-below, quot_lo-greatest, quot_hi-above, quot_hi-least}
use Rattle.gd_interval.proofs.RootOrder.{below_grows, above_grows}

pub product-nests : ProductNests
product-nests a b c d w x y z h k i j = (
  mul_lo-reached (λ v. mul_lo a b c d ≤ℤ v) w x y z h k (λ p q f g l m. mul_lo-below a b c d p q (≤ℤ_trans a w p i.0 f) (≤ℤ_trans p x b g i.1) (≤ℤ_trans c y q j.0 l) (≤ℤ_trans q z d m j.1)),
  mul_hi-reached (λ v. v ≤ℤ mul_hi a b c d) w x y z h k (λ p q f g l m. mul_hi-above a b c d p q (≤ℤ_trans a w p i.0 f) (≤ℤ_trans p x b g i.1) (≤ℤ_trans c y q j.0 l) (≤ℤ_trans q z d m j.1)),
)

pub sum-nests : SumNests
sum-nests a b c d w x y z h k = (omega (arith, ints, h.0, k.0), omega (arith, ints, h.1, k.1))

pub difference-nests : DifferenceNests
difference-nests a b c d w x y z h k = (omega (arith, ints, h.0, k.1), omega (arith, ints, h.1, k.0))

pub multiple-nests : MultipleNests
multiple-nests a b w x k h i = (
  scale_lo-reached (λ v. scale_lo a b k ≤ℤ v) w x k h (λ p f g. scale_lo-below a b k p (≤ℤ_trans a w p i.0 f) (≤ℤ_trans p x b g i.1)),
  scale_hi-reached (λ v. v ≤ℤ scale_hi a b k) w x k h (λ p f g. scale_hi-above a b k p (≤ℤ_trans a w p i.0 f) (≤ℤ_trans p x b g i.1)),
)

pub square-nests : SquareNests
square-nests a b w x h i = (
  square_lo-reached (λ v. square_lo a b ≤ℤ v) w x h (λ p f g. square_lo-below a b p (≤ℤ_trans a w p i.0 f) (≤ℤ_trans p x b g i.1)),
  square_hi-reached (λ v. v ≤ℤ square_hi a b) w x h (λ p f g. square_hi-above a b p (≤ℤ_trans a w p i.0 f) (≤ℤ_trans p x b g i.1)),
)

-- both ends of the inner divisor lie between those of the outer one, so the outer end keeps to the inner dividend too
pub quotient-nests : QuotientNests
quotient-nests a b c d w x y z cp h i j =
    let yp : pos 0 <ℤ y = omega (arith, ints, j.0) in
    let yd : y ≤ℤ d = ≤ℤ_trans y z d h j.1 in
    let cz : c ≤ℤ z = ≤ℤ_trans c y z j.0 h in
    let cd : c ≤ℤ d = ≤ℤ_trans c y d j.0 yd in
    let q : ℤ = quot_lo a c d in
    let r : ℤ = quot_hi b c d in
    let lo = quot_lo-below a c d cp cd in
    let hi = quot_hi-above b c d cp cd in
    let s : scaled a ≤ℤ scaled w = scaled_grows a w i.0 in
    let t : scaled x ≤ℤ scaled b = scaled_grows x b i.1 in (
      quot_lo-greatest w y z q yp h
          (≤ℤ_trans (q *ℤ y) (scaled a) (scaled w) (products_below q c d y (scaled a) j.0 yd lo.0 lo.1) s)
          (≤ℤ_trans (q *ℤ z) (scaled a) (scaled w) (products_below q c d z (scaled a) cz j.1 lo.0 lo.1) s),
      quot_hi-least x y z r yp h
          (≤ℤ_trans (scaled x) (scaled b) (r *ℤ y) t (products_above r c d y (scaled b) j.0 yd hi.0 hi.1))
          (≤ℤ_trans (scaled x) (scaled b) (r *ℤ z) t (products_above r c d z (scaled b) cz j.1 hi.0 hi.1)),
    )

pub narrowed-nests : NarrowedNests
narrowed-nests a b w x k i = (floor-mono a w (pos (2 ^ k)) (power_is_positive k) i.0, ceil-mono x b (pos (2 ^ k)) (power_is_positive k) i.1)

pub root-nests : RootNests
root-nests a b w x r s p q i f g h j = (below_grows a w r p i.0 f h, above_grows x b q s i.1 j g)
