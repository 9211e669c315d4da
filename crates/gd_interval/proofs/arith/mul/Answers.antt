use Rattle.std.proofs.Common.{◌≡◌, refl, ◌∙◌, ◌*ℤ◌, FitsSigned, rules}
use Rattle.std.proofs.lemmas.Int.{to_z-of_z}
use Rattle.std.specs.Int.{w128}
use Rattle.gd_interval.specs.Formulas.{mul_lo, mul_hi}
use Rattle.gd_interval.proofs.Encloses.{encloses-product}
use Rattle.gd_interval.proofs.Products.{four-ordered}
use Rattle.gd_interval.proofs.Wholes.{same_order}
use Rattle.gd_interval.proofs.Widths.{width-product}
use Rattle.gd_interval.proofs.arith.mul.Goals as goal

pub between-requires : goal.between-requires
between-requires c =
    let f1 : FitsSigned w128 c.times-ac.result = search rules in
    let f2 : FitsSigned w128 c.times-ad.result = search rules in
    let f3 : FitsSigned w128 c.times-bc.result = search rules in
    let f4 : FitsSigned w128 c.times-bd.result = search rules in
    let lo = simp to_z-of_z at c.least_of.ensures in
    let hi = simp to_z-of_z at c.greatest_of.ensures in
    same_order c.least_of.result c.greatest_of.result (search rules) (search rules)
    (rw (lo, hi) (four-ordered c.times-ac.result c.times-ad.result c.times-bc.result c.times-bd.result))

pub returns : goal.returns
returns c =
    let f1 : FitsSigned w128 c.times-ac.result = search rules in
    let f2 : FitsSigned w128 c.times-ad.result = search rules in
    let f3 : FitsSigned w128 c.times-bc.result = search rules in
    let f4 : FitsSigned w128 c.times-bd.result = search rules in
    let f5 : FitsSigned w128 c.least_of.result = search rules in
    let f6 : FitsSigned w128 c.greatest_of.result = search rules in
    let r1 : c.times-ac.result ≡ c.args.a.lo *ℤ c.args.b.lo = search rules in
    let r2 : c.times-ad.result ≡ c.args.a.lo *ℤ c.args.b.hi = search rules in
    let r3 : c.times-bc.result ≡ c.args.a.hi *ℤ c.args.b.lo = search rules in
    let r4 : c.times-bd.result ≡ c.args.a.hi *ℤ c.args.b.hi = search rules in
    let e = simp to_z-of_z at c.between.ensures.lo in
    let g = simp to_z-of_z at c.between.ensures.hi in
    let l = simp to_z-of_z at c.least_of.ensures in
    let m = simp to_z-of_z at c.greatest_of.ensures in
    let lo : c.between.result.lo ≡ mul_lo c.args.a.lo c.args.a.hi c.args.b.lo c.args.b.hi = e ∙ l ∙ rw (r1, r2, r3, r4) refl in
    let hi : c.between.result.hi ≡ mul_hi c.args.a.lo c.args.a.hi c.args.b.lo c.args.b.hi = g ∙ m ∙ rw (r1, r2, r3, r4) refl in
    record { lo = lo; hi = hi; encloses = encloses-product c.args.a c.args.b c.between.result lo hi; width = width-product c.args.a c.args.b c.between.result lo hi }
