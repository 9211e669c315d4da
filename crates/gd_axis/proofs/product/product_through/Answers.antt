use Rattle.std.proofs.Common.{◌≡◌, ◌∙◌, ◌*ℤ◌, rules}
use Rattle.std.specs.Int.{int_max, int_min}
use Rattle.gd_axis.proofs.SignProducts.{through-hi, through-lo}
use Rattle.gd_interval.proofs.Products.{four-ordered}
use Rattle.gd_interval.proofs.Wholes.{same_order}
use Rattle.gd_interval.specs.Formulas.{mul_hi, mul_lo}
use Rattle.gd_axis.proofs.product.product_through.Goals as goal

pub between-requires : goal.between-requires
between-requires c =
    let n = c.args.n in
    let y = c.args.y in
    let l : c.least.result ≡ int_min (n.lo *ℤ y.hi) (n.hi *ℤ y.lo) = search rules in
    let h : c.greatest.result ≡ int_max (n.lo *ℤ y.lo) (n.hi *ℤ y.hi) = search rules in
    let lo : c.least.result ≡ mul_lo n.lo n.hi y.lo y.hi = l ∙ through-lo n.lo n.hi y.lo y.hi c.requires.below c.requires.above y.ordered in
    let hi : c.greatest.result ≡ mul_hi n.lo n.hi y.lo y.hi = h ∙ through-hi n.lo n.hi y.lo y.hi c.requires.below c.requires.above y.ordered in
    same_order c.least.result c.greatest.result (search rules) (search rules) (rw (lo, hi) (four-ordered (n.lo *ℤ y.lo) (n.lo *ℤ y.hi) (n.hi *ℤ y.lo) (n.hi *ℤ y.hi)))

pub returns-clause-lo : goal.returns-clause-lo
returns-clause-lo c =
    let n = c.args.n in
    let y = c.args.y in
    let l : c.between.result.lo ≡ int_min (n.lo *ℤ y.hi) (n.hi *ℤ y.lo) = search rules in
    l ∙ through-lo n.lo n.hi y.lo y.hi c.requires.below c.requires.above y.ordered

pub returns-clause-hi : goal.returns-clause-hi
returns-clause-hi c =
    let n = c.args.n in
    let y = c.args.y in
    let h : c.between.result.hi ≡ int_max (n.lo *ℤ y.lo) (n.hi *ℤ y.hi) = search rules in
    h ∙ through-hi n.lo n.hi y.lo y.hi c.requires.below c.requires.above y.ordered
