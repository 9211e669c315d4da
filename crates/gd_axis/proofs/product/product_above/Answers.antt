use Rattle.std.proofs.Common.{◌≡◌, ◌∙◌, ◌*ℤ◌, cond, int_le, pos, rules}
use Rattle.gd_axis.proofs.SignProducts.{above-hi, above-lo}
use Rattle.gd_interval.proofs.Products.{four-ordered}
use Rattle.gd_interval.proofs.Wholes.{same_order}
use Rattle.gd_interval.specs.Formulas.{mul_hi, mul_lo}
use Rattle.gd_axis.proofs.product.product_above.Goals as goal

pub between-requires : goal.between-requires
between-requires c =
    let n = c.args.n in
    let y = c.args.y in
    let l : c.end.result ≡ cond (int_le (pos 0) c.args.y.lo) c.args.n.lo c.args.n.hi *ℤ c.args.y.lo = search rules in
    let h : c.end-2.result ≡ cond (int_le (pos 0) c.args.y.hi) c.args.n.hi c.args.n.lo *ℤ c.args.y.hi = search rules in
    let lo : c.end.result ≡ mul_lo n.lo n.hi y.lo y.hi = l ∙ above-lo n.lo n.hi y.lo y.hi c.requires.sign n.ordered y.ordered in
    let hi : c.end-2.result ≡ mul_hi n.lo n.hi y.lo y.hi = h ∙ above-hi n.lo n.hi y.lo y.hi c.requires.sign n.ordered y.ordered in
    same_order c.end.result c.end-2.result (search rules) (search rules) (rw (lo, hi) (four-ordered (n.lo *ℤ y.lo) (n.lo *ℤ y.hi) (n.hi *ℤ y.lo) (n.hi *ℤ y.hi)))

pub returns-clause-lo : goal.returns-clause-lo
returns-clause-lo c =
    let n = c.args.n in
    let y = c.args.y in
    let l : c.between.result.lo ≡ cond (int_le (pos 0) c.args.y.lo) c.args.n.lo c.args.n.hi *ℤ c.args.y.lo = search rules in
    l ∙ above-lo n.lo n.hi y.lo y.hi c.requires.sign n.ordered y.ordered

pub returns-clause-hi : goal.returns-clause-hi
returns-clause-hi c =
    let n = c.args.n in
    let y = c.args.y in
    let h : c.between.result.hi ≡ cond (int_le (pos 0) c.args.y.hi) c.args.n.hi c.args.n.lo *ℤ c.args.y.hi = search rules in
    h ∙ above-hi n.lo n.hi y.lo y.hi c.requires.sign n.ordered y.ordered
