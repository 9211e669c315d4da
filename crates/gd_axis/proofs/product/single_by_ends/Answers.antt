use Rattle.std.proofs.Common.{◌≡◌, ◌∙◌, ap, rules}
use Rattle.gd_axis.proofs.SignProducts.{alone-hi, alone-lo}
use Rattle.gd_interval.proofs.Products.{two-ordered}
use Rattle.gd_interval.specs.Formulas.{mul_hi, mul_lo, scale_hi, scale_lo}
use Rattle.gd_zone.proofs.Shorts.{same-order}
use Rattle.std.specs.Prelude.{◌*ℤ◌}
use Rattle.gd_axis.proofs.product.single_by_ends.Goals as goal

pub span-requires : goal.span-requires
span-requires c =
    let n = c.args.n in
    let y = c.args.y in
    let lo : c.lesser.result ≡ scale_lo y.lo y.hi n.lo = search rules in
    let hi : c.greater.result ≡ scale_hi y.lo y.hi n.lo = search rules in
    same-order c.lesser.result c.greater.result (search rules) (search rules) (rw (lo, hi) (two-ordered (y.lo *ℤ n.lo) (y.hi *ℤ n.lo)))

pub returns-clause-lo : goal.returns-clause-lo
returns-clause-lo c =
    let n = c.args.n in
    let y = c.args.y in
    let l : c.span.result.lo ≡ scale_lo y.lo y.hi n.lo = search rules in
    l ∙ alone-lo n.lo y.lo y.hi ∙ ap (λ z. mul_lo n.lo z y.lo y.hi) c.requires.single

pub returns-clause-hi : goal.returns-clause-hi
returns-clause-hi c =
    let n = c.args.n in
    let y = c.args.y in
    let h : c.span.result.hi ≡ scale_hi y.lo y.hi n.lo = search rules in
    h ∙ alone-hi n.lo y.lo y.hi ∙ ap (λ z. mul_hi n.lo z y.lo y.hi) c.requires.single
