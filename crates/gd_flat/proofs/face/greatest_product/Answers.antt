use Rattle.std.proofs.Common.{arith, cond, int_lt, pos, refl, ◌≡◌, ◌∙◌}
use Rattle.gd_flat.proofs.Blocks.{picked_hi}
use Rattle.gd_flat.proofs.Sizes.{kept-is, kept_short, kept_short-is}
use Rattle.gd_flat.proofs.face.greatest_product.Goals as goal

pub returns-clause-value : goal.returns-clause-value
returns-clause-value c =
    let a = c.args.axis.now in
    let by : kept_short c.args.by ≡ c.args.by = kept_short-is c.args.by (omega (arith, c.requires)) in
    let one : c.end_by_sign.result ≡ cond (int_lt c.args.by (pos 0)) a.lo a.hi = c.end_by_sign.ensures.value ∙ rw (by, kept_short-is a.lo (omega (arith, a.lo_size)), kept_short-is a.hi (omega (arith, a.hi_size))) refl in
    kept-is c.times.result (omega (arith, c.times.ensures.size)) ∙ c.times.ensures.value
    ∙ rw (kept_short-is c.end_by_sign.result (omega (arith, c.end_by_sign.ensures.size)), by, one) refl
    ∙ picked_hi a.lo a.hi c.args.by a.order
