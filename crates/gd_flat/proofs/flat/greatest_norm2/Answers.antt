use Rattle.std.proofs.Common.{rules, ◌≡◌, ◌∙◌, refl}
use Rattle.gd_flat.proofs.Sizes.{wide_sum}
use Rattle.gd_flat.specs.FlatTests.{square_hi}
use Rattle.gd_flat.proofs.flat.greatest_norm2.Goals as goal

pub returns-clause-value : goal.returns-clause-value
returns-clause-value c =
    let x : c.greater_square.result ≡ square_hi c.args.b.now.lo.x c.args.b.now.hi.x = search rules in
    let y : c.greater_square-2.result ≡ square_hi c.args.b.now.lo.y c.args.b.now.hi.y = search rules in
    let z : c.greater_square-3.result ≡ square_hi c.args.b.now.lo.z c.args.b.now.hi.z = search rules in
    (wide_sum c.greater_square.result c.greater_square-2.result c.greater_square-3.result c.greater_square.ensures.size c.greater_square-2.ensures.size c.greater_square-3.ensures.size).0 ∙ rw (x, y, z) refl
