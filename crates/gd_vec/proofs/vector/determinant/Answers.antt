use Rattle.std.proofs.Common.{rules, ◌≡◌, ◌*ℤ◌, ◌∙◌, refl}
use Rattle.gd_vec.proofs.Sizes.{subtracted}
use Rattle.gd_vec.proofs.vector.determinant.Goals as goal

pub returns-clause-value : goal.returns-clause-value
returns-clause-value c =
    let ad : c.product.result ≡ c.args.a *ℤ c.args.d = search rules in
    let bc : c.product-2.result ≡ c.args.b *ℤ c.args.c = search rules in
    (subtracted c.product.result c.product-2.result c.product.ensures.size c.product-2.ensures.size).value ∙ rw (ad, bc) refl

pub returns-clause-size : goal.returns-clause-size
returns-clause-size c =
    let s = subtracted c.product.result c.product-2.result c.product.ensures.size c.product-2.ensures.size in
    rw s.value s.size
