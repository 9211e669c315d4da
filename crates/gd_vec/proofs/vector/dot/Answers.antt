use Rattle.std.proofs.Common.{rules, ◌≡◌, ◌*ℤ◌, ◌∙◌, refl}
use Rattle.gd_vec.proofs.Sizes.{summed}
use Rattle.gd_vec.proofs.vector.dot.Goals as goal

pub overflow_add-result-2 : goal.overflow_add-result-2
overflow_add-result-2 c =
    (summed c.product.result c.product-2.result c.product-3.result c.product.ensures.size c.product-2.ensures.size c.product-3.ensures.size).fits

pub returns-clause-value : goal.returns-clause-value
returns-clause-value c =
    let x : c.product.result ≡ c.args.a.now.x *ℤ c.args.b.now.x = search rules in
    let y : c.product-2.result ≡ c.args.a.now.y *ℤ c.args.b.now.y = search rules in
    let z : c.product-3.result ≡ c.args.a.now.z *ℤ c.args.b.now.z = search rules in
    (summed c.product.result c.product-2.result c.product-3.result c.product.ensures.size c.product-2.ensures.size c.product-3.ensures.size).value ∙ rw (x, y, z) refl

pub returns-clause-size : goal.returns-clause-size
returns-clause-size c =
    let s = summed c.product.result c.product-2.result c.product-3.result c.product.ensures.size c.product-2.ensures.size c.product-3.ensures.size in
    rw s.value s.size
