use Rattle.std.proofs.Common.{arith, ◌≡◌, ◌∙◌, refl}
use Rattle.gd_flat.proofs.Sizes.{kept_short-is, multiplied}
use Rattle.gd_flat.proofs.products.times.Goals as goal

pub returns-clause-value : goal.returns-clause-value
returns-clause-value c =
    let a : c.from.result ≡ c.args.a = c.from.ensures ∙ kept_short-is c.args.a (omega (arith, c.requires.a)) in
    let b : c.from-2.result ≡ c.args.b = c.from-2.ensures ∙ kept_short-is c.args.b (omega (arith, c.requires.b)) in
    (multiplied c.from.result c.from-2.result (rw a c.requires.a) (rw b c.requires.b)).value ∙ rw (a, b) refl

pub returns-clause-size : goal.returns-clause-size
returns-clause-size c =
    let a : c.from.result ≡ c.args.a = c.from.ensures ∙ kept_short-is c.args.a (omega (arith, c.requires.a)) in
    let b : c.from-2.result ≡ c.args.b = c.from-2.ensures ∙ kept_short-is c.args.b (omega (arith, c.requires.b)) in
    let m = multiplied c.from.result c.from-2.result (rw a c.requires.a) (rw b c.requires.b) in
    rw m.value m.size
