use Rattle.std.proofs.Common.{rules, arith, ◌≡◌, ◌∙◌, ◌-ℤ◌, ap, FitsSigned, unsigned_abs}
use Rattle.std.proofs.lemmas.Int.{ints, to_z-of_z}
use Rattle.std.specs.Int.{w128}
use Rattle.std.specs.Ordering.{is_gt}
use Rattle.gd_flat.proofs.Sizes.{kept-is, tolerance-size}
use Rattle.gd_flat.proofs.flat.are_parted.Goals as goal

pub cmp_root-requires-clause-product : goal.cmp_root-requires-clause-product
cmp_root-requires-clause-product c =
    let t : FitsSigned w128 c.from-2.result = search rules in
    let m : FitsSigned w128 c.greatest_norm2.result = search rules in
    rw (to_z-of_z w128 c.from-2.result t, to_z-of_z w128 c.greatest_norm2.result m, c.from-2.ensures) (tolerance-size c.args.tolerance (unsigned_abs c.greatest_norm2.result) c.requires.tolerance c.greatest_norm2.ensures.size)

pub returns : goal.returns
returns c =
    let s : FitsSigned w128 c.from.result = search rules in
    let t : FitsSigned w128 c.from-2.result = search rules in
    let m : FitsSigned w128 c.greatest_norm2.result = search rules in
    let e : c.from.result ≡ c.args.lo -ℤ c.args.hi = c.from.ensures ∙ rw (kept-is c.args.lo (omega (arith, c.requires.lo)), kept-is c.args.hi (omega (arith, c.requires.hi))) (kept-is (c.args.lo -ℤ c.args.hi) (omega (arith, ints, c.requires.lo, c.requires.hi))) in
    let v = rw (to_z-of_z w128 c.from.result s, to_z-of_z w128 c.from-2.result t, to_z-of_z w128 c.greatest_norm2.result m, e, c.from-2.ensures, c.greatest_norm2.ensures.value) at c.cmp_root.ensures.value in
    c.is_gt.ensures ∙ ap is_gt v
