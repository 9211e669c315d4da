use Rattle.std.proofs.Common.{rules, arith, ◌≡◌, ◌∙◌, ◌-ℤ◌, ap, FitsSigned, unsigned_abs}
use Rattle.std.proofs.lemmas.Int.{ints, to_z-of_z}
use Rattle.std.specs.Int.{w128}
use Rattle.std.specs.Ordering.{is_le}
use Rattle.gd_flat.proofs.Sizes.{kept-is, norm2-size, tolerance-size}
use Rattle.gd_vec.specs.Vector.{norm2_of}
use Rattle.gd_flat.proofs.spread.is_narrow.Goals as goal

pub cmp_root-requires-clause-product : goal.cmp_root-requires-clause-product
cmp_root-requires-clause-product c =
    let t : FitsSigned w128 c.from-2.result = search rules in
    let m : FitsSigned w128 c.norm2.result = search rules in
    rw (to_z-of_z w128 c.from-2.result t, to_z-of_z w128 c.norm2.result m, c.from-2.ensures, c.norm2.ensures.value)
    (tolerance-size c.args.tolerance (unsigned_abs (norm2_of c.args.n.now)) c.requires.tolerance (norm2-size c.args.n.now c.requires.direction))

pub returns : goal.returns
returns c =
    let s : FitsSigned w128 c.from.result = search rules in
    let t : FitsSigned w128 c.from-2.result = search rules in
    let m : FitsSigned w128 c.norm2.result = search rules in
    let e : c.from.result ≡ c.args.span.hi -ℤ c.args.span.lo = c.from.ensures ∙ rw (kept-is c.args.span.hi (omega (arith, c.args.span.hi_size)), kept-is c.args.span.lo (omega (arith, c.args.span.lo_size))) (kept-is (c.args.span.hi -ℤ c.args.span.lo) (omega (arith, ints, c.args.span.lo_size, c.args.span.hi_size))) in
    let v = rw (to_z-of_z w128 c.from.result s, to_z-of_z w128 c.from-2.result t, to_z-of_z w128 c.norm2.result m, e, c.from-2.ensures, c.norm2.ensures.value) at c.cmp_root.ensures.value in
    c.is_le.ensures ∙ ap is_le v
