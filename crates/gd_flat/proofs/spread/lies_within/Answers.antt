use Rattle.std.proofs.Common.{arith, ◌∙◌, ◌<◌, ◌≤◌, ◌-ℤ◌, ◌≤ℤ◌, length, pos, sym}
use Rattle.std.proofs.lemmas.Int.{ints}
use Rattle.gd_flat.proofs.Blocks.{along_length, greatest_front, least_front}
use Rattle.gd_flat.proofs.Decisions.{further}
use Rattle.gd_flat.specs.FlatTests.{along, spread}
use Rattle.gd_vec.specs.Vector.{norm2_of}
use Rattle.gd_flat.specs.PointRows.{rows_in}
use Rattle.gd_flat.proofs.spread.lies_within.Goals as goal

pub returns-then-not-is_narrow : goal.returns-then-not-is_narrow
returns-then-not-is_narrow c =
    let xs = along c.args.n.now (rows_in c.args.points.now) in
    let some : 0 < c.block_end-to.result = omega (arith, c.loop-from.invariant.some, c.block_end-to.ensures.more) in
    let most : c.block_end-to.result ≤ length xs = omega (arith, c.block_end-to.ensures.most, along_length c.args.n.now (rows_in c.args.points.now)) in
    let front : (c.span_to-span.result.hi -ℤ c.span_to-span.result.lo) ≤ℤ spread xs =
    omega (arith, ints, greatest_front xs c.block_end-to.result some most, least_front xs c.block_end-to.result some most, c.span_to-span.ensures.lo, c.span_to-span.ensures.hi) in
    sym (further (c.span_to-span.result.hi -ℤ c.span_to-span.result.lo) (spread xs) (pos c.args.tolerance) (norm2_of c.args.n.now) front (sym c.is_narrow.ensures ∙ c.if-not-is_narrow.true))
