use Rattle.std.proofs.Common.{arith, ◌≡◌, ◌∙◌, ◌<◌, length, sym}
use Rattle.gd_flat.proofs.Blocks.{hits, misses, no_place, none_more, place_is, lows_length}
use Rattle.gd_flat.specs.FlatTests.{lows}
use Rattle.gd_flat.specs.PointRows.{rows_in}
use Rattle.gd_flat.proofs.extremes.first_low.Goals as goal

pub returns-then-span_at-far-clause-place : goal.returns-then-span_at-far-clause-place
returns-then-span_at-far-clause-place c =
    let xs = lows c.args.face.now.directions (rows_in c.args.face.now.points) in
    let inside : c.loop-at.at < length xs = omega (arith, c.loop-at-test.true, lows_length c.args.face.now.directions (rows_in c.args.face.now.points)) in
    place_is c.args.far.value c.loop-at.at xs c.loop-at.invariant.none inside (hits c.span_at.result.lo c.args.far.value _ c.if-span_at-far.true c.span_at.result.lo_size c.requires.size c.span_at.ensures.lo)

pub loop-at-preserved : goal.loop-at-preserved
loop-at-preserved c =
    let xs = lows c.args.face.now.directions (rows_in c.args.face.now.points) in
    let inside : c.loop-at.at < length xs = omega (arith, c.loop-at-test.true, lows_length c.args.face.now.directions (rows_in c.args.face.now.points)) in
    record { none = none_more c.args.far.value c.loop-at.at xs c.loop-at.invariant.none inside (misses c.span_at.result.lo c.args.far.value _ c.if-span_at-far.false c.span_at.ensures.lo) }

pub returns-clause-place : goal.returns-clause-place
returns-clause-place c =
    let rows = rows_in c.args.face.now.points in
    let xs = lows c.args.face.now.directions rows in
    let end : c.loop-at.at ≡ length xs = omega (arith, c.loop-at-test.false, c.loop-at.auto.at-end, c.requires.from, lows_length c.args.face.now.directions rows) in
    c.count_of-count.ensures.count ∙ sym (lows_length c.args.face.now.directions rows) ∙ no_place c.args.far.value c.loop-at.at xs c.loop-at.invariant.none end
