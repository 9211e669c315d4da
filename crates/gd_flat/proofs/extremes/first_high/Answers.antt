use Rattle.std.proofs.Common.{arith, ◌≡◌, ◌∙◌, ◌<◌, length, sym}
use Rattle.gd_flat.proofs.Blocks.{hits, misses, no_place, none_more, place_is, highs_length}
use Rattle.gd_flat.specs.FlatTests.{highs}
use Rattle.gd_flat.specs.PointRows.{rows_in}
use Rattle.gd_flat.proofs.extremes.first_high.Goals as goal

pub returns-then-span_at-near-clause-place : goal.returns-then-span_at-near-clause-place
returns-then-span_at-near-clause-place c =
    let xs = highs c.args.face.now.directions (rows_in c.args.face.now.points) in
    let inside : c.loop-at.at < length xs = omega (arith, c.loop-at-test.true, highs_length c.args.face.now.directions (rows_in c.args.face.now.points)) in
    place_is c.args.near.value c.loop-at.at xs c.loop-at.invariant.none inside (hits c.span_at.result.hi c.args.near.value _ c.if-span_at-near.true c.span_at.result.hi_size c.requires.size c.span_at.ensures.hi)

pub loop-at-preserved : goal.loop-at-preserved
loop-at-preserved c =
    let xs = highs c.args.face.now.directions (rows_in c.args.face.now.points) in
    let inside : c.loop-at.at < length xs = omega (arith, c.loop-at-test.true, highs_length c.args.face.now.directions (rows_in c.args.face.now.points)) in
    record { none = none_more c.args.near.value c.loop-at.at xs c.loop-at.invariant.none inside (misses c.span_at.result.hi c.args.near.value _ c.if-span_at-near.false c.span_at.ensures.hi) }

pub returns-clause-place : goal.returns-clause-place
returns-clause-place c =
    let rows = rows_in c.args.face.now.points in
    let xs = highs c.args.face.now.directions rows in
    let end : c.loop-at.at ≡ length xs = omega (arith, c.loop-at-test.false, c.loop-at.auto.at-end, c.requires.from, highs_length c.args.face.now.directions rows) in
    c.count_of-count.ensures.count ∙ sym (highs_length c.args.face.now.directions rows) ∙ no_place c.args.near.value c.loop-at.at xs c.loop-at.invariant.none end
