use Rattle.std.proofs.Common.{arith, ◌≡◌, ◌<◌, ◌*ℤ◌, ◌+◌, subst, sym, true, false, int_le, length}
use Rattle.gd_flat.proofs.Blocks.{NoneBefore, none_more, place_is}
use Rattle.gd_axis.specs.Laws.AxisSound.{near-length}
use Rattle.gd_axis.proofs.RootExtremes.{distance-kept, distance2-kept, far-found, far-hit, far-miss, told}
use Rattle.gd_flat.proofs.Sizes.{kept_wide}
use Rattle.gd_axis.specs.AxisTests.{near_ends}
use Rattle.gd_axis.proofs.extent.first_far.Goals as goal

pub returns-then-reaches-clause-place : goal.returns-then-reaches-clause-place
returns-then-reaches-clause-place c =
    let o = c.args.over.now in
    let rows = c.args.judged.now.points.table.now.rows in
    let judged = c.args.judged.now.numbers.now in
    let xs = near_ends o.shape o.b.now o.own rows judged in
    let d = c.args.distance in
    let i = c.loop-at.at in
    let kd = distance-kept d c.requires.size in
    let inside : i < length judged = omega (arith, c.loop-at-test.true) in
    let none : NoneBefore d i xs = subst (λ z. NoneBefore z i xs) kd c.loop-at.invariant.none in
    let test = told true c.reaches.result d c.value_at.result.lo (kept_wide d) (kept_wide c.value_at.result.lo) c.reaches.ensures kd (distance2-kept c.value_at.result.lo c.value_at.ensures.lo_fits) c.if-reaches.true in
    let hit = far-hit o.shape o.b.now o.own rows judged d i c.requires.distance c.requires.size.0 inside (subst (λ v. int_le (d *ℤ d) v ≡ true) c.value_at.ensures.lo test) in
    place_is d i xs none (omega (arith, inside, near-length o.shape o.b.now o.own rows judged)) hit

pub loop-at-preserved : goal.loop-at-preserved
loop-at-preserved c =
    let o = c.args.over.now in
    let rows = c.args.judged.now.points.table.now.rows in
    let judged = c.args.judged.now.numbers.now in
    let xs = near_ends o.shape o.b.now o.own rows judged in
    let d = c.args.distance in
    let i = c.loop-at.at in
    let kd = distance-kept d c.requires.size in
    let inside : i < length judged = omega (arith, c.loop-at-test.true) in
    let none : NoneBefore d i xs = subst (λ z. NoneBefore z i xs) kd c.loop-at.invariant.none in
    let test = told false c.reaches.result d c.value_at.result.lo (kept_wide d) (kept_wide c.value_at.result.lo) c.reaches.ensures kd (distance2-kept c.value_at.result.lo c.value_at.ensures.lo_fits) c.if-reaches.false in
    let miss = far-miss o.shape o.b.now o.own rows judged d i inside (subst (λ v. int_le (d *ℤ d) v ≡ false) c.value_at.ensures.lo test) in
    let more : NoneBefore d (i + 1) xs = none_more d i xs none (omega (arith, inside, near-length o.shape o.b.now o.own rows judged)) miss in
    record { none = subst (λ z. NoneBefore z (i + 1) xs) (sym kd) more }

pub returns-clause-place : goal.returns-clause-place
returns-clause-place c =
    let o = c.args.over.now in
    let rows = c.args.judged.now.points.table.now.rows in
    let judged = c.args.judged.now.numbers.now in
    let xs = near_ends o.shape o.b.now o.own rows judged in
    let d = c.args.distance in
    let i = c.loop-at.at in
    let kd = distance-kept d c.requires.size in
    let none : NoneBefore d i xs = subst (λ z. NoneBefore z i xs) kd c.loop-at.invariant.none in
    let end : i ≡ length judged = omega (arith, c.loop-at-test.false, c.loop-at.auto.at-end) in
    absurd (far-found o.shape o.b.now o.own rows judged d i c.requires.distance c.args.judged.now.named none end)
