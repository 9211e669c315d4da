use Rattle.std.proofs.Common.{arith, ◌≡◌, ◌<◌, ◌*ℤ◌, ◌+◌, subst, sym, true, false, int_le, length}
use Rattle.gd_flat.proofs.Blocks.{NoneBefore, none_more, place_is}
use Rattle.gd_axis.specs.Laws.AxisSound.{far-length}
use Rattle.gd_axis.proofs.RootExtremes.{distance-kept, distance2-kept, near-found, near-hit, near-miss, told-within}
use Rattle.gd_flat.proofs.Sizes.{kept_wide}
use Rattle.gd_axis.specs.AxisTests.{far_ends}
use Rattle.gd_axis.proofs.extent.first_near.Goals as goal

pub returns-then-stays_within-clause-place : goal.returns-then-stays_within-clause-place
returns-then-stays_within-clause-place c =
    let o = c.args.over.now in
    let rows = c.args.judged.now.points.table.now.rows in
    let judged = c.args.judged.now.numbers.now in
    let xs = far_ends o.shape o.b.now o.own rows judged in
    let d = c.args.distance in
    let i = c.loop-at.at in
    let kd = distance-kept d c.requires.size in
    let inside : i < length judged = omega (arith, c.loop-at-test.true) in
    let none : NoneBefore d i xs = subst (λ z. NoneBefore z i xs) kd c.loop-at.invariant.none in
    let test = told-within true c.stays_within.result d c.value_at.result.hi (kept_wide d) (kept_wide c.value_at.result.hi) c.stays_within.ensures kd (distance2-kept c.value_at.result.hi c.value_at.ensures.hi_fits) c.if-stays_within.true in
    let hit = near-hit o.shape o.b.now o.own rows judged d i c.requires.distance c.requires.size.0 inside (subst (λ v. int_le v (d *ℤ d) ≡ true) c.value_at.ensures.hi test) in
    place_is d i xs none (omega (arith, inside, far-length o.shape o.b.now o.own rows judged)) hit

pub loop-at-preserved : goal.loop-at-preserved
loop-at-preserved c =
    let o = c.args.over.now in
    let rows = c.args.judged.now.points.table.now.rows in
    let judged = c.args.judged.now.numbers.now in
    let xs = far_ends o.shape o.b.now o.own rows judged in
    let d = c.args.distance in
    let i = c.loop-at.at in
    let kd = distance-kept d c.requires.size in
    let inside : i < length judged = omega (arith, c.loop-at-test.true) in
    let none : NoneBefore d i xs = subst (λ z. NoneBefore z i xs) kd c.loop-at.invariant.none in
    let test = told-within false c.stays_within.result d c.value_at.result.hi (kept_wide d) (kept_wide c.value_at.result.hi) c.stays_within.ensures kd (distance2-kept c.value_at.result.hi c.value_at.ensures.hi_fits) c.if-stays_within.false in
    let miss = near-miss o.shape o.b.now o.own rows judged d i inside (subst (λ v. int_le v (d *ℤ d) ≡ false) c.value_at.ensures.hi test) in
    let more : NoneBefore d (i + 1) xs = none_more d i xs none (omega (arith, inside, far-length o.shape o.b.now o.own rows judged)) miss in
    record { none = subst (λ z. NoneBefore z (i + 1) xs) (sym kd) more }

pub returns-clause-place : goal.returns-clause-place
returns-clause-place c =
    let o = c.args.over.now in
    let rows = c.args.judged.now.points.table.now.rows in
    let judged = c.args.judged.now.numbers.now in
    let xs = far_ends o.shape o.b.now o.own rows judged in
    let d = c.args.distance in
    let i = c.loop-at.at in
    let kd = distance-kept d c.requires.size in
    let none : NoneBefore d i xs = subst (λ z. NoneBefore z i xs) kd c.loop-at.invariant.none in
    let end : i ≡ length judged = omega (arith, c.loop-at-test.false, c.loop-at.auto.at-end) in
    absurd (near-found o.shape o.b.now o.own rows judged d i c.requires.distance c.args.judged.now.named none end)
