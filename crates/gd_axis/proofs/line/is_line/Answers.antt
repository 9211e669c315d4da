use Rattle.std.proofs.Common.{arith, refl, ◌≡◌, ◌∙◌, ◌<◌, ◌*ℤ◌, ap, subst, sym, pos, true, false, int_lt, get_or, length}
use Rattle.gd_axis.proofs.AxisSizes.{kept-large}
use Rattle.gd_axis.proofs.LineLoops.{NoneMore, more-kept, no-more, told-more, all-inside, some-outside}
use Rattle.gd_axis.proofs.RootExtremes.{distance2-kept}
use Rattle.gd_flat.proofs.Sizes.{kept_wide}
use Rattle.gd_axis.specs.AxisTests.{length2_of, square_times, upper_ends}
use Rattle.gd_axis.proofs.line.is_line.Goals as goal

pub returns-then-is_more : goal.returns-then-is_more
returns-then-is_more c =
    let o = c.args.over.now in
    let rows = c.args.judged.now.points.table.now.rows in
    let judged = c.args.judged.now.numbers.now in
    let xs = upper_ends o.shape o.b.now o.own rows judged in
    let i = c.loop-at.at in
    let inside : i < length judged = omega (arith, c.loop-at-test.true) in
    let m = kept-large c.length2.result.lo (omega (arith, c.length2.ensures.size.lo)) ∙ ap (λ e. e.lo) c.length2.ensures.ends in
    let km : kept_wide c.square_times-most.result ≡ square_times c.args.tolerance (length2_of o.shape o.b.now).lo = more-kept c.square_times-most.result c.square_times-most.ensures.size ∙ c.square_times-most.ensures.value ∙ ap (square_times c.args.tolerance) m in
    let none : NoneMore (square_times c.args.tolerance (length2_of o.shape o.b.now).lo) i xs = subst (λ z. NoneMore z i xs) km c.loop-at.invariant.none in
    let told = told-more true c.is_more.result (square_times c.args.tolerance (length2_of o.shape o.b.now).lo) c.value_at.result.hi (kept_wide c.square_times-most.result) (kept_wide c.value_at.result.hi) c.is_more.ensures km (distance2-kept c.value_at.result.hi c.value_at.ensures.hi_fits) c.if-is_more.true in
    let test : int_lt (square_times c.args.tolerance (length2_of o.shape o.b.now).lo) (pos 4 *ℤ get_or xs i (pos 0)) ≡ true = subst (λ v. int_lt (square_times c.args.tolerance (length2_of o.shape o.b.now).lo) (pos 4 *ℤ v) ≡ true) c.value_at.ensures.hi told in
    sym (some-outside o.shape o.b.now o.own rows judged c.args.tolerance i inside test)

pub loop-at-preserved : goal.loop-at-preserved
loop-at-preserved c =
    let o = c.args.over.now in
    let rows = c.args.judged.now.points.table.now.rows in
    let judged = c.args.judged.now.numbers.now in
    let xs = upper_ends o.shape o.b.now o.own rows judged in
    let i = c.loop-at.at in
    let most = kept_wide c.square_times-most.result in
    let told = told-more false c.is_more.result most c.value_at.result.hi (kept_wide c.square_times-most.result) (kept_wide c.value_at.result.hi) c.is_more.ensures refl (distance2-kept c.value_at.result.hi c.value_at.ensures.hi_fits) c.if-is_more.false in
    let test : int_lt most (pos 4 *ℤ get_or xs i (pos 0)) ≡ false = subst (λ v. int_lt most (pos 4 *ℤ v) ≡ false) c.value_at.ensures.hi told in
    record { none = no-more most i xs c.loop-at.invariant.none test }

pub returns : goal.returns
returns c =
    let o = c.args.over.now in
    let rows = c.args.judged.now.points.table.now.rows in
    let judged = c.args.judged.now.numbers.now in
    let xs = upper_ends o.shape o.b.now o.own rows judged in
    let i = c.loop-at.at in
    let end : i ≡ length judged = omega (arith, c.loop-at-test.false, c.loop-at.auto.at-end) in
    let m = kept-large c.length2.result.lo (omega (arith, c.length2.ensures.size.lo)) ∙ ap (λ e. e.lo) c.length2.ensures.ends in
    let km : kept_wide c.square_times-most.result ≡ square_times c.args.tolerance (length2_of o.shape o.b.now).lo = more-kept c.square_times-most.result c.square_times-most.ensures.size ∙ c.square_times-most.ensures.value ∙ ap (square_times c.args.tolerance) m in
    let none : NoneMore (square_times c.args.tolerance (length2_of o.shape o.b.now).lo) i xs = subst (λ z. NoneMore z i xs) km c.loop-at.invariant.none in
    sym (all-inside o.shape o.b.now o.own rows judged c.args.tolerance i none end)
