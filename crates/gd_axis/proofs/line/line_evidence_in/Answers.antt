use Rattle.std.proofs.Common.{arith, refl, ◌≡◌, ◌∙◌, ◌<◌, ◌*ℤ◌, ap, subst, sym, pos, true, false, int_lt, get_or, length, Some}
use Rattle.gd_axis.proofs.AxisSizes.{kept-large}
use Rattle.gd_axis.proofs.LineLoops.{NoneMore, more-kept, no-more, told-more, first-outside, none-outside}
use Rattle.gd_axis.proofs.RootExtremes.{distance2-kept}
use Rattle.gd_flat.proofs.Sizes.{kept_wide}
use Rattle.gd_axis.specs.AxisTests.{length2_of, point_evidence, square_times, lower_ends}
use Rattle.gd_axis.proofs.line.line_evidence_in.Goals as goal

pub returns-then-is_more : goal.returns-then-is_more
returns-then-is_more c =
    let o = c.args.over.now in
    let rows = c.args.judged.now.points.table.now.rows in
    let judged = c.args.judged.now.numbers.now in
    let xs = lower_ends o.shape o.b.now o.own rows judged in
    let i = c.loop-at.at in
    let inside : i < length judged = omega (arith, c.loop-at-test.true) in
    let m = kept-large c.length2.result.hi (omega (arith, c.length2.ensures.size.hi)) ∙ ap (λ e. e.hi) c.length2.ensures.ends in
    let km : kept_wide c.square_times-most.result ≡ square_times c.args.tolerance (length2_of o.shape o.b.now).hi = more-kept c.square_times-most.result c.square_times-most.ensures.size ∙ c.square_times-most.ensures.value ∙ ap (square_times c.args.tolerance) m in
    let none : NoneMore (square_times c.args.tolerance (length2_of o.shape o.b.now).hi) i xs = subst (λ z. NoneMore z i xs) km c.loop-at.invariant.none in
    let told = told-more true c.is_more.result (square_times c.args.tolerance (length2_of o.shape o.b.now).hi) c.value_at.result.lo (kept_wide c.square_times-most.result) (kept_wide c.value_at.result.lo) c.is_more.ensures km (distance2-kept c.value_at.result.lo c.value_at.ensures.lo_fits) c.if-is_more.true in
    let test : int_lt (square_times c.args.tolerance (length2_of o.shape o.b.now).hi) (pos 4 *ℤ get_or xs i (pos 0)) ≡ true = subst (λ v. int_lt (square_times c.args.tolerance (length2_of o.shape o.b.now).hi) (pos 4 *ℤ v) ≡ true) c.value_at.ensures.lo told in
    ap Some (c.evidence_at.ensures ∙ ap point_evidence c.number_at.ensures.value) ∙ sym (first-outside o.shape o.b.now o.own rows judged c.args.tolerance i inside none test)

pub loop-at-preserved : goal.loop-at-preserved
loop-at-preserved c =
    let o = c.args.over.now in
    let rows = c.args.judged.now.points.table.now.rows in
    let judged = c.args.judged.now.numbers.now in
    let xs = lower_ends o.shape o.b.now o.own rows judged in
    let i = c.loop-at.at in
    let most = kept_wide c.square_times-most.result in
    let told = told-more false c.is_more.result most c.value_at.result.lo (kept_wide c.square_times-most.result) (kept_wide c.value_at.result.lo) c.is_more.ensures refl (distance2-kept c.value_at.result.lo c.value_at.ensures.lo_fits) c.if-is_more.false in
    let test : int_lt most (pos 4 *ℤ get_or xs i (pos 0)) ≡ false = subst (λ v. int_lt most (pos 4 *ℤ v) ≡ false) c.value_at.ensures.lo told in
    record { none = no-more most i xs c.loop-at.invariant.none test }

pub returns : goal.returns
returns c =
    let o = c.args.over.now in
    let rows = c.args.judged.now.points.table.now.rows in
    let judged = c.args.judged.now.numbers.now in
    let xs = lower_ends o.shape o.b.now o.own rows judged in
    let i = c.loop-at.at in
    let end : i ≡ length judged = omega (arith, c.loop-at-test.false, c.loop-at.auto.at-end) in
    let m = kept-large c.length2.result.hi (omega (arith, c.length2.ensures.size.hi)) ∙ ap (λ e. e.hi) c.length2.ensures.ends in
    let km : kept_wide c.square_times-most.result ≡ square_times c.args.tolerance (length2_of o.shape o.b.now).hi = more-kept c.square_times-most.result c.square_times-most.ensures.size ∙ c.square_times-most.ensures.value ∙ ap (square_times c.args.tolerance) m in
    let none : NoneMore (square_times c.args.tolerance (length2_of o.shape o.b.now).hi) i xs = subst (λ z. NoneMore z i xs) km c.loop-at.invariant.none in
    sym (none-outside o.shape o.b.now o.own rows judged c.args.tolerance i none end)
