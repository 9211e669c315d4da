use Rattle.std.proofs.Common.{arith, ◌≡◌, ◌∙◌, ◌≤◌, ap, refl, subst, sym, length}
use Rattle.gd_flat.proofs.Blocks.{NoneBefore, later_greatest, later_least}
use Rattle.gd_flat.proofs.Sizes.{kept, kept-is}
use Rattle.gd_flat.proofs.Steps.{first_high, first_low}
use Rattle.gd_flat.specs.FlatTests.{highs, lows}
use Rattle.gd_flat.specs.declared.extremes.Extreme.{Extreme}
use Rattle.gd_flat.specs.PointRows.{rows_in}
use Rattle.gd_flat.proofs.extremes.extremes_along.Goals as goal

pub loop-from-init : goal.loop-from-init
loop-from-init c =
    let b = c.args.face.now.directions in
    let rows = rows_in c.args.face.now.points in
    record {
      some = omega arith;
      room = omega (arith, c.args.face.now.points.some);
      lo = rw (first_low b rows c.args.face.now.points.some) refl;
      hi = rw (first_high b rows c.args.face.now.points.some) refl;
      farthest = λ k d h. absurd (omega (arith, h));
      nearest = λ k d h. absurd (omega (arith, h));
      lo_place = omega arith;
      hi_place = omega arith;
      lo_size = omega arith;
      hi_size = omega arith;
    }

pub loop-from-preserved : goal.loop-from-preserved
loop-from-preserved c =
    let xs = lows c.args.face.now.directions (rows_in c.args.face.now.points) in
    let ys = highs c.args.face.now.directions (rows_in c.args.face.now.points) in
    let so = c.loop-from.invariant in
    let ends = c.ends_to-ends.ensures in
    let lo = c.ends_to-ends.result.lo in
    let hi = c.ends_to-ends.result.hi in
    let kl : kept lo ≡ lo = kept-is lo (omega (arith, c.ends_to-ends.result.lo_size)) in
    let kh : kept hi ≡ hi = kept-is hi (omega (arith, c.ends_to-ends.result.hi_size)) in
    let kf : kept c.loop-from.farthest.value ≡ c.loop-from.farthest.value = kept-is c.loop-from.farthest.value (omega (arith, so.lo_size)) in
    let kn : kept c.loop-from.nearest.value ≡ c.loop-from.nearest.value = kept-is c.loop-from.nearest.value (omega (arith, so.hi_size)) in
    let f = later_greatest xs c.loop-from.farthest (kept lo) c.loop-from.from (length (rows_in c.args.face.now.points)) so.room so.lo_place so.lo so.farthest (rw kl (rw kf at ends.lo_more)) in
    let n = later_least ys c.loop-from.nearest (kept hi) c.loop-from.from (length (rows_in c.args.face.now.points)) so.room so.hi_place so.hi so.nearest (rw kh (rw kn at ends.hi_less)) in
    let ef = c.greater-farthest.ensures in
    let en = c.lesser-nearest.ensures in
    let vf : c.greater-farthest.result.value ≡ lo = ap (λ (r : Extreme). r.value) ef ∙ f.value ∙ kl in
    let vn : c.lesser-nearest.result.value ≡ hi = ap (λ (r : Extreme). r.value) en ∙ n.value ∙ kh in
    record {
      some = omega (arith, so.some, c.block_end-to.ensures.more);
      room = rw c.count_of-count.ensures.count at c.block_end-to.ensures.most;
      lo = vf ∙ ends.lo;
      hi = vn ∙ ends.hi;
      farthest = subst (λ (r : Extreme). NoneBefore r.value r.from xs) (sym ef) f.none;
      nearest = subst (λ (r : Extreme). NoneBefore r.value r.from ys) (sym en) n.none;
      lo_place = subst (λ (r : Extreme). r.from ≤ length (rows_in c.args.face.now.points)) (sym ef) f.place;
      hi_place = subst (λ (r : Extreme). r.from ≤ length (rows_in c.args.face.now.points)) (sym en) n.place;
      lo_size = rw vf c.ends_to-ends.result.lo_size;
      hi_size = rw vn c.ends_to-ends.result.hi_size;
    }
