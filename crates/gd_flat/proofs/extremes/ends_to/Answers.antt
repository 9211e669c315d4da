use Rattle.std.proofs.Common.{arith, ◌≡◌, ◌∙◌, ◌<◌, ◌≤◌, ◌*◌, ◌^◌, ap, sym, take, length, unsigned_abs, to_z, w64, ℕ, ℤ}
use Rattle.std.proofs.lemmas.Int.{ints, clamps}
use Rattle.std.specs.Int.{int_max, int_min}
use Rattle.gd_flat.proofs.Blocks.{greatest_next, highs_length, least_next, lows_length}
use Rattle.gd_flat.proofs.Sizes.{abs_max, abs_min, kept, kept-is}
use Rattle.gd_flat.specs.FlatTests.{greatest, highs, least, lows}
use Rattle.gd_flat.specs.PointRows.{rows_in}
use Rattle.gd_flat.proofs.extremes.ends_to.Goals as goal

pub loop-at-preserved : goal.loop-at-preserved
loop-at-preserved c =
    let b = c.args.face.now.directions in
    let rows = rows_in c.args.face.now.points in
    let i : ℕ = c.loop-at.at in
    let so = c.loop-at.invariant in
    let most : ℤ = to_z w64 c.loop-at.most-bits in
    let least-so : ℤ = to_z w64 c.loop-at.least-bits in
    let some : 0 < c.loop-at.at = omega (arith, c.requires.from, c.loop-at.auto.at) in
    let in-rows : c.loop-at.at < length rows = omega (arith, c.loop-at-test.true, c.requires.to) in
    let in-lows : c.loop-at.at < length (lows b rows) = omega (arith, in-rows, lows_length b rows) in
    let in-highs : c.loop-at.at < length (highs b rows) = omega (arith, in-rows, highs_length b rows) in
    let lo : ℤ = c.span_at-span.result.lo in
    let hi : ℤ = c.span_at-span.result.hi in
    let em : c.max-most.result ≡ int_max most lo = c.max-most.ensures.value ∙ ap (int_max most) (kept-is lo (omega (arith, c.span_at-span.result.lo_size))) in
    let el : c.min-least.result ≡ int_min least-so hi = c.min-least.ensures.value ∙ ap (int_min least-so) (kept-is hi (omega (arith, c.span_at-span.result.hi_size))) in
    let sm : unsigned_abs c.max-most.result ≤ 3 * 2 ^ 54 = rw em (abs_max most lo (3 * 2 ^ 54) so.lo_size c.span_at-span.result.lo_size) in
    let sl : unsigned_abs c.min-least.result ≤ 3 * 2 ^ 54 = rw el (abs_min least-so hi (3 * 2 ^ 54) so.hi_size c.span_at-span.result.hi_size) in
    let km : kept c.max-most.result ≡ int_max most lo = kept-is c.max-most.result (omega (arith, sm)) ∙ em in
    let kl : kept c.min-least.result ≡ int_min least-so hi = kept-is c.min-least.result (omega (arith, sl)) ∙ el in
    record {
      lo = km ∙ ap (λ m. int_max m lo) so.lo ∙ ap (int_max (greatest (take i (lows b rows)))) c.span_at-span.ensures.lo ∙ sym (greatest_next (lows b rows) i some in-lows);
      hi = kl ∙ ap (λ m. int_min m hi) so.hi ∙ ap (int_min (least (take i (highs b rows)))) c.span_at-span.ensures.hi ∙ sym (least_next (highs b rows) i some in-highs);
      lo_more = rw km (omega (arith, ints, clamps, so.lo_more));
      hi_less = rw kl (omega (arith, ints, clamps, so.hi_less));
      lo_size = rw (km ∙ sym em) sm;
      hi_size = rw (kl ∙ sym el) sl;
    }
