use Rattle.std.proofs.Common.{arith, ◌≡◌, ◌∙◌, ◌<◌, ◌≤◌, ◌*◌, ◌^◌, ap, sym, take, length, unsigned_abs, to_z, w64, ℕ, ℤ}
use Rattle.std.specs.Int.{int_max, int_min}
use Rattle.gd_flat.proofs.Blocks.{along_length, greatest_next, least_next}
use Rattle.gd_flat.proofs.Sizes.{abs_max, abs_min, kept, kept-is}
use Rattle.gd_flat.specs.FlatTests.{along, greatest, least}
use Rattle.gd_flat.specs.PointRows.{rows_in}
use Rattle.gd_flat.proofs.spread.span_to.Goals as goal

pub loop-at-preserved : goal.loop-at-preserved
loop-at-preserved c =
    let n = c.args.n.now in
    let rows = rows_in c.args.points.now in
    let i : ℕ = c.loop-at.at in
    let so = c.loop-at.invariant in
    let most : ℤ = to_z w64 c.loop-at.most-bits in
    let least-so : ℤ = to_z w64 c.loop-at.least-bits in
    let some : 0 < c.loop-at.at = omega (arith, c.requires.from, c.loop-at.auto.at) in
    let inside : c.loop-at.at < length (along n rows) = omega (arith, c.loop-at-test.true, c.requires.to, along_length n rows) in
    let value : ℤ = c.value_at-value.result in
    let kv : kept value ≡ value = kept-is value (omega (arith, c.value_at-value.ensures.size)) in
    let em : c.max-most.result ≡ int_max most value = c.max-most.ensures.value ∙ ap (int_max most) kv in
    let el : c.min-least.result ≡ int_min least-so value = c.min-least.ensures.value ∙ ap (int_min least-so) kv in
    let sm : unsigned_abs c.max-most.result ≤ 3 * 2 ^ 54 = rw em (abs_max most value (3 * 2 ^ 54) so.hi_size c.value_at-value.ensures.size) in
    let sl : unsigned_abs c.min-least.result ≤ 3 * 2 ^ 54 = rw el (abs_min least-so value (3 * 2 ^ 54) so.lo_size c.value_at-value.ensures.size) in
    let km : kept c.max-most.result ≡ int_max most value = kept-is c.max-most.result (omega (arith, sm)) ∙ em in
    let kl : kept c.min-least.result ≡ int_min least-so value = kept-is c.min-least.result (omega (arith, sl)) ∙ el in
    record {
      lo = kl ∙ ap (λ m. int_min m value) so.lo ∙ ap (int_min (least (take i (along n rows)))) c.value_at-value.ensures.value ∙ sym (least_next (along n rows) i some inside);
      hi = km ∙ ap (λ m. int_max m value) so.hi ∙ ap (int_max (greatest (take i (along n rows)))) c.value_at-value.ensures.value ∙ sym (greatest_next (along n rows) i some inside);
      lo_size = rw (kl ∙ sym el) sl;
      hi_size = rw (km ∙ sym em) sm;
    }
