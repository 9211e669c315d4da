use Rattle.std.proofs.Common.{arith, ◌≡◌, ◌∙◌, get_or, pos, refl}
use Rattle.gd_flat.proofs.Sizes.{kept-is}
use Rattle.gd_flat.specs.FlatTests.{highs, lows}
use Rattle.gd_flat.specs.PointRows.{rows_in}
use Rattle.gd_flat.proofs.flat.places_part.Goals as goal

pub returns : goal.returns
returns c =
    let rows = rows_in c.args.points.now in
    let b = c.args.b.now in
    let lo : c.span_at.result.lo ≡ get_or (lows b rows) c.args.far (pos 0) = rw (c.face_of-face.ensures.directions, c.face_of-face.ensures.rows) at c.span_at.ensures.lo in
    let hi : c.span_at-2.result.hi ≡ get_or (highs b rows) c.args.near (pos 0) = rw (c.face_of-face.ensures.directions, c.face_of-face.ensures.rows) at c.span_at-2.ensures.hi in
    c.are_parted.ensures
    ∙ rw (kept-is c.span_at.result.lo (omega (arith, c.span_at.result.lo_size)), kept-is c.span_at-2.result.hi (omega (arith, c.span_at-2.result.hi_size)), lo, hi) refl
