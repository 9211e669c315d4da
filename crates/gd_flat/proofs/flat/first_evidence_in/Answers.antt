use Rattle.std.proofs.Common.{◌≡◌, ◌∙◌, ap, sym}
use Rattle.std.proofs.Common.{Some}
use Rattle.gd_flat.proofs.Decisions.{decided}
use Rattle.gd_flat.specs.FlatTests.{evidence_of, greatest, highs, least, lows, place_of}
use Rattle.gd_flat.specs.Laws.Evidences.{evidence_else, evidence_then}
use Rattle.gd_flat.specs.PointRows.{rows_in}
use Rattle.gd_flat.proofs.flat.first_evidence_in.Goals as goal

pub returns-then-are_parted : goal.returns-then-are_parted
returns-then-are_parted c =
    let rows = rows_in c.args.points.now in
    let b = c.args.b.now in
    let e = c.extremes_along-extremes in
    let far = e.result.farthest.value in
    let near = e.result.nearest.value in
    let g : far ≡ greatest (lows b rows) = rw (c.face_of-face.ensures.directions, c.face_of-face.ensures.rows) at e.ensures.greatest_lo in
    let l : near ≡ least (highs b rows) = rw (c.face_of-face.ensures.directions, c.face_of-face.ensures.rows) at e.ensures.least_hi in
    let found : c.evidence_at.result ≡ evidence_of (place_of far (lows b rows)) (place_of near (highs b rows)) = rw (c.face_of-face.ensures.directions, c.face_of-face.ensures.rows) at c.evidence_at.ensures in
    let d = decided rows c.args.tolerance b c.are_parted.result far near c.args.points.now.some e.result.lo_size e.result.hi_size g l c.are_parted.ensures in
    ap Some found ∙ evidence_then rows c.args.tolerance b (place_of far (lows b rows)) (place_of near (highs b rows)) (sym d ∙ c.if-are_parted.true) (ap (λ v. place_of v (lows b rows)) g) (ap (λ v. place_of v (highs b rows)) l)

pub returns-else-are_parted : goal.returns-else-are_parted
returns-else-are_parted c =
    let rows = rows_in c.args.points.now in
    let b = c.args.b.now in
    let e = c.extremes_along-extremes in
    let g : e.result.farthest.value ≡ greatest (lows b rows) = rw (c.face_of-face.ensures.directions, c.face_of-face.ensures.rows) at e.ensures.greatest_lo in
    let l : e.result.nearest.value ≡ least (highs b rows) = rw (c.face_of-face.ensures.directions, c.face_of-face.ensures.rows) at e.ensures.least_hi in
    let d = decided rows c.args.tolerance b c.are_parted.result e.result.farthest.value e.result.nearest.value c.args.points.now.some e.result.lo_size e.result.hi_size g l c.are_parted.ensures in
    evidence_else rows c.args.tolerance b (sym d ∙ c.if-are_parted.false)
