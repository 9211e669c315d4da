use Rattle.std.proofs.Common.{◌≡◌, ◌∙◌, ap, pos, sym, cond, Some, None, true, false, arith}
use Rattle.std.specs.Ordering.{is_gt}
use Rattle.gd_axis.specs.Laws.AxisEvidence.{extremes-part}
use Rattle.gd_axis.proofs.AxisSizes.{kept-large}
use Rattle.gd_axis.proofs.RootExtremes.{compared-as, distance-kept, distance2-kept, greatest-near, least-far}
use Rattle.gd_flat.proofs.Sizes.{kept_wide}
use Rattle.gd_axis.specs.AxisTests.{far_ends, farthest_point, length2_of, near_ends, nearest_point, ring_parts}
use Rattle.gd_flat.specs.FlatTests.{evidence_of, greatest, least}
use Rattle.gd_zone.specs.Tests.{ceil_root, floor_root}
use Rattle.gd_axis.proofs.ring.ring_evidence_in.Goals as goal

pub evidence_at-requires-clause-far : goal.evidence_at-requires-clause-far
evidence_at-requires-clause-far c =
    let o = c.args.over.now in
    let x = c.extent_of-extent in
    distance-kept c.root_down-far.result c.root_down-far.ensures.size
    ∙ (c.root_down-far.ensures.value ∙ ap floor_root (distance2-kept x.result.most_lo x.result.most_lo_fits ∙ x.ensures.most_lo) ∙ sym (greatest-near o.shape o.b.now o.own c.args.judged.now.points.table.now.rows c.args.judged.now.numbers.now c.args.judged.now.named))

pub evidence_at-requires-clause-near : goal.evidence_at-requires-clause-near
evidence_at-requires-clause-near c =
    let o = c.args.over.now in
    let x = c.extent_of-extent in
    distance-kept c.root_up-near.result c.root_up-near.ensures.size
    ∙ (c.root_up-near.ensures.value ∙ ap ceil_root (distance2-kept x.result.least_hi x.result.least_hi_fits ∙ x.ensures.least_hi) ∙ sym (least-far o.shape o.b.now o.own c.args.judged.now.points.table.now.rows c.args.judged.now.numbers.now c.args.judged.now.named))

pub returns-then-is_gt : goal.returns-then-is_gt
returns-then-is_gt c =
    let o = c.args.over.now in
    let rows = c.args.judged.now.points.table.now.rows in
    let judged = c.args.judged.now.numbers.now in
    let x = c.extent_of-extent in
    let named = c.args.judged.now.named in
    let i = farthest_point o.shape rows judged o.b.now o.own in
    let j = nearest_point o.shape rows judged o.b.now o.own in
    let far : c.root_down-far.result ≡ greatest (near_ends o.shape o.b.now o.own rows judged) =
    c.root_down-far.ensures.value ∙ ap floor_root (distance2-kept x.result.most_lo x.result.most_lo_fits ∙ x.ensures.most_lo) ∙ sym (greatest-near o.shape o.b.now o.own rows judged named) in
    let near : c.root_up-near.result ≡ least (far_ends o.shape o.b.now o.own rows judged) =
    c.root_up-near.ensures.value ∙ ap ceil_root (distance2-kept x.result.least_hi x.result.least_hi_fits ∙ x.ensures.least_hi) ∙ sym (least-far o.shape o.b.now o.own rows judged named) in
    let m : kept_wide c.length2.result.hi ≡ (length2_of o.shape o.b.now).hi = kept-large c.length2.result.hi (omega (arith, c.length2.ensures.size.hi)) ∙ ap (λ e. e.hi) c.length2.ensures.ends in
    let told = ap is_gt (c.compared.ensures ∙ compared-as (pos c.args.tolerance) (greatest (near_ends o.shape o.b.now o.own rows judged)) (least (far_ends o.shape o.b.now o.own rows judged)) (length2_of o.shape o.b.now).hi
    (kept_wide c.root_down-far.result) (kept_wide c.root_up-near.result) (kept_wide c.length2.result.hi)
    (distance-kept c.root_down-far.result c.root_down-far.ensures.size ∙ far) (distance-kept c.root_up-near.result c.root_up-near.ensures.size ∙ near) m) in
    let h : ring_parts o.shape rows c.args.tolerance o.b.now o.own i j ≡ true = extremes-part o.shape rows judged c.args.tolerance o.b.now o.own named ∙ sym told ∙ (sym c.is_gt.ensures ∙ c.if-is_gt.true) in
    ap Some c.evidence_at.ensures ∙ sym (ap (λ v. cond v (Some (evidence_of i j)) None) h)

pub returns-else-is_gt : goal.returns-else-is_gt
returns-else-is_gt c =
    let o = c.args.over.now in
    let rows = c.args.judged.now.points.table.now.rows in
    let judged = c.args.judged.now.numbers.now in
    let x = c.extent_of-extent in
    let named = c.args.judged.now.named in
    let i = farthest_point o.shape rows judged o.b.now o.own in
    let j = nearest_point o.shape rows judged o.b.now o.own in
    let far : c.root_down-far.result ≡ greatest (near_ends o.shape o.b.now o.own rows judged) =
    c.root_down-far.ensures.value ∙ ap floor_root (distance2-kept x.result.most_lo x.result.most_lo_fits ∙ x.ensures.most_lo) ∙ sym (greatest-near o.shape o.b.now o.own rows judged named) in
    let near : c.root_up-near.result ≡ least (far_ends o.shape o.b.now o.own rows judged) =
    c.root_up-near.ensures.value ∙ ap ceil_root (distance2-kept x.result.least_hi x.result.least_hi_fits ∙ x.ensures.least_hi) ∙ sym (least-far o.shape o.b.now o.own rows judged named) in
    let m : kept_wide c.length2.result.hi ≡ (length2_of o.shape o.b.now).hi = kept-large c.length2.result.hi (omega (arith, c.length2.ensures.size.hi)) ∙ ap (λ e. e.hi) c.length2.ensures.ends in
    let told = ap is_gt (c.compared.ensures ∙ compared-as (pos c.args.tolerance) (greatest (near_ends o.shape o.b.now o.own rows judged)) (least (far_ends o.shape o.b.now o.own rows judged)) (length2_of o.shape o.b.now).hi
    (kept_wide c.root_down-far.result) (kept_wide c.root_up-near.result) (kept_wide c.length2.result.hi)
    (distance-kept c.root_down-far.result c.root_down-far.ensures.size ∙ far) (distance-kept c.root_up-near.result c.root_up-near.ensures.size ∙ near) m) in
    let h : ring_parts o.shape rows c.args.tolerance o.b.now o.own i j ≡ false = extremes-part o.shape rows judged c.args.tolerance o.b.now o.own named ∙ sym told ∙ (sym c.is_gt.ensures ∙ c.if-is_gt.false) in
    sym (ap (λ v. cond v (Some (evidence_of i j)) None) h)
