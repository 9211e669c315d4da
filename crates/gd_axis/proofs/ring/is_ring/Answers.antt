use Rattle.std.proofs.Common.{◌≡◌, ◌∙◌, ap, pos, sym, arith}
use Rattle.std.specs.Ordering.{is_le}
use Rattle.gd_axis.proofs.AxisSizes.{kept-large}
use Rattle.gd_axis.proofs.RootExtremes.{compared-as, distance-kept, distance2-kept, greatest-far, least-near}
use Rattle.gd_flat.proofs.Sizes.{kept_wide}
use Rattle.gd_axis.specs.AxisTests.{far_ends, length2_of, near_ends}
use Rattle.gd_flat.specs.FlatTests.{greatest, least}
use Rattle.gd_zone.specs.Tests.{ceil_root, floor_root}
use Rattle.gd_axis.proofs.ring.is_ring.Goals as goal

pub returns : goal.returns
returns c =
    let o = c.args.over.now in
    let rows = c.args.judged.now.points.table.now.rows in
    let judged = c.args.judged.now.numbers.now in
    let x = c.extent_of-extent in
    let far : c.root_up-far.result ≡ greatest (far_ends o.shape o.b.now o.own rows judged) =
    c.root_up-far.ensures.value ∙ ap ceil_root (distance2-kept x.result.most_hi x.result.most_hi_fits ∙ x.ensures.most_hi) ∙ sym (greatest-far o.shape o.b.now o.own rows judged c.args.judged.now.named) in
    let near : c.root_down-near.result ≡ least (near_ends o.shape o.b.now o.own rows judged) =
    c.root_down-near.ensures.value ∙ ap floor_root (distance2-kept x.result.least_lo x.result.least_lo_fits ∙ x.ensures.least_lo) ∙ sym (least-near o.shape o.b.now o.own rows judged c.args.judged.now.named) in
    let m : kept_wide c.length2.result.lo ≡ (length2_of o.shape o.b.now).lo = kept-large c.length2.result.lo (omega (arith, c.length2.ensures.size.lo)) ∙ ap (λ e. e.lo) c.length2.ensures.ends in
    c.is_le.ensures
    ∙ ap is_le (c.compared.ensures ∙ compared-as (pos c.args.tolerance) (greatest (far_ends o.shape o.b.now o.own rows judged)) (least (near_ends o.shape o.b.now o.own rows judged)) (length2_of o.shape o.b.now).lo
    (kept_wide c.root_up-far.result) (kept_wide c.root_down-near.result) (kept_wide c.length2.result.lo)
    (distance-kept c.root_up-far.result c.root_up-far.ensures.size ∙ far) (distance-kept c.root_down-near.result c.root_down-near.ensures.size ∙ near) m)
