use Rattle.std.proofs.Common.{◌≡◌, ◌∙◌, ap, pos, arith}
use Rattle.std.specs.Ordering.{is_gt}
use Rattle.gd_axis.proofs.AxisSizes.{kept-large}
use Rattle.gd_axis.proofs.RootExtremes.{compared-as, distance-kept, distance2-kept}
use Rattle.gd_flat.proofs.Sizes.{kept_wide}
use Rattle.gd_axis.specs.AxisTests.{length2_of, value_at, value_of}
use Rattle.gd_zone.specs.Tests.{ceil_root, floor_root}
use Rattle.gd_axis.proofs.ring.places_part.Goals as goal

pub returns : goal.returns
returns c =
    let o = c.args.over.now in
    let rows = c.args.judged.now.points.table.now.rows in
    let least : c.root_down-least.result ≡ floor_root (value_at o.shape o.b.now o.own rows c.args.far).lo =
    c.root_down-least.ensures.value ∙ ap floor_root (distance2-kept c.value.result.lo c.value.ensures.lo ∙ ap (λ e. e.lo) c.value.ensures.ends ∙ ap (λ p. (value_of o.shape o.b.now o.own p).lo) c.point_of.ensures.value) in
    let most : c.root_up-most.result ≡ ceil_root (value_at o.shape o.b.now o.own rows c.args.near).hi =
    c.root_up-most.ensures.value ∙ ap ceil_root (distance2-kept c.value-2.result.hi c.value-2.ensures.hi ∙ ap (λ e. e.hi) c.value-2.ensures.ends ∙ ap (λ p. (value_of o.shape o.b.now o.own p).hi) c.point_of-2.ensures.value) in
    let m : kept_wide c.length2.result.hi ≡ (length2_of o.shape o.b.now).hi = kept-large c.length2.result.hi (omega (arith, c.length2.ensures.size.hi)) ∙ ap (λ e. e.hi) c.length2.ensures.ends in
    c.is_gt.ensures
    ∙ ap is_gt (c.compared.ensures ∙ compared-as (pos c.args.tolerance) (floor_root (value_at o.shape o.b.now o.own rows c.args.far).lo) (ceil_root (value_at o.shape o.b.now o.own rows c.args.near).hi) (length2_of o.shape o.b.now).hi
    (kept_wide c.root_down-least.result) (kept_wide c.root_up-most.result) (kept_wide c.length2.result.hi)
    (distance-kept c.root_down-least.result c.root_down-least.ensures.size ∙ least) (distance-kept c.root_up-most.result c.root_up-most.ensures.size ∙ most) m)
