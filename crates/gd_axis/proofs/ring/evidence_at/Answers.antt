use Rattle.std.proofs.Common.{◌∙◌, ap, get_or}
use Rattle.gd_axis.proofs.RootExtremes.{distance-kept, evidence-is}
use Rattle.gd_axis.specs.AxisTests.{far_ends, farthest_point, near_ends, nearest_point}
use Rattle.gd_flat.specs.FlatTests.{place_of}
use Rattle.gd_axis.proofs.ring.evidence_at.Goals as goal

pub returns : goal.returns
returns c =
    let o = c.args.over.now in
    let rows = c.args.judged.now.points.table.now.rows in
    let judged = c.args.judged.now.numbers.now in
    let xs = near_ends o.shape o.b.now o.own rows judged in
    let ys = far_ends o.shape o.b.now o.own rows judged in
    let far = c.number_at-far.ensures.value ∙ ap (λ k. get_or judged k 0) (c.first_far.ensures.place ∙ ap (λ d. place_of d xs) (distance-kept c.args.far c.requires.far_size ∙ c.requires.far)) in
    let near = c.number_at-near.ensures.value ∙ ap (λ k. get_or judged k 0) (c.first_near.ensures.place ∙ ap (λ d. place_of d ys) (distance-kept c.args.near c.requires.near_size ∙ c.requires.near)) in
    evidence-is c.number_at-far.result c.number_at-near.result (farthest_point o.shape rows judged o.b.now o.own) (nearest_point o.shape rows judged o.b.now o.own) far near
