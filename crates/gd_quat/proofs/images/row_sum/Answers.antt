use Rattle.std.proofs.Common.{◌≡◌, rules}
use Rattle.gd_quat.specs.Formulas.{multiple, ends}
use Rattle.gd_quat.proofs.Sizes.{ends-sum}
use Rattle.gd_quat.proofs.images.row_sum.Goals as goal

pub returns-clause-ends : goal.returns-clause-ends
returns-clause-ends c =
    let x : ends c.scaled.result ≡ multiple (ends c.args.m.now.x) c.args.v.now.x = search rules in
    let y : ends c.scaled-2.result ≡ multiple (ends c.args.m.now.y) c.args.v.now.y = search rules in
    let z : ends c.scaled-3.result ≡ multiple (ends c.args.m.now.z) c.args.v.now.z = search rules in
    let xy = ends-sum c.scaled.result c.scaled-2.result c.add.result (multiple (ends c.args.m.now.x) c.args.v.now.x) (multiple (ends c.args.m.now.y) c.args.v.now.y) x y (search rules) (search rules) in
    ends-sum c.add.result c.scaled-3.result c.add-2.result _ (multiple (ends c.args.m.now.z) c.args.v.now.z) xy z (search rules) (search rules)
