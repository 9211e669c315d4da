use Rattle.std.proofs.Common.{◌≡◌, rules}
use Rattle.gd_quat.specs.Formulas.{multiple}
use Rattle.gd_zone.proofs.Shorts.{row-is}
use Rattle.gd_zone.specs.Shorts.{short_ends, short_vector}
use Rattle.gd_zone.proofs.short.row_sum.Goals as goal

pub returns-clause-ends : goal.returns-clause-ends
returns-clause-ends c =
    let x : short_ends c.entry.result ≡ multiple (short_ends c.args.m.now.x) c.args.v.now.x = search rules in
    let y : short_ends c.entry-2.result ≡ multiple (short_ends c.args.m.now.y) c.args.v.now.y = search rules in
    let z : short_ends c.entry-3.result ≡ multiple (short_ends c.args.m.now.z) c.args.v.now.z = search rules in
    row-is (short_vector c.args.m.now) c.args.v.now (short_ends c.total.result) (short_ends c.entry.result) (short_ends c.entry-2.result) (short_ends c.entry-3.result) c.total.ensures.ends x y z
