use Rattle.std.proofs.Common.{◌≡◌, rules}
use Rattle.gd_axis.proofs.AxisSizes.{three-are}
use Rattle.gd_axis.specs.Shorts.{short_ends}
use Rattle.gd_axis.specs.AxisTests.{less_offset}
use Rattle.gd_axis.proofs.axis.from_offset.Goals as goal

pub returns-clause-ends : goal.returns-clause-ends
returns-clause-ends c =
    let b = c.args.b.now in
    let a = c.args.own.now in
    let p = c.args.at.now in
    let x : short_ends c.less_offset.result ≡ less_offset b.offset_lo.x b.offset_hi.x a.x p.x = search rules in
    let y : short_ends c.less_offset-2.result ≡ less_offset b.offset_lo.y b.offset_hi.y a.y p.y = search rules in
    let z : short_ends c.less_offset-3.result ≡ less_offset b.offset_lo.z b.offset_hi.z a.z p.z = search rules in
    three-are (short_ends c.less_offset.result) (short_ends c.less_offset-2.result) (short_ends c.less_offset-3.result) (less_offset b.offset_lo.x b.offset_hi.x a.x p.x) (less_offset b.offset_lo.y b.offset_hi.y a.y p.y) (less_offset b.offset_lo.z b.offset_hi.z a.z p.z) x y z
