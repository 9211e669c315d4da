use Rattle.std.proofs.Common.{refl}
use Rattle.gd_vec.proofs.Sizes.{entries-subtracted}
use Rattle.gd_vec.proofs.vector.sub.Goals as goal

pub returns-clause-value : goal.returns-clause-value
returns-clause-value c =
    let x = entries-subtracted c.args.a.now.x c.args.b.now.x c.requires.a.x c.requires.b.x in
    let y = entries-subtracted c.args.a.now.y c.args.b.now.y c.requires.a.y c.requires.b.y in
    let z = entries-subtracted c.args.a.now.z c.args.b.now.z c.requires.a.z c.requires.b.z in
    rw (x, y, z) refl
