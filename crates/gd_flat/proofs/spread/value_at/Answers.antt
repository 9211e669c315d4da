use Rattle.std.proofs.Common.{rules, arith, ◌≡◌, ◌∙◌, ◌*ℤ◌, ap, refl, sym}
use Rattle.gd_flat.proofs.Blocks.{along_there}
use Rattle.gd_flat.proofs.Sizes.{kept-is}
use Rattle.gd_vec.specs.Vector.{dot_of}
use Rattle.gd_flat.specs.PointRows.{rows_in}
use Rattle.gd_flat.proofs.spread.value_at.Goals as goal

pub returns-clause-value : goal.returns-clause-value
returns-clause-value c =
    let n = c.args.n.now in
    let x : c.times.result ≡ c.args.n.now.x *ℤ c.place_at-point.result.x = search rules in
    let y : c.times-2.result ≡ c.args.n.now.y *ℤ c.place_at-point.result.y = search rules in
    let z : c.times-3.result ≡ c.args.n.now.z *ℤ c.place_at-point.result.z = search rules in
    let kx = kept-is c.times.result (omega (arith, c.times.ensures.size)) in
    let ky = kept-is c.times-2.result (omega (arith, c.times-2.ensures.size)) in
    let kz = kept-is c.times-3.result (omega (arith, c.times-3.ensures.size)) in
    kept-is c.sum.result (omega (arith, c.sum.ensures.size)) ∙ c.sum.ensures.value ∙ rw (kx, ky, kz, x, y, z) refl
    ∙ ap (dot_of n) c.place_at-point.ensures.value ∙ sym (along_there n (rows_in c.args.points.now) c.args.at c.requires.at)
