use Rattle.std.proofs.Common.{rules, FitsSigned, ◌≡◌, ap}
use Rattle.std.proofs.lemmas.Int.{to_z-of_z}
use Rattle.std.specs.Int.{w64}
use Rattle.std.specs.Prelude.{◌-ℤ◌}
use Rattle.gd_vec.specs.Vector.{difference}
use Rattle.gd_zone.proofs.view.View.from_base.Goals as goal

pub returns-clause-value : goal.returns-clause-value
returns-clause-value c =
    let x : FitsSigned w64 c.apart.result = search rules in
    let y : FitsSigned w64 c.apart-2.result = search rules in
    let z : FitsSigned w64 c.apart-3.result = search rules in
    let ex : c.apart.result ≡ c.place-place.result.x -ℤ c.args.self.now.base.now.x = search rules in
    let ey : c.apart-2.result ≡ c.place-place.result.y -ℤ c.args.self.now.base.now.y = search rules in
    let ez : c.apart-3.result ≡ c.place-place.result.z -ℤ c.args.self.now.base.now.z = search rules in
    rw (to_z-of_z w64 c.apart.result x, to_z-of_z w64 c.apart-2.result y, to_z-of_z w64 c.apart-3.result z, ex, ey, ez) (ap (λ p. difference p c.args.self.now.base.now) c.place-place.ensures.value)
