-- How the first evidence is found: the ends from which on a value is compared as another one, and the pair of a demand.
use Rattle.std.specs.Prelude.{ℕ, ℤ, ◌*ℤ◌, List, map, Option, Some, None, if◌then◌else◌}
use Rattle.gd_bound.specs.Evidence.{first_pair}
use Rattle.gd_bound.specs.declared.pair.Pair.{Pair}
use Rattle.gd_quat.specs.Formulas.{Ends}
use Rattle.gd_zone.specs.Refutations.{surface_refuted}
use Rattle.gd_zone.specs.Tests.{ceil_root, floor_root}
use Rattle.gd_zone.specs.declared.condition.Demand.{Demand}
use Rattle.gd_zone.specs.declared.condition.Surface.{Surface}
use Rattle.gd_zone.specs.declared.condition.Surface.TheVariants.{Plane, Axis, Ball}

-- the least lower end whose root, rounded down, is that of lo
abbrev pub low_threshold : Surface → ℤ → ℤ
low_threshold (Plane direction point) lo = lo
low_threshold (Axis direction point) lo = floor_root lo *ℤ floor_root lo
low_threshold (Ball point) lo = floor_root lo *ℤ floor_root lo

-- the greatest upper end whose root, rounded up, is that of hi
abbrev pub high_threshold : Surface → ℤ → ℤ
high_threshold (Plane direction point) hi = hi
high_threshold (Axis direction point) hi = ceil_root hi *ℤ ceil_root hi
high_threshold (Ball point) hi = ceil_root hi *ℤ ceil_root hi

-- the pair that says that a demand is refuted: ns are the numbers of the condition's points, all those of its feature
unfoldable pub pair_by : Surface → Demand → (ℕ → Ends) → List ℕ → List ℕ → Option Pair
pair_by s d e ns all = if surface_refuted s d (map e ns) (map e all) then Some (first_pair s d e ns all) else None
