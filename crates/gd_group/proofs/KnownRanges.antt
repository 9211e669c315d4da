-- The part's first point and the ranges of a group, by values worked by hand.
use Rattle.std.proofs.Common.{◌≡◌, refl, ℤ, pos, negsuc, List, [], ◌∷◌, Option, None, Some}
use Rattle.gd_group.specs.Ranges.{base_of, ranges_of}
use Rattle.gd_points.specs.declared.table.Row.{Row}
use Rattle.gd_tables.specs.Kinds.{File}
use Rattle.gd_tables.specs.declared.kind.Turn.{Turn}
use Rattle.gd_tables.specs.declared.kind.Turn.TheVariants as turn
use Rattle.gd_turn.specs.declared.ranges.TurnRange.TheVariants as range
use Rattle.gd_vec.specs.declared.vector.V3.{V3}

abbrev vector : ℤ → ℤ → ℤ → V3
vector x y z = record { x = x; y = y; z = z }

abbrev row : V3 → Row
row at = record { feature = 0; group = 0; at = at }

abbrev rows : List Row
rows = row (vector (pos 10) (negsuc 4) (pos 7)) ∷ row (vector (pos 1) (pos 2) (pos 3)) ∷ []

abbrev file : Turn → Option V3 → File
file turn centre = record { turn = turn; shift = 18; centre = centre; features = []; datums = []; frames = [] }

first_point : base_of rows ≡ vector (pos 10) (negsuc 4) (pos 7)
first_point = refl

no_point : base_of [] ≡ vector (pos 0) (pos 0) (pos 0)
no_point = refl

about_first_point : ranges_of (file turn.All None) rows []
    ≡ record { turn = range.All; shift = 18; centre = vector (pos 10) (negsuc 4) (pos 7); offsets = 0 }
about_first_point = refl

about_centre : ranges_of (file (turn.Within 5) (Some (vector (pos 1) (pos 2) (pos 3)))) rows []
    ≡ record { turn = range.Within 5; shift = 18; centre = vector (pos 1) (pos 2) (pos 3); offsets = 0 }
about_centre = refl
