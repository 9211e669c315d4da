-- What the words of a frame file mean.
use Rattle.std.specs.Prelude.{ℕ, List, [], ◌∷◌, Option, Some, None, codes, nat_eq, if◌then◌else◌}
use Rattle.std.specs.Cmp.Lexicographic.{pointwise}
use Rattle.gd_tables.specs.declared.kind.Kind.{Kind}
use Rattle.gd_tables.specs.declared.kind.Kind.TheVariants as kind
use Rattle.gd_tables.specs.declared.kind.Material.{Material}
use Rattle.gd_tables.specs.declared.kind.Material.TheVariants as material
use Rattle.gd_tables.specs.declared.kind.Shape.{Shape}
use Rattle.gd_tables.specs.declared.kind.Shape.TheVariants as shape

-- what a word means by a list of words with their meanings
abbrev pub meaning : {A : Type 0} → List (List ℕ × A) → List ℕ → Option A
meaning [] word = None
meaning (entry ∷ more) word = if pointwise nat_eq word entry.0 then Some entry.1 else meaning more word

abbrev pub shapes : List (List ℕ × Shape)
shapes = (codes "plane", shape.Plane) ∷ (codes "hole", shape.Hole) ∷ (codes "pin", shape.Pin) ∷ (codes "axis", shape.Axis)
    ∷ (codes "sphere", shape.Sphere) ∷ []

abbrev pub shape_of : List ℕ → Option Shape
shape_of word = meaning shapes word

abbrev pub materials : List (List ℕ × Material)
materials = (codes "rfs", material.Rfs) ∷ (codes "mmc", material.Mmc) ∷ (codes "lmc", material.Lmc) ∷ []

abbrev pub material_of : List ℕ → Option Material
material_of word = meaning materials word

-- three words mean that a feature is oriented: the angle is that of its direction
abbrev pub kinds : List (List ℕ × Kind)
kinds = (codes "flatness", kind.Flatness) ∷ (codes "straightness", kind.Straightness) ∷ (codes "circularity", kind.Circularity)
    ∷ (codes "cylindricity", kind.Cylindricity) ∷ (codes "parallelism", kind.Orientation)
    ∷ (codes "perpendicularity", kind.Orientation) ∷ (codes "angularity", kind.Orientation) ∷ (codes "position", kind.Position)
    ∷ (codes "profile", kind.Profile) ∷ (codes "circular_runout", kind.CircularRunout)
    ∷ (codes "total_runout", kind.TotalRunout) ∷ []

abbrev pub kind_of : List ℕ → Option Kind
kind_of word = meaning kinds word
