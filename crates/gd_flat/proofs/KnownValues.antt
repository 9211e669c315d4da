-- Values worked by hand, so that a wrong definition doesn't check.
use Rattle.std.proofs.Common.{◌≡◌, refl, ℕ, ◌^◌, ◌*◌, pos, neg_ℤ, true, false, Some, None, List, [], ◌∷◌}
use Rattle.gd_cells.specs.Grid.{cell_of}
use Rattle.gd_dir.specs.Boxes.{box_of}
use Rattle.gd_dir.specs.Covers.{face_cell}
use Rattle.gd_dir.specs.declared.shape.DirBox.{DirBox}
use Rattle.gd_flat.specs.FlatTests.{evidence_of, first_evidence, high_along, is_refuted, is_within, low_along, most_norm2}
use Rattle.gd_points.specs.declared.table.Row.{Row}

point : ℕ → ℕ → ℕ → Row
point x y z = record { feature = 0; group = 0; at = record { x = pos x; y = pos y; z = pos z } }

-- a corner of a cube of 1,000 units
corner : List Row
corner = point 0 0 0 ∷ point 1000 0 0 ∷ point 0 1000 0 ∷ point 0 0 1000 ∷ []

face : ℕ → DirBox
face root = box_of (face_cell root 0 0)

-- the greatest squared length of a whole face is 3
known_length : most_norm2 (face 1) ≡ pos (3 * 2 ^ 60)
unfolding cell_of face
known_length = refl

-- along the whole face of x, 1,000 units along y lie between -1,000 and 1,000
known_span : (low_along (face 1) (record { x = pos 0; y = pos 1000; z = pos 0 }) ≡ neg_ℤ (pos (1000 * 2 ^ 30))) × (high_along (face 1) (record { x = pos 0; y = pos 1000; z = pos 0 }) ≡ pos (1000 * 2 ^ 30))
unfolding cell_of face
known_span = (refl, refl)

-- each whole face is refuted by the point on its axis and the first one
known_evidence : (first_evidence corner 10 (face 1) ≡ Some (evidence_of 1 0)) × (first_evidence corner 10 (face 2) ≡ Some (evidence_of 2 0)) × (first_evidence corner 10 (face 3) ≡ Some (evidence_of 3 0))
unfolding cell_of face corner point
known_evidence = (refl, refl, refl)

-- to 600 units nothing refutes the face of x: 1,000 is less than 600 roots of 3
known_none : first_evidence corner 600 (face 1) ≡ None
unfolding cell_of face corner point
known_none = refl

-- points are numbered from 1, and there is one condition
known_numbers : (is_refuted corner 10 (face 1) (record { condition = 1; a = 2; b = 0 }) ≡ false) × (is_refuted corner 10 (face 1) (record { condition = 1; a = 5; b = 1 }) ≡ false) × (is_refuted corner 10 (face 1) (record { condition = 2; a = 2; b = 1 }) ≡ false)
unfolding cell_of face corner point
known_numbers = (refl, refl, refl)

-- along (1, 1, 1) the corner is 1,000 over the root of 3 wide: 577.35 units
known_spread : (is_within corner 577 (record { x = pos 1; y = pos 1; z = pos 1 }) ≡ false) × (is_within corner 578 (record { x = pos 1; y = pos 1; z = pos 1 }) ≡ true)
unfolding corner point
known_spread = (refl, refl)
