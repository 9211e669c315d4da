-- Values worked by hand, so that a wrong definition doesn't check.
use Rattle.std.proofs.Common.{◌≡◌, refl, ◌*◌, ◌^◌, pos, neg_ℤ, length}
use Rattle.gd_cells.specs.Grid.{cell_of}
use Rattle.gd_grid.specs.Cells.{coordinate_at}
use Rattle.gd_quat.specs.Formulas.{point_ends}
use Rattle.gd_turn.specs.Boxes.{ends_in, offset_ends}
use Rattle.gd_turn.specs.Covers.{turn_cell}
use Rattle.gd_turn.specs.Ranges.{ORIGIN, cells_of, coordinates_of, face_of, ratio}
use Rattle.gd_turn.specs.declared.ranges.Ranges.{Ranges}
use Rattle.gd_turn.specs.declared.ranges.TurnRange.TheVariants.{All, Within}

-- every rotation, shifts of 16 units about (100, 0, 0), one offset
abbrev all_turns : Ranges
all_turns = record { turn = All; shift = 4; centre = record { x = pos 100; y = pos 0; z = pos 0 }; offsets = 1 }

known_dims : length (coordinates_of all_turns) ≡ 9
known_dims = refl

-- shifts leave 20 halvings, so nine coordinates have 180 levels
known_finest : (cells_of all_turns).finest ≡ 180
known_finest = refl

-- 84 to 116 units along x, in fine units
known_shift : coordinate_at (coordinates_of all_turns) 3 ≡ record { low = pos (84 * 2 ^ 16); bits = 21 }
known_shift = refl

-- ratios within 2^-20
known_ratio : ratio (Within 20) ≡ record { low = neg_ℤ (pos (2 ^ 10)); bits = 11 }
known_ratio = refl

-- the third root is that of the third component, and a narrow range has the first alone
known_face : face_of All 3 ≡ 2
known_face = refl

-- path 1 of level 1 is the upper half of the first ratio; the other boxes are whole
known_half : ends_in all_turns (turn_cell all_turns 3 1 1) 0 ≡ record { lo = pos 0; hi = pos (2 ^ 30) }
unfolding cell_of
known_half = refl

known_whole : ends_in all_turns (turn_cell all_turns 3 1 1) 1 ≡ record { lo = neg_ℤ (pos (2 ^ 30)); hi = pos (2 ^ 30) }
unfolding cell_of
known_whole = refl

-- there is no second offset
known_none : offset_ends all_turns (turn_cell all_turns 3 1 1) 2 ≡ point_ends ORIGIN
known_none = refl
