-- Boxes worked by hand, so that a wrong definition doesn't check.
use Rattle.std.proofs.Common.{◌≡◌, refl, ◌^◌, pos, neg_ℤ}
use Rattle.gd_cells.specs.Grid.{cell_of}
use Rattle.gd_dir.specs.Boxes.{ORIGIN, box_of}
use Rattle.gd_dir.specs.Covers.{face_cell}
use Rattle.gd_dir.specs.FormBoxes.{form_box, form_cell}
use Rattle.gd_dir.specs.Forms.{cells_of, leading_axis}
use Rattle.gd_vec.specs.declared.vector.V3.{V3}
use Rattle.gd_dir.specs.declared.shape.FormShape.TheVariants.{Line, Circle}

-- a whole face goes from -1 to 1 in both ratios
known_face : box_of (face_cell 1 0 0) ≡ record {
  lead = 1;
  lo = record { x = pos (2 ^ 30); y = neg_ℤ (pos (2 ^ 30)); z = neg_ℤ (pos (2 ^ 30)) };
  hi = record { x = pos (2 ^ 30); y = pos (2 ^ 30); z = pos (2 ^ 30) };
  offset_lo = ORIGIN;
  offset_hi = ORIGIN;
}
unfolding cell_of
known_face = refl

-- path 1 of level 1 is the upper half of the first ratio
known_half : box_of (face_cell 2 1 1) ≡ record {
  lead = 2;
  lo = record { x = pos 0; y = pos (2 ^ 30); z = neg_ℤ (pos (2 ^ 30)) };
  hi = record { x = pos (2 ^ 30); y = pos (2 ^ 30); z = pos (2 ^ 30) };
  offset_lo = ORIGIN;
  offset_hi = ORIGIN;
}
unfolding cell_of
known_half = refl

-- path 110 of level 3: the first ratio was halved to 10, the second to 1
known_third : box_of (face_cell 3 3 6) ≡ record {
  lead = 3;
  lo = record { x = pos 0; y = pos 0; z = pos (2 ^ 30) };
  hi = record { x = pos (2 ^ 29); y = pos (2 ^ 30); z = pos (2 ^ 30) };
  offset_lo = ORIGIN;
  offset_hi = ORIGIN;
}
unfolding cell_of
known_third = refl

-- the root of a line whose offsets go from -16 to 16 units
known_line : form_box Line ORIGIN 4 (form_cell Line 4 2 0 0) ≡ record {
  lead = 2;
  lo = record { x = neg_ℤ (pos (2 ^ 30)); y = pos (2 ^ 30); z = neg_ℤ (pos (2 ^ 30)) };
  hi = record { x = pos (2 ^ 30); y = pos (2 ^ 30); z = pos (2 ^ 30) };
  offset_lo = record { x = neg_ℤ (pos (2 ^ 20)); y = pos 0; z = neg_ℤ (pos (2 ^ 20)) };
  offset_hi = record { x = pos (2 ^ 20); y = pos 0; z = pos (2 ^ 20) };
}
unfolding cell_of
known_line = refl

-- path 01 of level 2: the second offset of a circle was halved to its upper half. Its direction leads along z
abbrev leaning : V3
leaning = record { x = pos 3; y = pos 0; z = neg_ℤ (pos 4) }

known_circle : form_box Circle leaning 4 (form_cell Circle 4 1 2 1) ≡ record {
  lead = 3;
  lo = leaning;
  hi = leaning;
  offset_lo = record { x = neg_ℤ (pos (2 ^ 20)); y = pos 0; z = pos 0 };
  offset_hi = record { x = pos 0; y = pos (2 ^ 20); z = pos 0 };
}
unfolding cell_of
known_circle = refl

-- of entries of one size the first leads
known_lead : leading_axis (record { x = pos 1; y = neg_ℤ (pos 2); z = pos 2 }) ≡ 2
known_lead = refl

-- a line or a cylinder has 4 coordinates, of which offsets within 16 units have 20 halvings, and a circle has 2
known_levels : ((cells_of Line 4).finest ≡ 80) × ((cells_of Circle 4).finest ≡ 40)
known_levels = (refl, refl)
