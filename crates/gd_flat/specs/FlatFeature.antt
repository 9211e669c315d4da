-- Flatness of the points at some places of a table. Evidence names points by their numbers in the table, from 1.
use Rattle.std.specs.Prelude.{ℕ, zero, suc, ◌+◌, ◌-◌, Bool, Option, List, get_or, nat_eq, option_map}
use Rattle.std.specs.List.{position_or_len}
use Rattle.gd_cells.specs.Meaning.{Questions}
use Rattle.gd_cells.specs.declared.cell.Evidence.{Evidence}
use Rattle.gd_dir.specs.Boxes.{box_of}
use Rattle.gd_dir.specs.Faces.{faces}
use Rattle.gd_dir.specs.declared.shape.DirBox.{DirBox}
use Rattle.gd_flat.specs.FlatTask.{centre_of, direction_at, is_in_range}
use Rattle.gd_flat.specs.FlatTests.{first_evidence, is_refuted, is_within}
use Rattle.gd_flat.specs.Judged.{judged_rows}
use Rattle.gd_points.specs.declared.table.Row.{Row}

-- ---- the judged points by their places among themselves, and by their numbers in the table, both from 1
-- the number of the point at a place
abbrev pub number_of : List ℕ → ℕ → ℕ
number_of judged place = get_or judged (place - 1) 0 + 1

-- the place of the point with a number: none is 0 or past the last
abbrev pub place_in : List ℕ → ℕ → ℕ
place_in judged zero = 0
place_in judged (suc n) = position_or_len (nat_eq n) judged + 1

abbrev pub by_numbers : List ℕ → Evidence → Evidence
by_numbers judged e = record { condition = e.condition; a = number_of judged e.a; b = number_of judged e.b }

abbrev pub by_places : List ℕ → Evidence → Evidence
by_places judged e = record { condition = e.condition; a = place_in judged e.a; b = place_in judged e.b }

-- ---- the tests are those of the judged points alone
abbrev pub first_among : List Row → List ℕ → ℕ → DirBox → Option Evidence
first_among rows judged tolerance b =
    option_map (by_numbers judged) (first_evidence (judged_rows rows judged) tolerance b)

abbrev pub is_refuted_among : List Row → List ℕ → ℕ → DirBox → Evidence → Bool
is_refuted_among rows judged tolerance b e = is_refuted (judged_rows rows judged) tolerance b (by_places judged e)

abbrev pub feature_questions : List Row → List ℕ → ℕ → Questions
feature_questions rows judged tolerance = record {
  grid = faces;
  tests = record {
    first = λ c. first_among rows judged tolerance (box_of c);
    refuted = λ c e. is_refuted_among rows judged tolerance (box_of c) e;
    centre = centre_of;
    in_range = is_in_range;
    holds = λ w. is_within (judged_rows rows judged) tolerance (direction_at w);
  };
}
