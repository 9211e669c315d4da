-- Known values of the grid's definitions: two coordinates, halved in turn.
use Rattle.std.proofs.Common.{◌≡◌, refl, ◌%◌, get_or}
use Rattle.gd_cells.specs.Grid.{Grid, cell_of, halvings, index_of}

abbrev pub two_in_turn : Grid
two_in_turn = record { roots = 1; dims = 2; numbers = 2; finest = 60; steps = λ l. l % 2 }

-- steps 0, 2 and 4 halve the first coordinate
three_halvings : halvings two_in_turn 0 5 ≡ 3
three_halvings = refl

-- the path 10110 gives the choices 1, 1, 0 to the first coordinate and 0, 1 to the second
first_index : index_of two_in_turn 0 5 22 ≡ 6
first_index = refl

second_index : index_of two_in_turn 1 5 22 ≡ 1
second_index = refl

-- a coordinate that the task doesn't have is 0
third_index : get_or (cell_of two_in_turn 1 5 22).index 2 7 ≡ 0
unfolding cell_of
third_index = refl
