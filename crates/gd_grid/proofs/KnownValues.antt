-- Values worked by hand, so that a wrong definition doesn't check.
use Rattle.std.proofs.Common.{◌≡◌, refl, ◌∷◌, [], pos, neg_ℤ, true, false}
use Rattle.gd_grid.specs.Cells.{are_in_range}
use Rattle.gd_grid.specs.Coordinates.{high_after, low_after, middle_after}
use Rattle.gd_grid.specs.Turns.{full_turns, turns}
use Rattle.gd_grid.specs.declared.coordinate.Coordinate.{Coordinate}

-- seven steps halve three coordinates three times, twice and twice
known_first : turns 3 0 7 ≡ 3
known_first = refl

known_second : turns 3 1 7 ≡ 2
known_second = refl

-- from -8 on 16 wide: after two halvings the boxes are 4 wide, and the last goes from 4 to 8
abbrev sixteen : Coordinate
sixteen = record { low = neg_ℤ (pos 8); bits = 4 }

known_low : low_after sixteen 2 3 ≡ pos 4
known_low = refl

known_high : high_after sixteen 2 3 ≡ pos 8
known_high = refl

known_middle : middle_after sixteen 2 3 ≡ pos 6
known_middle = refl

-- three halvings leave it 2 wide, and a coordinate of 4 leaves one
known_turns : full_turns (sixteen ∷ record { low = pos 0; bits = 2 } ∷ []) ≡ 1
known_turns = refl

-- both ends are in range
known_range : are_in_range (sixteen ∷ sixteen ∷ []) (neg_ℤ (pos 8) ∷ pos 8 ∷ []) ≡ true
known_range = refl

known_outside : are_in_range (sixteen ∷ []) (pos 9 ∷ []) ≡ false
known_outside = refl
