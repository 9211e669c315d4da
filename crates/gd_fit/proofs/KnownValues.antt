-- Values worked by hand, so that a wrong definition doesn't check.
use Rattle.std.proofs.Common.{◌≡◌, refl, pos, Some, None, [], ◌∷◌}
use Rattle.gd_fit.specs.Fits.{numbers_of, placement_in}
use Rattle.gd_fit.specs.Tests.{numbered}
use Rattle.gd_quat.specs.Placements.{Placement}
use Rattle.gd_zone.specs.declared.condition.Condition.{Condition}
use Rattle.gd_zone.specs.declared.condition.Demand.TheVariants.{Spread}
use Rattle.gd_zone.specs.declared.condition.Surface.TheVariants.{Ball}

-- a half turn about z, with a scale of 5: the four numbers of the rotation, the scale, then three vectors
abbrev placement : Placement
placement = record {
  turn = record { q0 = pos 0; q1 = pos 0; q2 = pos 0; q3 = pos 1 };
  scale = 5;
  shift = record { x = pos 10; y = pos 11; z = pos 12 };
  first = record { x = pos 20; y = pos 21; z = pos 22 };
  second = record { x = pos 30; y = pos 31; z = pos 32 };
}

known_numbers : numbers_of placement
    ≡ pos 0 ∷ pos 0 ∷ pos 0 ∷ pos 1 ∷ pos 5 ∷ pos 10 ∷ pos 11 ∷ pos 12 ∷ pos 20 ∷ pos 21 ∷ pos 22 ∷ pos 30 ∷ pos 31 ∷ pos 32 ∷ []
known_numbers = refl

known_placement : placement_in (numbers_of placement) ≡ placement
known_placement = refl

-- conditions are numbered from 1
abbrev on : Condition
on = record {
  surface = Ball (record { x = pos 0; y = pos 0; z = pos 0 });
  demand = Spread (pos 0);
  feature = 0;
  group = None;
  offset = 0;
}

known_first : numbered (on ∷ []) 1 ≡ Some on
known_first = refl

known_none : numbered (on ∷ []) 0 ≡ None
known_none = refl

known_behind : numbered (on ∷ []) 2 ≡ None
known_behind = refl
