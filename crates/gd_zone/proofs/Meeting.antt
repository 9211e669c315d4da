-- A condition that holds by its written test is met: all surfaces and demands.
use Rattle.std.proofs.Common.{◌≡◌, sym, true, ℕ, pos, List, map, filter, arith}
use Rattle.std.proofs.lemmas.Int.{ints}
use Rattle.std.specs.Prelude.{ℤ, ◌*ℤ◌}
use Rattle.gd_points.specs.declared.table.Row.{Row}
use Rattle.gd_quat.specs.Formulas.{turned_formula}
use Rattle.gd_quat.specs.Placements.{Placement, denominator_of}
use Rattle.gd_vec.specs.Vector.{difference, norm2_of}
use Rattle.gd_vec.specs.declared.vector.V3.{V3}
use Rattle.gd_zone.proofs.Encloses.{inside-value, planes-apart, turned-along-inside, turned_along}
use Rattle.gd_zone.proofs.Ordered.{axis-ordered, ball-ordered, norm2-nonneg}
use Rattle.gd_zone.proofs.Sound.{distance-sound, plane-sound}
use Rattle.gd_zone.proofs.Spreads.{spread-moved}
use Rattle.gd_zone.specs.Boxes.{HoldsPlacement, placed_ends}
use Rattle.gd_zone.specs.Conditions.{HasBounds, Meets, MeetsDemand, PlaneDemand, belongs, cross, exact_value, from_surface, is_of_feature}
use Rattle.gd_zone.specs.Tests.{TestsAreSound, condition_holds, demanded_ends, plane_holds, surface_holds}
use Rattle.gd_zone.specs.Values.{along, value_ends}
use Rattle.gd_zone.specs.declared.condition.Demand.{Demand}
use Rattle.gd_zone.specs.declared.condition.Demand.TheVariants.{Within, Spread, Contact, HugInner, HugOuter}
use Rattle.gd_zone.specs.declared.condition.Surface.{Surface}
use Rattle.gd_zone.specs.declared.condition.Surface.TheVariants.{Plane, Axis, Ball}
use Rattle.gd_zone.specs.declared.placed.Placed.{Placed}

module _ (b : Placed) (p : Placement) (held : HoldsPlacement b p) (base : V3) (offset : ℕ) (rows all : List Row) where
  -- a plane, but for a spread
  plane-by : (n a : V3) (d : Demand) → HasBounds d → plane_holds d (norm2_of n) (map (λ (r : Row). value_ends (Plane n a) (placed_ends b) offset (difference r.at base)) rows) ≡ true
      → PlaneDemand d (pos (denominator_of p)) (norm2_of n) (map (λ (r : Row). exact_value (Plane n a) p offset (difference r.at base)) rows)
  plane-by n a d bounds h =
      plane-sound (norm2_of n) (denominator_of p) (λ (r : Row). value_ends (Plane n a) (placed_ends b) offset (difference r.at base)) (λ (r : Row). exact_value (Plane n a) p offset (difference r.at base))
      (λ r. inside-value (Plane n a) b offset (difference r.at base) p held) d rows bounds h

  -- a spread along a direction, where all but the turned vectors cancels
  spread-by : (n a : V3) (t : ℤ) → HasBounds (Spread t) → plane_holds (Spread t) (norm2_of n) (map (λ (r : Row). along n (turned_formula (placed_ends b).matrix (difference r.at base))) rows) ≡ true
      → PlaneDemand (Spread t) (pos (denominator_of p)) (norm2_of n) (map (λ (r : Row). exact_value (Plane n a) p offset (difference r.at base)) rows)
  spread-by n a t bounds h =
      let s = plane-sound (norm2_of n) (denominator_of p) (λ (r : Row). along n (turned_formula (placed_ends b).matrix (difference r.at base))) (λ (r : Row). turned_along n p (difference r.at base))
      (λ r. turned-along-inside n b (difference r.at base) p held) (Spread t) rows bounds h in (
        s.0,
        spread-moved (t *ℤ pos (denominator_of p)) (norm2_of n) (λ (r : Row). turned_along n p (difference r.at base)) (λ (r : Row). exact_value (Plane n a) p offset (difference r.at base)) rows
            (λ v w. sym (planes-apart n a p offset (difference v.at base) (difference w.at base))) s.1,
      )

  meets-by : (s : Surface) (d : Demand) → HasBounds d
      → surface_holds s d (map (λ (r : Row). demanded_ends s d (placed_ends b) offset (difference r.at base)) rows) (map (λ (r : Row). demanded_ends s d (placed_ends b) offset (difference r.at base)) all) ≡ true
      → MeetsDemand s d (pos (denominator_of p)) (map (λ (r : Row). exact_value s p offset (difference r.at base)) rows) (map (λ (r : Row). exact_value s p offset (difference r.at base)) all)
  meets-by (Plane n a) (Spread t) bounds h = spread-by n a t bounds h
  meets-by (Plane n a) (Within lo hi) bounds h = plane-by n a (Within lo hi) bounds h
  meets-by (Plane n a) (Contact hi) bounds h = plane-by n a (Contact hi) bounds h
  meets-by (Plane n a) (HugInner t) bounds h = plane-by n a (HugInner t) bounds h
  meets-by (Plane n a) (HugOuter t) bounds h = plane-by n a (HugOuter t) bounds h
  meets-by (Axis n a) d bounds h =
      distance-sound (norm2_of n) (norm2-nonneg n) (denominator_of p) (λ (r : Row). value_ends (Axis n a) (placed_ends b) offset (difference r.at base)) (λ (r : Row). exact_value (Axis n a) p offset (difference r.at base))
      (λ r. inside-value (Axis n a) b offset (difference r.at base) p held) (λ r. norm2-nonneg (cross n (from_surface p offset a (difference r.at base)))) (λ r. axis-ordered n a b offset (difference r.at base)) d rows all bounds h
  meets-by (Ball a) d bounds h =
      distance-sound (pos 1) (omega (arith, ints)) (denominator_of p) (λ (r : Row). value_ends (Ball a) (placed_ends b) offset (difference r.at base)) (λ (r : Row). exact_value (Ball a) p offset (difference r.at base))
      (λ r. inside-value (Ball a) b offset (difference r.at base) p held) (λ r. norm2-nonneg (from_surface p offset a (difference r.at base))) (λ r. ball-ordered a b offset (difference r.at base)) d rows all bounds h

pub tests-are-sound : TestsAreSound
unfolding Meets condition_holds
tests-are-sound b p base rows c ok held is h = meets-by b p held base c.offset (filter (belongs c) rows) (filter (is_of_feature c) rows) c.surface c.demand is.bounds h
