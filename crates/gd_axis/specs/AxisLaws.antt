-- What the written tests of the forms about an axis mean for the axes that a box holds.
use Rattle.std.specs.Prelude.{ℕ, pos, ◌^◌, ◌≤◌, ◌<◌, ◌≡◌, ◌*ℤ◌, true, false, Some, None, List, length, map}
use Rattle.gd_cells.specs.declared.cell.Evidence.{Evidence}
use Rattle.gd_dir.specs.Boxes.{HoldsOffset}
use Rattle.gd_dir.specs.declared.shape.DirBox.{DirBox}
use Rattle.gd_dir.specs.declared.shape.FormShape.{FormShape}
use Rattle.gd_axis.specs.Axes.{Axis, HasCylinder, HasRing}
use Rattle.gd_axis.specs.AxisTests.{bits_of, line_evidence, line_holds, line_refuted, ring_evidence, ring_holds}
use Rattle.gd_axis.specs.AxisTests.{ring_refuted}
use Rattle.gd_flat.specs.FlatTests.{point_at}
use Rattle.gd_interval.specs.Interval.{Inside}
use Rattle.gd_points.specs.declared.table.Row.{Row}
use Rattle.gd_vec.specs.declared.vector.V3.{V3}

-- a box holds a direction over a whole number lead, where its entries have so many bits
pub record HoldsEntries (bits : ℕ) (b : DirBox) (lead : ℕ) (n : V3) : Type 0 where
  pub x : Inside b.lo.x b.hi.x lead (pos (2 ^ bits) *ℤ n.x)
  pub y : Inside b.lo.y b.hi.y lead (pos (2 ^ bits) *ℤ n.y)
  pub z : Inside b.lo.z b.hi.z lead (pos (2 ^ bits) *ℤ n.z)

-- a box holds an axis: its direction over a leading entry, and its offset over its scale. A stated direction is held
-- over 1
pub record HoldsAxis (shape : FormShape) (b : DirBox) (x : Axis) : Type 0 where
  pub lead : ℕ
  pub leads : 1 ≤ lead
  pub scale : 1 ≤ x.scale
  pub direction : HoldsEntries (bits_of shape) b lead x.direction
  pub offset : HoldsOffset b (pos x.scale) x.offset

-- the points at some places of a table
abbrev pub points_at : List Row → List ℕ → List V3
points_at rows judged = map (λ (i : ℕ). point_at rows i) judged

-- ---- a box that holds by its written test: at every axis that it holds the zone holds all judged points
abbrev pub LineHoldsIsSound : Type 0
LineHoldsIsSound = (shape : FormShape) (rows : List Row) (judged : List ℕ) (t : ℕ) (b : DirBox) (a : V3) (x : Axis)
    → HoldsAxis shape b x
    → line_holds shape rows judged t b a ≡ true → HasCylinder (points_at rows judged) t x a

abbrev pub RingHoldsIsSound : Type 0
RingHoldsIsSound = (shape : FormShape) (rows : List Row) (judged : List ℕ) (t : ℕ) (b : DirBox) (a : V3) (x : Axis)
    → HoldsAxis shape b x
    → ring_holds shape rows judged t b a ≡ true → HasRing (points_at rows judged) t x a

-- ---- a box that is refuted: at no axis that it holds the zone holds all judged points
abbrev pub LineRefutedIsEmpty : Type 0
LineRefutedIsEmpty = (shape : FormShape) (rows : List Row) (judged : List ℕ) (t : ℕ) (b : DirBox) (a : V3) (x : Axis)
    (e : Evidence) → HoldsAxis shape b x
    → line_refuted shape rows judged t b a e ≡ true → HasCylinder (points_at rows judged) t x a → ⊥

abbrev pub RingRefutedIsEmpty : Type 0
RingRefutedIsEmpty = (shape : FormShape) (rows : List Row) (judged : List ℕ) (t : ℕ) (b : DirBox) (a : V3) (x : Axis)
    (e : Evidence) → HoldsAxis shape b x
    → ring_refuted shape rows judged t b a e ≡ true → HasRing (points_at rows judged) t x a → ⊥

-- ---- the first evidence refutes, and where there is none, nothing refutes
abbrev pub LineEvidenceRefutes : Type 0
LineEvidenceRefutes =
    (shape : FormShape) (rows : List Row) (judged : List ℕ) (t : ℕ) (b : DirBox) (a : V3) (e : Evidence)
    → line_evidence shape rows judged t b a ≡ Some e → line_refuted shape rows judged t b a e ≡ true

abbrev pub LineNoneRefutes : Type 0
LineNoneRefutes = (shape : FormShape) (rows : List Row) (judged : List ℕ) (t : ℕ) (b : DirBox) (a : V3) (e : Evidence)
    → line_evidence shape rows judged t b a ≡ None → line_refuted shape rows judged t b a e ≡ false

abbrev pub RingEvidenceRefutes : Type 0
RingEvidenceRefutes =
    (shape : FormShape) (rows : List Row) (judged : List ℕ) (t : ℕ) (b : DirBox) (a : V3) (e : Evidence)
    → 0 < length judged
    → ring_evidence shape rows judged t b a ≡ Some e → ring_refuted shape rows judged t b a e ≡ true

abbrev pub RingNoneRefutes : Type 0
RingNoneRefutes = (shape : FormShape) (rows : List Row) (judged : List ℕ) (t : ℕ) (b : DirBox) (a : V3) (e : Evidence)
    → ring_evidence shape rows judged t b a ≡ None → ring_refuted shape rows judged t b a e ≡ false
