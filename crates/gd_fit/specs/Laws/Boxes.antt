-- Boxes with the ends that a cell, or a place of the grid, has: so what is proved of boxes is so of ends.
use Rattle.std.proofs.Common.{arith, ◌≡◌, refl, ap, ◌∙◌, ℕ, ◌+◌, ◌*◌, ◌^◌, ◌≤◌, Bool, true, false, ◌==◌, nat_le, inl}
use Rattle.std.proofs.Common.{inr, ⊎_elim, unsigned_abs, length}
use Rattle.std.proofs.lemmas.Int.{ints}
use Rattle.std.specs.Prelude.{ℤ, pos, ◌+ℤ◌, ◌*ℤ◌, ◌≤ℤ◌, ◌<ℤ◌, ◌⊎◌, if◌then◌else◌}
use Rattle.gd_base.specs.Scales.{ONE}
use Rattle.gd_cells.specs.Grid.{IsCell}
use Rattle.gd_cells.specs.declared.cell.Cell.{Cell}
use Rattle.gd_fit.specs.Tests.{cell_ends}
use Rattle.gd_grid.specs.Cells.{coordinate_at, low_in}
use Rattle.gd_grid.specs.Coordinates.{width_after}
use Rattle.gd_grid.specs.Turns.{turns}
use Rattle.gd_interval.proofs.Products.{square-ordered, two-ordered}
use Rattle.gd_interval.proofs.Quotients.{quot-ordered}
use Rattle.gd_interval.specs.declared.iv.Iv.{Iv}
use Rattle.gd_quat.proofs.Encloses.{holds-matrix, norm-large}
use Rattle.gd_quat.proofs.Grid.{grid-rotation, holds-grid, holds-point}
use Rattle.gd_quat.specs.Boxes.{Fits, IsRotationBox}
use Rattle.gd_quat.specs.Formulas.{Ends, MatrixEnds, RotationEnds, VectorEnds, alone, balance, difference, ends}
use Rattle.gd_quat.specs.Formulas.{grid_ends, leading_ends, matrix_ends, matrix_formula, multiple, norm_ends, numerator_ends}
use Rattle.gd_quat.specs.Formulas.{point_ends, product, quotient, quotients, rotation_ends, square, sum, total}
use Rattle.gd_quat.specs.Formulas.{vector_ends}
use Rattle.gd_quat.specs.Placements.{IsOnGrid, IsPlacement, Placement, placement_of, rotation_at}
use Rattle.gd_quat.specs.Rotations.{Rotation}
use Rattle.gd_quat.specs.declared.shape.Assignment.{Assignment}
use Rattle.gd_quat.specs.declared.shape.MatrixBox.{MatrixBox}
use Rattle.gd_quat.specs.declared.shape.Ratios.{Ratios}
use Rattle.gd_quat.specs.declared.shape.RotationBox.{RotationBox}
use Rattle.gd_quat.specs.declared.shape.VecBox.{VecBox}
use Rattle.gd_turn.proofs.Holds.{holds_placement, is_cell_box}
use Rattle.gd_turn.specs.Boxes.{IsBoxOf, ends_in, offset_ends, three_from, turn_ends_in}
use Rattle.gd_turn.specs.Ranges.{AreRanges, LiesIn, ORIGIN, cells_of, coordinates_of, face_of}
use Rattle.gd_turn.specs.declared.ranges.CellBox.{CellBox}
use Rattle.gd_turn.specs.declared.ranges.Ranges.{Ranges}
use Rattle.gd_vec.specs.declared.vector.V3.{V3}
use Rattle.gd_zone.specs.Boxes.{HoldsPlacement, PlacedEnds, grid_placed, placed_ends}
use Rattle.gd_zone.specs.declared.placed.Placed.{Placed}

-- ---- intervals by their ends
abbrev IsOrdered : Ends → Type 0
IsOrdered e = e.lo ≤ℤ e.hi

abbrev interval : (e : Ends) → IsOrdered e → Iv
interval e h = record { lo = e.lo; hi = e.hi; ordered = h }

same : (z : ℤ) → z ≤ℤ z
same z = omega (arith, ints)

abbrev only : ℤ → Iv
only z = record { lo = z; hi = z; ordered = same z }

abbrev vector : (e : VectorEnds) → IsOrdered e.x → IsOrdered e.y → IsOrdered e.z → VecBox
vector e h i j = record { x = interval e.x h; y = interval e.y i; z = interval e.z j }

abbrev only_vector : V3 → VecBox
only_vector v = record { x = only v.x; y = only v.y; z = only v.z }

-- ---- the results of arithmetic are ordered
sum_ordered : (a b : Ends) → IsOrdered a → IsOrdered b → IsOrdered (sum a b)
sum_ordered a b h i = omega (arith, ints, h, i)

difference_ordered : (a b : Ends) → IsOrdered a → IsOrdered b → IsOrdered (difference a b)
difference_ordered a b h i = omega (arith, ints, h, i)

twice_ordered : (a : Ends) → IsOrdered (multiple a (pos 2))
twice_ordered a = two-ordered (a.lo *ℤ pos 2) (a.hi *ℤ pos 2)

square_ordered : (a : Ends) → IsOrdered a → IsOrdered (square a)
square_ordered a h = square-ordered a.lo a.hi h

sums_ordered : (a b c d : Ends) → IsOrdered a → IsOrdered b → IsOrdered c → IsOrdered d → IsOrdered (total a b c d)
sums_ordered a b c d h i j k = sum_ordered (sum a b) (sum c d) (sum_ordered a b h i) (sum_ordered c d j k)

balance_ordered : (a b c d : Ends) → IsOrdered a → IsOrdered b → IsOrdered c → IsOrdered d
    → IsOrdered (balance a b c d)
balance_ordered a b c d h i j k = difference_ordered (sum a b) (sum c d) (sum_ordered a b h i) (sum_ordered c d j k)

-- ---- the matrices of a box of rotations
record AreOrdered (n : MatrixEnds) : Type 0 where
  xx : IsOrdered n.x.x
  xy : IsOrdered n.x.y
  xz : IsOrdered n.x.z
  yx : IsOrdered n.y.x
  yy : IsOrdered n.y.y
  yz : IsOrdered n.y.z
  zx : IsOrdered n.z.x
  zy : IsOrdered n.z.y
  zz : IsOrdered n.z.z

quotient_ordered : (n d : Ends) → IsOrdered n → IsOrdered d → pos 0 <ℤ d.lo → IsOrdered (quotient n d)
quotient_ordered n d h i p = quot-ordered n.lo n.hi d.lo d.hi h p i

abbrev divided_row : (n : VectorEnds) (d : Ends) → IsOrdered n.x → IsOrdered n.y → IsOrdered n.z → IsOrdered d
    → pos 0 <ℤ d.lo → VecBox
divided_row n d h i j o p =
    vector (quotients n d) (quotient_ordered n.x d h o p) (quotient_ordered n.y d i o p) (quotient_ordered n.z d j o p)

divided : (n : MatrixEnds) (d : Ends) → AreOrdered n → IsOrdered d → pos 0 <ℤ d.lo
    → (m : MatrixBox) × (matrix_ends m ≡ record { x = quotients n.x d; y = quotients n.y d; z = quotients n.z d })
divided n d h o p = (
  record {
    x = divided_row n.x d h.xx h.xy h.xz o p;
    y = divided_row n.y d h.yx h.yy h.yz o p;
    z = divided_row n.z d h.zx h.zy h.zz o p;
  },
  refl,
)

numerators_ordered : (q : RotationEnds) → IsOrdered q.q0 → IsOrdered q.q1 → IsOrdered q.q2 → IsOrdered q.q3
    → AreOrdered (numerator_ends q)
numerators_ordered q h i j k =
    let s0 = square_ordered q.q0 h in
    let s1 = square_ordered q.q1 i in
    let s2 = square_ordered q.q2 j in
    let s3 = square_ordered q.q3 k in
    record {
      xx = balance_ordered (square q.q0) (square q.q1) (square q.q2) (square q.q3) s0 s1 s2 s3;
      xy = twice_ordered (difference (product q.q1 q.q2) (product q.q0 q.q3));
      xz = twice_ordered (sum (product q.q1 q.q3) (product q.q0 q.q2));
      yx = twice_ordered (sum (product q.q1 q.q2) (product q.q0 q.q3));
      yy = balance_ordered (square q.q0) (square q.q2) (square q.q1) (square q.q3) s0 s2 s1 s3;
      yz = twice_ordered (difference (product q.q2 q.q3) (product q.q0 q.q1));
      zx = twice_ordered (difference (product q.q1 q.q3) (product q.q0 q.q2));
      zy = twice_ordered (sum (product q.q2 q.q3) (product q.q0 q.q1));
      zz = balance_ordered (square q.q0) (square q.q3) (square q.q1) (square q.q2) s0 s3 s1 s2;
    }

norm_ordered : (q : RotationEnds) → IsOrdered q.q0 → IsOrdered q.q1 → IsOrdered q.q2 → IsOrdered q.q3
    → IsOrdered (norm_ends q)
norm_ordered q h i j k =
    sums_ordered (square q.q0) (square q.q1) (square q.q2) (square q.q3)
    (square_ordered q.q0 h) (square_ordered q.q1 i) (square_ordered q.q2 j) (square_ordered q.q3 k)

counts : (n : ℤ) → pos (2 ^ 60) ≤ℤ n → pos 0 <ℤ n
counts n h = omega (arith, ints, h)

matrix_boxed : (b : RotationBox) → IsRotationBox b → (m : MatrixBox)
    × (matrix_ends m ≡ matrix_formula (rotation_ends b))
matrix_boxed b h =
    divided (numerator_ends (rotation_ends b)) (norm_ends (rotation_ends b))
    (numerators_ordered (rotation_ends b) b.q0.ordered b.q1.ordered b.q2.ordered b.q3.ordered)
    (norm_ordered (rotation_ends b) b.q0.ordered b.q1.ordered b.q2.ordered b.q3.ordered)
    (counts (norm_ends (rotation_ends b)).lo (norm-large b h))

-- ---- the box of a cell
grows : (x : ℤ) (n : ℕ) → x ≤ℤ (x +ℤ pos n)
grows x n = omega (arith, ints)

ordered_at : (r : Ranges) (c : Cell) (n : ℕ) → IsOrdered (ends_in r c n)
ordered_at r c n =
    let ks = coordinates_of r in
    grows (low_in ks n c) (width_after (coordinate_at ks n) (turns (length ks) n c.level))

abbrev three_boxed : (r : Ranges) (c : Cell) (n : ℕ) → VecBox
three_boxed r c n = vector (three_from r c n) (ordered_at r c n) (ordered_at r c (n + 1)) (ordered_at r c (n + 2))

offset_boxed : (r : Ranges) (c : Cell) (number : ℕ) → (b : VecBox) × (vector_ends b ≡ offset_ends r c number)
offset_boxed r c number = choose (nat_le number r.offsets)
  where
    choose : (t : Bool)
        → (b : VecBox) × (vector_ends b ≡ (if t then three_from r c (3 * number + 3) else point_ends ORIGIN))
    choose true = (three_boxed r c (3 * number + 3), refl)
    choose false = (only_vector ORIGIN, refl)

turn_boxed : (face : ℕ) (x y z : Iv) → (b : RotationBox) × (rotation_ends b ≡ leading_ends face (ends x) (ends y) (ends z))
turn_boxed face x y z = choose (face == 0) (face == 1) (face == 2)
  where
    choose : (s t u : Bool) → (b : RotationBox) × (rotation_ends b ≡ (
        if s then record { q0 = alone (pos ONE); q1 = ends x; q2 = ends y; q3 = ends z }
        else (if t then record { q0 = ends x; q1 = alone (pos ONE); q2 = ends y; q3 = ends z }
        else (if u then record { q0 = ends x; q1 = ends y; q2 = alone (pos ONE); q3 = ends z }
        else record { q0 = ends x; q1 = ends y; q2 = ends z; q3 = alone (pos ONE) }))))
    choose true t u = (record { q0 = only (pos ONE); q1 = x; q2 = y; q3 = z }, refl)
    choose false true u = (record { q0 = x; q1 = only (pos ONE); q2 = y; q3 = z }, refl)
    choose false false true = (record { q0 = x; q1 = y; q2 = only (pos ONE); q3 = z }, refl)
    choose false false false = (record { q0 = x; q1 = y; q2 = z; q3 = only (pos ONE) }, refl)

cell_boxed : (r : Ranges) (c : Cell) → (b : CellBox) × IsBoxOf r c b
cell_boxed r c =
    let t = turn_boxed (face_of r.turn c.root) (interval (ends_in r c 0) (ordered_at r c 0))
    (interval (ends_in r c 1) (ordered_at r c 1)) (interval (ends_in r c 2) (ordered_at r c 2)) in
    let first = offset_boxed r c 1 in
    let second = offset_boxed r c 2 in (
      record { turn = t.0; shift = three_boxed r c 3; first = first.0; second = second.0 },
      record { turn = t.1; shift = refl; first = first.1; second = second.1 },
    )

-- ---- the box of a cell, or of a place of the grid, with matrices
pub same_placed : (m m' : MatrixEnds) (s s' f f' g g' : VectorEnds) → m ≡ m' → s ≡ s' → f ≡ f' → g ≡ g'
    → ◌≡◌ {A = PlacedEnds} (record { matrix = m; shift = s; first = f; second = g })
    (record { matrix = m'; shift = s'; first = f'; second = g' })
same_placed m m' s s' f f' g g' h i j k = rw (h, i, j, k) refl

-- the ends of a cell's box, with its matrices
pub placed_is : (r : Ranges) (c : Cell) (b : CellBox) (m : MatrixBox) → IsBoxOf r c b
    → matrix_ends m ≡ matrix_formula (rotation_ends b.turn)
    → placed_ends (record { matrix = m; shift = b.shift; first = b.first; second = b.second }) ≡ cell_ends r c
unfolding cell_ends
placed_is r c b m box e =
    same_placed (matrix_ends m) (matrix_formula (turn_ends_in r c)) (vector_ends b.shift) (three_from r c 3)
    (vector_ends b.first) (offset_ends r c 1) (vector_ends b.second) (offset_ends r c 2)
    (e ∙ ap matrix_formula box.turn) box.shift box.first box.second

-- a box has the ends of the cell's, and holds each placement that lies in the cell
pub record IsCellPlaced (r : Ranges) (c : Cell) (b : Placed) : Type 0 where
  pub ends : placed_ends b ≡ cell_ends r c
  pub holds : (p : Placement) → IsPlacement p → LiesIn r c p → HoldsPlacement b p

pub is_cell_placed : (r : Ranges) (c : Cell) (b : CellBox) (m : MatrixBox) → AreRanges r → IsCell (cells_of r) c
    → IsBoxOf r c b → matrix_ends m ≡ matrix_formula (rotation_ends b.turn)
    → IsCellPlaced r c (record { matrix = m; shift = b.shift; first = b.first; second = b.second })
is_cell_placed r c b m are cell box e = record {
  ends = placed_is r c b m box e;
  holds = λ p ok lies.
      let held = holds_placement r c b are cell box p ok lies in
      record {
        matrix = holds-matrix b.turn m (is_cell_box r c b are cell box).turn e p.turn ok.turn held.turn;
        shift = held.shift;
        first = held.first;
        second = held.second;
      };
}

pub cell_placed : (r : Ranges) (c : Cell) → AreRanges r → IsCell (cells_of r) c → (b : Placed) × IsCellPlaced r c b
cell_placed r c are cell = by (cell_boxed r c)
  where
    with_matrix : (b : CellBox) → IsBoxOf r c b → (m : MatrixBox)
        × (matrix_ends m ≡ matrix_formula (rotation_ends b.turn))
        → (b : Placed) × IsCellPlaced r c b
    with_matrix b box m = (
      record { matrix = m.0; shift = b.shift; first = b.first; second = b.second },
      is_cell_placed r c b m.0 are cell box m.1,
    )

    by : (b : CellBox) × IsBoxOf r c b → (b : Placed) × IsCellPlaced r c b
    by t = with_matrix t.0 t.1 (matrix_boxed t.0.turn (is_cell_box r c t.0 are cell t.1).turn)

-- ---- a place of the grid
abbrev only_rotation : Rotation → RotationBox
only_rotation q = record { q0 = only q.q0; q1 = only q.q1; q2 = only q.q2; q3 = only q.q3 }

only_fits : (z : ℤ) → unsigned_abs z ≤ ONE → Fits ONE (only z)
only_fits z h = record { lo = h; hi = h }

-- one component of it is 1, and none is larger
record IsUnit (q : Rotation) : Type 0 where
  q0 : unsigned_abs q.q0 ≤ ONE
  q1 : unsigned_abs q.q1 ≤ ONE
  q2 : unsigned_abs q.q2 ≤ ONE
  q3 : unsigned_abs q.q3 ≤ ONE
  leads : (q.q0 ≡ pos ONE) ⊎ ((q.q1 ≡ pos ONE) ⊎ ((q.q2 ≡ pos ONE) ⊎ (q.q3 ≡ pos ONE)))

unit_box : (q : Rotation) → IsUnit q → IsRotationBox (only_rotation q)
unit_box q h = record {
  q0 = only_fits q.q0 h.q0;
  q1 = only_fits q.q1 h.q1;
  q2 = only_fits q.q2 h.q2;
  q3 = only_fits q.q3 h.q3;
  leads = ⊎_elim (λ e. inl (e, e))
      (λ g. inr (⊎_elim (λ e. inl (e, e)) (λ k. inr (⊎_elim (λ e. inl (e, e)) (λ e. inr (e, e)) k)) g)) h.leads;
}

grid_unit : (face : ℕ) (r : Ratios) → unsigned_abs r.first ≤ ONE → unsigned_abs r.second ≤ ONE
    → unsigned_abs r.third ≤ ONE → IsUnit (rotation_at face r)
grid_unit face r h i j = choose (face == 0) (face == 1) (face == 2)
  where
    one : unsigned_abs (pos ONE) ≤ ONE
    one = omega arith

    choose : (s t u : Bool) → IsUnit (
        if s then record { q0 = pos ONE; q1 = r.first; q2 = r.second; q3 = r.third }
        else (if t then record { q0 = r.first; q1 = pos ONE; q2 = r.second; q3 = r.third }
        else (if u then record { q0 = r.first; q1 = r.second; q2 = pos ONE; q3 = r.third }
        else record { q0 = r.first; q1 = r.second; q2 = r.third; q3 = pos ONE })))
    choose true t u = record { q0 = one; q1 = h; q2 = i; q3 = j; leads = inl refl }
    choose false true u = record { q0 = h; q1 = one; q2 = i; q3 = j; leads = inr (inl refl) }
    choose false false true = record { q0 = h; q1 = i; q2 = one; q3 = j; leads = inr (inr (inl refl)) }
    choose false false false = record { q0 = h; q1 = i; q2 = j; q3 = one; leads = inr (inr (inr refl)) }

pub record IsPlacedAt (a : Assignment) (b : Placed) : Type 0 where
  pub ends : placed_ends b ≡ grid_placed a
  pub holds : HoldsPlacement b (placement_of a)

abbrev grid_rotation : Assignment → RotationBox
grid_rotation a = only_rotation (rotation_at a.face a.ratios)

grid_with : (a : Assignment) → IsRotationBox (grid_rotation a)
    → (m : MatrixBox) × (matrix_ends m ≡ matrix_formula (rotation_ends (grid_rotation a))) → (b : Placed)
    × IsPlacedAt a b
unfolding grid_placed
grid_with a fits m = (
  record { matrix = m.0; shift = only_vector a.shift; first = only_vector a.first; second = only_vector a.second },
  record {
    ends = same_placed (matrix_ends m.0) (matrix_formula (grid_ends a.face a.ratios))
        (point_ends a.shift) (point_ends a.shift) (point_ends a.first) (point_ends a.first)
        (point_ends a.second) (point_ends a.second) m.1 refl refl refl;
    holds = record {
      matrix = holds-matrix (grid_rotation a) m.0 fits m.1 (rotation_at a.face a.ratios)
          (grid-rotation a.face a.ratios) (holds-grid a.face a.ratios (grid_rotation a) refl);
      shift = holds-point a.shift (only_vector a.shift) refl;
      first = holds-point a.first (only_vector a.first) refl;
      second = holds-point a.second (only_vector a.second) refl;
    };
  },
)

pub grid_is_placed : (a : Assignment) → IsOnGrid a → (b : Placed) × IsPlacedAt a b
grid_is_placed a on =
    by (unit_box (rotation_at a.face a.ratios) (grid_unit a.face a.ratios on.first on.second on.third))
  where
    by : IsRotationBox (grid_rotation a) → (b : Placed) × IsPlacedAt a b
    by fits = grid_with a fits (matrix_boxed (grid_rotation a) fits)
