-- The laws of a form about an axis as a task.
use Rattle.std.proofs.Common.{arith, ◌≡◌, refl, sym, subst, ℕ, zero, suc, ◌+◌, ◌*◌, ◌^◌, ◌<◌, ◌≤◌, pos, Bool, true}
use Rattle.std.proofs.Common.{false, ◌&&◌, cond, nat_le, List, [], ◌∷◌, length, get_or, Some, None, unsigned_abs}
use Rattle.std.proofs.lemmas.Bool.{false≢true}
use Rattle.std.proofs.lemmas.Bool.Decides.{nat_tests}
use Rattle.std.proofs.lemmas.Float.{T_from_true}
use Rattle.std.proofs.lemmas.Int.{ints}
use Rattle.std.proofs.lemmas.Nat.{pow-add}
use Rattle.std.specs.List.{All, find}
use Rattle.std.specs.Prelude.{ℤ, negsuc, ◌+ℤ◌, ◌-ℤ◌, ◌*ℤ◌, ◌≤ℤ◌, ◌<ℤ◌, int_le}
use Rattle.gd_base.specs.Limits.{POINTS}
use Rattle.gd_base.specs.Scales.{FINE, ONE}
use Rattle.gd_cells.specs.Laws.{HalvesCover, HoldsIsFeasible, IsGrid, IsShort, Laws, RootsCover}
use Rattle.gd_cells.specs.Grid.{IsCell}
use Rattle.gd_cells.specs.Witnesses.{zeros_behind}
use Rattle.gd_cells.specs.declared.cell.Cell.{Cell}
use Rattle.gd_cells.specs.declared.cell.Evidence.{Evidence}
use Rattle.gd_cells.specs.declared.cell.Witness.{Witness}
use Rattle.gd_dir.proofs.FormCells.{are_circles, are_lines, form_encloses, form_halves_cover, form_roots_cover}
use Rattle.gd_dir.proofs.Lines.{no_line_is_lost}
use Rattle.gd_dir.specs.Boxes.{HoldsDirection, HoldsOffset, direction_of}
use Rattle.gd_dir.specs.Directions.{LeadsAlong, entry}
use Rattle.gd_dir.specs.FormBoxes.{form_box, offset_at, root_of}
use Rattle.gd_dir.specs.Forms.{FormLiesIn, IsNear, PassesWithin, cells_of, coordinates_of, crossed, leading_axis}
use Rattle.gd_dir.specs.Forms.{offset, ratio, roots_of, square}
use Rattle.gd_dir.specs.declared.shape.DirBox.{DirBox}
use Rattle.gd_dir.specs.declared.shape.FormShape.{FormShape}
use Rattle.gd_dir.specs.declared.shape.FormShape.TheVariants.{Flat, Line, Circle, Cylinder}
use Rattle.gd_axis.specs.Axes.{Axis, IsInCylinder, IsMetAbout, from_axis}
use Rattle.gd_axis.specs.AxisLaws.{HoldsAxis, HoldsEntries, points_at}
use Rattle.gd_axis.specs.AxisTask.{Asked, AxisLiesIn, IsAsked, MeetsForm, axis_at, axis_in, axis_questions}
use Rattle.gd_axis.specs.AxisTask.{direction_at, form_evidence, form_holds, form_refuted, lead_at, lead_in, number_of}
use Rattle.gd_axis.specs.AxisTask.{offset_in, place_box}
use Rattle.gd_axis.specs.AxisTests.{bits_of, farthest_point, is_outside, length2_of, line_evidence, nearest_point}
use Rattle.gd_axis.specs.AxisTests.{point_evidence, ring_evidence, ring_parts, value_at}
use Rattle.gd_flat.specs.FlatTests.{evidence_of, point_at}
use Rattle.gd_flat.specs.Laws.Accepts.{leads}
use Rattle.gd_axis.specs.Laws.AxisEvidence.{chosen, farthest-inside, found, line-evidence-refutes, line-none-refutes}
use Rattle.gd_axis.specs.Laws.AxisEvidence.{mapped, nearest-inside, ring-evidence-refutes, ring-none-refutes}
use Rattle.gd_axis.specs.Laws.AxisSound.{Place, and-left, and-right, line-holds-is-sound, line-refuted-is-empty}
use Rattle.gd_axis.specs.Laws.AxisSound.{one-point, place-of, ring-holds-is-sound, ring-refuted-is-empty}
use Rattle.gd_grid.proofs.Centres.{centres_in_range}
use Rattle.gd_grid.proofs.Grids.{coordinates_make_grid}
use Rattle.gd_grid.specs.Cells.{IsGridOf, are_in_range, coordinate_at, is_in_range}
use Rattle.gd_grid.proofs.Ranges.{high_about}
use Rattle.gd_grid.specs.Coordinates.{IsCoordinate, high}
use Rattle.gd_grid.specs.Laws.{AreCoordinates}
use Rattle.gd_grid.specs.declared.coordinate.Coordinate.{Coordinate}
use Rattle.gd_interval.specs.Interval.{Inside}
use Rattle.gd_points.specs.declared.table.Row.{Row}
use Rattle.gd_quat.proofs.Polynomials.{var, ◌⊕◌, ◌⊖◌, ◌⊗◌, equal}
use Rattle.gd_vec.specs.Vector.{norm2_of}
use Rattle.gd_vec.specs.declared.vector.V3.{V3}
use Rattle.gd_zone.specs.Conditions.{cross}

-- ---- the grid
ratio_is : IsCoordinate ratio
ratio_is = record { some = omega arith; few = omega arith; near = omega (arith, ints) }

pub are_coordinates : (shape : FormShape) (shift : ℕ) → shift ≤ 28 → AreCoordinates (coordinates_of shape shift)
are_coordinates Flat shift h = record { some = omega arith; few = omega arith; each = each }
  where
    each : (n : ℕ) → n < 2 → IsCoordinate (coordinate_at (ratio ∷ ratio ∷ []) n)
    each zero k = ratio_is
    each (suc zero) k = ratio_is
    each (suc (suc n)) k = absurd (omega arith)
are_coordinates Line shift h = are_lines shift h
are_coordinates Circle shift h = are_circles shift h
are_coordinates Cylinder shift h = are_lines shift h

some_roots : (shape : FormShape) → (1 ≤ roots_of shape) × (roots_of shape ≤ 4)
some_roots Flat = (omega arith, omega arith)
some_roots Line = (omega arith, omega arith)
some_roots Circle = (omega arith, omega arith)
some_roots Cylinder = (omega arith, omega arith)

pub form_grid : (shape : FormShape) (shift : ℕ) → shift ≤ 28 → IsGrid (cells_of shape shift)
    × IsGridOf (cells_of shape shift) (coordinates_of shape shift)
form_grid shape shift h =
    coordinates_make_grid (roots_of shape) (coordinates_of shape shift) (some_roots shape).0 (some_roots shape).1
    (are_coordinates shape shift h)

-- ---- the roots cover
root_inside : (shape : FormShape) (axis : ℕ) → 1 ≤ axis → axis ≤ 3 → (1 ≤ root_of shape axis)
    × (root_of shape axis ≤ roots_of shape)
root_inside Flat axis h k = (h, k)
root_inside Line axis h k = (h, k)
root_inside Circle axis h k = (omega arith, omega arith)
root_inside Cylinder axis h k = (h, k)

-- an axis that passes within t / 2 of the form's own point
passes : (t : ℕ) (x : Axis) (a : V3) → IsInCylinder t x a a → PassesWithin t x.direction (pos x.scale) x.offset
passes t x a h =
    let n : V3 = x.direction in
    let o : V3 = x.offset in
    let s : ℤ = pos x.scale in
    let e : norm2_of (cross n (from_axis x a a)) ≡ crossed n o =
    equal (n.x ∷ n.y ∷ n.z ∷ o.x ∷ o.y ∷ o.z ∷ s ∷ a.x ∷ a.y ∷ a.z ∷ [])
    ((var 1 ⊗ (var 6 ⊗ (var 9 ⊖ var 9) ⊖ var 5) ⊖ var 2 ⊗ (var 6 ⊗ (var 8 ⊖ var 8) ⊖ var 4)) ⊗
    (var 1 ⊗ (var 6 ⊗ (var 9 ⊖ var 9) ⊖ var 5) ⊖ var 2 ⊗ (var 6 ⊗ (var 8 ⊖ var 8) ⊖ var 4))
    ⊕ (var 2 ⊗ (var 6 ⊗ (var 7 ⊖ var 7) ⊖ var 3) ⊖ var 0 ⊗ (var 6 ⊗ (var 9 ⊖ var 9) ⊖ var 5)) ⊗
    (var 2 ⊗ (var 6 ⊗ (var 7 ⊖ var 7) ⊖ var 3) ⊖ var 0 ⊗ (var 6 ⊗ (var 9 ⊖ var 9) ⊖ var 5))
    ⊕ (var 0 ⊗ (var 6 ⊗ (var 8 ⊖ var 8) ⊖ var 4) ⊖ var 1 ⊗ (var 6 ⊗ (var 7 ⊖ var 7) ⊖ var 3)) ⊗
    (var 0 ⊗ (var 6 ⊗ (var 8 ⊖ var 8) ⊖ var 4) ⊖ var 1 ⊗ (var 6 ⊗ (var 7 ⊖ var 7) ⊖ var 3)))
    ((var 1 ⊗ var 5 ⊖ var 2 ⊗ var 4) ⊗ (var 1 ⊗ var 5 ⊖ var 2 ⊗ var 4) ⊕ (var 2 ⊗ var 3 ⊖ var 0 ⊗ var 5) ⊗
    (var 2 ⊗ var 3 ⊖ var 0 ⊗ var 5) ⊕ (var 0 ⊗ var 4 ⊖ var 1 ⊗ var 3) ⊗ (var 0 ⊗ var 4 ⊖ var 1 ⊗ var 3)) refl in
    let f : (pos t *ℤ pos t) *ℤ ((s *ℤ s) *ℤ norm2_of n) ≡ square
    (pos t *ℤ s) *ℤ (square n.x +ℤ square n.y +ℤ square n.z) =
    equal (pos t ∷ s ∷ n.x ∷ n.y ∷ n.z ∷ []) ((var 0 ⊗ var 0) ⊗
    ((var 1 ⊗ var 1) ⊗ (var 2 ⊗ var 2 ⊕ var 3 ⊗ var 3 ⊕ var 4 ⊗ var 4)))
    (((var 0 ⊗ var 1) ⊗ (var 0 ⊗ var 1)) ⊗ (var 2 ⊗ var 2 ⊕ var 3 ⊗ var 3 ⊕ var 4 ⊗ var 4)) refl in
    subst (λ z. (pos 4 *ℤ crossed n o) ≤ℤ z) f (subst
    (λ z. (pos 4 *ℤ z) ≤ℤ ((pos t *ℤ pos t) *ℤ ((s *ℤ s) *ℤ norm2_of n))) e h)

reaches : (shape : FormShape) (rows : List Row) (judged : List ℕ) (t shift : ℕ) (d a : V3) (axis : ℕ) (x : Axis)
    → 0 < length judged → (shape ≡ Line → t ≤ 2 ^ shift) → (shape ≡ Line → a ≡ point_at rows (get_or judged 0 0))
    → IsMetAbout shape (points_at rows judged) t shift d a axis x → IsNear shift (pos x.scale) x.offset
reaches Flat rows judged t shift d a axis x some wide first met = met.reach
reaches Line rows judged t shift d a axis x some wide first met =
    no_line_is_lost axis t shift x.direction (pos x.scale) x.offset met.candidate.first met.candidate.last
    met.candidate.direction met.candidate.scale met.candidate.offset (wide refl)
    (passes t x a (subst (λ p. IsInCylinder t x a p) (sym (first refl))
    (one-point (λ (p : V3). IsInCylinder t x a p) rows judged 0 met.zone some)))
reaches Circle rows judged t shift d a axis x some wide first met = met.reach
reaches Cylinder rows judged t shift d a axis x some wide first met = met.reach

axis_roots_cover : (q : Asked) → IsAsked q → RootsCover (cells_of q.shape q.shift) (MeetsForm q) (AxisLiesIn q)
axis_roots_cover q asked a met =
    let x : Axis = axis_in a in
    let root = root_inside q.shape (lead_in a) met.candidate.first met.candidate.last in
    record {
      root = root_of q.shape (lead_in a);
      first = root.0;
      last = root.1;
      lies_inside = form_roots_cover q.shape q.direction q.shift (lead_in a) x.direction
          (pos x.scale) x.offset met.candidate
          (reaches q.shape q.rows q.judged q.tolerance q.shift q.direction q.own
          (lead_in a) x asked.some asked.line_shift asked.line_own met);
    }

axis_halves_cover : (q : Asked) → IsAsked q → HalvesCover (cells_of q.shape q.shift) (AxisLiesIn q)
axis_halves_cover q asked a root level path one last above inside lies =
    form_halves_cover q.shape q.shift root level path (lead_in a) (axis_in a).direction (pos (axis_in a).scale)
    (axis_in a).offset asked.near above lies

-- ---- evidence
form_first_refutes : (shape : FormShape) (rows : List Row) (judged : List ℕ) (t : ℕ) (b : DirBox) (a : V3)
    (e : Evidence) → 0 < length judged → form_evidence shape rows judged t b a ≡ Some e
    → form_refuted shape rows judged t b a e ≡ true
form_first_refutes Flat rows judged t b a e some h = absurd (cc)
form_first_refutes Line rows judged t b a e some h = line-evidence-refutes Line rows judged t b a e h
form_first_refutes Circle rows judged t b a e some h = ring-evidence-refutes Circle rows judged t b a e some h
form_first_refutes Cylinder rows judged t b a e some h = ring-evidence-refutes Cylinder rows judged t b a e some h

form_none_refutes : (shape : FormShape) (rows : List Row) (judged : List ℕ) (t : ℕ) (b : DirBox) (a : V3) (e : Evidence)
    → form_evidence shape rows judged t b a ≡ None → form_refuted shape rows judged t b a e ≡ false
form_none_refutes Flat rows judged t b a e h = refl
form_none_refutes Line rows judged t b a e h = line-none-refutes Line rows judged t b a e h
form_none_refutes Circle rows judged t b a e h = ring-none-refutes Circle rows judged t b a e h
form_none_refutes Cylinder rows judged t b a e h = ring-none-refutes Cylinder rows judged t b a e h

short_point : (i count : ℕ) → i < count → count ≤ POINTS → IsShort (point_evidence i)
short_point i count h few = record { condition = omega arith; a = omega (arith, h, few); b = omega arith }

short_pair : (i j count : ℕ) → i < count → j < count → count ≤ POINTS → IsShort (evidence_of i j)
short_pair i j count h k few = record { condition = omega arith; a = omega (arith, h, few); b = omega (arith, k, few) }

line_is_short : (shape : FormShape) (rows : List Row) (judged : List ℕ) (t : ℕ) (b : DirBox) (a : V3) (e : Evidence)
    → All (λ (n : ℕ). n < length rows) judged → length rows ≤ POINTS → line_evidence shape rows judged t b a ≡ Some e
    → IsShort e
line_is_short shape rows judged t b a e below few h =
    let f : ℕ → Bool = λ (i : ℕ). is_outside t (length2_of shape b).hi (value_at shape b a rows i) in
    let m = mapped (find f judged) e h in
    let p : Place judged m.0 = place-of judged m.0 (found f judged m.0 m.1).0 in
    let inside : m.0 < length rows = subst (λ n. n < length rows) p.there (below p.at 0 p.inside) in
    subst IsShort m.2 (short_point m.0 (length rows) inside few)

ring_is_short : (shape : FormShape) (rows : List Row) (judged : List ℕ) (t : ℕ) (b : DirBox) (a : V3) (e : Evidence)
    → 0 < length judged → All (λ (n : ℕ). n < length rows) judged → length rows ≤ POINTS
    → ring_evidence shape rows judged t b a ≡ Some e → IsShort e
ring_is_short shape rows judged t b a e some below few h =
    let i : ℕ = farthest_point shape rows judged b a in
    let j : ℕ = nearest_point shape rows judged b a in
    let c = chosen (ring_parts shape rows t b a i j) (evidence_of i j) e h in
    subst IsShort c.1 (short_pair i j (length rows) (below _ 0 (farthest-inside shape rows judged t b a some))
    (below _ 0 (nearest-inside shape rows judged t b a some)) few)

form_is_short : (shape : FormShape) (rows : List Row) (judged : List ℕ) (t : ℕ) (b : DirBox) (a : V3) (e : Evidence)
    → 0 < length judged → All (λ (n : ℕ). n < length rows) judged → length rows ≤ POINTS
    → form_evidence shape rows judged t b a ≡ Some e → IsShort e
form_is_short Flat rows judged t b a e some below few h = absurd (cc)
form_is_short Line rows judged t b a e some below few h = line_is_short Line rows judged t b a e below few h
form_is_short Circle rows judged t b a e some below few h = ring_is_short Circle rows judged t b a e some below few h
form_is_short Cylinder rows judged t b a e some below few h =
    ring_is_short Cylinder rows judged t b a e some below few h

-- ---- a refuted cell is empty
-- entries over a leading entry, and entries of a stated direction
held_over : (b : DirBox) (lead : ℤ) (n : V3) → pos 0 <ℤ lead → HoldsDirection b lead n
    → HoldsEntries 30 b (unsigned_abs lead) n
held_over b (pos k) n h d = record { x = d.x; y = d.y; z = d.z }
held_over b (negsuc k) n h d = absurd (omega (arith, ints, h))

lead_counts : (lead : ℤ) → pos 0 <ℤ lead → 1 ≤ unsigned_abs lead
lead_counts (pos k) h = omega (arith, ints, h)
lead_counts (negsuc k) h = absurd (omega (arith, ints, h))

whole_inside : (lo hi x : ℤ) → ((lo *ℤ pos ONE) ≤ℤ (pos ONE *ℤ x)) × ((pos ONE *ℤ x) ≤ℤ (hi *ℤ pos ONE))
    → Inside lo hi 1 (pos (2 ^ 0) *ℤ x)
whole_inside lo hi x h = (omega (arith, ints, h.0), omega (arith, ints, h.1))

held_alone : (b : DirBox) (n : V3) → HoldsDirection b (pos ONE) n → HoldsEntries 0 b 1 n
held_alone b n h = record {
  x = whole_inside b.lo.x b.hi.x n.x h.x;
  y = whole_inside b.lo.y b.hi.y n.y h.y;
  z = whole_inside b.lo.z b.hi.z n.z h.z;
}

scale_counts : (s : ℕ) → pos 0 <ℤ pos s → 1 ≤ s
scale_counts s h = omega (arith, ints, h)

leading_holds : (shape : FormShape) (b : DirBox) (axis : ℕ) (x : Axis) → bits_of shape ≡ 30
    → LeadsAlong axis x.direction → pos 0 <ℤ pos x.scale → HoldsDirection b (entry axis x.direction) x.direction
    → HoldsOffset b (pos x.scale) x.offset → HoldsAxis shape b x
leading_holds shape b axis x bits leads scale direction offset = record {
  lead = unsigned_abs (entry axis x.direction);
  leads = lead_counts (entry axis x.direction) leads.positive;
  scale = scale_counts x.scale scale;
  direction = subst (λ m. HoldsEntries m b (unsigned_abs (entry axis x.direction)) x.direction) (sym bits)
      (held_over b (entry axis x.direction) x.direction leads.positive direction);
  offset = offset;
}

form_is_empty : (shape : FormShape) (rows : List Row) (judged : List ℕ) (t shift : ℕ) (d a : V3) (c : Cell)
    (e : Evidence) (axis : ℕ) (x : Axis) → shift ≤ 28 → IsCell (cells_of shape shift) c
    → form_refuted shape rows judged t (form_box shape d shift c) a e ≡ true
    → FormLiesIn shape shift c axis x.direction (pos x.scale) x.offset
    → IsMetAbout shape (points_at rows judged) t shift d a axis x → ⊥
form_is_empty Flat rows judged t shift d a c e axis x near cell refuted lies met = met.zone
form_is_empty Line rows judged t shift d a c e axis x near cell refuted lies met =
    let b : DirBox = form_box Line d shift c in
    let h = form_encloses Line d shift c near cell axis x.direction (pos x.scale) x.offset met.candidate lies in
    line-refuted-is-empty Line rows judged t b a x e
    (leading_holds Line b axis x refl met.candidate.direction met.candidate.scale h.0 h.1) refuted met.zone
form_is_empty Circle rows judged t shift d a c e axis x near cell refuted lies met =
    let b : DirBox = form_box Circle d shift c in
    let h = form_encloses Circle d shift c near cell axis x.direction (pos x.scale) x.offset met.candidate lies in
    ring-refuted-is-empty Circle rows judged t b a x e
    (record {
      lead = 1;
      leads = omega arith;
      scale = scale_counts x.scale met.candidate.scale;
      direction = held_alone b x.direction h.0;
      offset = h.1;
    }) refuted met.zone
form_is_empty Cylinder rows judged t shift d a c e axis x near cell refuted lies met =
    let b : DirBox = form_box Cylinder d shift c in
    let h = form_encloses Cylinder d shift c near cell axis x.direction (pos x.scale) x.offset met.candidate lies in
    ring-refuted-is-empty Cylinder rows judged t b a x e
    (leading_holds Cylinder b axis x refl met.candidate.direction met.candidate.scale h.0 h.1) refuted met.zone

-- ---- witnesses
le-true : (a b : ℤ) → int_le a b ≡ true → a ≤ℤ b
le-true a b h = record { le = T_from_true (int_le a b) h }

nat-le-true : (a b : ℕ) → nat_le a b ≡ true → a ≤ b
nat-le-true a b h = grind (arith, nat_tests)

-- a number in range lies in the range of its coordinate
pub number_ranges : (ks : List Coordinate) (xs : List ℤ) (n : ℕ) → are_in_range ks xs ≡ true → n < length ks
    → ((coordinate_at ks n).low ≤ℤ get_or xs n (pos 0)) × (get_or xs n (pos 0) ≤ℤ high (coordinate_at ks n))
number_ranges [] xs n h k = absurd (omega (arith, k))
number_ranges (k ∷ ks) [] n h l = absurd (false≢true h)
number_ranges (k ∷ ks) (x ∷ xs) zero h l =
    let both = and-left (int_le k.low x && int_le x (high k)) (are_in_range ks xs) h in (
      le-true k.low x (and-left (int_le k.low x) (int_le x (high k)) both),
      le-true x (high k)
          (and-right (int_le k.low x) (int_le x (high k)) both),
    )
number_ranges (k ∷ ks) (x ∷ xs) (suc n) h l =
    number_ranges ks xs n (and-right (int_le k.low x && int_le x (high k)) (are_in_range ks xs) h) (omega (arith, l))

pub record Ranged (shape : FormShape) (shift : ℕ) (w : Witness) : Type 0 where
  pub first : 1 ≤ w.root
  pub last : w.root ≤ roots_of shape
  pub numbers : are_in_range (coordinates_of shape shift) w.at ≡ true

pub ranged : (shape : FormShape) (shift : ℕ) (w : Witness)
    → is_in_range (roots_of shape) (coordinates_of shape shift) w ≡ true → Ranged shape shift w
ranged shape shift w h =
    let ks : List Coordinate = coordinates_of shape shift in
    let z : Bool = zeros_behind (length ks) w in
    let rest = and-right (nat_le 1 w.root) (nat_le w.root (roots_of shape) && (are_in_range ks w.at && z)) h in
    record {
      first = nat-le-true 1 w.root (and-left (nat_le 1 w.root)
          (nat_le w.root (roots_of shape) && (are_in_range ks w.at && z)) h);
      last = nat-le-true w.root (roots_of shape) (and-left (nat_le w.root (roots_of shape))
          (are_in_range ks w.at && z) rest);
      numbers = and-left (are_in_range ks w.at) z (and-right (nat_le w.root (roots_of shape))
          (are_in_range ks w.at && z) rest);
    }

pub ratio_size : (x : ℤ) → ratio.low ≤ℤ x → x ≤ℤ high ratio → unsigned_abs x ≤ ONE
ratio_size x h k = omega (arith, ints, h, k)

pub offset_size : (shift : ℕ) (x : ℤ) → (offset shift).low ≤ℤ x → x ≤ℤ high (offset shift)
    → pos (unsigned_abs x) ≤ℤ (pos FINE *ℤ pos (2 ^ shift))
offset_size shift x h k =
    sized (2 ^ (shift + 16)) (2 ^ shift) (pow-add 2 shift 16) h
    (subst (λ z. x ≤ℤ z) (high_about (pos 0) (shift + 16)) k)
  where
    sized : (w v : ℕ) → w ≡ v * FINE → (pos 0 -ℤ pos w) ≤ℤ x → x ≤ℤ (pos 0 +ℤ pos w)
        → pos (unsigned_abs x) ≤ℤ (pos FINE *ℤ pos v)
    sized w v e h k = omega (arith, ints, e, h, k)

-- an offset off an axis
offset_is_level : (axis : ℕ) (a b : ℤ) → 1 ≤ axis → axis ≤ 3 → entry axis (offset_at axis a b) ≡ pos 0
offset_is_level zero a b h k = absurd (omega (arith, h))
offset_is_level (suc zero) a b h k = refl
offset_is_level (suc (suc zero)) a b h k = refl
offset_is_level (suc (suc (suc zero))) a b h k = refl
offset_is_level (suc (suc (suc (suc n)))) a b h k = absurd (omega (arith, k))

none_far : (s v : ℕ) → pos (unsigned_abs (pos 0)) ≤ℤ (pos s *ℤ pos v)
none_far s v = omega (arith, ints)

offset_is_near : (axis shift : ℕ) (a b : ℤ) → 1 ≤ axis → axis ≤ 3
    → pos (unsigned_abs a) ≤ℤ (pos FINE *ℤ pos (2 ^ shift)) → pos (unsigned_abs b) ≤ℤ (pos FINE *ℤ pos (2 ^ shift))
    → IsNear shift (pos FINE) (offset_at axis a b)
offset_is_near zero shift a b h k f g = absurd (omega (arith, h))
offset_is_near (suc zero) shift a b h k f g = record { x = none_far FINE (2 ^ shift); y = f; z = g }
offset_is_near (suc (suc zero)) shift a b h k f g = record { x = f; y = none_far FINE (2 ^ shift); z = g }
offset_is_near (suc (suc (suc zero))) shift a b h k f g = record { x = f; y = g; z = none_far FINE (2 ^ shift) }
offset_is_near (suc (suc (suc (suc n)))) shift a b h k f g = absurd (omega (arith, k))

axis_inside : (d : V3) → (1 ≤ leading_axis d) × (leading_axis d ≤ 3)
axis_inside d = choose (nat_le (unsigned_abs d.y) (unsigned_abs d.x) && nat_le (unsigned_abs d.z) (unsigned_abs d.x))
    (nat_le (unsigned_abs d.z) (unsigned_abs d.y))
  where
    choose : (u v : Bool) → (1 ≤ cond u 1 (cond v 2 3)) × (cond u 1 (cond v 2 3) ≤ 3)
    choose true v = (omega arith, omega arith)
    choose false true = (omega arith, omega arith)
    choose false false = (omega arith, omega arith)

-- the box of a witness holds its axis
alone : (x : ℤ) (k : ℕ) → Inside x x k (pos k *ℤ x)
alone x k = (omega (arith, ints), omega (arith, ints))

ratios_held : (n o : V3) (b : DirBox) → b.lo ≡ n → b.hi ≡ n → HoldsEntries 30 b ONE n
ratios_held n o b e f = record {
  x = subst (λ m. Inside m.x b.hi.x ONE (pos ONE *ℤ n.x)) (sym e)
      (subst (λ m. Inside n.x m.x ONE (pos ONE *ℤ n.x)) (sym f) (alone n.x ONE));
  y = subst (λ m. Inside m.y b.hi.y ONE (pos ONE *ℤ n.y)) (sym e)
      (subst (λ m. Inside n.y m.y ONE (pos ONE *ℤ n.y)) (sym f) (alone n.y ONE));
  z = subst (λ m. Inside m.z b.hi.z ONE (pos ONE *ℤ n.z)) (sym e)
      (subst (λ m. Inside n.z m.z ONE (pos ONE *ℤ n.z)) (sym f) (alone n.z ONE));
}

axis_of : FormShape → V3 → Witness → Axis
axis_of shape d w = record { direction = direction_at shape d w; scale = FINE; offset = offset_in shape d w }

place_offset : (shape : FormShape) (d : V3) (w : Witness)
    → HoldsOffset (place_box shape d w) (pos FINE) (offset_in shape d w)
place_offset shape d w =
    let o : V3 = offset_in shape d w in
    record { x = alone o.x FINE; y = alone o.y FINE; z = alone o.z FINE }

place_holds_ratios : (shape : FormShape) (d : V3) (w : Witness) → bits_of shape ≡ 30
    → HoldsAxis shape (place_box shape d w) (axis_of shape d w)
unfolding axis_of
place_holds_ratios shape d w bits = record {
  lead = ONE;
  leads = omega arith;
  scale = omega arith;
  direction = subst (λ m. HoldsEntries m (place_box shape d w) ONE (direction_at shape d w)) (sym bits)
      (ratios_held (direction_at shape d w) (offset_in shape d w) (place_box shape d w) refl refl);
  offset = place_offset shape d w;
}

place_holds_circle : (d : V3) (w : Witness) → HoldsAxis Circle (place_box Circle d w) (axis_of Circle d w)
unfolding axis_of
place_holds_circle d w = record {
  lead = 1;
  leads = omega arith;
  scale = omega arith;
  direction = record { x = alone d.x 1; y = alone d.y 1; z = alone d.z 1 };
  offset = place_offset Circle d w;
}

-- a witness in range that holds is an axis about which the form is met
line_met : (shape : FormShape) (d a : V3) (rows : List Row) (judged : List ℕ) (t shift : ℕ) (w : Witness)
    → coordinates_of shape shift ≡ coordinates_of Line shift → roots_of shape ≡ 3 → Ranged shape shift w
    → (LeadsAlong w.root (direction_of w.root (number_of w 0) (number_of w 1)))
    × (entry w.root (offset_at w.root (number_of w 2) (number_of w 3)) ≡ pos 0)
    × IsNear shift (pos FINE) (offset_at w.root (number_of w 2) (number_of w 3))
line_met shape d a rows judged t shift w same three r =
    let last : w.root ≤ 3 = subst (λ n. w.root ≤ n) three r.last in
    let ks : List Coordinate = coordinates_of Line shift in
    let all : are_in_range ks w.at ≡ true = subst (λ k. are_in_range k w.at ≡ true) same r.numbers in
    let r0 = number_ranges ks w.at 0 all (omega arith) in
    let r1 = number_ranges ks w.at 1 all (omega arith) in
    let r2 = number_ranges ks w.at 2 all (omega arith) in
    let r3 = number_ranges ks w.at 3 all (omega arith) in (
      leads w.root (number_of w 0) (number_of w 1) (ratio_size (number_of w 0) r0.0 r0.1)
          (ratio_size (number_of w 1) r1.0 r1.1) r.first last,
      offset_is_level w.root (number_of w 2) (number_of w 3) r.first last,
      offset_is_near w.root shift (number_of w 2) (number_of w 3) r.first last
          (offset_size shift (number_of w 2) r2.0 r2.1) (offset_size shift (number_of w 3) r3.0 r3.1),
    )

form_met : (shape : FormShape) (d a : V3) (rows : List Row) (judged : List ℕ) (t shift : ℕ) (w : Witness)
    → Ranged shape shift w → form_holds shape rows judged t (place_box shape d w) a ≡ true
    → IsMetAbout shape (points_at rows judged) t shift d a (lead_at shape d w) (axis_of shape d w)
unfolding axis_of
form_met Flat d a rows judged t shift w r h = absurd (false≢true h)
form_met Line d a rows judged t shift w r h =
    let m = line_met Line d a rows judged t shift w refl refl r in
    record {
      candidate = record { first = r.first; last = r.last; direction = m.0; scale = omega (arith, ints); offset = m.1 };
      reach = tt {0};
      zone = line-holds-is-sound Line rows judged t (place_box Line d w) a (axis_of Line d w)
          (place_holds_ratios Line d w refl) h;
    }
form_met Circle d a rows judged t shift w r h =
    let i = axis_inside d in
    let ks : List Coordinate = coordinates_of Circle shift in
    let r0 = number_ranges ks w.at 0 r.numbers (omega arith) in
    let r1 = number_ranges ks w.at 1 r.numbers (omega arith) in
    record {
      candidate = record {
        first = i.0;
        last = i.1;
        direction = (refl, refl);
        scale = omega (arith, ints);
        offset = offset_is_level (leading_axis d) (number_of w 0) (number_of w 1) i.0 i.1;
      };
      reach = offset_is_near (leading_axis d) shift (number_of w 0) (number_of w 1) i.0 i.1
          (offset_size shift (number_of w 0) r0.0 r0.1) (offset_size shift (number_of w 1) r1.0 r1.1);
      zone = ring-holds-is-sound Circle rows judged t (place_box Circle d w) a (axis_of Circle d w)
          (place_holds_circle d w) h;
    }
form_met Cylinder d a rows judged t shift w r h =
    let m = line_met Cylinder d a rows judged t shift w refl refl r in
    record {
      candidate = record { first = r.first; last = r.last; direction = m.0; scale = omega (arith, ints); offset = m.1 };
      reach = m.2;
      zone = ring-holds-is-sound Cylinder rows judged t (place_box Cylinder d w) a (axis_of Cylinder d w)
          (place_holds_ratios Cylinder d w refl) h;
    }

axis_holds_is_feasible : (q : Asked) → IsAsked q → HoldsIsFeasible (axis_questions q) (MeetsForm q) (axis_at q)
unfolding axis_of
axis_holds_is_feasible q asked w in_range holds =
    form_met q.shape q.direction q.own q.rows q.judged q.tolerance q.shift w (ranged q.shape q.shift w in_range) holds

-- ---- all of them
pub axis_laws : (q : Asked) → IsAsked q → Laws (axis_questions q) (MeetsForm q) (AxisLiesIn q) (axis_at q)
axis_laws q asked =
    let g = form_grid q.shape q.shift asked.near in
    record {
      is_grid = g.0;
      roots_cover = axis_roots_cover q asked;
      halves_cover = axis_halves_cover q asked;
      first_refutes = λ c e cell h. form_first_refutes q.shape q.rows q.judged q.tolerance
          (form_box q.shape q.direction q.shift c) q.own e asked.some h;
      none_refutes = λ c e cell h. form_none_refutes q.shape q.rows q.judged q.tolerance
          (form_box q.shape q.direction q.shift c) q.own e h;
      first_is_short = λ c e cell h. form_is_short q.shape q.rows q.judged q.tolerance
          (form_box q.shape q.direction q.shift c) q.own e asked.some asked.below asked.few h;
      refuted_is_empty = λ c e a cell refuted lies met. form_is_empty q.shape q.rows q.judged q.tolerance q.shift
          q.direction q.own c e (lead_in a) (axis_in a) asked.near cell refuted lies met;
      centre_in_range = λ c cell. (centres_in_range (cells_of q.shape q.shift)
          (coordinates_of q.shape q.shift) c g.1 g.0 refl cell).0;
      holds_is_feasible = axis_holds_is_feasible q asked;
      centre_names_place = λ c cell. (centres_in_range (cells_of q.shape q.shift)
          (coordinates_of q.shape q.shift) c g.1 g.0 refl cell).1;
    }
