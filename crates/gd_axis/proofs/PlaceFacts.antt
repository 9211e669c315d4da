-- Places of the grid of a form about an axis.
use Rattle.std.proofs.Common.{arith, ◌≡◌, refl, sym, ap, subst, ◌∙◌, ℕ, ◌^◌, ◌≤◌, ◌<◌, pos, Bool, true, false, ◌&&◌, List, [], ◌∷◌, length, get_or, unsigned_abs, ◌==◌}
use Rattle.std.proofs.Math.Pow.{pow_mono}
use Rattle.std.proofs.lemmas.Int.{ints}
use Rattle.std.specs.Prelude.{ℤ, ◌*ℤ◌, ◌≤ℤ◌, int_le, if◌then◌else◌}
use Rattle.gd_cells.specs.Witnesses.{witness_of}
use Rattle.gd_cells.specs.declared.cell.Cell.{Cell}
use Rattle.gd_cells.specs.declared.cell.Witness.{Witness}
use Rattle.gd_dir.specs.Boxes.{IsBelow, IsBox}
use Rattle.gd_dir.specs.FormBoxes.{offset_at}
use Rattle.gd_dir.specs.FormPlaces.{dims_of}
use Rattle.gd_dir.specs.Forms.{cells_of, coordinates_of, leading_axis, offset, ratio, roots_of}
use Rattle.gd_dir.specs.declared.shape.DirBox.{DirBox}
use Rattle.gd_dir.specs.declared.shape.FormShape.{FormShape}
use Rattle.gd_dir.specs.declared.shape.FormShape.TheVariants.{Flat, Line, Circle, Cylinder}
use Rattle.gd_flat.proofs.Sizes.{kept, kept-is}
use Rattle.gd_axis.specs.AxisBoxes.{IsFormBox}
use Rattle.gd_axis.specs.AxisTask.{direction_at, number_of, offset_in, place_box}
use Rattle.gd_axis.specs.Laws.AxisTask.{number_ranges, offset_size, ranged, ratio_size}
use Rattle.gd_dir.proofs.Enclosure.{corner_within}
use Rattle.gd_grid.proofs.Grids.{turns_are_halvings}
use Rattle.gd_grid.specs.Cells.{are_in_range, centre_of, is_in_range}
use Rattle.gd_grid.specs.Coordinates.{high, middle_after}
use Rattle.gd_grid.specs.Turns.{turns}
use Rattle.gd_grid.specs.declared.coordinate.Coordinate.{Coordinate}
use Rattle.gd_vec.specs.Vector.{IsWithin}
use Rattle.gd_vec.specs.declared.vector.V3.{V3}

pub dims_are : (shape : FormShape) (shift : ℕ) → dims_of shape ≡ length (coordinates_of shape shift)
dims_are Flat shift = refl
dims_are Line shift = refl
dims_are Circle shift = refl
dims_are Cylinder shift = refl

pub some_dims : (shape : FormShape) → 0 < dims_of shape
some_dims Flat = omega arith
some_dims Line = omega arith
some_dims Circle = omega arith
some_dims Cylinder = omega arith

-- ---- boxes of witnesses
self_below : (v : V3) → IsBelow v v
self_below v = record { x = self v.x; y = self v.y; z = self v.z }
  where
    self : (z : ℤ) → z ≤ℤ z
    self z = omega (arith, ints)

offset_within : (axis : ℕ) (a b : ℤ) → unsigned_abs a ≤ 2 ^ 44 → unsigned_abs b ≤ 2 ^ 44 → IsWithin (2 ^ 44) (offset_at axis a b)
offset_within axis a b h k = choose (axis == 1) (axis == 2)
  where
    choose : (u v : Bool) → IsWithin (2 ^ 44) (if u then record { x = pos 0; y = a; z = b } else (if v then record { x = a; y = pos 0; z = b } else record { x = a; y = b; z = pos 0 }))
    choose true v = record { x = omega arith; y = h; z = k }
    choose false true = record { x = h; y = omega arith; z = k }
    choose false false = record { x = h; y = k; z = omega arith }

small_shift : (shift : ℕ) (x : ℤ) → shift ≤ 28 → pos (unsigned_abs x) ≤ℤ (pos (2 ^ 16) *ℤ pos (2 ^ shift)) → unsigned_abs x ≤ 2 ^ 44
small_shift shift x h k = let g : 2 ^ shift ≤ 2 ^ 28 = pow_mono h in sized (unsigned_abs x) (2 ^ shift) g k
  where
    sized : (a w : ℕ) → w ≤ 2 ^ 28 → pos a ≤ℤ (pos (2 ^ 16) *ℤ pos w) → a ≤ 2 ^ 44
    sized a w g k = omega (arith, ints, g, k)

box_fits : (b : DirBox) (n o : V3) → b.lo ≡ n → b.hi ≡ n → b.offset_lo ≡ o → b.offset_hi ≡ o → IsWithin (2 ^ 30) n → IsWithin (2 ^ 44) o → IsBox b
box_fits b n o e f g h small near = record {
  ordered = subst (λ v. IsBelow v b.hi) (sym e) (subst (λ v. IsBelow n v) (sym f) (self_below n));
  lo = subst (IsWithin (2 ^ 30)) (sym e) small;
  hi = subst (IsWithin (2 ^ 30)) (sym f) small;
  offset_ordered = subst (λ v. IsBelow v b.offset_hi) (sym g) (subst (λ v. IsBelow o v) (sym h) (self_below o));
  offset_lo = subst (IsWithin (2 ^ 44)) (sym g) near;
  offset_hi = subst (IsWithin (2 ^ 44)) (sym h) near;
}

wider : (d : V3) → IsWithin (2 ^ 10) d → IsWithin (2 ^ 30) d
wider d h = record { x = omega (arith, h.x); y = omega (arith, h.y); z = omega (arith, h.z) }

pub record Numbers (shift : ℕ) (w : Witness) : Type 0 where
  pub first_root : 1 ≤ w.root
  pub last_root : w.root ≤ 3
  pub first : unsigned_abs (number_of w 0) ≤ 2 ^ 30
  pub second : unsigned_abs (number_of w 1) ≤ 2 ^ 30
  pub third : unsigned_abs (number_of w 2) ≤ 2 ^ 44
  pub fourth : unsigned_abs (number_of w 3) ≤ 2 ^ 44

pub line_numbers : (shape : FormShape) (shift : ℕ) (w : Witness) → shift ≤ 28 → coordinates_of shape shift ≡ coordinates_of Line shift → roots_of shape ≡ 3 → is_in_range (roots_of shape) (coordinates_of shape shift) w ≡ true → Numbers shift w
line_numbers shape shift w few same three h =
    let r = ranged shape shift w h in
    let ks : List Coordinate = coordinates_of Line shift in
    let all : are_in_range ks w.at ≡ true = subst (λ k. are_in_range k w.at ≡ true) same r.numbers in
    let r0 = number_ranges ks w.at 0 all (omega arith) in
    let r1 = number_ranges ks w.at 1 all (omega arith) in
    let r2 = number_ranges ks w.at 2 all (omega arith) in
    let r3 = number_ranges ks w.at 3 all (omega arith) in
    record {
      first_root = r.first;
      last_root = subst (λ n. w.root ≤ n) three r.last;
      first = ratio_size (number_of w 0) r0.0 r0.1;
      second = ratio_size (number_of w 1) r1.0 r1.1;
      third = small_shift shift (number_of w 2) few (offset_size shift (number_of w 2) r2.0 r2.1);
      fourth = small_shift shift (number_of w 3) few (offset_size shift (number_of w 3) r3.0 r3.1);
    }

line_fits : (shape : FormShape) (d : V3) (shift : ℕ) (w : Witness) → Numbers shift w → IsBox (place_box Line d w)
line_fits shape d shift w n =
    box_fits (place_box Line d w) (direction_at Line d w) (offset_in Line d w) refl refl refl refl (corner_within w.root (number_of w 0) (number_of w 1) n.first_root n.last_root n.first n.second) (offset_within w.root (number_of w 2) (number_of w 3) n.third n.fourth)

pub place_fits : (shape : FormShape) (d : V3) (shift : ℕ) (w : Witness) → (shape ≡ Flat → ⊥) → shift ≤ 28 → IsWithin (2 ^ 10) d → is_in_range (roots_of shape) (coordinates_of shape shift) w ≡ true → IsFormBox shape (place_box shape d w)
place_fits Flat d shift w axis few short h = absurd (axis refl)
place_fits Line d shift w axis few short h = record { box = line_fits Line d shift w (line_numbers Line shift w few refl refl h); short_lo = λ e. absurd (cc); short_hi = λ e. absurd (cc) }
place_fits Circle d shift w axis few short h =
    let r = ranged Circle shift w h in
    let ks : List Coordinate = coordinates_of Circle shift in
    let r0 = number_ranges ks w.at 0 r.numbers (omega arith) in
    let r1 = number_ranges ks w.at 1 r.numbers (omega arith) in
    record {
      box = box_fits (place_box Circle d w) d (offset_in Circle d w) refl refl refl refl (wider d short)
          (offset_within (leading_axis d) (number_of w 0) (number_of w 1) (small_shift shift (number_of w 0) few (offset_size shift (number_of w 0) r0.0 r0.1)) (small_shift shift (number_of w 1) few (offset_size shift (number_of w 1) r1.0 r1.1)));
      short_lo = λ e. short;
      short_hi = λ e. short;
    }
place_fits Cylinder d shift w axis few short h = record { box = line_fits Cylinder d shift w (line_numbers Cylinder shift w few refl refl h); short_lo = λ e. absurd (cc); short_hi = λ e. absurd (cc) }
