-- The boxes of the halves of a cell lie in the cell's box.
use Rattle.std.proofs.Common.{arith, ◌≡◌, sym, ap, subst, ◌∙◌, ℕ, zero, suc, ◌+◌, ◌*◌, ◌^◌, ◌≤◌, ◌<◌, pos, ◌≤ℤ◌, inl}
use Rattle.std.proofs.Common.{inr}
use Rattle.std.proofs.lemmas.Bool.{cases_lt}
use Rattle.std.proofs.lemmas.Int.{ints}
use Rattle.gd_cells.specs.Grid.{Grid, cell_of}
use Rattle.gd_cells.specs.declared.cell.Cell.{Cell}
use Rattle.gd_grid.proofs.InTurn.{nest_in_turn}
use Rattle.gd_interval.specs.declared.iv.Iv.{Iv}
use Rattle.gd_quat.specs.Formulas.{Ends, RotationEnds, VectorEnds, alone, ends, leading_ends, point_ends, rotation_ends, vector_ends}
use Rattle.gd_quat.specs.Laws.{Lies, RotationInside, VectorInside}
use Rattle.gd_quat.specs.declared.shape.RotationBox.{RotationBox}
use Rattle.gd_quat.specs.declared.shape.VecBox.{VecBox}
use Rattle.gd_grid.proofs.Steps.{root_is}
use Rattle.gd_turn.proofs.Coordinates.{are_coordinates, first_root, last_root, length_of}
use Rattle.gd_turn.proofs.Holds.{face_small, has_none, has_offset}
use Rattle.gd_turn.specs.Boxes.{ends_in, three_from}
use Rattle.gd_turn.specs.Covers.{BoxesNest}
use Rattle.gd_turn.specs.Ranges.{ORIGIN, cells_of, coordinates_of, face_of, roots_of}

-- the ends a lie between the ends b
abbrev Part : Ends → Ends → Type 0
Part a b = (b.lo ≤ℤ a.lo) × (a.hi ≤ℤ b.hi)

lies : (x y : Iv) (a b : Ends) → ends x ≡ a → ends y ≡ b → Part a b → Lies x y
lies x y a b e f h = subst (λ (z : Ends). Part z (ends y)) (sym e) (subst (λ (z : Ends). Part a z) (sym f) h)

itself : (a : Ends) → Part a a
itself a = (omega (arith, ints), omega (arith, ints))

vectors_nest : (b d : VecBox) (x y : VectorEnds) → vector_ends b ≡ x → vector_ends d ≡ y → Part x.x y.x
    → Part x.y y.y → Part x.z y.z → VectorInside b d
vectors_nest b d x y e f h i j = record {
  x = lies b.x d.x x.x y.x (ap (λ t. t.x) e) (ap (λ t. t.x) f) h;
  y = lies b.y d.y x.y y.y (ap (λ t. t.y) e) (ap (λ t. t.y) f) i;
  z = lies b.z d.z x.z y.z (ap (λ t. t.z) e) (ap (λ t. t.z) f) j;
}

rotations_nest : (b d : RotationBox) (x y : RotationEnds) → rotation_ends b ≡ x → rotation_ends d ≡ y
    → Part x.q0 y.q0 → Part x.q1 y.q1 → Part x.q2 y.q2 → Part x.q3 y.q3 → RotationInside b d
rotations_nest b d x y e f g h i j = record {
  q0 = lies b.q0 d.q0 x.q0 y.q0 (ap (λ t. t.q0) e) (ap (λ t. t.q0) f) g;
  q1 = lies b.q1 d.q1 x.q1 y.q1 (ap (λ t. t.q1) e) (ap (λ t. t.q1) f) h;
  q2 = lies b.q2 d.q2 x.q2 y.q2 (ap (λ t. t.q2) e) (ap (λ t. t.q2) f) i;
  q3 = lies b.q3 d.q3 x.q3 y.q3 (ap (λ t. t.q3) e) (ap (λ t. t.q3) f) j;
}

turns_nest : (face : ℕ) (b d : RotationBox) (x y z u v w : Ends) → face ≤ 3 → rotation_ends b ≡ leading_ends face x y z
    → rotation_ends d ≡ leading_ends face u v w → Part x u → Part y v → Part z w → RotationInside b d
turns_nest zero b d x y z u v w few e f g h i = rotations_nest b d (leading_ends 0 x y z)
    (leading_ends 0 u v w) e f (itself (alone (pos (2 ^ 30)))) g h i
turns_nest (suc zero) b d x y z u v w few e f g h i = rotations_nest b d (leading_ends 1 x y z)
    (leading_ends 1 u v w) e f g (itself (alone (pos (2 ^ 30)))) h i
turns_nest (suc (suc zero)) b d x y z u v w few e f g h i = rotations_nest b d (leading_ends 2 x y z)
    (leading_ends 2 u v w) e f g h (itself (alone (pos (2 ^ 30)))) i
turns_nest (suc (suc (suc zero))) b d x y z u v w few e f g h i = rotations_nest b d (leading_ends 3 x y z)
    (leading_ends 3 u v w) e f g h i (itself (alone (pos (2 ^ 30))))
turns_nest (suc (suc (suc (suc n)))) b d x y z u v w few e f g h i = absurd (omega arith)

pub boxes_nest : BoxesNest
boxes_nest r root level path side a b are first last above small half cell =
    let g : Grid = cells_of r in
    let c : Cell = cell_of g root level path in
    let d : Cell = cell_of g root (suc level) (2 * path + side) in
    let at : (n : ℕ) → n < 3 * r.offsets + 6 → Part (ends_in r d n) (ends_in r c n) =
    λ n h. nest_in_turn (roots_of r.turn) (coordinates_of r) n root level path side (first_root r) (last_root r)
    (are_coordinates r are) above (omega (arith, h, length_of r)) small in
    let same : face_of r.turn d.root ≡ face_of r.turn c.root = ap (face_of r.turn) (root_is g root (suc level)
    (2 * path + side) ∙ sym (root_is g root level path)) in
    let few : face_of r.turn c.root ≤ 3 = face_small r.turn c.root (rw (root_is g root level path) last) in
    record {
      turn = turns_nest (face_of r.turn c.root) a.turn b.turn (ends_in r d 0) (ends_in r d 1) (ends_in r d 2)
          (ends_in r c 0) (ends_in r c 1) (ends_in r c 2) few
          (subst (λ m. rotation_ends a.turn ≡ leading_ends m (ends_in r d 0) (ends_in r d 1)
          (ends_in r d 2)) same half.turn) cell.turn (at 0 (omega arith)) (at 1 (omega arith)) (at 2 (omega arith));
      shift = vectors_nest a.shift b.shift (three_from r d 3)
          (three_from r c 3) half.shift cell.shift (at 3 (omega arith)) (at 4 (omega arith)) (at 5 (omega arith));
      first = elim (cases_lt r.offsets 1) as (λ _. VectorInside a.first b.first) [
        | inl none ↦ vectors_nest a.first b.first (point_ends ORIGIN) (point_ends ORIGIN) (half.first
            ∙ has_none r d 1 none) (cell.first ∙ has_none r c 1 none) (itself (alone (pos 0)))
            (itself (alone (pos 0))) (itself (alone (pos 0)))
        | inr some ↦ vectors_nest a.first b.first (three_from r d 6) (three_from r c 6) (half.first
            ∙ has_offset r d 1 some) (cell.first
            ∙ has_offset r c 1 some) (at 6 (omega (arith, some))) (at 7 (omega (arith, some)))
            (at 8 (omega (arith, some)))
      ];
      second = elim (cases_lt r.offsets 2) as (λ _. VectorInside a.second b.second) [
        | inl none ↦ vectors_nest a.second b.second (point_ends ORIGIN) (point_ends ORIGIN) (half.second
            ∙ has_none r d 2 none) (cell.second ∙ has_none r c 2 none) (itself (alone (pos 0)))
            (itself (alone (pos 0))) (itself (alone (pos 0)))
        | inr some ↦ vectors_nest a.second b.second (three_from r d 9) (three_from r c 9) (half.second
            ∙ has_offset r d 2 some) (cell.second
            ∙ has_offset r c 2 some) (at 9 (omega (arith, some))) (at 10 (omega (arith, some)))
            (at 11 (omega (arith, some)))
      ];
    }
