-- The box of a cell holds the placements that lie in the cell, and is small.
use Rattle.std.proofs.Common.{arith, ◌≡◌, refl, sym, ap, subst, ◌∙◌, ℕ, zero, suc, ◌+◌, ◌-◌, ◌*◌, ◌^◌, ◌≤◌, ◌<◌, ℤ, pos}
use Rattle.std.proofs.Common.{negsuc, ◌*ℤ◌, inl, inr, unsigned_abs, true, false, nat_le, length}
use Rattle.std.proofs.lemmas.Bool.{cases_lt}
use Rattle.std.proofs.lemmas.Bool.Decides.{nat_tests}
use Rattle.std.proofs.lemmas.Int.{ints}
use Rattle.std.proofs.Math.Nat.{pow-le-pow_right}
use Rattle.gd_base.specs.Limits.{LARGE_COORDINATE, LARGE_SHIFT}
use Rattle.gd_cells.specs.Grid.{IsCell}
use Rattle.gd_cells.specs.declared.cell.Cell.{Cell}
use Rattle.gd_grid.proofs.InTurn.{box_is_in, lies_between}
use Rattle.gd_grid.proofs.Ranges.{about_size, few_power}
use Rattle.gd_grid.specs.Cells.{IsBetween, LieIn, coordinate_at, fraction_at, middle_in}
use Rattle.gd_grid.specs.Laws.{IsBoxIn}
use Rattle.gd_int.proofs.Integers.{mul-assoc_ℤ, mul_comm_ℤ}
use Rattle.gd_interval.specs.Interval.{Inside}
use Rattle.gd_interval.specs.declared.iv.Iv.{Iv}
use Rattle.gd_quat.specs.Boxes.{Fits, HoldsRotation, HoldsVector, IsOne, IsRotationBox, VectorFits}
use Rattle.gd_quat.specs.Formulas.{Ends, VectorEnds, alone, ends, leading_ends, point_ends, rotation_ends, vector_ends}
use Rattle.gd_quat.specs.Placements.{Placement, times}
use Rattle.gd_quat.specs.Rotations.{Rotation}
use Rattle.gd_quat.specs.declared.shape.RotationBox.{RotationBox}
use Rattle.gd_quat.specs.declared.shape.VecBox.{VecBox}
use Rattle.gd_grid.proofs.Steps.{cell_root}
use Rattle.gd_turn.proofs.Coordinates.{are_coordinates, first_root, last_root, later_is, length_of}
use Rattle.gd_turn.specs.Boxes.{EnclosesPlacements, IsBoxOf, IsCellBox, ends_in, offset_ends, three_from}
use Rattle.gd_turn.specs.Ranges.{AreRanges, ORIGIN, cells_of, component, coordinates_of, face_of, fine, first_other}
use Rattle.gd_turn.specs.Ranges.{length_about, numbers_of, ratio, ratio_to, roots_of, second_other, third_other}
use Rattle.gd_turn.specs.Ranges.{turn_of}
use Rattle.gd_turn.specs.declared.ranges.CellBox.{CellBox}
use Rattle.gd_turn.specs.declared.ranges.Ranges.{Ranges}
use Rattle.gd_turn.specs.declared.ranges.TurnRange.{TurnRange}
use Rattle.gd_turn.specs.declared.ranges.TurnRange.TheVariants.{All, Within}
use Rattle.gd_vec.specs.declared.vector.V3.{V3}

-- an interval by its two ends
pub same_ends : (a : Iv) (e : Ends) → a.lo ≡ e.lo → a.hi ≡ e.hi → ends a ≡ e
same_ends a e f g = ap (λ z. with_ends z a.hi) f ∙ ap (λ z. with_ends e.lo z) g
  where
    with_ends : ℤ → ℤ → Ends
    with_ends lo hi = record { lo = lo; hi = hi }

-- ---- rotations
abbrev squared : ℤ → ℕ
squared lead = unsigned_abs lead * unsigned_abs lead

square_is : (lead : ℤ) → lead *ℤ lead ≡ pos (squared lead)
square_is (pos n) = refl
square_is (negsuc n) = refl

turned_product : (x lead : ℤ) → pos (2 ^ 30) *ℤ (x *ℤ lead) ≡ (pos (2 ^ 30) *ℤ lead) *ℤ x
turned_product x lead = ap (λ z. pos (2 ^ 30) *ℤ z) (mul_comm_ℤ x lead) ∙ sym (mul-assoc_ℤ (pos (2 ^ 30)) lead x)

-- an interval with these ends holds the component
held : (a : Iv) (e : Ends) (lead x : ℤ) → ends a ≡ e
    → IsBetween e.lo e.hi (ratio_to lead x).under (ratio_to lead x).value
    → Inside a.lo a.hi (squared lead) ((pos (2 ^ 30) *ℤ lead) *ℤ x)
held a e lead x same h =
    subst (λ (f : Ends). Inside f.lo f.hi (squared lead) ((pos (2 ^ 30) *ℤ lead) *ℤ x)) (sym same)
    (subst (λ z. Inside e.lo e.hi (squared lead) z) (turned_product x lead)
    (subst (λ z. IsBetween e.lo e.hi z (pos (2 ^ 30) *ℤ (x *ℤ lead))) (square_is lead) h))

held_lead : (a : Iv) (lead : ℤ) → ends a ≡ alone (pos (2 ^ 30))
    → Inside a.lo a.hi (squared lead) ((pos (2 ^ 30) *ℤ lead) *ℤ lead)
held_lead a lead same = held a (alone (pos (2 ^ 30))) lead lead same (equal (lead *ℤ lead))
  where
    equal : (z : ℤ) → IsBetween (pos (2 ^ 30)) (pos (2 ^ 30)) z (pos (2 ^ 30) *ℤ z)
    equal z = (omega (arith, ints), omega (arith, ints))

counts : (lead : ℤ) → 0 < unsigned_abs lead → 0 < unsigned_abs (pos (2 ^ 30) *ℤ lead)
counts lead h = sized lead h
  where
    sized : (z : ℤ) → 0 < unsigned_abs z → 0 < unsigned_abs (pos (2 ^ 30) *ℤ z)
    sized z h = omega (arith, ints)

counts_squared : (lead : ℤ) → 0 < unsigned_abs lead → 0 < squared lead
counts_squared lead h = sized (unsigned_abs lead) h
  where
    sized : (n : ℕ) → 0 < n → 0 < n * n
    sized zero h = absurd (omega arith)
    sized (suc n) h = omega arith

holds_rotation : (face : ℕ) (b : RotationBox) (x y z : Ends) (q : Rotation) → face ≤ 3
    → rotation_ends b ≡ leading_ends face x y z → 0 < unsigned_abs (component face q)
    → IsBetween x.lo x.hi (ratio_to (component face q)
    (component (first_other face) q)).under (ratio_to (component face q) (component (first_other face) q)).value
    → IsBetween y.lo y.hi (ratio_to (component face q)
    (component (second_other face) q)).under (ratio_to (component face q) (component (second_other face) q)).value
    → IsBetween z.lo z.hi (ratio_to (component face q)
    (component (third_other face) q)).under (ratio_to (component face q) (component (third_other face) q)).value
    → HoldsRotation b q
holds_rotation zero b x y z q few e leads f g h = record {
  factor = pos (2 ^ 30) *ℤ q.q0;
  under = squared q.q0;
  factor-counts = counts q.q0 leads;
  under-counts = counts_squared q.q0 leads;
  q0 = held_lead b.q0 q.q0 (ap (λ t. t.q0) e);
  q1 = held b.q1 x q.q0 q.q1 (ap (λ t. t.q1) e) f;
  q2 = held b.q2 y q.q0 q.q2 (ap (λ t. t.q2) e) g;
  q3 = held b.q3 z q.q0 q.q3 (ap (λ t. t.q3) e) h;
}
holds_rotation (suc zero) b x y z q few e leads f g h = record {
  factor = pos (2 ^ 30) *ℤ q.q1;
  under = squared q.q1;
  factor-counts = counts q.q1 leads;
  under-counts = counts_squared q.q1 leads;
  q0 = held b.q0 x q.q1 q.q0 (ap (λ t. t.q0) e) f;
  q1 = held_lead b.q1 q.q1 (ap (λ t. t.q1) e);
  q2 = held b.q2 y q.q1 q.q2 (ap (λ t. t.q2) e) g;
  q3 = held b.q3 z q.q1 q.q3 (ap (λ t. t.q3) e) h;
}
holds_rotation (suc (suc zero)) b x y z q few e leads f g h = record {
  factor = pos (2 ^ 30) *ℤ q.q2;
  under = squared q.q2;
  factor-counts = counts q.q2 leads;
  under-counts = counts_squared q.q2 leads;
  q0 = held b.q0 x q.q2 q.q0 (ap (λ t. t.q0) e) f;
  q1 = held b.q1 y q.q2 q.q1 (ap (λ t. t.q1) e) g;
  q2 = held_lead b.q2 q.q2 (ap (λ t. t.q2) e);
  q3 = held b.q3 z q.q2 q.q3 (ap (λ t. t.q3) e) h;
}
holds_rotation (suc (suc (suc zero))) b x y z q few e leads f g h = record {
  factor = pos (2 ^ 30) *ℤ q.q3;
  under = squared q.q3;
  factor-counts = counts q.q3 leads;
  under-counts = counts_squared q.q3 leads;
  q0 = held b.q0 x q.q3 q.q0 (ap (λ t. t.q0) e) f;
  q1 = held b.q1 y q.q3 q.q1 (ap (λ t. t.q1) e) g;
  q2 = held b.q2 z q.q3 q.q2 (ap (λ t. t.q2) e) h;
  q3 = held_lead b.q3 q.q3 (ap (λ t. t.q3) e);
}
holds_rotation (suc (suc (suc (suc n)))) b x y z q few e leads f g h = absurd (omega arith)

-- ---- vectors
held_entry : (a : Iv) (e : Ends) (scale : ℕ) (x : ℤ) → ends a ≡ e
    → IsBetween e.lo e.hi (fine scale x).under (fine scale x).value → Inside a.lo a.hi scale (pos (2 ^ 16) *ℤ x)
held_entry a e scale x same h = subst (λ (f : Ends). Inside f.lo f.hi scale (pos (2 ^ 16) *ℤ x)) (sym same) h

holds_vector : (b : VecBox) (e : VectorEnds) (scale : ℕ) (v : V3) → vector_ends b ≡ e
    → IsBetween e.x.lo e.x.hi (fine scale v.x).under (fine scale v.x).value
    → IsBetween e.y.lo e.y.hi (fine scale v.y).under (fine scale v.y).value
    → IsBetween e.z.lo e.z.hi (fine scale v.z).under (fine scale v.z).value
    → HoldsVector b scale (times (pos (2 ^ 16)) v)
holds_vector b e scale v same f g h = record {
  x = held_entry b.x e.x scale v.x (ap (λ t. t.x) same) f;
  y = held_entry b.y e.y scale v.y (ap (λ t. t.y) same) g;
  z = held_entry b.z e.z scale v.z (ap (λ t. t.z) same) h;
}

zero_held : (scale : ℕ) → IsBetween (pos 0) (pos 0) (fine scale (pos 0)).under (fine scale (pos 0)).value
zero_held scale = (omega (arith, ints), omega (arith, ints))

holds_origin : (b : VecBox) (scale : ℕ) (v : V3) → vector_ends b ≡ point_ends ORIGIN → v ≡ ORIGIN
    → HoldsVector b scale (times (pos (2 ^ 16)) v)
holds_origin b scale v same e = subst (λ u. HoldsVector b scale (times (pos (2 ^ 16)) u)) (sym e)
    (holds_vector b (point_ends ORIGIN) scale ORIGIN same (zero_held scale) (zero_held scale) (zero_held scale))

-- ---- a placement of the cell
at_number : (r : Ranges) (c : Cell) (face : ℕ) (p : Placement) (n : ℕ) → n < 3 * r.offsets + 6
    → LieIn (cells_of r) (coordinates_of r) (numbers_of face p) c
    → IsBetween (ends_in r c n).lo (ends_in r c n).hi (fraction_at (numbers_of face p) n).under (fraction_at
    (numbers_of face p) n).value
at_number r c face p n h lies =
    let inside : n < length (coordinates_of r) = omega (arith, h, length_of r) in
    lies_between (roots_of r.turn) (coordinates_of r) (numbers_of face p) n c inside (lies n inside)

pub face_small : (turn : TurnRange) (root : ℕ) → root ≤ roots_of turn → face_of turn root ≤ 3
face_small All root h = omega (arith, h)
face_small (Within k) root h = omega arith

pub has_offset : (r : Ranges) (c : Cell) (number : ℕ) → number ≤ r.offsets
    → offset_ends r c number ≡ three_from r c (3 * number + 3)
has_offset r c number h = let e : nat_le number r.offsets ≡ true = grind (arith, nat_tests) in rw e refl

pub has_none : (r : Ranges) (c : Cell) (number : ℕ) → r.offsets < number → offset_ends r c number ≡ point_ends ORIGIN
has_none r c number h = let e : nat_le number r.offsets ≡ false = grind (arith, nat_tests) in rw e refl

pub holds_placement : (r : Ranges) (c : Cell) (b : CellBox) → AreRanges r → IsCell (cells_of r) c → IsBoxOf r c b
    → EnclosesPlacements r c b
holds_placement r c b are cell box p placement lies =
    let root = cell_root (cells_of r) c cell in
    let face : ℕ = lies.face in
    let few : face ≤ 3 = rw lies.is_face (face_small r.turn c.root root.1) in
    let turn : rotation_ends b.turn ≡ leading_ends face (ends_in r c 0) (ends_in r c 1)
    (ends_in r c 2) = rw lies.is_face box.turn in
    record {
      turn = holds_rotation face b.turn (ends_in r c 0) (ends_in r c 1) (ends_in r c 2) p.turn few turn lies.leads
          (at_number r c face p 0 (omega arith) lies.numbers) (at_number r c face p 1 (omega arith) lies.numbers)
          (at_number r c face p 2 (omega arith) lies.numbers);
      shift = holds_vector b.shift (three_from r c 3) p.scale p.shift box.shift
          (at_number r c face p 3 (omega arith) lies.numbers) (at_number r c face p 4 (omega arith) lies.numbers)
          (at_number r c face p 5 (omega arith) lies.numbers);
      first = elim (cases_lt r.offsets 1) as (λ _. HoldsVector b.first p.scale (times (pos (2 ^ 16)) p.first)) [
        | inl none ↦ holds_origin b.first p.scale p.first (box.first ∙ has_none r c 1 none) (lies.no_first none)
        | inr some ↦ holds_vector b.first (three_from r c 6) p.scale p.first (box.first ∙ has_offset r c 1 some)
            (at_number r c face p 6 (omega (arith, some)) lies.numbers)
            (at_number r c face p 7 (omega (arith, some)) lies.numbers)
            (at_number r c face p 8 (omega (arith, some)) lies.numbers)
      ];
      second = elim (cases_lt r.offsets 2) as (λ _. HoldsVector b.second p.scale (times (pos (2 ^ 16)) p.second)) [
        | inl none ↦ holds_origin b.second p.scale p.second (box.second ∙ has_none r c 2 none) (lies.no_second none)
        | inr some ↦ holds_vector b.second (three_from r c 9) p.scale p.second (box.second ∙ has_offset r c 2 some)
            (at_number r c face p 9 (omega (arith, some)) lies.numbers)
            (at_number r c face p 10 (omega (arith, some)) lies.numbers)
            (at_number r c face p 11 (omega (arith, some)) lies.numbers)
      ];
    }

-- ---- sizes
box_at : (r : Ranges) (c : Cell) (n : ℕ) → AreRanges r → IsCell (cells_of r) c → n < 3 * r.offsets + 6
    → IsBoxIn (coordinate_at (coordinates_of r) n)
    (ends_in r c n).lo (ends_in r c n).hi (middle_in (coordinates_of r) n c)
box_at r c n are cell h = box_is_in (roots_of r.turn) (coordinates_of r) n c (first_root r) (last_root r)
    (are_coordinates r are) cell (omega (arith, h, length_of r))

fits : (a : Iv) (e : Ends) (m : ℕ) → ends a ≡ e → (unsigned_abs e.lo ≤ m) × (unsigned_abs e.hi ≤ m) → Fits m a
fits a e m same h = let l : a.lo ≡ e.lo = ap (λ (t : Ends). t.lo) same in let k : a.hi
    ≡ e.hi = ap (λ (t : Ends). t.hi) same in record { lo = rw l h.0; hi = rw k h.1 }

ratio_in : (turn : TurnRange) (lo hi mid : ℤ) → IsBoxIn (ratio turn) lo hi mid → (unsigned_abs lo ≤ 2 ^ 30)
    × (unsigned_abs hi ≤ 2 ^ 30)
ratio_in turn lo hi mid b =
    let few : 30 - turn_of turn ≤ 30 = omega arith in
    let p : 2 ^ (30 - turn_of turn) ≤ 2 ^ 30 = pow-le-pow_right {n = 2} (omega arith) few in
    about_size (pos 0) (30 - turn_of turn) (2 ^ 30) lo hi mid (omega (arith, p)) b

length_in : (shift : ℕ) (x lo hi mid : ℤ) → shift ≤ LARGE_SHIFT → unsigned_abs x ≤ LARGE_COORDINATE
    → IsBoxIn (length_about shift x) lo hi mid → (unsigned_abs lo ≤ 2 ^ 45) × (unsigned_abs hi ≤ 2 ^ 45)
length_in shift x lo hi mid h k b =
    let few : shift + 16 ≤ 44 = omega (arith, h) in
    let p : 2 ^ (shift + 16) ≤ 2 ^ 44 = few_power (shift + 16) few in
    let c : unsigned_abs (x *ℤ pos (2 ^ 16)) ≤ 2 ^ 44 = omega (arith, ints) in
    about_size (x *ℤ pos (2 ^ 16)) (shift + 16) (2 ^ 45) lo hi mid (omega (arith, p, c)) b

ratio_size : (r : Ranges) (c : Cell) (n : ℕ) → AreRanges r → IsCell (cells_of r) c → n < 3
    → (unsigned_abs (ends_in r c n).lo ≤ 2 ^ 30) × (unsigned_abs (ends_in r c n).hi ≤ 2 ^ 30)
ratio_size r c zero are cell h = ratio_in r.turn (ends_in r c 0).lo (ends_in r c 0).hi (middle_in (coordinates_of r) 0
    c) (box_at r c 0 are cell (omega arith))
ratio_size r c (suc zero) are cell h = ratio_in r.turn (ends_in r c 1).lo (ends_in r c 1).hi (middle_in (coordinates_of
    r) 1 c) (box_at r c 1 are cell (omega arith))
ratio_size r c (suc (suc zero)) are cell h = ratio_in r.turn (ends_in r c 2).lo (ends_in r c 2).hi (middle_in
    (coordinates_of r) 2 c) (box_at r c 2 are cell (omega arith))
ratio_size r c (suc (suc (suc n))) are cell h = absurd (omega arith)

abbrev IsSmall : Ends → Type 0
IsSmall e = (unsigned_abs e.lo ≤ 2 ^ 45) × (unsigned_abs e.hi ≤ 2 ^ 45)

length_size : (r : Ranges) (c : Cell) (n : ℕ) (x : ℤ) → AreRanges r → IsCell (cells_of r) c → n < 3 * r.offsets + 6
    → unsigned_abs x ≤ LARGE_COORDINATE → coordinate_at (coordinates_of r) n ≡ length_about r.shift x
    → IsSmall (ends_in r c n)
length_size r c n x are cell h few e =
    length_in r.shift x (ends_in r c n).lo (ends_in r c n).hi (middle_in (coordinates_of r) n c) are.shift few (subst
    (λ m. IsBoxIn m (ends_in r c n).lo (ends_in r c n).hi (middle_in (coordinates_of r) n c)) e (box_at r c n are
    cell h))

offset_size : (r : Ranges) (c : Cell) (m : ℕ) → AreRanges r → IsCell (cells_of r) c → m < 3 * r.offsets
    → IsSmall (ends_in r c (suc (suc (suc (suc (suc (suc m)))))))
offset_size r c m are cell h = length_size r c (suc (suc (suc (suc (suc (suc m))))))
    (pos 0) are cell (omega (arith, h)) (omega arith) (later_is r m h)

vector_fits : (b : VecBox) (e : VectorEnds) → vector_ends b ≡ e → IsSmall e.x → IsSmall e.y → IsSmall e.z
    → VectorFits (2 ^ 45) b
vector_fits b e same f g h = record {
  x = fits b.x e.x (2 ^ 45) (ap (λ t. t.x) same) f;
  y = fits b.y e.y (2 ^ 45) (ap (λ t. t.y) same) g;
  z = fits b.z e.z (2 ^ 45) (ap (λ t. t.z) same) h;
}

small_origin : IsSmall (alone (pos 0))
small_origin = (omega arith, omega arith)

one_size : (a : Iv) → ends a ≡ alone (pos (2 ^ 30)) → Fits (2 ^ 30) a
one_size a e = fits a (alone (pos (2 ^ 30))) (2 ^ 30) e (omega arith, omega arith)

is_one : (a : Iv) → ends a ≡ alone (pos (2 ^ 30)) → IsOne a
is_one a e = (ap (λ (t : Ends). t.lo) e, ap (λ (t : Ends). t.hi) e)

abbrev IsRatio : Ends → Type 0
IsRatio e = (unsigned_abs e.lo ≤ 2 ^ 30) × (unsigned_abs e.hi ≤ 2 ^ 30)

rotation_fits : (face : ℕ) (b : RotationBox) (x y z : Ends) → face ≤ 3 → rotation_ends b ≡ leading_ends face x y z
    → IsRatio x → IsRatio y → IsRatio z → IsRotationBox b
rotation_fits zero b x y z few e f g h = record {
  q0 = one_size b.q0 (ap (λ t. t.q0) e);
  q1 = fits b.q1 x (2 ^ 30) (ap (λ t. t.q1) e) f;
  q2 = fits b.q2 y (2 ^ 30) (ap (λ t. t.q2) e) g;
  q3 = fits b.q3 z (2 ^ 30) (ap (λ t. t.q3) e) h;
  leads = inl (is_one b.q0 (ap (λ t. t.q0) e));
}
rotation_fits (suc zero) b x y z few e f g h = record {
  q0 = fits b.q0 x (2 ^ 30) (ap (λ t. t.q0) e) f;
  q1 = one_size b.q1 (ap (λ t. t.q1) e);
  q2 = fits b.q2 y (2 ^ 30) (ap (λ t. t.q2) e) g;
  q3 = fits b.q3 z (2 ^ 30) (ap (λ t. t.q3) e) h;
  leads = inr (inl (is_one b.q1 (ap (λ t. t.q1) e)));
}
rotation_fits (suc (suc zero)) b x y z few e f g h = record {
  q0 = fits b.q0 x (2 ^ 30) (ap (λ t. t.q0) e) f;
  q1 = fits b.q1 y (2 ^ 30) (ap (λ t. t.q1) e) g;
  q2 = one_size b.q2 (ap (λ t. t.q2) e);
  q3 = fits b.q3 z (2 ^ 30) (ap (λ t. t.q3) e) h;
  leads = inr (inr (inl (is_one b.q2 (ap (λ t. t.q2) e))));
}
rotation_fits (suc (suc (suc zero))) b x y z few e f g h = record {
  q0 = fits b.q0 x (2 ^ 30) (ap (λ t. t.q0) e) f;
  q1 = fits b.q1 y (2 ^ 30) (ap (λ t. t.q1) e) g;
  q2 = fits b.q2 z (2 ^ 30) (ap (λ t. t.q2) e) h;
  q3 = one_size b.q3 (ap (λ t. t.q3) e);
  leads = inr (inr (inr (is_one b.q3 (ap (λ t. t.q3) e))));
}
rotation_fits (suc (suc (suc (suc n)))) b x y z few e f g h = absurd (omega arith)

pub is_cell_box : (r : Ranges) (c : Cell) (b : CellBox) → AreRanges r → IsCell (cells_of r) c → IsBoxOf r c b
    → IsCellBox b
is_cell_box r c b are cell box =
    let root = cell_root (cells_of r) c cell in
    record {
      turn = rotation_fits (face_of r.turn c.root) b.turn (ends_in r c 0) (ends_in r c 1) (ends_in r c 2)
          (face_small r.turn c.root root.1) box.turn
          (ratio_size r c 0 are cell (omega arith)) (ratio_size r c 1 are cell (omega arith))
          (ratio_size r c 2 are cell (omega arith));
      shift = vector_fits b.shift (three_from r c 3) box.shift
          (length_size r c 3 r.centre.x are cell (omega arith) are.centre.x refl)
          (length_size r c 4 r.centre.y are cell (omega arith) are.centre.y refl)
          (length_size r c 5 r.centre.z are cell (omega arith) are.centre.z refl);
      first = elim (cases_lt r.offsets 1) as (λ _. VectorFits (2 ^ 45) b.first) [
        | inl none ↦ vector_fits b.first (point_ends ORIGIN) (box.first
            ∙ has_none r c 1 none) small_origin small_origin small_origin
        | inr some ↦ vector_fits b.first (three_from r c 6) (box.first
            ∙ has_offset r c 1 some) (offset_size r c 0 are cell (omega (arith, some)))
            (offset_size r c 1 are cell (omega (arith, some))) (offset_size r c 2 are cell (omega (arith, some)))
      ];
      second = elim (cases_lt r.offsets 2) as (λ _. VectorFits (2 ^ 45) b.second) [
        | inl none ↦ vector_fits b.second (point_ends ORIGIN) (box.second
            ∙ has_none r c 2 none) small_origin small_origin small_origin
        | inr some ↦ vector_fits b.second (three_from r c 9) (box.second
            ∙ has_offset r c 2 some) (offset_size r c 3 are cell (omega (arith, some)))
            (offset_size r c 4 are cell (omega (arith, some))) (offset_size r c 5 are cell (omega (arith, some)))
      ];
    }
