-- Placements of the grid: their boxes hold them.
use Rattle.std.proofs.Common.{◌≡◌, refl, sym, ap, subst, ◌∙◌, ℕ, zero, suc, ◌+◌, ◌*◌, ◌^◌, ◌<◌, ◌≤◌, Bool, true, false, ◌==◌, arith}
use Rattle.std.proofs.lemmas.Int.{ints}
use Rattle.std.specs.Prelude.{ℤ, pos, ◌*ℤ◌, if◌then◌else◌}
use Rattle.gd_interval.specs.Interval.{Inside}
use Rattle.gd_interval.specs.declared.iv.Iv.{Iv}
use Rattle.gd_quat.specs.Boxes.{HoldsRotation, HoldsVector}
use Rattle.gd_quat.specs.Formulas.{Ends, alone, ends, grid_ends, leading_ends, point_ends, rotation_ends, vector_ends}
use Rattle.gd_quat.specs.Placements.{IsPlacement, placement_of, rotation_at, times}
use Rattle.gd_quat.specs.Rotations.{IsRotation, Rotation}
use Rattle.gd_quat.specs.declared.shape.Assignment.{Assignment}
use Rattle.gd_quat.specs.declared.shape.Ratios.{Ratios}
use Rattle.gd_quat.specs.declared.shape.RotationBox.{RotationBox}
use Rattle.gd_quat.specs.declared.shape.VecBox.{VecBox}
use Rattle.gd_vec.specs.declared.vector.V3.{V3}

held-alone : (a : Iv) (z : ℤ) → ends a ≡ alone z → Inside a.lo a.hi 1 (pos 1 *ℤ z)
held-alone a z e = subst (λ y. Inside y.lo y.hi 1 (pos 1 *ℤ z)) (sym e) (omega (arith, ints), omega (arith, ints))

pub holds-grid : (face : ℕ) (r : Ratios) (b : RotationBox) → rotation_ends b ≡ grid_ends face r → HoldsRotation b (rotation_at face r)
holds-grid face r b e = record {
  factor = pos 1;
  under = 1;
  factor-counts = omega arith;
  under-counts = omega arith;
  q0 = held-alone b.q0 (rotation_at face r).q0 (ap (λ z. z.q0) e);
  q1 = held-alone b.q1 (rotation_at face r).q1 (ap (λ z. z.q1) e);
  q2 = held-alone b.q2 (rotation_at face r).q2 (ap (λ z. z.q2) e);
  q3 = held-alone b.q3 (rotation_at face r).q3 (ap (λ z. z.q3) e);
}

-- the box with 1 at the face and the ratios at the others is that of the grid
pub leading-grid : (face : ℕ) (r : Ratios) (x y z : Ends) → face ≤ 3 → x ≡ alone r.first → y ≡ alone r.second → z ≡ alone r.third → leading_ends face x y z ≡ grid_ends face r
leading-grid face r x y z few e f g =
    ap (λ t. leading_ends face t y z) e ∙ ap (λ t. leading_ends face (alone r.first) t z) f ∙ ap (λ t. leading_ends face (alone r.first) (alone r.second) t) g ∙ alike face few
  where
    alike : (face : ℕ) → face ≤ 3 → leading_ends face (alone r.first) (alone r.second) (alone r.third) ≡ grid_ends face r
    alike zero few = refl
    alike (suc zero) few = refl
    alike (suc (suc zero)) few = refl
    alike (suc (suc (suc zero))) few = refl
    alike (suc (suc (suc (suc n)))) few = absurd (omega (arith, few))

held-shift : (a : Iv) (z : ℤ) → ends a ≡ alone z → Inside a.lo a.hi (2 ^ 16) (pos (2 ^ 16) *ℤ z)
held-shift a z e = subst (λ y. Inside y.lo y.hi (2 ^ 16) (pos (2 ^ 16) *ℤ z)) (sym e) (omega (arith, ints), omega (arith, ints))

pub holds-point : (v : V3) (b : VecBox) → vector_ends b ≡ point_ends v → HoldsVector b (2 ^ 16) (times (pos (2 ^ 16)) v)
holds-point v b e = record {
  x = held-shift b.x v.x (ap (λ z. z.x) e);
  y = held-shift b.y v.y (ap (λ z. z.y) e);
  z = held-shift b.z v.z (ap (λ z. z.z) e);
}

-- the leading component isn't 0
by-face : (face : ℕ) (r : Ratios) (P : Rotation → Type 0)
    → P (record { q0 = pos (2 ^ 30); q1 = r.first; q2 = r.second; q3 = r.third }) → P (record { q0 = r.first; q1 = pos (2 ^ 30); q2 = r.second; q3 = r.third })
    → P (record { q0 = r.first; q1 = r.second; q2 = pos (2 ^ 30); q3 = r.third }) → P (record { q0 = r.first; q1 = r.second; q2 = r.third; q3 = pos (2 ^ 30) })
    → P (rotation_at face r)
by-face face r P h i j k = choose (face == 0) (face == 1) (face == 2)
  where
    choose : (a b c : Bool) → P (if a then record { q0 = pos (2 ^ 30); q1 = r.first; q2 = r.second; q3 = r.third }
        else (if b then record { q0 = r.first; q1 = pos (2 ^ 30); q2 = r.second; q3 = r.third }
        else (if c then record { q0 = r.first; q1 = r.second; q2 = pos (2 ^ 30); q3 = r.third }
        else record { q0 = r.first; q1 = r.second; q2 = r.third; q3 = pos (2 ^ 30) })))
    choose true b c = h
    choose false true c = i
    choose false false true = j
    choose false false false = k

counts : (a b c : ℕ) → 0 < 2 ^ 60 + a * a + b * b + c * c
counts a b c = omega arith

pub grid-rotation : (face : ℕ) (r : Ratios) → IsRotation (rotation_at face r)
grid-rotation face r = by-face face r IsRotation (omega arith) (omega arith) (omega arith) (omega arith)

pub grid-placement : (a : Assignment) → IsPlacement (placement_of a)
grid-placement a = record { turn = grid-rotation a.face a.ratios; scale = omega arith }
