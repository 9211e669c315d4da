-- The matrix of a rotation keeps lengths, right angles and the hand.
use Rattle.std.proofs.Common.{◌≡◌, refl, sym, subst, ◌*◌, List, [], ◌∷◌, arith, unsigned_abs}
use Rattle.std.proofs.lemmas.Int.{ints}
use Rattle.std.specs.Prelude.{ℤ, pos, negsuc, ◌+ℤ◌, ◌*ℤ◌}
use Rattle.gd_quat.proofs.Polynomials.{Poly, var, num, ◌⊕◌, ◌⊖◌, ◌⊗◌, equal}
use Rattle.gd_quat.specs.Laws.{KeepsHand, KeepsProducts, KeepsRows, determinant_of}
use Rattle.gd_quat.specs.Rotations.{Rotation, applied, matrix_of, norm_of}
use Rattle.gd_vec.specs.Vector.{dot_of}

pub size-square : (z : ℤ) → pos (unsigned_abs z * unsigned_abs z) ≡ z *ℤ z
size-square (pos n) = omega (arith, ints)
size-square (negsuc n) = omega (arith, ints)

-- the sum of the squares, in whole numbers with a sign
abbrev pub squares : ℤ → ℤ → ℤ → ℤ → ℤ
squares a b c d = a *ℤ a +ℤ b *ℤ b +ℤ c *ℤ c +ℤ d *ℤ d

pub norm-is : (q : Rotation) → pos (norm_of q) ≡ squares q.q0 q.q1 q.q2 q.q3
norm-is q = omega (arith, ints, size-square q.q0, size-square q.q1, size-square q.q2, size-square q.q3)

-- ---- the four numbers as variables 0 to 3
abbrev pub pa : Poly
pa = var 0

abbrev pub pb : Poly
pb = var 1

abbrev pub pc : Poly
pc = var 2

abbrev pub pd : Poly
pd = var 3

abbrev pub two : Poly
two = num (pos 2)

abbrev pub pn : Poly
pn = pa ⊗ pa ⊕ pb ⊗ pb ⊕ pc ⊗ pc ⊕ pd ⊗ pd

abbrev pub xx : Poly
xx = pa ⊗ pa ⊕ pb ⊗ pb ⊖ pc ⊗ pc ⊖ pd ⊗ pd

abbrev pub xy : Poly
xy = two ⊗ (pb ⊗ pc ⊖ pa ⊗ pd)

abbrev pub xz : Poly
xz = two ⊗ (pb ⊗ pd ⊕ pa ⊗ pc)

abbrev pub yx : Poly
yx = two ⊗ (pb ⊗ pc ⊕ pa ⊗ pd)

abbrev pub yy : Poly
yy = pa ⊗ pa ⊖ pb ⊗ pb ⊕ pc ⊗ pc ⊖ pd ⊗ pd

abbrev pub yz : Poly
yz = two ⊗ (pc ⊗ pd ⊖ pa ⊗ pb)

abbrev pub zx : Poly
zx = two ⊗ (pb ⊗ pd ⊖ pa ⊗ pc)

abbrev pub zy : Poly
zy = two ⊗ (pc ⊗ pd ⊕ pa ⊗ pb)

abbrev pub zz : Poly
zz = pa ⊗ pa ⊖ pb ⊗ pb ⊖ pc ⊗ pc ⊕ pd ⊗ pd

abbrev dots : Poly → Poly → Poly → Poly → Poly → Poly → Poly
dots a b c d e f = a ⊗ d ⊕ b ⊗ e ⊕ c ⊗ f

pub keeps-rows : KeepsRows
keeps-rows q =
    let xs : List ℤ = q.q0 ∷ q.q1 ∷ q.q2 ∷ q.q3 ∷ [] in
    let e = sym (norm-is q) in
    record {
      x = subst (λ n. dot_of (matrix_of q).x (matrix_of q).x ≡ n *ℤ n) e (equal xs (dots xx xy xz xx xy xz) (pn ⊗ pn) refl);
      y = subst (λ n. dot_of (matrix_of q).y (matrix_of q).y ≡ n *ℤ n) e (equal xs (dots yx yy yz yx yy yz) (pn ⊗ pn) refl);
      z = subst (λ n. dot_of (matrix_of q).z (matrix_of q).z ≡ n *ℤ n) e (equal xs (dots zx zy zz zx zy zz) (pn ⊗ pn) refl);
      xy = equal xs (dots xx xy xz yx yy yz) (num (pos 0)) refl;
      yz = equal xs (dots yx yy yz zx zy zz) (num (pos 0)) refl;
      zx = equal xs (dots zx zy zz xx xy xz) (num (pos 0)) refl;
    }

pub keeps-hand : KeepsHand
keeps-hand q =
    let xs : List ℤ = q.q0 ∷ q.q1 ∷ q.q2 ∷ q.q3 ∷ [] in
    subst (λ n. determinant_of (matrix_of q) ≡ n *ℤ n *ℤ n) (sym (norm-is q)) (equal xs (xx ⊗ (yy ⊗ zz ⊖ yz ⊗ zy) ⊕ xy ⊗ (yz ⊗ zx ⊖ yx ⊗ zz) ⊕ xz ⊗ (yx ⊗ zy ⊖ yy ⊗ zx)) (pn ⊗ pn ⊗ pn) refl)

pub keeps-products : KeepsProducts
keeps-products q v w =
    let xs : List ℤ = q.q0 ∷ q.q1 ∷ q.q2 ∷ q.q3 ∷ v.x ∷ v.y ∷ v.z ∷ w.x ∷ w.y ∷ w.z ∷ [] in
    let m = (λ (x y z : Poly). dots x y z (var 4) (var 5) (var 6)) in
    let n = (λ (x y z : Poly). dots x y z (var 7) (var 8) (var 9)) in
    subst (λ n. dot_of (applied (matrix_of q) v) (applied (matrix_of q) w) ≡ (n *ℤ n) *ℤ dot_of v w) (sym (norm-is q)) (equal xs (dots (m xx xy xz) (m yx yy yz) (m zx zy zz) (n xx xy xz) (n yx yy yz) (n zx zy zz)) ((pn ⊗ pn) ⊗ dots (var 4) (var 5) (var 6) (var 7) (var 8) (var 9)) refl)
