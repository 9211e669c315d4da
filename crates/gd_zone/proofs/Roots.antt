-- Integer roots: the bounds that fix them, their order and their size.
use Rattle.std.proofs.Common.{◌≡◌, ap, sym, subst, ℕ, ◌+◌, ◌-◌, ◌*◌, ◌^◌, ◌<◌, ◌≤◌, arith, unsigned_abs}
use Rattle.std.proofs.lemmas.Int.{ints}
use Rattle.std.specs.Prelude.{ℤ, zero, suc, pos, negsuc, ◌-ℤ◌, ◌*ℤ◌, ◌≤ℤ◌, ◌<ℤ◌}
use Rattle.gd_int.proofs.IntegerRoots.{root_ceil-least, root_ceil-mono, root_floor-greatest, root_floor-mono}
use Rattle.gd_interval.specs.Formulas.{IsRootAbove, IsRootBelow}
use Rattle.gd_zone.proofs.Comparisons.{above-least, above-square, below-next, below-square}
use Rattle.gd_zone.specs.Tests.{ceil_root, floor_root, root_above, root_below}

both : (m n : ℕ) → m ≤ n → n ≤ m → m ≡ n
both m n h k = omega (arith, h, k)

below-is : (a r : ℕ) → r * r ≤ a → a < (r + 1) * (r + 1) → r ≡ root_below a
below-is a r h k = both r (root_below a) (root_floor-greatest a (root_below a) r (below-next a) h) (root_floor-greatest a r (root_below a) k (below-square a))

above-is : (a r : ℕ) → a ≤ r * r → (0 < r → (r - 1) * (r - 1) < a) → r ≡ root_above a
above-is a r h k = both r (root_above a) (root_ceil-least a r (root_above a) k (above-square a)) (root_ceil-least a (root_above a) r (above-least a) h)

-- ---- the numbers that the bounds fix
pub floor_root_is : (r c : ℤ) → pos 0 ≤ℤ c → IsRootBelow r c → r ≡ floor_root c
floor_root_is (pos r) (pos c) n h = let l = h.1 in let m = h.2 in ap pos (below-is c r (omega (arith, ints, l)) (omega (arith, ints, m)))
floor_root_is (negsuc r) c n h = let l = h.0 in absurd (omega (arith, ints, l))
floor_root_is (pos r) (negsuc c) n h = absurd (omega (arith, ints, n))

pub ceil_root_is : (r c : ℤ) → pos 0 ≤ℤ c → IsRootAbove r c → r ≡ ceil_root c
ceil_root_is (pos r) (pos c) n h = let l = h.1 in ap pos (above-is c r (omega (arith, ints, l)) (λ p. least r c p (h.2 (omega (arith, ints, p)))))
  where
    least : (r c : ℕ) → 0 < r → ((pos r -ℤ pos 1) *ℤ (pos r -ℤ pos 1)) <ℤ pos c → (r - 1) * (r - 1) < c
    least (suc r) c p h = let e : suc r - 1 ≡ r = omega arith in let g : pos (suc r) -ℤ pos 1 ≡ pos r = omega (arith, ints) in let k : (pos r *ℤ pos r) <ℤ pos c = subst (λ z. (z *ℤ z) <ℤ pos c) g h in let i : r * r < c = omega (arith, ints, k) in subst (λ z. z * z < c) (sym e) i
    least zero c p h = absurd (omega (arith, p))
ceil_root_is (negsuc r) c n h = let l = h.0 in absurd (omega (arith, ints, l))
ceil_root_is (pos r) (negsuc c) n h = absurd (omega (arith, ints, n))

-- ---- they grow
pub floor-root-mono : (a b : ℤ) → a ≤ℤ b → floor_root a ≤ℤ floor_root b
floor-root-mono (pos a) (pos b) h = let m = root_floor-mono a b (root_below a) (root_below b) (omega (arith, ints, h)) (below-square a) (below-next b) in omega (arith, ints, m)
floor-root-mono (pos a) (negsuc b) h = absurd (omega (arith, ints, h))
floor-root-mono (negsuc a) (pos b) h = omega (arith, ints)
floor-root-mono (negsuc a) (negsuc b) h = omega (arith, ints)

pub ceil-root-mono : (a b : ℤ) → a ≤ℤ b → ceil_root a ≤ℤ ceil_root b
ceil-root-mono (pos a) (pos b) h = let m = root_ceil-mono a b (root_above a) (root_above b) (omega (arith, ints, h)) (above-least a) (above-square b) in omega (arith, ints, m)
ceil-root-mono (pos a) (negsuc b) h = absurd (omega (arith, ints, h))
ceil-root-mono (negsuc a) (pos b) h = omega (arith, ints)
ceil-root-mono (negsuc a) (negsuc b) h = omega (arith, ints)

-- ---- the root of a number within 2^120 is within 2^60
below-small : (a : ℕ) → a ≤ 2 ^ 120 → root_below a ≤ 2 ^ 60
below-small a h = root_floor-greatest (2 ^ 120) (2 ^ 60) (root_below a) (omega arith) (omega (arith, h, below-square a))

above-small : (a : ℕ) → a ≤ 2 ^ 120 → root_above a ≤ 2 ^ 60
above-small a h = root_ceil-least a (root_above a) (2 ^ 60) (above-least a) (omega (arith, h))

pub floor_root_small : (c : ℤ) → unsigned_abs c ≤ 2 ^ 120 → unsigned_abs (floor_root c) ≤ 2 ^ 60
floor_root_small (pos c) h = below-small c h
floor_root_small (negsuc c) h = omega arith

pub ceil_root_small : (c : ℤ) → unsigned_abs c ≤ 2 ^ 120 → unsigned_abs (ceil_root c) ≤ 2 ^ 60
ceil_root_small (pos c) h = above-small c h
ceil_root_small (negsuc c) h = omega arith
