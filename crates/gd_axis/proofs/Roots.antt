-- Roots of whole numbers: what fixes them, and that they grow.
use Rattle.std.proofs.Common.{◌≡◌, refl, sym, subst, ℕ, zero, suc, ◌+◌, ◌-◌, ◌*◌, ◌<◌, ◌≤◌, Bool, true, false, ◌==◌, nat_le, arith, ⊎_elim, ◌∙◌}
use Rattle.std.proofs.lemmas.Bool.{false≢true, eqb-true}
use Rattle.std.proofs.lemmas.Bool.Decides.{leb_tells}
use Rattle.std.proofs.lemmas.Int.{ints}
use Rattle.std.specs.Prelude.{ℤ, pos, negsuc, ◌+ℤ◌, ◌-ℤ◌, ◌*ℤ◌, ◌≤ℤ◌, ◌<ℤ◌, if◌then◌else◌}
use Rattle.gd_int.proofs.Integers.{le_antisym_ℤ}
use Rattle.gd_interval.proofs.RootOrder.{above_grows, below_grows}
use Rattle.gd_interval.specs.Formulas.{IsRootAbove, IsRootBelow}
use Rattle.gd_quat.specs.Formulas.{Ends}
use Rattle.gd_zone.proofs.Comparisons.{farthest-above, nearest-below}
use Rattle.gd_zone.specs.Tests.{ceil_root, floor_root, root_above, root_below}

alone : ℤ → Ends
alone z = record { lo = z; hi = z }

-- ---- a root rounded down is below the next number
past : (a b : ℕ) → nat_le a b ≡ false → b < a
past a b h = ⊎_elim (λ t. absurd (false≢true (sym h ∙ t.0))) (λ t. t.1) (leb_tells a b)

next-step : (r a : ℕ) (b : Bool) → (b ≡ false → suc a < (r + 1) * (r + 1)) → a < (r + 1) * (r + 1) → suc a < ((if b then r + 1 else r) + 1) * ((if b then r + 1 else r) + 1)
next-step r a true f h = omega arith
next-step r a false f h = f refl

below-next : (a : ℕ) → a < (root_below a + 1) * (root_below a + 1)
unfolding root_below
below-next zero = omega arith
below-next (suc a) = next-step (root_below a) a (nat_le ((root_below a + 1) * (root_below a + 1)) (suc a)) (past ((root_below a + 1) * (root_below a + 1)) (suc a)) (below-next a)

below-square : (a : ℕ) → root_below a * root_below a ≤ a
below-square a = let h = nearest-below (record { lo = pos a; hi = pos a }) (omega (arith, ints)) in plain (root_below a) a h
  where
    plain : (r a : ℕ) → (pos r *ℤ pos r) ≤ℤ pos a → r * r ≤ a
    plain r a h = omega (arith, ints, h)

pub floor-root-is : (z : ℤ) → pos 0 ≤ℤ z → IsRootBelow (floor_root z) z
floor-root-is (pos a) h = (omega (arith, ints), whole (root_below a) a (below-square a), next (root_below a) a (below-next a))
  where
    whole : (r a : ℕ) → r * r ≤ a → (pos r *ℤ pos r) ≤ℤ pos a
    whole r a h = omega (arith, ints, h)

    next : (r a : ℕ) → a < (r + 1) * (r + 1) → pos a <ℤ ((pos r +ℤ pos 1) *ℤ (pos r +ℤ pos 1))
    next r a h = omega (arith, ints, h)
floor-root-is (negsuc a) h = absurd (omega (arith, ints, h))

-- ---- a root rounded up is the least
least-step : (r a : ℕ) (b : Bool) → (b ≡ true → r * r ≡ a) → r * r ≤ a → a < (r + 1) * (r + 1) → (b ≡ false → r * r < a)
    → 0 < (if b then r else r + 1) → ((if b then r else r + 1) - 1) * ((if b then r else r + 1) - 1) < a
least-step zero a true f l n g p = absurd (omega (arith, p))
least-step (suc r) a true f l n g p = let e : suc r * suc r ≡ a = f refl in let back : suc r - 1 ≡ r = omega arith in subst (λ k. k * k < a) (sym back) (smaller r a e)
  where
    smaller : (r a : ℕ) → suc r * suc r ≡ a → r * r < a
    smaller r a e = omega (arith, e)
least-step r a false f l n g p = let e : r + 1 - 1 ≡ r = omega arith in subst (λ k. k * k < a) (sym e) (g refl)

not-same : (r a : ℕ) → r * r ≤ a → (r * r == a) ≡ false → r * r < a
not-same r a l e = strict (r * r) a l e
  where
    strict : (q a : ℕ) → q ≤ a → (q == a) ≡ false → q < a
    strict q a l e = grind (arith)

above-least : (a : ℕ) → 0 < root_above a → (root_above a - 1) * (root_above a - 1) < a
unfolding root_above
above-least a =
    least-step (root_below a) a (root_below a * root_below a == a) (eqb-true (root_below a * root_below a) a) (below-square a) (below-next a)
    (λ e. not-same (root_below a) a (below-square a) e)

pub ceil-root-is : (z : ℤ) → pos 0 ≤ℤ z → IsRootAbove (ceil_root z) z
ceil-root-is (pos a) h = (omega (arith, ints), farthest-above (record { lo = pos a; hi = pos a }), λ p. least (root_above a) a p (above-least a))
  where
    least : (r a : ℕ) → pos 0 <ℤ pos r → (0 < r → (r - 1) * (r - 1) < a) → ((pos r -ℤ pos 1) *ℤ (pos r -ℤ pos 1)) <ℤ pos a
    least zero a p h = absurd (omega (arith, ints, p))
    least (suc r) a p h = let g : r * r < a = let e : suc r - 1 ≡ r = omega arith in subst (λ k. k * k < a) e (h (omega arith)) in one r a g
      where
        one : (r a : ℕ) → r * r < a → ((pos (suc r) -ℤ pos 1) *ℤ (pos (suc r) -ℤ pos 1)) <ℤ pos a
        one r a g = let e : pos (suc r) -ℤ pos 1 ≡ pos r = omega (arith, ints) in subst (λ z. (z *ℤ z) <ℤ pos a) (sym e) (omega (arith, ints, g))
ceil-root-is (negsuc a) h = absurd (omega (arith, ints, h))

-- ---- there is one of each, and they grow
pub floor-root-one : (r z : ℤ) → pos 0 ≤ℤ z → IsRootBelow r z → r ≡ floor_root z
floor-root-one r z h k = le_antisym_ℤ r (floor_root z) (below_grows z z r (floor_root z) (omega (arith, ints)) k (floor-root-is z h)) (below_grows z z (floor_root z) r (omega (arith, ints)) (floor-root-is z h) k)

pub ceil-root-one : (r z : ℤ) → pos 0 ≤ℤ z → IsRootAbove r z → r ≡ ceil_root z
ceil-root-one r z h k = le_antisym_ℤ r (ceil_root z) (above_grows z z r (ceil_root z) (omega (arith, ints)) k (ceil-root-is z h)) (above_grows z z (ceil_root z) r (omega (arith, ints)) (ceil-root-is z h) k)

pub floor-root-grows : (a b : ℤ) → pos 0 ≤ℤ a → a ≤ℤ b → floor_root a ≤ℤ floor_root b
floor-root-grows a b h l = below_grows a b (floor_root a) (floor_root b) l (floor-root-is a h) (floor-root-is b (up a b h l))
  where
    up : (a b : ℤ) → pos 0 ≤ℤ a → a ≤ℤ b → pos 0 ≤ℤ b
    up a b h l = omega (arith, ints, h, l)

pub ceil-root-grows : (a b : ℤ) → pos 0 ≤ℤ a → a ≤ℤ b → ceil_root a ≤ℤ ceil_root b
ceil-root-grows a b h l = above_grows a b (ceil_root a) (ceil_root b) l (ceil-root-is a h) (ceil-root-is b (up a b h l))
  where
    up : (a b : ℤ) → pos 0 ≤ℤ a → a ≤ℤ b → pos 0 ≤ℤ b
    up a b h l = omega (arith, ints, h, l)
