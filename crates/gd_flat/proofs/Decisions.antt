-- The comparison of two values that 64-bit numbers keep.
use Rattle.std.proofs.Common.{arith, ◌≡◌, refl, ◌≤ℤ◌, true, false, sym, ap, ◌∙◌, ℕ, ◌*◌, ◌^◌, ◌<◌, ◌≤◌, ℤ, pos, ◌-ℤ◌, Bool, List, length, unsigned_abs}
use Rattle.std.proofs.lemmas.Bool.{false≢true}
use Rattle.std.specs.Ordering.{is_gt, is_le}
use Rattle.gd_dir.specs.declared.shape.DirBox.{DirBox}
use Rattle.gd_flat.proofs.Sizes.{kept, kept-is}
use Rattle.gd_flat.specs.FlatTests.{farthest, greatest, highs, least, lows, most_norm2, nearest, parts}
use Rattle.gd_flat.specs.Laws.Evidences.{extremes_part}
use Rattle.gd_int.proofs.Comparisons.{AtMost-below}
use Rattle.gd_int.proofs.Orders.{at_most_from_cmp}
use Rattle.gd_int.specs.Roots.{cmp_root_of}
use Rattle.gd_points.specs.declared.table.Row.{Row}

-- the comparison of the two kept values
pub decided : (rows : List Row) (tolerance : ℕ) (b : DirBox) (r : Bool) (x y : ℤ) → 0 < length rows → unsigned_abs x ≤ 3 * 2 ^ 54 → unsigned_abs y ≤ 3 * 2 ^ 54 → x ≡ greatest (lows b rows) → y ≡ least (highs b rows)
    → r ≡ is_gt (cmp_root_of (kept x -ℤ kept y) (pos tolerance) (most_norm2 b)) → r ≡ parts rows tolerance b (farthest b rows) (nearest b rows)
decided rows tolerance b r x y some sx sy g l h =
    h ∙ ap (λ p. is_gt (cmp_root_of (p -ℤ kept y) (pos tolerance) (most_norm2 b))) (kept-is x (omega (arith, sx)) ∙ g)
    ∙ ap (λ q. is_gt (cmp_root_of (greatest (lows b rows) -ℤ q) (pos tolerance) (most_norm2 b))) (kept-is y (omega (arith, sy)) ∙ l)
    ∙ sym (extremes_part rows tolerance b some)

-- what is too far apart stays so when it is further
pub further : (s s' t n : ℤ) → s ≤ℤ s' → is_le (cmp_root_of s t n) ≡ false → is_le (cmp_root_of s' t n) ≡ false
further s s' t n h wide = by (is_le (cmp_root_of s' t n)) refl
  where
    by : (b : Bool) → is_le (cmp_root_of s' t n) ≡ b → b ≡ false
    by true e = absurd (false≢true (sym wide ∙ (at_most_from_cmp s t n).1 (AtMost-below s' s t n h ((at_most_from_cmp s' t n).0 e))))
    by false e = refl
