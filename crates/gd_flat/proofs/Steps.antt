-- The values of the points by their places.
use Rattle.std.proofs.Common.{arith, ◌≡◌, refl, ap, ◌∙◌, ℕ, ◌<◌, ℤ, pos, ◌-ℤ◌, List, [], ◌∷◌, length, get_or, take}
use Rattle.std.proofs.lemmas.Int.{ints, clamps}
use Rattle.std.proofs.lemmas.List.{get_or-map}
use Rattle.gd_dir.specs.declared.shape.DirBox.{DirBox}
use Rattle.gd_flat.specs.FlatTests.{first_point, high_along, highs, low_along, lows, scale_hi, scale_lo}
use Rattle.gd_points.specs.declared.table.Row.{Row}
use Rattle.gd_vec.specs.Vector.{difference}

-- ---- the first point lies at 0
nothing : (lo hi a : ℤ) → (scale_lo lo hi (a -ℤ a) ≡ pos 0) × (scale_hi lo hi (a -ℤ a) ≡ pos 0)
nothing lo hi a =
    let z : a -ℤ a ≡ pos 0 = omega (arith, ints) in
    rw z (omega (arith, ints, clamps), omega (arith, ints, clamps))

pub first_low : (b : DirBox) (rows : List Row) → 0 < length rows → take 1 (lows b rows) ≡ pos 0 ∷ []
first_low b [] h = absurd (omega arith)
first_low b (row ∷ rows) h =
    rw ((nothing b.lo.x b.hi.x row.at.x).0, (nothing b.lo.y b.hi.y row.at.y).0, (nothing b.lo.z b.hi.z row.at.z).0) refl

pub first_high : (b : DirBox) (rows : List Row) → 0 < length rows → take 1 (highs b rows) ≡ pos 0 ∷ []
first_high b [] h = absurd (omega arith)
first_high b (row ∷ rows) h =
    rw ((nothing b.lo.x b.hi.x row.at.x).1, (nothing b.lo.y b.hi.y row.at.y).1, (nothing b.lo.z b.hi.z row.at.z).1) refl

pub first_point-is : (rows : List Row) (d : Row) → 0 < length rows → first_point rows ≡ (get_or rows 0 d).at
first_point-is [] d h = absurd (omega arith)
first_point-is (row ∷ rows) d h = refl

-- ---- the value of a point by its place
pub low_at : (b : DirBox) (rows : List Row) (i : ℕ) (d : Row) → i < length rows → get_or (lows b rows) i (pos 0) ≡ low_along b (difference (get_or rows i d).at (get_or rows 0 d).at)
low_at b rows i d h =
    get_or-map (λ (row : Row). low_along b (difference row.at (first_point rows))) rows i d (pos 0) h ∙ ap (λ p. low_along b (difference (get_or rows i d).at p)) (first_point-is rows d (omega (arith, h)))

pub high_at : (b : DirBox) (rows : List Row) (i : ℕ) (d : Row) → i < length rows → get_or (highs b rows) i (pos 0) ≡ high_along b (difference (get_or rows i d).at (get_or rows 0 d).at)
high_at b rows i d h =
    get_or-map (λ (row : Row). high_along b (difference row.at (first_point rows))) rows i d (pos 0) h ∙ ap (λ p. high_along b (difference (get_or rows i d).at p)) (first_point-is rows d (omega (arith, h)))
