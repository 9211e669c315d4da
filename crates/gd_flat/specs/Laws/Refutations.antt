-- A refuted box holds no direction across which the points are flat.
use Rattle.std.proofs.Common.{arith, ◌≡◌, sym, ap, ◌∙◌, ℕ, ◌-◌, ◌^◌, ℤ, pos, ◌+ℤ◌, ◌-ℤ◌, ◌*ℤ◌, ◌≤ℤ◌, ◌<ℤ◌, true, List}
use Rattle.std.proofs.Common.{get_or}
use Rattle.std.proofs.lemmas.Int.{ints, clamps}
use Rattle.std.proofs.lemmas.List.{get_or-map}
use Rattle.gd_base.specs.Scales.{ONE}
use Rattle.gd_cells.specs.declared.cell.Evidence.{Evidence}
use Rattle.gd_dir.specs.Boxes.{HoldsDirection}
use Rattle.gd_dir.specs.Directions.{RatioWithin}
use Rattle.gd_dir.specs.declared.shape.DirBox.{DirBox}
use Rattle.gd_flat.specs.Laws.Evidences.{greater_refuses, refutation}
use Rattle.gd_flat.specs.FlatTests.{first_point, high_along, highs, is_refuted, low_along, lows, most_norm2, scale_hi}
use Rattle.gd_flat.specs.FlatTests.{scale_lo, square_hi}
use Rattle.gd_flat.specs.Flatness.{HasZone}
use Rattle.gd_int.proofs.Comparisons.{AtMost-below, AtMost-longer, AtMost-scale_root, AtMost-unscale_root}
use Rattle.gd_int.proofs.Integers.{by_sign, mul-add_right, mul-assoc_ℤ, mul-sub_right, mul_comm_ℤ, mul_ge_left}
use Rattle.gd_int.proofs.Integers.{mul_ge_right, mul_le_left, mul_le_mul, mul_le_right, mul_swap_ℤ, square_nonneg}
use Rattle.gd_int.proofs.Integers.{≤ℤ_trans}
use Rattle.gd_int.specs.Comparisons.{AtMost}
use Rattle.gd_points.specs.declared.table.Row.{Row}
use Rattle.gd_vec.specs.Vector.{difference, dot_of, norm2_of}
use Rattle.gd_vec.specs.declared.vector.V3.{V3}

-- 1 as a ratio
abbrev one : ℤ
one = pos ONE

-- ---- one entry: its ratio to k lies between lo and hi
turned : (k a d : ℤ) → k *ℤ (a *ℤ d) ≡ (a *ℤ k) *ℤ d
turned k a d = sym (mul-assoc_ℤ k a d) ∙ ap (λ z. z *ℤ d) (mul_comm_ℤ k a)

entry_low : (lo hi k x d : ℤ) → pos 0 ≤ℤ k → RatioWithin lo hi k x → (k *ℤ scale_lo lo hi d) ≤ℤ (one *ℤ (x *ℤ d))
entry_low lo hi k x d i h =
    let least_lo : (k *ℤ scale_lo lo hi d) ≤ℤ (k *ℤ (lo *ℤ d)) =
    mul_le_left (scale_lo lo hi d) (lo *ℤ d) k (omega (arith, ints, clamps)) i in
    let least_hi : (k *ℤ scale_lo lo hi d) ≤ℤ (k *ℤ (hi *ℤ d)) =
    mul_le_left (scale_lo lo hi d) (hi *ℤ d) k (omega (arith, ints, clamps)) i in
    rw (sym (mul-assoc_ℤ one x d)) (by_sign d
    (λ (p : pos 0 ≤ℤ d). ≤ℤ_trans (k *ℤ scale_lo lo hi d) ((lo *ℤ k) *ℤ d) ((one *ℤ x) *ℤ d)
    (rw (turned k lo d) at least_lo) (mul_le_right (lo *ℤ k) (one *ℤ x) d h.0 p))
    (λ (p : d ≤ℤ pos 0). ≤ℤ_trans (k *ℤ scale_lo lo hi d) ((hi *ℤ k) *ℤ d) ((one *ℤ x) *ℤ d)
    (rw (turned k hi d) at least_hi) (mul_ge_right (one *ℤ x) (hi *ℤ k) d h.1 p)))

entry_high : (lo hi k x d : ℤ) → pos 0 ≤ℤ k → RatioWithin lo hi k x → (one *ℤ (x *ℤ d)) ≤ℤ (k *ℤ scale_hi lo hi d)
entry_high lo hi k x d i h =
    let most_lo : (k *ℤ (lo *ℤ d)) ≤ℤ (k *ℤ scale_hi lo hi d) =
    mul_le_left (lo *ℤ d) (scale_hi lo hi d) k (omega (arith, ints, clamps)) i in
    let most_hi : (k *ℤ (hi *ℤ d)) ≤ℤ (k *ℤ scale_hi lo hi d) =
    mul_le_left (hi *ℤ d) (scale_hi lo hi d) k (omega (arith, ints, clamps)) i in
    rw (sym (mul-assoc_ℤ one x d)) (by_sign d
    (λ (p : pos 0 ≤ℤ d). ≤ℤ_trans ((one *ℤ x) *ℤ d) ((hi *ℤ k) *ℤ d) (k *ℤ scale_hi lo hi d)
    (mul_le_right (one *ℤ x) (hi *ℤ k) d h.1 p) (rw (turned k hi d) at most_hi))
    (λ (p : d ≤ℤ pos 0). ≤ℤ_trans ((one *ℤ x) *ℤ d) ((lo *ℤ k) *ℤ d) (k *ℤ scale_hi lo hi d)
    (mul_ge_right (lo *ℤ k) (one *ℤ x) d h.0 p) (rw (turned k lo d) at most_lo)))

entry_square : (lo hi k x : ℤ) → RatioWithin lo hi k x → ((one *ℤ one) *ℤ (x *ℤ x)) ≤ℤ ((k *ℤ k) *ℤ square_hi lo hi)
entry_square lo hi k x h =
    let y : ℤ = one *ℤ x in
    let most_lo : ((k *ℤ k) *ℤ (lo *ℤ lo)) ≤ℤ ((k *ℤ k) *ℤ square_hi lo hi) =
    mul_le_left (lo *ℤ lo) (square_hi lo hi) (k *ℤ k) (omega (arith, ints, clamps)) (square_nonneg k) in
    let most_hi : ((k *ℤ k) *ℤ (hi *ℤ hi)) ≤ℤ ((k *ℤ k) *ℤ square_hi lo hi) =
    mul_le_left (hi *ℤ hi) (square_hi lo hi) (k *ℤ k) (omega (arith, ints, clamps)) (square_nonneg k) in
    let low_square : (k *ℤ k) *ℤ (lo *ℤ lo) ≡ (lo *ℤ k) *ℤ (lo *ℤ k) =
    mul_comm_ℤ (k *ℤ k) (lo *ℤ lo) ∙ sym (mul_swap_ℤ lo k lo k) in
    let high_square : (k *ℤ k) *ℤ (hi *ℤ hi) ≡ (hi *ℤ k) *ℤ (hi *ℤ k) =
    mul_comm_ℤ (k *ℤ k) (hi *ℤ hi) ∙ sym (mul_swap_ℤ hi k hi k) in
    rw (sym (mul_swap_ℤ one x one x)) (by_sign y
    (λ (p : pos 0 ≤ℤ y). ≤ℤ_trans (y *ℤ y) ((hi *ℤ k) *ℤ (hi *ℤ k)) ((k *ℤ k) *ℤ square_hi lo hi)
    (mul_le_mul y (hi *ℤ k) y (hi *ℤ k) h.1 h.1 (≤ℤ_trans (pos 0) y (hi *ℤ k) p h.1) p) (rw high_square at most_hi))
    (λ (p : y ≤ℤ pos 0).
    let down : (y *ℤ y) ≤ℤ ((lo *ℤ k) *ℤ y) = mul_ge_right (lo *ℤ k) y y h.0 p in
    let further : ((lo *ℤ k) *ℤ y) ≤ℤ ((lo *ℤ k) *ℤ (lo *ℤ k)) =
    mul_ge_left (lo *ℤ k) y (lo *ℤ k) h.0 (≤ℤ_trans (lo *ℤ k) y (pos 0) h.0 p) in
    ≤ℤ_trans (y *ℤ y) ((lo *ℤ k) *ℤ (lo *ℤ k)) ((k *ℤ k) *ℤ square_hi lo hi)
    (≤ℤ_trans (y *ℤ y) ((lo *ℤ k) *ℤ y) ((lo *ℤ k) *ℤ (lo *ℤ k)) down further) (rw low_square at most_lo)))

-- ---- all three entries
three : (k a b c : ℤ) → k *ℤ (a +ℤ b +ℤ c) ≡ (k *ℤ a) +ℤ (k *ℤ b) +ℤ (k *ℤ c)
three k a b c = mul-add_right k (a +ℤ b) c ∙ ap (λ z. z +ℤ (k *ℤ c)) (mul-add_right k a b)

along_low : (b : DirBox) (k : ℤ) (n d : V3) → pos 0 ≤ℤ k → HoldsDirection b k n
    → (k *ℤ low_along b d) ≤ℤ (one *ℤ dot_of n d)
along_low b k n d i h =
    let x = entry_low b.lo.x b.hi.x k n.x d.x i h.x in
    let y = entry_low b.lo.y b.hi.y k n.y d.y i h.y in
    let z = entry_low b.lo.z b.hi.z k n.z d.z i h.z in
    let left = three k (scale_lo b.lo.x b.hi.x d.x) (scale_lo b.lo.y b.hi.y d.y) (scale_lo b.lo.z b.hi.z d.z) in
    let right = three one (n.x *ℤ d.x) (n.y *ℤ d.y) (n.z *ℤ d.z) in
    omega (arith, ints, x, y, z, left, right)

along_high : (b : DirBox) (k : ℤ) (n d : V3) → pos 0 ≤ℤ k → HoldsDirection b k n
    → (one *ℤ dot_of n d) ≤ℤ (k *ℤ high_along b d)
along_high b k n d i h =
    let x = entry_high b.lo.x b.hi.x k n.x d.x i h.x in
    let y = entry_high b.lo.y b.hi.y k n.y d.y i h.y in
    let z = entry_high b.lo.z b.hi.z k n.z d.z i h.z in
    let left = three one (n.x *ℤ d.x) (n.y *ℤ d.y) (n.z *ℤ d.z) in
    let right = three k (scale_hi b.lo.x b.hi.x d.x) (scale_hi b.lo.y b.hi.y d.y) (scale_hi b.lo.z b.hi.z d.z) in
    omega (arith, ints, x, y, z, left, right)

norm_below : (b : DirBox) (k : ℤ) (n : V3) → HoldsDirection b k n
    → ((one *ℤ one) *ℤ norm2_of n) ≤ℤ ((k *ℤ k) *ℤ most_norm2 b)
norm_below b k n h =
    let x = entry_square b.lo.x b.hi.x k n.x h.x in
    let y = entry_square b.lo.y b.hi.y k n.y h.y in
    let z = entry_square b.lo.z b.hi.z k n.z h.z in
    let left = three (one *ℤ one) (n.x *ℤ n.x) (n.y *ℤ n.y) (n.z *ℤ n.z) in
    let right = three (k *ℤ k) (square_hi b.lo.x b.hi.x) (square_hi b.lo.y b.hi.y) (square_hi b.lo.z b.hi.z) in
    omega (arith, ints, x, y, z, left, right)

-- ---- two points
pub dot-difference : (n a b : V3) → dot_of n (difference a b) ≡ dot_of n a -ℤ dot_of n b
dot-difference n a b =
    rw (mul-sub_right n.x a.x b.x, mul-sub_right n.y a.y b.y, mul-sub_right n.z a.z b.z) (omega (arith, ints))

apart : (b : DirBox) (k : ℤ) (n p q o : V3) → pos 0 ≤ℤ k → HoldsDirection b k n
    → (k *ℤ (low_along b (difference p o) -ℤ high_along b (difference q o))) ≤ℤ (one *ℤ dot_of n (difference p q))
apart b k n p q o i h =
    let lo = along_low b k n (difference p o) i h in
    let hi = along_high b k n (difference q o) i h in
    let e : dot_of n (difference p q) ≡ dot_of n (difference p o) -ℤ dot_of n (difference q o) =
    rw (dot-difference n p q, dot-difference n p o, dot-difference n q o) (omega (arith, ints)) in
    let left = mul-sub_right k (low_along b (difference p o)) (high_along b (difference q o)) in
    let right = ap (λ z. one *ℤ z) e ∙ mul-sub_right one (dot_of n (difference p o)) (dot_of n (difference q o)) in
    omega (arith, ints, lo, hi, left, right)

-- points within the tolerance along a direction of the box don't part it
within_box : (b : DirBox) (k g t : ℤ) (n p q : V3) → pos 0 <ℤ k → pos 0 ≤ℤ t → HoldsDirection b k n
    → (k *ℤ g) ≤ℤ (one *ℤ dot_of n (difference p q))
    → AtMost (dot_of n (difference p q)) t (norm2_of n) → AtMost g t (most_norm2 b)
within_box b k g t n p q i j h l a =
    let scaled = AtMost-scale_root (dot_of n (difference p q)) t (norm2_of n) one (omega (arith, ints)) a in
    let below = AtMost-below (one *ℤ dot_of n (difference p q)) (k *ℤ g) t ((one *ℤ one) *ℤ norm2_of n) l scaled in
    let longer = AtMost-longer (k *ℤ g) t ((one *ℤ one) *ℤ norm2_of n) ((k *ℤ k) *ℤ most_norm2 b) j
    (norm_below b k n h) below in
    AtMost-unscale_root g t (most_norm2 b) k i longer

-- no direction across which the points are flat lies in a refuted box
pub refuted_is_empty : (rows : List Row) (tolerance : ℕ) (b : DirBox) (e : Evidence) (k : ℤ) (n : V3)
    → is_refuted rows tolerance b e ≡ true → pos 0 <ℤ k → HoldsDirection b k n → HasZone rows tolerance n → ⊥
refuted_is_empty rows tolerance b e k n refuted i h flat =
    let r = refutation rows tolerance b e refuted in
    let d : Row = record { feature = 0; group = 0; at = n } in
    let p : V3 = (get_or rows (e.a - 1) d).at in
    let q : V3 = (get_or rows (e.b - 1) d).at in
    let lo : get_or (lows b rows) (e.a - 1) (pos 0) ≡ low_along b (difference p (first_point rows)) =
    get_or-map (λ (row : Row). low_along b (difference row.at (first_point rows))) rows (e.a - 1) d (pos 0) r.far in
    let hi : get_or (highs b rows) (e.b - 1) (pos 0) ≡ high_along b (difference q (first_point rows)) =
    get_or-map (λ (row : Row). high_along b (difference row.at (first_point rows))) rows (e.b - 1) d
    (pos 0) r.near in
    let g : ℤ = get_or (lows b rows) (e.a - 1) (pos 0) -ℤ get_or (highs b rows) (e.b - 1) (pos 0) in
    let l : (k *ℤ g) ≤ℤ (one *ℤ dot_of n (difference p q)) =
    rw (lo, hi) (apart b k n p q (first_point rows) (omega (arith, ints, i)) h) in
    let near : AtMost (dot_of n (difference p q)) (pos tolerance) (norm2_of n) =
    flat (e.a - 1) d r.far (e.b - 1) d r.near in
    greater_refuses g (pos tolerance) (most_norm2 b) r.parted
    (within_box b k g (pos tolerance) n p q i (omega (arith, ints)) h l near)
