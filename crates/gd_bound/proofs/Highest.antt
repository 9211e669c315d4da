-- The first points with the greatest lower end and the least upper end, by a threshold.
use Rattle.std.proofs.Common.{◌≡◌, refl, sym, subst, ap, ◌∙◌, ℕ, ◌<◌, List, map, length, get_or, Bool, true, false, arith}
use Rattle.std.proofs.Math.Path.{fun_ext}
use Rattle.std.proofs.lemmas.Int.{ints}
use Rattle.std.proofs.lemmas.List.{get_or-map, get_or_default, length-map}
use Rattle.std.specs.List.{All, Any, list_all}
use Rattle.std.specs.Prelude.{ℤ, pos, negsuc, ◌*ℤ◌, ◌≤ℤ◌, find, int_le}
use Rattle.gd_bound.proofs.Firsts.{le-true, true-le}
use Rattle.gd_bound.specs.Evidence.{first_highest, first_lowest, high_end, low_end}
use Rattle.gd_bound.specs.Thresholds.{high_threshold, low_threshold}
use Rattle.gd_int.proofs.IntegerRoots.{root_ceil-least, root_floor-greatest}
use Rattle.gd_int.proofs.Squares.{square_le}
use Rattle.gd_points.specs.Index.{row_at}
use Rattle.gd_points.specs.declared.table.Row.{Row}
use Rattle.gd_quat.specs.Formulas.{Ends}
use Rattle.gd_vec.specs.declared.vector.V3.{V3}
use Rattle.gd_zone.proofs.Comparisons.{above-least, above-square, below-next, below-square}
use Rattle.gd_zone.proofs.Ordered.{axis-ordered, ball-ordered}
use Rattle.gd_zone.proofs.Pairs.{all-is}
use Rattle.gd_zone.proofs.Roots.{ceil-root-mono, floor-root-mono}
use Rattle.gd_zone.specs.Boxes.{placed_ends}
use Rattle.gd_zone.specs.Extremes.{IsGreatest, IsLeast, ends_by}
use Rattle.gd_zone.specs.Tests.{ceil_root, demanded_ends, floor_root, root_above, root_below}
use Rattle.gd_vec.specs.Vector.{difference}
use Rattle.gd_zone.specs.declared.condition.Condition.{Condition}
use Rattle.gd_zone.specs.declared.condition.Demand.{Demand}
use Rattle.gd_zone.specs.declared.condition.Surface.{Surface}
use Rattle.gd_zone.specs.declared.condition.Surface.TheVariants.{Plane, Axis, Ball}
use Rattle.gd_zone.specs.declared.placed.Placed.{Placed}

-- ---- roots against squares
floor-up : (n : ℕ) (z : ℤ) → pos 0 ≤ℤ z → (pos n *ℤ pos n) ≤ℤ z → pos n ≤ℤ floor_root z
floor-up n (pos b) h k = let m = root_floor-greatest b (root_below b) n (below-next b) (omega (arith, ints, k)) in omega (arith, ints, m)
floor-up n (negsuc b) h k = absurd (omega (arith, ints, h))

floor-down : (n : ℕ) (z : ℤ) → pos 0 ≤ℤ z → pos n ≤ℤ floor_root z → (pos n *ℤ pos n) ≤ℤ z
floor-down n (pos b) h k = let m = square_le n (root_below b) (omega (arith, ints, k)) in let o = below-square b in omega (arith, ints, m, o)
floor-down n (negsuc b) h k = absurd (omega (arith, ints, h))

ceil-up : (n : ℕ) (z : ℤ) → z ≤ℤ (pos n *ℤ pos n) → ceil_root z ≤ℤ pos n
ceil-up n (pos b) k = let m = root_ceil-least b (root_above b) n (above-least b) (omega (arith, ints, k)) in omega (arith, ints, m)
ceil-up n (negsuc b) k = omega (arith, ints)

ceil-down : (n : ℕ) (z : ℤ) → ceil_root z ≤ℤ pos n → z ≤ℤ (pos n *ℤ pos n)
ceil-down n (pos b) k = let m = square_le (root_above b) n (omega (arith, ints, k)) in let o = above-square b in omega (arith, ints, m, o)
ceil-down n (negsuc b) k = omega (arith, ints)

both-ways : (a b : Bool) → (a ≡ true → b ≡ true) → (b ≡ true → a ≡ true) → a ≡ b
both-ways true b f g = sym (f refl)
both-ways false true f g = g refl
both-ways false false f g = refl

le-alike : (a b c d : ℤ) → (a ≤ℤ b → c ≤ℤ d) → (c ≤ℤ d → a ≤ℤ b) → int_le a b ≡ int_le c d
le-alike a b c d f g = both-ways (int_le a b) (int_le c d) (λ t. true-le c d (f (le-true a b t))) (λ t. true-le a b (g (le-true c d t)))

floor-alike : (g z : ℤ) → pos 0 ≤ℤ z → int_le (floor_root g *ℤ floor_root g) z ≡ int_le (floor_root g) (floor_root z)
floor-alike (pos a) z h = le-alike (pos (root_below a) *ℤ pos (root_below a)) z (pos (root_below a)) (floor_root z) (floor-up (root_below a) z h) (floor-down (root_below a) z h)
floor-alike (negsuc a) z h = le-alike (pos 0 *ℤ pos 0) z (pos 0) (floor_root z) (floor-up 0 z h) (floor-down 0 z h)

ceil-alike : (l z : ℤ) → int_le z (ceil_root l *ℤ ceil_root l) ≡ int_le (ceil_root z) (ceil_root l)
ceil-alike (pos a) z = le-alike z (pos (root_above a) *ℤ pos (root_above a)) (ceil_root z) (pos (root_above a)) (ceil-up (root_above a) z) (ceil-down (root_above a) z)
ceil-alike (negsuc a) z = le-alike z (pos 0 *ℤ pos 0) (ceil_root z) (pos 0) (ceil-up 0 z) (ceil-down 0 z)

-- ---- thresholds
-- the lower end of a squared distance isn't below 0
abbrev pub HasSign : Surface → ℤ → Type 0
HasSign (Plane d p) z = Unit {0}
HasSign (Axis d p) z = pos 0 ≤ℤ z
HasSign (Ball p) z = pos 0 ≤ℤ z

low-alike : (s : Surface) (g z : ℤ) → HasSign s z → int_le (low_threshold s g) z ≡ int_le (low_end s g) (low_end s z)
low-alike (Plane d p) g z h = refl
low-alike (Axis d p) g z h = floor-alike g z h
low-alike (Ball p) g z h = floor-alike g z h

high-alike : (s : Surface) (l z : ℤ) → int_le z (high_threshold s l) ≡ int_le (high_end s z) (high_end s l)
high-alike (Plane d p) l z = refl
high-alike (Axis d p) l z = ceil-alike l z
high-alike (Ball p) l z = ceil-alike l z

low-mono : (s : Surface) (a b : ℤ) → a ≤ℤ b → low_end s a ≤ℤ low_end s b
low-mono (Plane d p) a b h = h
low-mono (Axis d p) a b h = floor-root-mono a b h
low-mono (Ball p) a b h = floor-root-mono a b h

high-mono : (s : Surface) (a b : ℤ) → a ≤ℤ b → high_end s a ≤ℤ high_end s b
high-mono (Plane d p) a b h = h
high-mono (Axis d p) a b h = ceil-root-mono a b h
high-mono (Ball p) a b h = ceil-root-mono a b h

-- ---- by numbers
at-numbers : (P : Ends → Type 0) (f : ℕ → Ends) (ns : List ℕ) → All P (map f ns) → All (λ i. P (f i)) ns
at-numbers P f ns h k d l = subst P (get_or-map f ns k d (f d) l) (h k (f d) (omega (arith, l, length-map ns f)))

at-some-number : (P : Ends → Type 0) (f : ℕ → Ends) (ns : List ℕ) → Any P (map f ns) → Any (λ i. P (f i)) ns
at-some-number P f ns h =
    let l : h.0 < length ns = omega (arith, h.2, length-map ns f) in
    (h.0, get_or ns h.0 0, l, get_or_default ns h.0 (get_or ns h.0 0) 0 l, subst P (sym h.3 ∙ get_or-map f ns h.0 0 h.1 l) h.4)

module _ (s : Surface) (f : ℕ → Ends) (ns : List ℕ) where
  low-all : (g x : ℤ) → IsGreatest (λ v. v.lo) (map f ns) g → list_all (λ j. int_le (low_end s (f j).lo) x) ns ≡ int_le (low_end s g) x
  low-all g x h =
      let above = at-numbers (λ (v : Ends). v.lo ≤ℤ g) f ns h.above in
      let r = at-some-number (λ (v : Ends). v.lo ≡ g) f ns h.reached in
      all-is (λ j. int_le (low_end s (f j).lo) x) ns (int_le (low_end s g) x)
      (λ k d l t. let m = low-mono s (f (get_or ns k d)).lo g (above k d l) in let o = le-true (low_end s g) x t in true-le (low_end s (f (get_or ns k d)).lo) x (omega (arith, ints, m, o)))
      (r.0, r.1, r.2, r.3, ap (λ z. int_le (low_end s z) x) r.4)

  pub first-low-is : (g : ℤ) → ((i : ℕ) → HasSign s (f i).lo) → IsGreatest (λ v. v.lo) (map f ns) g
      → find (λ i. int_le (low_threshold s g) (f i).lo) ns ≡ first_highest (λ i. low_end s (f i).lo) ns
  first-low-is g sign h = ap (λ p. find p ns) (fun_ext (λ i. low-alike s g (f i).lo (sign i) ∙ sym (low-all g (low_end s (f i).lo) h)))

  high-all : (g x : ℤ) → IsLeast (λ v. v.hi) (map f ns) g → list_all (λ j. int_le x (high_end s (f j).hi)) ns ≡ int_le x (high_end s g)
  high-all g x h =
      let below = at-numbers (λ (v : Ends). g ≤ℤ v.hi) f ns h.below in
      let r = at-some-number (λ (v : Ends). v.hi ≡ g) f ns h.reached in
      all-is (λ j. int_le x (high_end s (f j).hi)) ns (int_le x (high_end s g))
      (λ k d l t. let m = high-mono s g (f (get_or ns k d)).hi (below k d l) in let o = le-true x (high_end s g) t in true-le x (high_end s (f (get_or ns k d)).hi) (omega (arith, ints, m, o)))
      (r.0, r.1, r.2, r.3, ap (λ z. int_le x (high_end s z)) r.4)

  pub first-high-is : (g : ℤ) → IsLeast (λ v. v.hi) (map f ns) g → find (λ i. int_le (f i).hi (high_threshold s g)) ns ≡ first_lowest (λ i. high_end s (f i).hi) ns
  first-high-is g h = ap (λ p. find p ns) (fun_ext (λ i. high-alike s g (f i).hi ∙ sym (high-all g (high_end s (f i).hi) h)))

-- ---- the signs of the values over a box
sign-of : (s : Surface) (d : Demand) (b : Placed) (offset : ℕ) (v : V3) → HasSign s (demanded_ends s d (placed_ends b) offset v).lo
sign-of (Plane n a) d b offset v = tt {0}
sign-of (Axis n a) d b offset v = (axis-ordered n a b offset v).0
sign-of (Ball a) d b offset v = (ball-ordered a b offset v).0

pub signs : (b : Placed) (base : V3) (c : Condition) (rows : List Row) (i : ℕ) → HasSign c.surface (ends_by (placed_ends b) base c rows i).lo
unfolding ends_by
signs b base c rows i = sign-of c.surface c.demand b c.offset (difference (row_at rows i).at base)
