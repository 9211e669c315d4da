-- The extremes of values, block by block.
use Rattle.std.proofs.Common.{arith, ◌≡◌, refl, sym, ap, ◌∙◌, ℕ, ◌+◌, ◌<◌, ◌≤◌, ◌*◌, ◌^◌, ℤ, pos, ◌*ℤ◌, ◌≤ℤ◌, Bool, true, false, cond, List, [], ◌∷◌, ◌++◌, length, length-take-le, get_or, take, map, int_lt, unsigned_abs, of_z, to_z, w64}
use Rattle.std.proofs.lemmas.Int.{ints, clamps}
use Rattle.std.proofs.lemmas.List.{get_or-map, get_or-take, length-map, take_more}
use Rattle.std.proofs.lemmas.List.Elements.{All-push}
use Rattle.std.proofs.lemmas.List.Sums.{fold_push, position_or_len_is}
use Rattle.std.specs.Cmp.{signed_Decides}
use Rattle.std.specs.Int.{int_max, int_min}
use Rattle.std.specs.List.{All}
use Rattle.std.specs.Ordering.{int_eq}
use Rattle.gd_dir.specs.declared.shape.DirBox.{DirBox}
use Rattle.gd_flat.specs.Laws.Firsts.{above_least, below_greatest, greatest_at_place, greatest_inside, least_at_place, least_inside}
use Rattle.gd_flat.proofs.Sizes.{kept-is}
use Rattle.gd_flat.proofs.Steps.{high_at, low_at}
use Rattle.gd_flat.specs.FlatTests.{along, greatest, high_along, highs, least, low_along, lows, place_of, point_at, scale_hi, scale_lo}
use Rattle.gd_flat.specs.declared.extremes.Extreme.{Extreme}
use Rattle.gd_int.proofs.Integers.{mul_ge_right, mul_le_right}
use Rattle.gd_points.specs.declared.table.Row.{Row}
use Rattle.gd_vec.specs.Vector.{difference, dot_of}
use Rattle.gd_vec.specs.declared.vector.V3.{V3}

-- ---- a product of the end that the sign picks
pub picked_lo : (lo hi by : ℤ) → lo ≤ℤ hi → cond (int_lt by (pos 0)) hi lo *ℤ by ≡ scale_lo lo hi by
picked_lo lo hi by order = at (int_lt by (pos 0)) refl
  where
    at : (t : Bool) → int_lt by (pos 0) ≡ t → cond t hi lo *ℤ by ≡ scale_lo lo hi by
    at true e = let h : (hi *ℤ by) ≤ℤ (lo *ℤ by) = mul_ge_right lo hi by order (omega (arith, ints)) in omega (arith, ints, clamps, h)
    at false e = let h : (lo *ℤ by) ≤ℤ (hi *ℤ by) = mul_le_right lo hi by order (omega (arith, ints)) in omega (arith, ints, clamps, h)

pub picked_hi : (lo hi by : ℤ) → lo ≤ℤ hi → cond (int_lt by (pos 0)) lo hi *ℤ by ≡ scale_hi lo hi by
picked_hi lo hi by order = at (int_lt by (pos 0)) refl
  where
    at : (t : Bool) → int_lt by (pos 0) ≡ t → cond t lo hi *ℤ by ≡ scale_hi lo hi by
    at true e = let h : (hi *ℤ by) ≤ℤ (lo *ℤ by) = mul_ge_right lo hi by order (omega (arith, ints)) in omega (arith, ints, clamps, h)
    at false e = let h : (lo *ℤ by) ≤ℤ (hi *ℤ by) = mul_le_right lo hi by order (omega (arith, ints)) in omega (arith, ints, clamps, h)

-- ---- a column at a place
pub column_at : (f : Row → ℤ) (xs : List ℤ) (rows : List Row) (i : ℕ) (d : ℤ) (e : Row) → xs ≡ map f rows → i < length rows → get_or xs i d ≡ f (get_or rows i e)
column_at f xs rows i d e same h = rw same (get_or-map f rows i e d h)

pub column_length : (f : Row → ℤ) (xs : List ℤ) (rows : List Row) → xs ≡ map f rows → length xs ≡ length rows
column_length f xs rows same = ap length same ∙ length-map rows f

-- ---- one value more
greatest_push : (xs : List ℤ) (x : ℤ) → 0 < length xs → greatest (xs ++ x ∷ []) ≡ int_max (greatest xs) x
greatest_push [] x h = absurd (omega arith)
greatest_push (v ∷ vs) x h = fold_push int_max v vs x

least_push : (xs : List ℤ) (x : ℤ) → 0 < length xs → least (xs ++ x ∷ []) ≡ int_min (least xs) x
least_push [] x h = absurd (omega arith)
least_push (v ∷ vs) x h = fold_push int_min v vs x

front_some : (xs : List ℤ) (i : ℕ) → 0 < i → i < length xs → 0 < length (take i xs)
front_some xs i h k = let e : length (take i xs) ≡ i = length-take-le i xs (omega (arith, k)) in omega (arith, e, h)

pub greatest_next : (xs : List ℤ) (i : ℕ) → 0 < i → i < length xs → greatest (take (i + 1) xs) ≡ int_max (greatest (take i xs)) (get_or xs i (pos 0))
greatest_next xs i some h = ap greatest (take_more xs i (pos 0) h) ∙ greatest_push (take i xs) (get_or xs i (pos 0)) (front_some xs i some h)

pub least_next : (xs : List ℤ) (i : ℕ) → 0 < i → i < length xs → least (take (i + 1) xs) ≡ int_min (least (take i xs)) (get_or xs i (pos 0))
least_next xs i some h = ap least (take_more xs i (pos 0) h) ∙ least_push (take i xs) (get_or xs i (pos 0)) (front_some xs i some h)

-- ---- no value before a place is this one
abbrev pub NoneBefore : ℤ → ℕ → List ℤ → Type 0
NoneBefore g p xs = All (λ v. int_eq g v ≡ false) (take p xs)

not_equal : (x y : ℤ) → ((x ≡ y) → ⊥) → int_eq x y ≡ false
not_equal x y h = by (int_eq x y) refl
  where
    by : (t : Bool) → int_eq x y ≡ t → t ≡ false
    by true e = absurd (h ((signed_Decides x y).0 e))
    by false e = refl

pub before_place : (g : ℤ) (p : ℕ) (xs : List ℤ) → NoneBefore g p xs → p ≤ length xs → (k : ℕ) → k < p → int_eq g (get_or xs k (pos 0)) ≡ false
before_place g p xs none le k h =
    let len : length (take p xs) ≡ p = length-take-le p xs le in
    sym (ap (int_eq g) (get_or-take p xs k (pos 0) h)) ∙ none k (pos 0) (omega (arith, len, h))

pub none_more : (g : ℤ) (p : ℕ) (xs : List ℤ) → NoneBefore g p xs → p < length xs → int_eq g (get_or xs p (pos 0)) ≡ false → NoneBefore g (p + 1) xs
none_more g p xs none h misses = rw (take_more xs p (pos 0) h) (All-push (λ v. int_eq g v ≡ false) (take p xs) (get_or xs p (pos 0)) none misses)

pub place_is : (g : ℤ) (p : ℕ) (xs : List ℤ) → NoneBefore g p xs → p < length xs → get_or xs p (pos 0) ≡ g → p ≡ place_of g xs
place_is g p xs none h hit =
    sym (position_or_len_is (int_eq g) xs p (pos 0) (omega (arith, h)) (before_place g p xs none (omega (arith, h))) (λ _. (signed_Decides g (get_or xs p (pos 0))).1 (sym hit)))

pub no_place : (g : ℤ) (p : ℕ) (xs : List ℤ) → NoneBefore g p xs → p ≡ length xs → length xs ≡ place_of g xs
no_place g p xs none end =
    sym (position_or_len_is (int_eq g) xs (length xs) (pos 0) (omega arith) (λ k h. before_place g p xs none (omega (arith, end)) k (omega (arith, end, h))) (λ h. absurd (omega (arith, h))))

-- 64-bit numbers that are the same, or not
pub hits : (x v y : ℤ) → of_z w64 x ≡ of_z w64 v → unsigned_abs x ≤ 3 * 2 ^ 54 → unsigned_abs v ≤ 3 * 2 ^ 54 → x ≡ y → y ≡ v
hits x v y e h k is = sym is ∙ sym (kept-is x (omega (arith, h))) ∙ ap (to_z w64) e ∙ kept-is v (omega (arith, k))

pub misses : (x v y : ℤ) → ((of_z w64 x ≡ of_z w64 v) → ⊥) → x ≡ y → int_eq v y ≡ false
misses x v y other is = not_equal v y (λ same. other (ap (of_z w64) (is ∙ sym same)))

-- the extremes of the values before a place lie between those of all
pub greatest_front : (xs : List ℤ) (i : ℕ) → 0 < i → i ≤ length xs → greatest (take i xs) ≤ℤ greatest xs
greatest_front xs i some le =
    let len : length (take i xs) ≡ i = length-take-le i xs le in
    let p : ℕ = place_of (greatest (take i xs)) (take i xs) in
    let inside : p < length (take i xs) = greatest_inside (take i xs) (omega (arith, len, some)) in
    let at : get_or (take i xs) p (pos 0) ≡ greatest (take i xs) = greatest_at_place (take i xs) (pos 0) (omega (arith, len, some)) in
    let b : get_or xs p (pos 0) ≤ℤ greatest xs = below_greatest xs p (pos 0) (omega (arith, len, le, inside)) in
    rw (sym at ∙ get_or-take i xs p (pos 0) (omega (arith, len, inside))) b

pub least_front : (xs : List ℤ) (i : ℕ) → 0 < i → i ≤ length xs → least xs ≤ℤ least (take i xs)
least_front xs i some le =
    let len : length (take i xs) ≡ i = length-take-le i xs le in
    let p : ℕ = place_of (least (take i xs)) (take i xs) in
    let inside : p < length (take i xs) = least_inside (take i xs) (omega (arith, len, some)) in
    let at : get_or (take i xs) p (pos 0) ≡ least (take i xs) = least_at_place (take i xs) (pos 0) (omega (arith, len, some)) in
    let b : least xs ≤ℤ get_or xs p (pos 0) = above_least xs p (pos 0) (omega (arith, len, le, inside)) in
    rw (sym at ∙ get_or-take i xs p (pos 0) (omega (arith, len, inside))) b

-- what a block gives: its value is that of all points so far, and no point before its place has it
pub record First (r : Extreme) (g : ℤ) (n : ℕ) (xs : List ℤ) : Type 0 where
  pub value : r.value ≡ g
  pub place : r.from ≤ n
  pub none : NoneBefore r.value r.from xs

pub later_greatest : (xs : List ℤ) (best : Extreme) (v : ℤ) (i n : ℕ) → i ≤ n → best.from ≤ n → best.value ≡ greatest (take i xs) → NoneBefore best.value best.from xs → best.value ≤ℤ v
    → First (cond (int_lt best.value v) (record { value = v; from = i }) best) v n xs
later_greatest xs best v i n here there g none more = by (int_lt best.value v) refl
  where
    by : (t : Bool) → int_lt best.value v ≡ t → First (cond t (record { value = v; from = i }) best) v n xs
    by true e = record {
      value = refl;
      place = here;
      none = λ k d h. (let b : get_or (take i xs) k d ≤ℤ greatest (take i xs) = below_greatest (take i xs) k d h in not_equal v (get_or (take i xs) k d) (λ same. omega (arith, ints, b, g)));
    }
    by false e = record { value = omega (arith, ints); place = there; none = none }

pub later_least : (xs : List ℤ) (best : Extreme) (v : ℤ) (i n : ℕ) → i ≤ n → best.from ≤ n → best.value ≡ least (take i xs) → NoneBefore best.value best.from xs → v ≤ℤ best.value
    → First (cond (int_lt v best.value) (record { value = v; from = i }) best) v n xs
later_least xs best v i n here there g none less = by (int_lt v best.value) refl
  where
    by : (t : Bool) → int_lt v best.value ≡ t → First (cond t (record { value = v; from = i }) best) v n xs
    by true e = record {
      value = refl;
      place = here;
      none = λ k d h. (let b : least (take i xs) ≤ℤ get_or (take i xs) k d = above_least (take i xs) k d h in not_equal v (get_or (take i xs) k d) (λ same. omega (arith, ints, b, g)));
    }
    by false e = record { value = omega (arith, ints); place = there; none = none }

-- ---- values by the places of their points
pub lows_length : (b : DirBox) (rows : List Row) → length (lows b rows) ≡ length rows
lows_length b rows = length-map rows _

pub highs_length : (b : DirBox) (rows : List Row) → length (highs b rows) ≡ length rows
highs_length b rows = length-map rows _

pub along_length : (n : V3) (rows : List Row) → length (along n rows) ≡ length rows
along_length n rows = length-map rows _

nowhere : Row
nowhere = record { feature = 0; group = 0; at = record { x = pos 0; y = pos 0; z = pos 0 } }

pub low_there : (b : DirBox) (rows : List Row) (i : ℕ) → i < length rows → get_or (lows b rows) i (pos 0) ≡ low_along b (difference (point_at rows i) (point_at rows 0))
unfolding nowhere
low_there b rows i h = low_at b rows i nowhere h

pub high_there : (b : DirBox) (rows : List Row) (i : ℕ) → i < length rows → get_or (highs b rows) i (pos 0) ≡ high_along b (difference (point_at rows i) (point_at rows 0))
unfolding nowhere
high_there b rows i h = high_at b rows i nowhere h

pub along_there : (n : V3) (rows : List Row) (i : ℕ) → i < length rows → get_or (along n rows) i (pos 0) ≡ dot_of n (point_at rows i)
unfolding nowhere
along_there n rows i h = get_or-map (λ (row : Row). dot_of n row.at) rows i nowhere (pos 0) h
