-- The first evidence refutes, and where there is none, nothing refutes.
use Rattle.std.proofs.Common.{arith, ◌≡◌, refl, sym, ap, ◌∙◌, subst, ℕ, ◌+◌, ◌-◌, ◌<◌, ◌≤◌, ℤ, pos, ◌-ℤ◌, Bool, true}
use Rattle.std.proofs.Common.{false, cond, ◌&&◌, nat_eq, nat_le, Some, None, List, length, get_or, Ordering, Less}
use Rattle.std.proofs.Common.{Equal, Greater}
use Rattle.std.proofs.lemmas.Bool.{false≢true}
use Rattle.std.proofs.lemmas.Bool.Decides.{nat_tests}
use Rattle.std.proofs.lemmas.Int.{ints}
use Rattle.std.proofs.lemmas.List.{length-map}
use Rattle.std.specs.Ordering.{is_gt, is_le}
use Rattle.gd_base.specs.Limits.{POINTS}
use Rattle.gd_cells.specs.Laws.{IsShort}
use Rattle.gd_cells.specs.declared.cell.Evidence.{Evidence}
use Rattle.gd_dir.specs.declared.shape.DirBox.{DirBox}
use Rattle.gd_flat.specs.Laws.Firsts.{above_least, below_greatest, greatest_at_place, greatest_inside, least_at_place}
use Rattle.gd_flat.specs.Laws.Firsts.{least_inside}
use Rattle.gd_flat.specs.FlatTests.{evidence_of, farthest, first_evidence, greatest, highs, is_point, is_refuted, least}
use Rattle.gd_flat.specs.FlatTests.{lows, most_norm2, nearest, parts}
use Rattle.gd_int.proofs.Comparisons.{AtMost-below}
use Rattle.gd_int.proofs.Orders.{at_most_from_cmp}
use Rattle.gd_int.specs.Comparisons.{AtMost}
use Rattle.gd_int.specs.Roots.{cmp_root_of}
use Rattle.gd_points.specs.declared.table.Row.{Row}

-- ---- greater, or at most
not_both : (o : Ordering) → is_gt o ≡ true → is_le o ≡ true → ⊥
not_both Less h k = false≢true h
not_both Equal h k = false≢true h
not_both Greater h k = false≢true k

one_of_both : (o : Ordering) → is_gt o ≡ false → is_le o ≡ true
one_of_both Less h = refl
one_of_both Equal h = refl
one_of_both Greater h = absurd (false≢true (sym h))

gives_way : (o : Ordering) → is_le o ≡ true → is_gt o ≡ false
gives_way Less h = refl
gives_way Equal h = refl
gives_way Greater h = absurd (false≢true h)

pub greater_refuses : (s h n : ℤ) → is_gt (cmp_root_of s h n) ≡ true → AtMost s h n → ⊥
greater_refuses s h n g a = not_both (cmp_root_of s h n) g ((at_most_from_cmp s h n).1 a)

pub at_most_from_not : (s h n : ℤ) → is_gt (cmp_root_of s h n) ≡ false → AtMost s h n
at_most_from_not s h n g = (at_most_from_cmp s h n).0 (one_of_both (cmp_root_of s h n) g)

pub not_greater : (s h n : ℤ) → AtMost s h n → is_gt (cmp_root_of s h n) ≡ false
not_greater s h n a = gives_way (cmp_root_of s h n) ((at_most_from_cmp s h n).1 a)

-- ---- the farthest and the nearest point decide
pub extremes_part : (rows : List Row) (tolerance : ℕ) (b : DirBox) → 0 < length rows
    → parts rows tolerance b (farthest b rows) (nearest b rows) ≡ is_gt
    (cmp_root_of (greatest (lows b rows) -ℤ least (highs b rows)) (pos tolerance) (most_norm2 b))
extremes_part rows tolerance b some =
    let g = greatest_at_place (lows b rows) (pos 0) (rw length-map some) in
    let l = least_at_place (highs b rows) (pos 0) (rw length-map some) in
    ap (λ x. is_gt (cmp_root_of (x -ℤ get_or (highs b rows) (nearest b rows) (pos 0)) (pos tolerance) (most_norm2 b))) g
    ∙ ap (λ x. is_gt (cmp_root_of (greatest (lows b rows) -ℤ x) (pos tolerance) (most_norm2 b))) l

no_others_part : (rows : List Row) (tolerance : ℕ) (b : DirBox) (i j : ℕ) → i < length rows → j < length rows
    → parts rows tolerance b (farthest b rows) (nearest b rows) ≡ false → parts rows tolerance b i j ≡ false
no_others_part rows tolerance b i j h k none =
    let e = extremes_part rows tolerance b (omega (arith, h)) in
    let most : AtMost (greatest (lows b rows) -ℤ least (highs b rows)) (pos tolerance) (most_norm2 b) =
    at_most_from_not (greatest (lows b rows) -ℤ least (highs b rows)) (pos tolerance) (most_norm2 b)
    (sym e ∙ none) in
    let lo = below_greatest (lows b rows) i (pos 0) (rw length-map h) in
    let hi = above_least (highs b rows) j (pos 0) (rw length-map k) in
    let x : ℤ = get_or (lows b rows) i (pos 0) in
    let y : ℤ = get_or (highs b rows) j (pos 0) in
    not_greater (x -ℤ y) (pos tolerance) (most_norm2 b)
    (AtMost-below (greatest (lows b rows) -ℤ least (highs b rows)) (x -ℤ y) (pos tolerance) (most_norm2 b)
    (omega (arith, ints, lo, hi)) most)

-- ---- the first evidence
pub evidence_then : (rows : List Row) (tolerance : ℕ) (b : DirBox) (i j : ℕ)
    → parts rows tolerance b (farthest b rows) (nearest b rows) ≡ true → i ≡ farthest b rows → j ≡ nearest b rows
    → Some (evidence_of i j) ≡ first_evidence rows tolerance b
evidence_then rows tolerance b i j h e f =
    ap (λ k. Some (evidence_of k j)) e ∙ ap (λ k. Some (evidence_of (farthest b rows) k)) f ∙ sym
    (ap (λ v. cond v (Some (evidence_of (farthest b rows) (nearest b rows))) None) h)

pub evidence_else : (rows : List Row) (tolerance : ℕ) (b : DirBox)
    → parts rows tolerance b (farthest b rows) (nearest b rows) ≡ false → None ≡ first_evidence rows tolerance b
evidence_else rows tolerance b h = sym (ap (λ v. cond v (Some (evidence_of (farthest b rows) (nearest b rows))) None) h)

-- ---- what evidence that refutes says
pub record Refutation (rows : List Row) (tolerance : ℕ) (b : DirBox) (e : Evidence) : Type 0 where
  pub far : e.a - 1 < length rows
  pub near : e.b - 1 < length rows
  pub parted : parts rows tolerance b (e.a - 1) (e.b - 1) ≡ true

four : (p q r s : Bool) → p && (q && (r && s)) ≡ true → (q ≡ true) × (r ≡ true) × (s ≡ true)
four true true true true h = (refl, refl, refl)
four false q r s h = absurd (false≢true h)
four true false r s h = absurd (false≢true h)
four true true false s h = absurd (false≢true h)
four true true true false h = absurd (false≢true h)

none_of_four : (p q r s : Bool) → (q ≡ true → r ≡ true → s ≡ false) → p && (q && (r && s)) ≡ false
none_of_four false q r s h = refl
none_of_four true false r s h = refl
none_of_four true true false s h = refl
none_of_four true true true s h = h refl refl

point_inside : (rows : List Row) (k : ℕ) → is_point rows k ≡ true → k - 1 < length rows
point_inside rows k h = by (nat_le 1 k) (nat_le k (length rows)) refl refl h
  where
    by : (p q : Bool) → nat_le 1 k ≡ p → nat_le k (length rows) ≡ q → p && q ≡ true → k - 1 < length rows
    by true true e f h = (let a : 1 ≤ k = grind (arith, nat_tests) in
        let b : k ≤ length rows = grind (arith, nat_tests) in omega (arith, a, b))
    by false q e f h = absurd (false≢true h)
    by true false e f h = absurd (false≢true h)

pub refutation : (rows : List Row) (tolerance : ℕ) (b : DirBox) (e : Evidence) → is_refuted rows tolerance b e ≡ true
    → Refutation rows tolerance b e
refutation rows tolerance b e h =
    let f = four (nat_eq e.condition 1) (is_point rows e.a) (is_point rows e.b)
    (parts rows tolerance b (e.a - 1) (e.b - 1)) h in
    record { far = point_inside rows e.a f.0; near = point_inside rows e.b f.1; parted = f.2 }

-- ---- the laws of the first evidence
pub first_some : (rows : List Row) (tolerance : ℕ) (b : DirBox) (t : Bool) (e : Evidence)
    → cond t (Some (evidence_of (farthest b rows) (nearest b rows))) None ≡ Some e → (t ≡ true)
    × (evidence_of (farthest b rows) (nearest b rows) ≡ e)
first_some rows tolerance b true e h = (refl, cc)
first_some rows tolerance b false e h = absurd (cc)

point_named : (rows : List Row) (i : ℕ) → i < length rows → is_point rows (i + 1) ≡ true
point_named rows i h =
    let a : nat_le 1 (i + 1) ≡ true = grind (arith, nat_tests) in
    let b : nat_le (i + 1) (length rows) ≡ true = grind (arith, nat_tests) in
    rw (a, b) refl

pub refutes_with : (rows : List Row) (tolerance : ℕ) (b : DirBox) (i j : ℕ) → i < length rows → j < length rows
    → parts rows tolerance b i j ≡ true → is_refuted rows tolerance b (evidence_of i j) ≡ true
refutes_with rows tolerance b i j h k p =
    let ei : i + 1 - 1 ≡ i = omega arith in
    let ej : j + 1 - 1 ≡ j = omega arith in
    ap (λ v. v && (is_point rows (j + 1) && parts rows tolerance b (i + 1 - 1) (j + 1 - 1))) (point_named rows i h)
    ∙ ap (λ v. v && parts rows tolerance b (i + 1 - 1) (j + 1 - 1)) (point_named rows j k)
    ∙ ap (λ m. parts rows tolerance b m (j + 1 - 1)) ei ∙ ap (λ m. parts rows tolerance b i m) ej ∙ p

pub first_refutes : (rows : List Row) (tolerance : ℕ) (b : DirBox) (e : Evidence) → 0 < length rows
    → first_evidence rows tolerance b ≡ Some e → is_refuted rows tolerance b e ≡ true
first_refutes rows tolerance b e some h =
    let f = first_some rows tolerance b (parts rows tolerance b (farthest b rows) (nearest b rows)) e h in
    let i : farthest b rows < length rows = rw length-map at (greatest_inside (lows b rows) (rw length-map some)) in
    let j : nearest b rows < length rows = rw length-map at (least_inside (highs b rows) (rw length-map some)) in
    subst (λ x. is_refuted rows tolerance b x ≡ true) f.1
    (refutes_with rows tolerance b (farthest b rows) (nearest b rows) i j f.0)

first_none : (t : Bool) (e : Evidence) → cond t (Some e) None ≡ None → t ≡ false
first_none true e h = absurd (cc)
first_none false e h = refl

pub none_refutes : (rows : List Row) (tolerance : ℕ) (b : DirBox) (e : Evidence)
    → first_evidence rows tolerance b ≡ None → is_refuted rows tolerance b e ≡ false
none_refutes rows tolerance b e h =
    let none = first_none (parts rows tolerance b (farthest b rows) (nearest b rows))
    (evidence_of (farthest b rows) (nearest b rows)) h in
    none_of_four (nat_eq e.condition 1) (is_point rows e.a) (is_point rows e.b)
    (parts rows tolerance b (e.a - 1) (e.b - 1))
    (λ p q. no_others_part rows tolerance b (e.a - 1) (e.b - 1) (point_inside rows e.a p)
    (point_inside rows e.b q) none)

-- ---- the numbers of the first evidence are below 2^32
pub first_is_short : (rows : List Row) (tolerance : ℕ) (b : DirBox) (e : Evidence) → 0 < length rows
    → length rows ≤ POINTS → first_evidence rows tolerance b ≡ Some e → IsShort e
first_is_short rows tolerance b e some few =
    let far : farthest b rows < length rows = rw length-map at (greatest_inside (lows b rows) (rw length-map some)) in
    let near : nearest b rows < length rows = rw length-map at (least_inside (highs b rows) (rw length-map some)) in
    let s : IsShort (evidence_of (farthest b rows) (nearest b rows)) =
    record { condition = omega arith; a = omega arith; b = omega arith } in
    elim (parts rows tolerance b (farthest b rows) (nearest b rows)) as
    (λ v. cond v (Some (evidence_of (farthest b rows) (nearest b rows))) None ≡ Some e → IsShort e) [
      | true ↦ λ h. let same : evidence_of (farthest b rows) (nearest b rows) ≡ e = cc in subst IsShort same s
      | false ↦ λ h. cc
    ]
