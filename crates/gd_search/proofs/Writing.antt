-- How the lists of the levels are written, line by line.
use Rattle.std.proofs.Common.{arith, ◌≡◌, refl, sym, ap, ℕ, zero, suc, ◌+◌, ◌-◌, ◌<◌, ◌≤◌, drop, append_assoc, append-nil, None, List, [], ◌∷◌, ◌++◌}
use Rattle.gd_search.specs.Lines.{Found, left_of, written, written_roots}
use Rattle.gd_cells.specs.declared.node.Node.{Node}
use Rattle.gd_search.specs.declared.tree.Level.{Level}
use Rattle.gd_cells.specs.declared.node.Node.TheVariants.{Split}

pub written-split : (n : ℕ) (found : List Found) (lists : List (List Found)) → 0 < n → written (suc n) ((None ∷ found) ∷ lists)
    ≡ record { lines = Split ∷ ((written n lists).lines ++ (written n (written n lists).rest).lines); rest = found ∷ (written n (written n lists).rest).rest }
written-split zero found lists h = absurd (omega arith)
written-split (suc n) found lists h = refl

pub lines-joined : {X : Type 0} (xs : List X) (x : X) (ys zs : List X) → ((xs ++ x ∷ []) ++ ys) ++ zs ≡ xs ++ x ∷ (ys ++ zs)
lines-joined [] x ys zs = refl
lines-joined (w ∷ xs) x ys zs = ap (λ vs. w ∷ vs) (lines-joined xs x ys zs)

-- ---- level by level, and root by root
pub left_more : (levels : List Level) (level : Level) → level.next ≡ 0 → left_of (levels ++ level ∷ []) ≡ left_of levels ++ level.found.items ∷ []
left_more [] level e = rw e refl
left_more (first ∷ levels) level e = ap (λ xss. drop first.next first.found.items ∷ xss) (left_more levels level e)

pub roots_step : (n i size : ℕ) (lists : List (List Found)) (lines : List Node) → i < n → lines ++ written_roots (n - i) size lists ≡ (lines ++ (written size lists).lines) ++ written_roots (n - (i + 1)) size (written size lists).rest
roots_step n i size lists lines h =
    let e : n - i ≡ suc (n - (i + 1)) = omega arith in
    rw e (sym (append_assoc lines (written size lists).lines (written_roots (n - (i + 1)) size (written size lists).rest)))

pub roots_end : (n i size : ℕ) (lists : List (List Found)) (lines : List Node) → n ≤ i → lines ++ written_roots (n - i) size lists ≡ lines
roots_end n i size lists lines h = let e : n - i ≡ 0 = omega arith in rw e (append-nil lines)
