-- The lines on which the groups of a certificate begin.
use Rattle.std.proofs.Common.{arith, ◌≡◌, ◌∙◌, ap, sym, refl, subst, ℕ, ◌+◌, ◌*◌, ◌^◌, ◌≤◌, ◌<◌, List, [], ◌∷◌, ◌++◌, length}
use Rattle.std.proofs.lemmas.List.{length-map, map-append}
use Rattle.std.proofs.Math.Nat.{mul-le-mul_left}
use Rattle.gd_base.specs.Limits.{BUDGET, GROUPS}
use Rattle.gd_cells.specs.Laws.{IsGrid}
use Rattle.gd_cells.specs.Meaning.{Questions}
use Rattle.gd_cert.specs.Certificates.{Accept, Body, Open, Reject, body_of}
use Rattle.gd_cert.specs.Sizes.{tree_of}
use Rattle.gd_cert.specs.Text.{body_lines, first_lines, node_words}
use Rattle.gd_cert.specs.declared.cert.CertGroup.{CertGroup}
use Rattle.gd_check.proofs.Written.{tree_is_bounded}
use Rattle.gd_check.specs.Written.{body_of_end}
use Rattle.gd_judge.specs.Judged.{IsJudged}
use Rattle.gd_judge.specs.Outcomes.{bodies_in, lines_in}

-- the line behind some groups, of which the first begins on a line
abbrev pub line_behind : ℕ → List Body → ℕ
line_behind line [] = line
line_behind line (b ∷ bs) = line_behind (line + 1 + length (body_lines b)) bs

lines_more : (line : ℕ) (bs : List Body) (b : Body) → first_lines line (bs ++ b ∷ []) ≡ first_lines line bs ++ line_behind line bs ∷ []
lines_more line [] b = refl
lines_more line (c ∷ bs) b = ap (λ ls. line ∷ ls) (lines_more (line + 1 + length (body_lines c)) bs b)

behind_more : (line : ℕ) (bs : List Body) (b : Body) → line_behind line (bs ++ b ∷ []) ≡ line_behind line bs + 1 + length (body_lines b)
behind_more line [] b = refl
behind_more line (c ∷ bs) b = behind_more (line + 1 + length (body_lines c)) bs b

-- a body has no more lines than one and those of its tree
few_lines : (b : Body) → length (body_lines b) ≤ length (tree_of b) + 1
few_lines (Accept root at) = omega arith
few_lines (Reject tree) = omega (arith, length-map tree node_words)
few_lines (Open counts tree) = omega (arith, length-map tree node_words)

pub judged_few : (q : Questions) → IsGrid q.grid → (share : ℕ) (v : _) (b : Body) → IsJudged q share v b → length (body_lines b) ≤ 2 * share + 5
judged_few q grid share v b j =
    subst (λ c. length (body_lines c) ≤ 2 * share + 5) (sym j.shown)
    (omega (arith, few_lines (body_of_end q j.last), tree_is_bounded q grid share j.last j.is))

-- the groups so far keep their lines, and the next begins on this one
pub record KeepsSoFar (share index line : ℕ) (groups : List CertGroup) : Type 0 where
  pub kept : lines_in groups ≡ first_lines 5 (bodies_in groups)
  pub next : line ≡ line_behind 5 (bodies_in groups)
  pub low : line ≤ 5 + 2 * (share * index) + 6 * index

pub keeps_more : (share index line : ℕ) (gs gs' : List CertGroup) (g : CertGroup) → KeepsSoFar share index line gs → g.line ≡ line → gs' ≡ gs ++ g ∷ []
    → length (body_lines (body_of g.body)) ≤ 2 * share + 5 → KeepsSoFar share (index + 1) (line + 1 + length (body_lines (body_of g.body))) gs'
keeps_more share index line gs gs' g so is gs-are few =
    let bodies : bodies_in gs' ≡ bodies_in gs ++ body_of g.body ∷ [] = ap bodies_in gs-are ∙ map-append (λ (h : CertGroup). body_of h.body) gs (g ∷ []) in
    let lines : lines_in gs' ≡ lines_in gs ++ g.line ∷ [] = ap lines_in gs-are ∙ map-append (λ (h : CertGroup). h.line) gs (g ∷ []) in
    let behind : line_behind 5 (bodies_in gs) ≡ g.line = sym so.next ∙ sym is in
    record {
      kept = lines ∙ ap (λ ls. ls ++ g.line ∷ []) so.kept ∙ ap (λ n. first_lines 5 (bodies_in gs) ++ n ∷ []) (sym behind)
          ∙ sym (lines_more 5 (bodies_in gs) (body_of g.body)) ∙ ap (first_lines 5) (sym bodies);
      next = ap (λ n. n + 1 + length (body_lines (body_of g.body))) so.next ∙ sym (behind_more 5 (bodies_in gs) (body_of g.body)) ∙ ap (line_behind 5) (sym bodies);
      low = omega (arith, so.low, few);
    }

-- the line of the next group is far below 2^32
pub room : (share index count line : ℕ) (gs : List CertGroup) (b : Body) → KeepsSoFar share index line gs → index < count → count ≤ GROUPS → share * count ≤ BUDGET
    → length (body_lines b) ≤ 2 * share + 5 → line + 1 + length (body_lines b) < 2 ^ 32
room share index count line gs b so less few small short =
    let whole : share * (index + 1) ≤ share * count = mul-le-mul_left share (omega (arith, less)) in
    omega (arith, so.low, short, whole, small, few, less)
