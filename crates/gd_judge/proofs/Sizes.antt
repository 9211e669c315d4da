-- The certificate of some tasks fits a file: each group has a witness or a tree, and the shares add up to the budget at most.
use Rattle.std.proofs.Common.{arith, ◌≡◌, sym, subst, ℕ, ◌+◌, ◌*◌, ◌/◌, ◌≤◌, inl, inr, List, [], ◌∷◌, length}
use Rattle.std.proofs.lemmas.Bool.{cases_lt}
use Rattle.std.proofs.lemmas.List.Elements.{All-head, All-tail}
use Rattle.std.proofs.lemmas.List.Sums.{sum_by-cons}
use Rattle.std.proofs.Math.Nat.{div-mul-le_self}
use Rattle.std.specs.List.{All, sum_by}
use Rattle.gd_base.specs.Limits.{BUDGET, FILE_BYTES, GROUPS}
use Rattle.gd_base.specs.declared.verdict.Verdict.{Verdict}
use Rattle.gd_cells.specs.Laws.{IsGrid}
use Rattle.gd_cells.specs.Meaning.{Questions}
use Rattle.gd_cert.proofs.Sizes.{texts_are_short}
use Rattle.gd_cert.specs.Bounds.{IsInBounds}
use Rattle.gd_cert.specs.Certificates.{Body, Certificate}
use Rattle.gd_cert.specs.Sizes.{most_bytes}
use Rattle.gd_cert.specs.Text.{text}
use Rattle.gd_check.proofs.Written.{tree_is_bounded}
use Rattle.gd_check.specs.Written.{body_of_end}
use Rattle.gd_judge.specs.Judged.{AreJudged, AreOfTasks}
use Rattle.gd_verdict.specs.Verdict.{Accepted, End, IsVerdict, Open, Rejected}

abbrev pub HasGrid : Questions → Type 0
HasGrid q = IsGrid q.grid

end_small : (q : Questions) (budget most : ℕ) (e : End) → IsGrid q.grid → 289 ≤ most → 207 + 70 * budget ≤ most → IsVerdict q budget e → most_bytes (body_of_end q e) ≤ most
end_small q budget most (Accepted w level) grid witness tree is = omega (arith, witness)
end_small q budget most (Rejected leaves lines) grid witness tree is = omega (arith, tree, tree_is_bounded q grid budget (Rejected leaves lines) is)
end_small q budget most (Open lines counts) grid witness tree is = omega (arith, tree, tree_is_bounded q grid budget (Open lines counts) is)

bodies_small : (qs : List Questions) (budget most : ℕ) (vs : List Verdict) (bs : List Body) → All HasGrid qs → 289 ≤ most → 207 + 70 * budget ≤ most → AreJudged qs budget vs bs → sum_by most_bytes bs ≤ most * length qs
bodies_small [] budget most vs [] grids witness tree h = omega arith
bodies_small [] budget most vs (b ∷ bs) grids witness tree h = let no : b ∷ bs ≡ [] = h.1 in cc
bodies_small (q ∷ qs) budget most [] bs grids witness tree h = absurd h
bodies_small (q ∷ qs) budget most (v ∷ vs) [] grids witness tree h = absurd h
bodies_small (q ∷ qs) budget most (v ∷ vs) (b ∷ bs) grids witness tree h =
    let small : most_bytes b ≤ most = subst (λ c. most_bytes c ≤ most) (sym h.0.shown) (end_small q budget most h.0.last (All-head HasGrid q qs grids) witness tree h.0.is) in
    omega (arith, sum_by-cons most_bytes b bs, small, bodies_small qs budget most vs bs (All-tail HasGrid q qs grids) witness tree h.1)

-- the bytes of all groups: for shares of 0 and 1, and for greater ones
groups_short : (qs : List Questions) (budget share : ℕ) (vs : List Verdict) (bs : List Body) → All HasGrid qs → length qs ≤ GROUPS → budget ≤ BUDGET → share ≡ budget / length qs → AreJudged qs share vs bs → 200 + sum_by most_bytes bs ≤ FILE_BYTES
groups_short qs budget share vs bs grids few small is h =
    let whole : share * length qs ≤ budget = subst (λ s. s * length qs ≤ budget) (sym is) (div-mul-le_self budget (length qs)) in
    elim (cases_lt 1 share) [
      | inl greater ↦ omega (arith, bodies_small qs share (207 + 70 * share) vs bs grids (omega (arith, greater)) (omega arith) h, whole, few, small)
      | inr low ↦ omega (arith, bodies_small qs share 289 vs bs grids (omega arith) (omega (arith, low)) h, few)
    ]

pub certificate_is_short : (qs : List Questions) (budget : ℕ) (vs : List Verdict) (c : Certificate) → All HasGrid qs → length qs ≤ GROUPS → budget ≤ BUDGET → IsInBounds c → AreOfTasks qs budget vs c → length (text c) ≤ FILE_BYTES
certificate_is_short qs budget vs c grids few small bounds h =
    omega (arith, texts_are_short c bounds, groups_short qs budget c.share vs c.groups grids few small h.share h.judged)
