-- What the verdicts of several tasks say of the tasks' assignments.
use Rattle.std.proofs.Common.{refl, sym, subst, ℕ, ℤ, List, [], ◌∷◌, map}
use Rattle.gd_base.specs.declared.verdict.Verdict.{Verdict}
use Rattle.gd_cells.specs.Laws.{Laws}
use Rattle.gd_cells.specs.Meaning.{Questions}
use Rattle.gd_cells.specs.declared.cell.Cell.{Cell}
use Rattle.gd_cells.specs.declared.cell.Witness.{Witness}
use Rattle.gd_cert.specs.Certificates.{Body}
use Rattle.gd_check.proofs.Meant.{body_true}
use Rattle.gd_check.specs.Right.{AreRightBodies}
use Rattle.gd_check.specs.Written.{body_of_end}
use Rattle.gd_judge.specs.Judged.{AreJudged, IsJudged, verdict_of}
use Rattle.gd_judge.specs.Means.{Agrees, AreMeant}
use Rattle.gd_verdict.specs.Verdict.{Accepted, End, Open, Rejected}

end_agrees : (q : Questions) (e : End) → Agrees (verdict_of e) (body_of_end q e)
end_agrees q (Accepted w level) = tt
end_agrees q (Rejected leaves lines) = tt
end_agrees q (Open lines counts) = refl

judged_agrees : (q : Questions) (budget : ℕ) (v : Verdict) (b : Body) → IsJudged q budget v b → Agrees v b
judged_agrees q budget v b j =
    subst (λ w. Agrees w b) (sym j.told) (subst (λ c. Agrees (verdict_of j.last) c) (sym j.shown) (end_agrees q j.last))

pub judged_meant : {T : Type 0} (questions : T → Questions) (feasible : T → List ℤ → Type 0) (inside : T → List ℤ → Cell → Type 0) (assignment : T → Witness → List ℤ) →
    ((t : T) → Laws (questions t) (feasible t) (inside t) (assignment t)) → (ts : List T) (budget : ℕ) (vs : List Verdict) (bs : List Body) → AreJudged (map questions ts) budget vs bs → AreRightBodies (map questions ts) budget bs
    → AreMeant questions feasible assignment ts budget vs bs
judged_meant questions feasible inside assignment laws [] budget vs bs h right = h
judged_meant questions feasible inside assignment laws (t ∷ ts) budget [] bs h right = absurd h
judged_meant questions feasible inside assignment laws (t ∷ ts) budget (v ∷ vs) [] h right = absurd h
judged_meant questions feasible inside assignment laws (t ∷ ts) budget (v ∷ vs) (b ∷ bs) h right = (
  record { agrees = judged_agrees (questions t) budget v b h.0; right = right.0; true = body_true (laws t) budget b right.0 },
  judged_meant questions feasible inside assignment laws ts budget vs bs h.1 right.1,
)
