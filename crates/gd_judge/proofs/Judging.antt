-- The verdicts of several tasks, and that their certificate is right.
use Rattle.std.proofs.Common.{arith, ◌≡◌, refl, sym, ap, subst, ℕ, ◌≤◌, ◌<◌, List, [], ◌∷◌, ◌++◌, length}
use Rattle.std.proofs.lemmas.List.Elements.{All-cons, All-head, All-nil, All-tail}
use Rattle.std.proofs.Math.Nat.{div-le_self}
use Rattle.std.specs.List.{All}
use Rattle.gd_base.specs.Limits.{BUDGET, GROUPS}
use Rattle.gd_base.specs.declared.verdict.Verdict.{Verdict}
use Rattle.gd_cells.specs.Meaning.{Questions}
use Rattle.gd_cert.specs.Bounds.{BodyFits, HeadingFits, IsInBounds}
use Rattle.gd_cert.specs.Certificates.{Body, Certificate}
use Rattle.gd_check.specs.Right.{AreRightBodies, IsRight, IsRightBody}
use Rattle.gd_check.specs.Written.{VerdictIsRight}
use Rattle.gd_judge.specs.Judged.{AreJudged, AreOfTasks, IsJudged}

-- ---- one more task
pub judged_more : (qs : List Questions) (budget : ℕ) (vs : List Verdict) (bs : List Body) (q : Questions) (v : Verdict) (b : Body) → AreJudged qs budget vs bs → IsJudged q budget v b → AreJudged (qs ++ q ∷ []) budget (vs ++ v ∷ []) (bs ++ b ∷ [])
judged_more [] budget [] [] q v b h j = (j, (refl, refl))
judged_more [] budget (w ∷ vs) bs q v b h j = let no : w ∷ vs ≡ [] = h.0 in cc
judged_more [] budget [] (c ∷ bs) q v b h j = let no : c ∷ bs ≡ [] = h.1 in cc
judged_more (r ∷ qs) budget [] bs q v b h j = absurd h
judged_more (r ∷ qs) budget (w ∷ vs) [] q v b h j = absurd h
judged_more (r ∷ qs) budget (w ∷ vs) (c ∷ bs) q v b h j = (h.0, judged_more qs budget vs bs q v b h.1 j)

pub bodies_counted : (qs : List Questions) (budget : ℕ) (vs : List Verdict) (bs : List Body) → AreJudged qs budget vs bs → length bs ≡ length qs
bodies_counted [] budget vs bs h = ap length h.1
bodies_counted (q ∷ qs) budget [] bs h = absurd h
bodies_counted (q ∷ qs) budget (v ∷ vs) [] h = absurd h
bodies_counted (q ∷ qs) budget (v ∷ vs) (b ∷ bs) h = omega (arith, bodies_counted qs budget vs bs h.1)

pub verdicts_counted : (qs : List Questions) (budget : ℕ) (vs : List Verdict) (bs : List Body) → AreJudged qs budget vs bs → length vs ≡ length qs
verdicts_counted [] budget vs bs h = ap length h.0
verdicts_counted (q ∷ qs) budget [] bs h = absurd h
verdicts_counted (q ∷ qs) budget (v ∷ vs) [] h = absurd h
verdicts_counted (q ∷ qs) budget (v ∷ vs) (b ∷ bs) h = omega (arith, verdicts_counted qs budget vs bs h.1)

-- ---- each body is right, and can be written
abbrev pub IsRightAndFits : Questions → ℕ → Body → Type 0
IsRightAndFits q budget b = IsRightBody q budget b × BodyFits b

right_and_fits : (q : Questions) (budget : ℕ) (v : Verdict) (b : Body) → VerdictIsRight q → budget ≤ BUDGET → IsJudged q budget v b → IsRightAndFits q budget b
right_and_fits q budget v b rights small j = subst (IsRightAndFits q budget) (sym j.shown) (rights budget j.last small j.is)

pub judged_right : (qs : List Questions) (budget : ℕ) (vs : List Verdict) (bs : List Body) → All VerdictIsRight qs → budget ≤ BUDGET → AreJudged qs budget vs bs → AreRightBodies qs budget bs
judged_right [] budget vs [] rights small h = tt
judged_right [] budget vs (b ∷ bs) rights small h = let no : b ∷ bs ≡ [] = h.1 in cc
judged_right (q ∷ qs) budget [] bs rights small h = absurd h
judged_right (q ∷ qs) budget (v ∷ vs) [] rights small h = absurd h
judged_right (q ∷ qs) budget (v ∷ vs) (b ∷ bs) rights small h =
    ((right_and_fits q budget v b (All-head VerdictIsRight q qs rights) small h.0).0, judged_right qs budget vs bs (All-tail VerdictIsRight q qs rights) small h.1)

judged_fits : (qs : List Questions) (budget : ℕ) (vs : List Verdict) (bs : List Body) → All VerdictIsRight qs → budget ≤ BUDGET → AreJudged qs budget vs bs → All BodyFits bs
judged_fits [] budget vs [] rights small h = All-nil BodyFits
judged_fits [] budget vs (b ∷ bs) rights small h = let no : b ∷ bs ≡ [] = h.1 in cc
judged_fits (q ∷ qs) budget [] bs rights small h = absurd h
judged_fits (q ∷ qs) budget (v ∷ vs) [] rights small h = absurd h
judged_fits (q ∷ qs) budget (v ∷ vs) (b ∷ bs) rights small h =
    All-cons BodyFits b bs (right_and_fits q budget v b (All-head VerdictIsRight q qs rights) small h.0).1 (judged_fits qs budget vs bs (All-tail VerdictIsRight q qs rights) small h.1)

-- ---- the certificate
pub share_is_small : (qs : List Questions) (budget : ℕ) (vs : List Verdict) (c : Certificate) → budget ≤ BUDGET → AreOfTasks qs budget vs c → c.share ≤ BUDGET
share_is_small qs budget vs c small h = omega (arith, h.share, div-le_self budget (length qs), small)

pub certificate_is_right : (qs : List Questions) (budget : ℕ) (vs : List Verdict) (c : Certificate) → All VerdictIsRight qs → budget ≤ BUDGET → AreOfTasks qs budget vs c → IsRight qs c
certificate_is_right qs budget vs c rights small h =
    record { told = h.told; groups = judged_right qs c.share vs c.groups rights (share_is_small qs budget vs c small h) h.judged }

pub certificate_in_bounds : (qs : List Questions) (budget : ℕ) (vs : List Verdict) (c : Certificate) → All VerdictIsRight qs → 0 < length qs → length qs ≤ GROUPS → budget ≤ BUDGET → AreOfTasks qs budget vs c → IsInBounds c
certificate_in_bounds qs budget vs c rights some few small h = record {
  heading = subst HeadingFits (sym h.heading) tt;
  share = share_is_small qs budget vs c small h;
  some_told = omega (arith, h.told, some);
  few_told = omega (arith, h.told, few);
  count = omega (arith, bodies_counted qs c.share vs c.groups h.judged, few);
  groups = judged_fits qs c.share vs c.groups rights (share_is_small qs budget vs c small h) h.judged;
}
