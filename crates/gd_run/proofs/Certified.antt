-- The laws of certificates for flatness.
use Rattle.std.proofs.Common.{arith, ◌≡◌, refl, ℕ, ◌≤◌, ◌<◌, List, [], ◌∷◌, None, length}
use Rattle.std.proofs.lemmas.List.Elements.{All-cons, All-nil}
use Rattle.gd_base.specs.Limits.{BUDGET, FILE_BYTES, POINTS}
use Rattle.gd_cert.proofs.Sizes.{one_group_is_short}
use Rattle.gd_cert.specs.Bounds.{BodyFits, IsInBounds}
use Rattle.gd_cert.specs.Certificates.{Body, Certificate}
use Rattle.gd_cert.specs.Text.{text}
use Rattle.gd_check.proofs.Groups.{Keeps, keeps_of}
use Rattle.gd_check.proofs.Meant.{body_true}
use Rattle.gd_check.proofs.Wholes.{certificate_right, right_certificate}
use Rattle.gd_check.proofs.Written.{tree_is_short, verdict_is_right}
use Rattle.gd_check.specs.Means.{IsTrueOf}
use Rattle.gd_check.specs.Right.{IsRight, IsRightBody}
use Rattle.gd_check.specs.Written.{VerdictIsRight, body_of_end}
use Rattle.gd_check.specs.Wrong.{first_wrong}
use Rattle.gd_flat.specs.Laws.Task.{flat_laws}
use Rattle.gd_flat.specs.FlatTask.{IsFeasible, assignment_of, direction_at, questions_of}
use Rattle.gd_points.specs.declared.table.Row.{Row}
use Rattle.gd_run.specs.Answers.{certificate_of_end}
use Rattle.gd_verdict.specs.Verdict.{End, IsVerdict}

-- ---- a certificate of one task
pub flat_right : (rows : List Row) (tolerance : ℕ) → 0 < length rows → length rows ≤ POINTS → (c : Certificate) → first_wrong (questions_of rows tolerance ∷ []) c ≡ None → IsRight (questions_of rows tolerance ∷ []) c
flat_right rows tolerance some few c none =
    certificate_right (questions_of rows tolerance ∷ []) (All-cons Keeps (questions_of rows tolerance) [] (keeps_of (flat_laws rows tolerance some few)) (All-nil Keeps)) c none

pub right_flat : (rows : List Row) (tolerance : ℕ) → 0 < length rows → length rows ≤ POINTS → (c : Certificate) → IsRight (questions_of rows tolerance ∷ []) c → first_wrong (questions_of rows tolerance ∷ []) c ≡ None
right_flat rows tolerance some few c right =
    right_certificate (questions_of rows tolerance ∷ []) (All-cons Keeps (questions_of rows tolerance) [] (keeps_of (flat_laws rows tolerance some few)) (All-nil Keeps)) c right

-- what a right group says is so
pub flat_true : (rows : List Row) (tolerance : ℕ) → 0 < length rows → length rows ≤ POINTS → (budget : ℕ) (b : Body) → IsRightBody (questions_of rows tolerance) budget b → IsTrueOf (questions_of rows tolerance) (IsFeasible rows tolerance) (λ w. assignment_of w.root (direction_at w)) budget b
flat_true rows tolerance some few budget b right = body_true (flat_laws rows tolerance some few) budget b right

-- ---- the certificate of a verdict
pub flat_verdict_is_right : (rows : List Row) (tolerance : ℕ) → 0 < length rows → length rows ≤ POINTS → VerdictIsRight (questions_of rows tolerance)
flat_verdict_is_right rows tolerance some few = verdict_is_right (flat_laws rows tolerance some few) (omega arith)

pub end_in_bounds : (rows : List Row) (tolerance budget : ℕ) (e : End) → 0 < length rows → length rows ≤ POINTS → budget ≤ BUDGET → IsVerdict (questions_of rows tolerance) budget e → IsInBounds (certificate_of_end (questions_of rows tolerance) budget e)
end_in_bounds rows tolerance budget e some few small verdict =
    let fits : BodyFits (body_of_end (questions_of rows tolerance) e) = (flat_verdict_is_right rows tolerance some few budget e small verdict).1 in
    record { heading = tt; share = small; some_told = omega arith; few_told = omega arith; count = omega arith; groups = All-cons BodyFits (body_of_end (questions_of rows tolerance) e) [] fits (All-nil BodyFits) }

pub end_is_short : (rows : List Row) (tolerance budget : ℕ) (e : End) → 0 < length rows → length rows ≤ POINTS → budget ≤ BUDGET → IsVerdict (questions_of rows tolerance) budget e → length (text (certificate_of_end (questions_of rows tolerance) budget e)) ≤ FILE_BYTES
end_is_short rows tolerance budget e some few small verdict =
    one_group_is_short (certificate_of_end (questions_of rows tolerance) budget e) (body_of_end (questions_of rows tolerance) e) (end_in_bounds rows tolerance budget e some few small verdict) refl
    (omega (arith, tree_is_short (questions_of rows tolerance) (flat_laws rows tolerance some few).is_grid budget e small verdict))
