-- A certificate without a wrong line is right, and a right one has none.
use Rattle.std.proofs.Common.{arith, ◌≡◌, refl, sym, ◌∙◌, ap, ℕ, ◌+◌, Bool, true, false, cond, nat_eq, Option, Some, None, List, [], ◌∷◌, length, ◌↔◌}
use Rattle.std.proofs.lemmas.Bool.Decides.{nat_tests}
use Rattle.std.proofs.lemmas.List.Elements.{All-head, All-tail}
use Rattle.std.specs.List.{All}
use Rattle.gd_cells.specs.Meaning.{Questions}
use Rattle.gd_cert.specs.Certificates.{Body, Certificate}
use Rattle.gd_cert.specs.Reading.{fault}
use Rattle.gd_cert.specs.Text.{body_lines}
use Rattle.gd_cert.specs.declared.fault.CertFault.{CertFault}
use Rattle.gd_check.proofs.Groups.{Keeps, body_right, both_are, right_body}
use Rattle.gd_check.specs.Answers.{answer_of}
use Rattle.gd_check.specs.Right.{AreRightBodies, IsRight}
use Rattle.gd_check.specs.Wrong.{are_counted, first_wrong, or_else, wrong_bodies, wrong_body}
use Rattle.gd_check.specs.declared.answer.CheckAnswer.{CheckAnswer}
use Rattle.gd_check.specs.declared.answer.CheckAnswer.TheVariants.{Invalid, Valid}

-- ---- the groups
neither : (f next : Option CertFault) → or_else f next ≡ None → (f ≡ None) × (next ≡ None)
neither (Some f) next h = cc
neither None next h = (refl, h)

bodies_right : (qs : List Questions) → All Keeps qs → (budget line : ℕ) (bs : List Body) → length bs ≡ length qs → wrong_bodies qs budget line bs ≡ None → AreRightBodies qs budget bs
bodies_right [] keeps budget line [] count h = tt
bodies_right [] keeps budget line (b ∷ bs) count h = absurd (omega arith)
bodies_right (q ∷ qs) keeps budget line [] count h = absurd (omega arith)
bodies_right (q ∷ qs) keeps budget line (b ∷ bs) count h =
    let both : (wrong_body q budget line b ≡ None) × (wrong_bodies qs budget (line + 1 + length (body_lines b)) bs ≡ None) = neither (wrong_body q budget line b) (wrong_bodies qs budget (line + 1 + length (body_lines b)) bs) h in (
      body_right q (All-head Keeps q qs keeps) budget line b both.0,
      bodies_right qs (All-tail Keeps q qs keeps) budget (line + 1 + length (body_lines b)) bs (omega arith) both.1,
    )

right_bodies : (qs : List Questions) → All Keeps qs → (budget line : ℕ) (bs : List Body) → AreRightBodies qs budget bs → wrong_bodies qs budget line bs ≡ None
right_bodies [] keeps budget line bs h = refl
right_bodies (q ∷ qs) keeps budget line [] h = absurd h
right_bodies (q ∷ qs) keeps budget line (b ∷ bs) h =
    rw (right_body q (All-head Keeps q qs keeps) budget line b h.0) (right_bodies qs (All-tail Keeps q qs keeps) budget (line + 1 + length (body_lines b)) bs h.1)

pub right_counted : (qs : List Questions) (budget : ℕ) (bs : List Body) → AreRightBodies qs budget bs → length bs ≡ length qs
right_counted [] budget [] h = refl
right_counted [] budget (b ∷ bs) h = absurd h
right_counted (q ∷ qs) budget [] h = absurd h
right_counted (q ∷ qs) budget (b ∷ bs) h = omega (arith, right_counted qs budget bs h.1)

-- ---- the certificate
nothing_wrong : (counted : Bool) (next : Option CertFault) → cond counted next (Some (fault 4 55)) ≡ None → (counted ≡ true) × (next ≡ None)
nothing_wrong true next h = (refl, h)
nothing_wrong false next h = cc

pub certificate_right : (qs : List Questions) → All Keeps qs → (c : Certificate) → first_wrong qs c ≡ None → IsRight qs c
certificate_right qs keeps c h =
    let n : (are_counted qs c ≡ true) × (wrong_bodies qs c.share 5 c.groups ≡ None) = nothing_wrong (are_counted qs c) (wrong_bodies qs c.share 5 c.groups) h in
    let counts : (nat_eq (length c.groups) (length qs) ≡ true) × (nat_eq c.told (length qs) ≡ true) = both_are (nat_eq (length c.groups) (length qs)) (nat_eq c.told (length qs)) n.0 in
    let groups : nat_eq (length c.groups) (length qs) ≡ true = counts.0 in
    let told : nat_eq c.told (length qs) ≡ true = counts.1 in
    record { told = grind (arith, nat_tests); groups = bodies_right qs keeps c.share 5 c.groups (grind (arith, nat_tests)) n.1 }

pub right_certificate : (qs : List Questions) → All Keeps qs → (c : Certificate) → IsRight qs c → first_wrong qs c ≡ None
right_certificate qs keeps c h =
    let count : length c.groups ≡ length qs = right_counted qs c.share c.groups h.groups in
    let told : c.told ≡ length qs = h.told in
    let e : nat_eq (length c.groups) (length qs) ≡ true = grind (arith, nat_tests) in
    let t : nat_eq c.told (length qs) ≡ true = grind (arith, nat_tests) in
    rw (e, t) (right_bodies qs keeps c.share 5 c.groups h.groups)

-- ---- the answer that tells it
answers_valid : (a : CheckAnswer) → answer_of a ≡ None → a ≡ Valid
answers_valid Valid h = refl
answers_valid (Invalid line code) h = cc

pub valid_exactly : (qs : List Questions) → All Keeps qs → (c : Certificate) (a : CheckAnswer) → answer_of a ≡ first_wrong qs c → (a ≡ Valid) ↔ IsRight qs c
valid_exactly qs keeps c a h = (λ is. certificate_right qs keeps c (sym h ∙ ap answer_of is), λ right. answers_valid a (h ∙ right_certificate qs keeps c right))
