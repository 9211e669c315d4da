-- The certificate that a search leaves.
use Rattle.std.specs.Prelude.{ℕ, ◌≤◌, take}
use Rattle.gd_base.specs.Limits.{BUDGET}
use Rattle.gd_cells.specs.Meaning.{Questions}
use Rattle.gd_cert.specs.Bounds.{BodyFits}
use Rattle.gd_cert.specs.Certificates.{Accept, Body, Reject}
use Rattle.gd_cert.specs.Certificates as certificates
use Rattle.gd_check.specs.Right.{IsRightBody}
use Rattle.gd_verdict.specs.Verdict.{Accepted, End, IsVerdict, Open, Rejected}

-- the body of a group whose search ends so: the numbers of the witness are those that the task has
abbrev pub body_of_end : Questions → End → Body
body_of_end q (Accepted witness level) = Accept witness.root (take q.grid.numbers witness.at)
body_of_end q (Rejected leaves lines) = Reject lines
body_of_end q (Open lines counts) = certificates.Open counts lines

-- what the verdict leaves is right for its budget, and can be written
abbrev pub VerdictIsRight : Questions → Type 0
VerdictIsRight q = (budget : ℕ) (e : End) → budget ≤ BUDGET → IsVerdict q budget e → IsRightBody q budget (body_of_end q e) × BodyFits (body_of_end q e)
