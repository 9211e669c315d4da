-- What the steps of the judging need.
use Rattle.std.specs.Prelude.{ℕ, ◌≤◌, ◌<◌, ◌^◌, List, map}
use Rattle.gd_cells.specs.Meaning.{Questions}
use Rattle.gd_cert.specs.Certificates.{Body, body_of}
use Rattle.gd_cert.specs.declared.cert.CertGroup.{CertGroup}
use Rattle.gd_search.specs.declared.outcome.Outcome.{Outcome}
use Rattle.gd_search.specs.declared.outcome.Outcome.TheVariants.{Accept, Reject, StillOpen}
use Rattle.gd_verdict.specs.Trees.{leaves_of}

-- a witness of the task has two numbers or more, as a certificate has
abbrev pub HasNumbers : Questions → Type 0
HasNumbers q = 2 ≤ q.grid.numbers

-- the leaves of a reject can be counted in 32 bits
abbrev pub HasFewLeaves : Outcome → Type 0
HasFewLeaves (Accept witness level) = Unit {0}
HasFewLeaves (Reject tree) = leaves_of tree.items < 2 ^ 32
HasFewLeaves (StillOpen tree counts) = Unit {0}

-- the bodies of some groups
abbrev pub bodies_in : List CertGroup → List Body
bodies_in groups = map (λ (group : CertGroup). body_of group.body) groups

-- the lines on which some groups begin
abbrev pub lines_in : List CertGroup → List ℕ
lines_in groups = map (λ (group : CertGroup). group.line) groups
