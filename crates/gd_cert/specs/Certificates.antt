-- A certificate without where it lies in memory: what its verdicts are for, the budget of each group, how many groups it
-- states, and the groups.
use Rattle.std.specs.Prelude.{ℕ, ℤ, List, map}
use Rattle.gd_base.specs.declared.verdict.Counts.{Counts}
use Rattle.gd_cells.specs.declared.node.Node.{Node}
use Rattle.gd_cert.specs.declared.cert.Cert.{Cert}
use Rattle.gd_cert.specs.declared.cert.CertBody.{CertBody}
use Rattle.gd_cert.specs.declared.cert.CertBody.TheVariants as body
use Rattle.gd_cert.specs.declared.cert.CertGroup.{CertGroup}
use Rattle.gd_cert.specs.declared.cert.Head.{Head}
use Rattle.gd_cert.specs.declared.cert.Head.TheVariants as head

-- the requirements as they are written, or one requirement, by its name, at another tolerance
pub data Heading : Type 0 where
  Plain : Heading
  Probe : List ℕ → ℕ → Heading

-- a witness by its root and its numbers; a tree; or where the search stopped, and the tree
pub data Body : Type 0 where
  Accept : ℕ → List ℤ → Body
  Reject : List Node → Body
  Open : Counts → List Node → Body

pub record Certificate : Type 0 where
  pub heading : Heading
  pub share : ℕ
  pub told : ℕ
  pub groups : List Body

-- what the code's values stand for
abbrev pub heading_of : Head → Heading
heading_of head.Plain = Plain
heading_of (head.Probe name tolerance) = Probe name tolerance

abbrev pub body_of : CertBody → Body
body_of (body.Accept root at) = Accept root at.items
body_of (body.Reject tree) = Reject tree.items
body_of (body.StillOpen counts tree) = Open counts tree.items

abbrev pub certificate_of : Cert → Certificate
certificate_of c =
    record { heading = heading_of c.head; share = c.share; told = c.told; groups = map (λ (group : CertGroup). body_of group.body) c.groups.items }
