-- The answer of a run: the stores to be done in order, one text, and how the run ends.
use Rattle.std.specs.Prelude.{ℕ, List, [], ◌∷◌, Option, Some, None}
use Rattle.gd_cells.specs.Meaning.{Questions}
use Rattle.gd_cert.specs.Certificates.{Certificate, Heading, Plain, Probe}
use Rattle.gd_cert.specs.declared.fault.CertFault.{CertFault}
use Rattle.gd_check.specs.Written.{body_of_end}
use Rattle.gd_check.specs.Wrong.{first_wrong}
use Rattle.gd_report.specs.Said.{Said, invalid, valid}
use Rattle.gd_verdict.specs.Verdict.{End}

-- a name and the bytes that it is to hold
abbrev pub Store : Type 0
Store = List ℕ × List ℕ

pub record Answer : Type 0 where
  pub stores : List Store
  pub said : Said

-- an answer that stores nothing
abbrev pub only_said : Said → Answer
only_said said = record { stores = []; said = said }

-- bytes are stored where their file has a word
abbrev pub stores_to : Option (List ℕ) → List ℕ → List Store
stores_to None bytes = []
stores_to (Some name) bytes = (name, bytes) ∷ []

-- ---- certificates
-- the certificate of one verdict: one group, whose share is the whole budget
abbrev pub certificate_of_end : Questions → ℕ → End → Certificate
certificate_of_end q budget e = record { heading = Plain; share = budget; told = 1; groups = body_of_end q e ∷ [] }

-- what is said of the first wrong line, or that there is none
abbrev pub said_of_wrong : Option CertFault → Said
said_of_wrong None = valid
said_of_wrong (Some f) = invalid f.line f.code

-- what is said of a certificate of these tasks: a head that speaks of a probe is refused
abbrev pub said_under : List Questions → Heading → Certificate → Said
said_under qs Plain c = said_of_wrong (first_wrong qs c)
said_under qs (Probe name tolerance) c = invalid 2 55

abbrev pub said_of_certificate : List Questions → Certificate → Said
said_of_certificate qs c = said_under qs c.heading c
