-- For the proof of the reader, and cited by its private functions alone: what its values stand for.
use Rattle.std.specs.Prelude.{ℕ, ◌≡◌, ◌<◌, List, [], ◌∷◌, Option, Some, None, Result, Ok, Err, length, map}
use Rattle.std.specs.Borrow.{Bor}
use Rattle.gd_cert.specs.Certificates.{body_of, heading_of}
use Rattle.gd_cert.specs.Reading.{Draft, Placed, with_line}
use Rattle.gd_cert.specs.Words.{pieces}
use Rattle.gd_cert.specs.declared.cert.CertGroup.{CertGroup}
use Rattle.gd_cert.specs.declared.draft.CertDraft.{CertDraft}
use Rattle.gd_cert.specs.declared.fault.CertFault.{CertFault}
use Rattle.gd_cert.specs.declared.fault.CertReadFault.{CertReadFault}
use Rattle.gd_cert.specs.declared.fault.CertReadFault.TheVariants as read_fault
use Rattle.gd_cert.specs.declared.rule.LineFault.{LineFault}
use Rattle.gd_cert.specs.declared.rule.LineFault.TheVariants as line_fault
use Rattle.gd_cert.specs.declared.rule.Rule.{Rule}

-- the words that slices are
abbrev pub texts : List (Bor (List ℕ)) → List (List ℕ)
texts words = map (λ (word : Bor (List ℕ)). word.now) words

-- words that tell the same of each line, whatever the lines before it told
abbrev pub TellsAlike : List (List ℕ) → List (List ℕ) → Type 0
TellsAlike words others = (line : ℕ) (d : Draft) → with_line line words d ≡ with_line line others d

-- what stands before the first separator and what stands behind it, or that there is none
abbrev pub CutsAt : ℕ → List ℕ → Option (Bor (List ℕ) × Bor (List ℕ)) → Type 0
CutsAt separator bytes None = pieces separator bytes ≡ bytes ∷ []
CutsAt separator bytes (Some parts) = (pieces separator bytes ≡ parts.0.now ∷ pieces separator parts.1.now) × (length parts.1.now < length bytes)

abbrev pub placed_of : CertGroup → Placed
placed_of group = record { line = group.line; body = body_of group.body }

abbrev pub draft_of : CertDraft → Draft
draft_of d = record {
  heading = heading_of d.head;
  share = d.share;
  told = d.told;
  groups = map placed_of d.groups.items;
  stage = d.stage;
  begun = d.begun;
  tree = d.tree.items;
}

-- the rule that a line broke, where it isn't want of memory
abbrev pub line_cause : LineFault → Option Rule
line_cause (line_fault.Rule broken) = Some broken
line_cause line_fault.Memory = None
