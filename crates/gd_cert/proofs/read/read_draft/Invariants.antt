use Rattle.std.proofs.Common.{◌≡◌, ◌+◌, ◌≤◌, length}
use Rattle.gd_cert.specs.Drafts.{draft_of}
use Rattle.gd_cert.specs.Reading.{drafted, drafted_from}
use Rattle.gd_cert.specs.Words.{pieces}
use Rattle.gd_cert.proofs.read.read_draft.Given as goal

abbrev pub invariant-loop-text : goal.invariant-loop-text
invariant-loop-text l = record {
  left : drafted_from l.line (draft_of l.draft) (pieces 10 l.rest) ≡ drafted l.bytes;
  room : l.line + length l.rest ≤ 134217729;
}

abbrev pub decreases-loop-text : goal.decreases-loop-text
decreases-loop-text l = length l.rest
