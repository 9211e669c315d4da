use Rattle.std.proofs.Common.{◌≡◌, drop}
use Rattle.gd_frames.specs.Needs.{have_contacts}
use Rattle.gd_frames.proofs.needs.have_contacts.Given as goal

abbrev pub invariant-loop-place : goal.invariant-loop-place
invariant-loop-place l =
    have_contacts l.features l.datums l.counts.points.now.rows 0 l.words
    ≡ have_contacts l.features l.datums l.counts.points.now.rows l.place (drop l.place l.words)
