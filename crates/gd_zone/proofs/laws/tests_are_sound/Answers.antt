use Rattle.gd_zone.proofs.Meeting.{tests-are-sound}
use Rattle.gd_zone.proofs.Unmet.{refuted-is-unmet}
use Rattle.gd_zone.proofs.laws.tests_are_sound.Goals as goal

pub returns : goal.returns
returns c = record { holds = tests-are-sound; refuted = refuted-is-unmet }
