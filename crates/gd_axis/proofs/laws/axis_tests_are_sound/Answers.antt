use Rattle.gd_axis.specs.Laws.AxisEvidence.{line-evidence-refutes, line-none-refutes, ring-evidence-refutes, ring-none-refutes}
use Rattle.gd_axis.specs.Laws.AxisSound.{line-holds-is-sound, line-refuted-is-empty, ring-holds-is-sound, ring-refuted-is-empty}
use Rattle.gd_axis.proofs.laws.axis_tests_are_sound.Goals as goal

pub returns : goal.returns
returns c = record {
  line_holds = line-holds-is-sound;
  line_refuted = line-refuted-is-empty;
  line_first = line-evidence-refutes;
  line_none = line-none-refutes;
  ring_holds = ring-holds-is-sound;
  ring_refuted = ring-refuted-is-empty;
  ring_first = ring-evidence-refutes;
  ring_none = ring-none-refutes;
}
