use Rattle.gd_points.proofs.Tables.{table_has_row}
use Rattle.gd_run.proofs.reading.read_table.Goals as goal

pub returns-in-Ok-clause-sound : goal.returns-in-Ok-clause-sound
returns-in-Ok-clause-sound c = record {
  some_points = table_has_row c.args.bytes.now c.in-Ok.table c.in-Ok.ensures;
  of_table = tt;
  certified = c.requires.sound.certified;
}
