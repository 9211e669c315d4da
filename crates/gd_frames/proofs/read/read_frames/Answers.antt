use Rattle.toml.specs.View.{table_view}
use Rattle.gd_base.specs.Causes.{input_cause}
use Rattle.gd_frames.proofs.FileFacts.{file_is, of_given}
use Rattle.gd_frames.specs.Facts.{IsFile}
use Rattle.gd_frames.specs.Files.{file_in}
use Rattle.gd_tables.specs.Kinds.{file_of}
use Rattle.gd_frames.proofs.read.read_frames.Goals as goal

pub returns-in-Ok-clause-facts : goal.returns-in-Ok-clause-facts
returns-in-Ok-clause-facts c =
    let points = c.args.table.now in
    let table = table_view c.in-Ok.document in
    of_given (IsFile points) input_cause file_of c.read_file.result (file_in points table) c.read_file.ensures (file_is points table)
