use Rattle.gd_group.proofs.Placed.{lower-placed, lower-tolerable}
use Rattle.gd_tables.specs.Kinds.{file_of, frame_of}
use Rattle.gd_group.proofs.asked.append_lower.Goals as goal

pub place_conditions-requires-clause-frame : goal.place_conditions-requires-clause-frame
place_conditions-requires-clause-frame c =
    lower-placed c.args.index.now.table.now (file_of c.args.file.now) c.requires.file c.args.number (frame_of c.args.frame.now) c.requires.frame c.in-Some.t c.in-Some.is

pub place_conditions-requires-clause-t : goal.place_conditions-requires-clause-t
place_conditions-requires-clause-t c =
    lower-tolerable c.args.index.now.table.now (file_of c.args.file.now) c.requires.file c.args.number (frame_of c.args.frame.now) c.requires.frame c.in-Some.t c.in-Some.is
