use Rattle.gd_surface.proofs.Conditions.{is-long, is-ok, is-seen}
use Rattle.gd_tables.specs.Kinds.{file_of}
use Rattle.gd_surface.proofs.frame.surface_conditions.Goals as goal

pub returns-clause-count : goal.returns-clause-count
returns-clause-count c = is-long (file_of c.args.file.now) c.args.index.now.table.now c.requires.file c.args.t c.args.frame c.requires.frame

pub returns-clause-conditions : goal.returns-clause-conditions
returns-clause-conditions c = is-ok (file_of c.args.file.now) c.args.index.now.table.now c.requires.file c.args.t c.args.frame c.requires.t

pub returns-clause-points : goal.returns-clause-points
returns-clause-points c = is-seen (file_of c.args.file.now) c.args.index.now.table.now c.requires.file c.args.t c.args.frame
