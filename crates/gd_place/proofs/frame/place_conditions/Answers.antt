use Rattle.gd_place.proofs.Conditions.{is-long, is-ok, is-seen}
use Rattle.gd_tables.specs.Kinds.{file_of}
use Rattle.gd_place.proofs.frame.place_conditions.Goals as goal

pub returns-clause-count : goal.returns-clause-count
returns-clause-count c = is-long (file_of c.args.file.now) c.args.t c.args.offset c.args.frame c.requires.frame

pub returns-clause-conditions : goal.returns-clause-conditions
returns-clause-conditions c = is-ok (file_of c.args.file.now) c.args.t c.args.offset c.args.frame c.requires.file c.requires.frame c.requires.t

pub returns-clause-points : goal.returns-clause-points
returns-clause-points c = is-seen (file_of c.args.file.now) c.args.t c.args.offset c.args.frame
