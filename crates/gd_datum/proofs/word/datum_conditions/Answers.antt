use Rattle.std.proofs.Common.{length}
use Rattle.gd_datum.proofs.Conditions.{words-length, words-ok, words-seen}
use Rattle.gd_datum.proofs.word.datum_conditions.Goals as goal

pub returns-clause-count : goal.returns-clause-count
returns-clause-count c =
    words-length c.args.file.now.features.items c.args.file.now.datums.items c.args.index.now.table.now.rows c.args.words.now

pub returns-clause-conditions : goal.returns-clause-conditions
returns-clause-conditions c =
    words-ok c.args.file.now.features.items c.args.file.now.datums.items c.args.index.now.table.now.rows (length c.args.index.now.table.now.names)
    c.requires.file.features c.requires.file.datums c.args.words.now

pub returns-clause-points : goal.returns-clause-points
returns-clause-points c = λ used.
    words-seen c.args.index.now.table.now.rows (length c.args.index.now.table.now.names) used
    c.args.file.now.features.items c.args.file.now.datums.items c.requires.file.features c.args.words.now
