use Rattle.std.proofs.Common.{rules}
use Rattle.std.specs.Prelude.{IsErrOf}
use Rattle.gd_run.proofs.Taken.{long_read, taken}
use Rattle.gd_run.specs.Views.{given_of, input_of}
use Rattle.gd_world.specs.declared.shelf.LoadFault.TheVariants as load_fault
use Rattle.gd_run.proofs.reading.read_input.Goals as goal

pub returns-in-Ok-clause-kind : goal.returns-in-Ok-clause-kind
returns-in-Ok-clause-kind g c =
    taken c.args.input.now.kind (given_of c.args.inputs) c.args.input.now.word.now c.as_slice.result.now c.args.input.now.word.now c.requires.placed c.read_bytes.result c.read_bytes.ensures.read

pub returns-in-Err-TooLong-clause-read : goal.returns-in-Err-TooLong-clause-read
returns-in-Err-TooLong-clause-read g c = λ told.
    let failed : IsErrOf c.load.result load_fault.TooLong = search rules in
    long_read (given_of c.args.inputs) (input_of c.args.input.now) (g.S.Shelf.holds c.args.shelf.now c.args.input.now.word.now) c.requires.placed (c.load.ensures.long told failed) c.too_long.result c.too_long.ensures c.refused.result c.refused.ensures
