use Rattle.std.proofs.Common.{inl}
use Rattle.std.proofs.Common.{rules}
use Rattle.std.specs.Prelude.{IsErrOf}
use Rattle.gd_world.specs.declared.shelf.StoreFault.TheVariants as StoreFault
use Rattle.gd_run.proofs.Reported.{store_fails}
use Rattle.gd_run.proofs.program.finish.Goals as goal

pub returns-in-Err-Failed-clause-unwritten : goal.returns-in-Err-Failed-clause-unwritten
returns-in-Err-Failed-clause-unwritten g c = λ is.
    let failed : IsErrOf c.store_file.result StoreFault.Failed = search rules in
    inl (store_fails c.args.report.now g.S.Shelf.tells _ _ _ _ _ g.O.Sink.tells _
    (c.store_file.ensures.word failed) (c.store_file.ensures.rose failed) (λ told. c.store_file.ensures.prefix told failed))
