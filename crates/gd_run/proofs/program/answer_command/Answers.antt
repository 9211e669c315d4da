use Rattle.gd_run.proofs.Asked.{job_possible}
use Rattle.gd_run.specs.Views.{answer_in, ask_of, given_of}
use Rattle.gd_run.proofs.program.answer_command.Goals as goal

pub returns-in-Ok-answer-clause-kind : goal.returns-in-Ok-answer-clause-kind
returns-in-Ok-answer-clause-kind g c = job_possible (ask_of c.args.command.now) (given_of c.in-Ok.read) (answer_in c.in-Ok-answer.report) c.in-Ok-answer.ensures
