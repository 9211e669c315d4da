use Rattle.std.proofs.Common.{map}
use Rattle.std.specs.Slice.Iter.{iter_rest}
use Rattle.gd_cert.specs.Certificates.{certificate_of}
use Rattle.gd_check.specs.Wrong.{wrong_bodies}
use Rattle.gd_check.proofs.Rests.{Rests}
use Rattle.gd_check.proofs.decide.wrong_groups.Given as goal

abbrev pub invariant-loop-task : goal.invariant-loop-task
invariant-loop-task g l = Rests g.T.Task.questions l.cert.share (wrong_bodies (map g.T.Task.questions l.tasks) l.cert.share 5 (certificate_of l.cert).groups) (iter_rest l.task-iterator.a) (iter_rest l.task-iterator.b)
