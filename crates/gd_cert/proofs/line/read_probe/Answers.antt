use Rattle.gd_cert.proofs.Numbers.{requirement-utf8}
use Rattle.gd_cert.proofs.line.read_probe.Goals as goal

pub returns-in-Err : goal.returns-in-Err
returns-in-Err c = absurd (c.in-Err.ensures.cases.0 (requirement-utf8 c.args.name.now c.requires))
