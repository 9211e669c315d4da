use Rattle.std.proofs.Common.{refl}
use Rattle.gd_cert.proofs.Views.{bodies_in, lines_in}
use Rattle.gd_cert.proofs.draft.CertDraft.into_cert.Goals as goal

pub returns-clause-certificate : goal.returns-clause-certificate
returns-clause-certificate c = rw (bodies_in c.args.self.groups.items) refl

pub returns-clause-lines : goal.returns-clause-lines
returns-clause-lines c = lines_in c.args.self.groups.items
