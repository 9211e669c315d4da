use Rattle.std.proofs.Common.{arith}
use Rattle.std.proofs.lemmas.Grind.{common_steps}
use Rattle.gd_cert.specs.Certificates.{certificate_of}
use Rattle.gd_cert.proofs.Writing.{whole_text}
use Rattle.gd_cert.proofs.write.write_cert.Goals as goal

pub returns : goal.returns
returns c =
    let e = whole_text (certificate_of c.args.cert.now) in
    grind (arith, common_steps, e)
