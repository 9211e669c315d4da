use Rattle.gd_cert.proofs.Numbers.{number_is}
use Rattle.gd_cert.proofs.number.read_below.Goals as goal

pub returns-clause-is : goal.returns-clause-is
returns-clause-is c = number_is c.args.limit c.args.word.now c.plain_number.result c.requires.some c.requires.few c.plain_number.ensures
