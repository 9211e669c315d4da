use Rattle.gd_points.proofs.Again.{names_again, number_again}
use Rattle.gd_points.proofs.table.number_for.Goals as goal

pub returns-in-Again-clause-number : goal.returns-in-Again-clause-number
returns-in-Again-clause-number c =
    let less = c.requires.named in
    rw c.in-Again.is (number_again c.args.names.now.keys c.in-Again.feature c.requires.distinct (rw c.in-Again.is at less))

pub returns-in-Again-clause-names : goal.returns-in-Again-clause-names
returns-in-Again-clause-names c =
    let less = c.requires.named in
    rw c.in-Again.is (names_again c.args.names.now.keys c.in-Again.feature (rw c.in-Again.is at less))
