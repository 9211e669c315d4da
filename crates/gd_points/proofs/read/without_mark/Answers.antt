use Rattle.std.proofs.lemmas.Slice.Eq.{strip_prefix_is}
use Rattle.std.proofs.lemmas.Bool.Decides.{Decides-eqb}
use Rattle.gd_points.proofs.Marks.{mark-goes, mark-stays}
use Rattle.gd_points.proofs.read.without_mark.Goals as goal

pub returns-in-Some : goal.returns-in-Some
returns-in-Some c =
    let is = strip_prefix_is Decides-eqb c.args.bytes.now c.as_slice.result.now c.strip_prefix.result c.strip_prefix.ensures.cases in
    mark-goes c.args.bytes.now c.in-Some.rest.now (rw (c.in-Some.is, c.as_slice.ensures) at is)

pub returns-in-None : goal.returns-in-None
returns-in-None c =
    let other = strip_prefix_is Decides-eqb c.args.bytes.now c.as_slice.result.now c.strip_prefix.result c.strip_prefix.ensures.cases in
    mark-stays c.args.bytes.now (rw (c.in-None.is, c.as_slice.ensures) at other)
