use Rattle.std.proofs.Common.{arith}
use Rattle.csv.specs.Records.{fields_of}
use Rattle.gd_points.proofs.Fields.{five_of-fields}
use Rattle.gd_points.proofs.read.fields_in.Goals as goal

pub returns : goal.returns
returns c = five_of-fields (fields_of c.args.entry.now) _ _ _ _ _ (omega (arith, c.len.ensures)) c.field_of.ensures c.field_of-2.ensures c.field_of-3.ensures c.field_of-4.ensures c.field_of-5.ensures
