use Rattle.std.proofs.Common.{Bor, List, ℕ}
use Rattle.csv.specs.Records.{fields_of}
use Rattle.gd_points.proofs.Fields.{field_at-some, some_of_map}
use Rattle.gd_points.proofs.read.field_of.Goals as goal

pub unwrap-requires : goal.unwrap-requires
unwrap-requires c = some_of_map (λ (s : Bor (List ℕ)). s.now) c.get.result (rw c.get.ensures.value (field_at-some (fields_of c.args.entry.now) c.args.at c.requires))
