use Rattle.std.proofs.Common.{◌≡◌, map, take}
use Rattle.gd_report.specs.JsonData.{group_data}
use Rattle.serde_json.specs.View.{view}
use Rattle.gd_report.proofs.as_json.group_values.Given as goal

abbrev pub invariant-loop-group : goal.invariant-loop-group
invariant-loop-group l = map view l.values.items ≡ map group_data (take l.group-index l.groups)
