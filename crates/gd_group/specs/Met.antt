-- For the proof, and cited by private functions alone: the groups that points had so far.
use Rattle.std.specs.Prelude.{ℕ, ◌≡◌, ◌≤◌, false, List, length, nat_eq, get_or, Option, Some, None}
use Rattle.std.specs.List.{list_any}
use Rattle.gd_base.specs.Limits.{GROUP}
use Rattle.gd_group.specs.Requirements.{first_ones}
use Rattle.gd_group.specs.declared.sections.Met.{Met}
use Rattle.gd_points.specs.declared.table.Row.{Row}

-- a flag tells of each group whether it's one of these, and each of them is listed once
pub record HasMet (groups : List ℕ) (met : Met) : Type 0 where
  pub room : length met.flags.items ≡ 1000
  pub flags : (group : ℕ) → group ≤ GROUP → get_or met.flags.items group false ≡ list_any (nat_eq group) groups
  pub sections : met.sections.items ≡ first_ones groups

-- the group of a row, and 0 where there is none
abbrev pub group_in : Option Row → ℕ
group_in None = 0
group_in (Some row) = row.group
