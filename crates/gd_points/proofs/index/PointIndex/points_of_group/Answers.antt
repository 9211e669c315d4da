use Rattle.std.proofs.Common.{◌≡◌, ◌<◌, length, refl, rules, sym, subst, map}
use Rattle.std.specs.List.{All}
use Rattle.std.proofs.lemmas.List.Elements.{All-filter}
use Rattle.gd_base.specs.Limits.{COORDINATE}
use Rattle.gd_points.proofs.ByNumber.{columns_where}
use Rattle.gd_points.proofs.Ordered.{all_below, found_group}
use Rattle.gd_points.specs.Columns.{label_of}
use Rattle.gd_points.specs.Index.{is_of_group, numbers_where}
use Rattle.gd_points.specs.declared.table.Row.{Row}
use Rattle.gd_vec.specs.Vector.{IsWithin}
use Rattle.gd_points.proofs.index.PointIndex.points_of_group.Goals as goal

found : (c : goal.After-with_key) → c.with_key.result.numbers.now ≡ numbers_where (is_of_group c.args.feature c.args.group) c.args.self.now.table.now.rows
found c =
    let rows = c.args.self.now.table.now.rows in
    found_group rows (map label_of rows) c.args.feature c.args.group c.key_of-key.result c.with_key.result.numbers.now refl c.with_key.ensures.groups (search rules) c.key_of-key.ensures c.with_key.ensures.numbers

pub returns-clause-all : goal.returns-clause-all
returns-clause-all c = found c

pub returns-clause-below : goal.returns-clause-below
returns-clause-below c =
    let rows = c.args.self.now.table.now.rows in
    subst (All (λ i. i < length rows)) (sym (found c)) (all_below (is_of_group c.args.feature c.args.group) rows)

pub returns-clause-columns : goal.returns-clause-columns
returns-clause-columns c = columns_where (is_of_group c.args.feature c.args.group) c.args.self.now.table.now.rows _ _ _ c.with_key.result.numbers.now (found c) c.with_key.ensures.columns

pub returns-clause-within : goal.returns-clause-within
returns-clause-within c = All-filter (is_of_group c.args.feature c.args.group) (λ (row : Row). IsWithin COORDINATE row.at) c.args.self.now.table.now.rows c.with_key.ensures.within
