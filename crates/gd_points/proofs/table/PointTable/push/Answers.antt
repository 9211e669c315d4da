use Rattle.std.proofs.Common.{◌≡◌, ◌∙◌, ap, refl, ◌++◌, ℕ, List, [], ◌∷◌, map}
use Rattle.gd_points.proofs.Beside.{columns_more, kept, labels_more, pushed, rows_back}
use Rattle.gd_points.proofs.More.{table_is, table_more}
use Rattle.gd_points.specs.Columns.{AreColumns, label_of, rows_of}
use Rattle.gd_points.specs.Named.{name_in}
use Rattle.gd_points.specs.Table.{Table, number_of_name}
use Rattle.gd_points.specs.declared.table.Row.{Row}
use Rattle.gd_points.proofs.table.PointTable.push.Goals as goal

abbrev before : goal.After-push_reserved-2 → Table
before c = record { rows = rows_of c.self.inside.labels.items c.self.inside.columns.x.items c.self.inside.columns.y.items c.self.inside.columns.z.items; names = c.self.inside.names.keys }

abbrev name : goal.After-push_reserved-2 → List ℕ
name c = name_in c.self.inside.names.keys c.args.named

abbrev row : goal.After-push_reserved-2 → Row
row c = record { feature = number_of_name (before c) (name c); group = c.args.group; at = c.args.at }

labels : (c : goal.After-push_reserved-2) → c.push_reserved.new.self.items ≡ map label_of ((before c).rows ++ row c ∷ [])
labels c = labels_more c.self.inside.labels.items c.push_reserved.new.self.items (before c).rows (row c) c.self.invariant.kept
    (pushed _ _ _ _ _ _ c.push_reserved.ensures.items c.in_ok-reserve.ensures.items c.in_ok-feature.ensures.number)

columns : (c : goal.After-push_reserved-2) → AreColumns c.push_reserved-2.new.self.x.items c.push_reserved-2.new.self.y.items c.push_reserved-2.new.self.z.items ((before c).rows ++ row c ∷ [])
columns c = columns_more _ _ _ _ _ _ (before c).rows (row c) c.self.invariant.columns
    (c.push_reserved-2.ensures.x ∙ ap (λ xs. xs ++ c.args.at.x ∷ []) c.in_ok-reserve-2.ensures.x)
    (c.push_reserved-2.ensures.y ∙ ap (λ ys. ys ++ c.args.at.y ∷ []) c.in_ok-reserve-2.ensures.y)
    (c.push_reserved-2.ensures.z ∙ ap (λ zs. zs ++ c.args.at.z ∷ []) c.in_ok-reserve-2.ensures.z)

pub invariant_of-self-2 : goal.invariant_of-self-2
invariant_of-self-2 c =
    let after : Table = record { rows = (before c).rows ++ row c ∷ []; names = c.number_for.new.names.keys } in
    kept after _ _ _ _
    (table_more (before c) (row c) (name c) _ c.in_ok-feature.ensures.names c.self.invariant.table c.in_ok-feature.ensures.distinct
    c.in_ok-feature.ensures.name (rw (← c.self.view_is) at c.requires.room) refl c.requires.group c.requires.within)
    (labels c) (columns c)

pub returns-clause-ok : goal.returns-clause-ok
returns-clause-ok c = rw (← c.self.view_is) (table_is _ _ _ _ (rows_back _ _ _ _ _ (labels c) (columns c)) c.in_ok-feature.ensures.names)
