use Rattle.std.proofs.Common.{◌≡◌, ◌∙◌, ap, ℕ, List, length, slice_get, subst, sym}
use Rattle.std.specs.List.{All}
use Rattle.std.specs.List.Sorted.{IsNonDecreasingBy}
use Rattle.gd_base.specs.Limits.{COORDINATE}
use Rattle.gd_flat.proofs.Among.{ascending}
use Rattle.gd_flat.specs.Judged.{judged_rows}
use Rattle.gd_points.proofs.ByNumber.{rows_where}
use Rattle.gd_points.specs.Columns.{AreColumns}
use Rattle.gd_points.specs.Index.{is_of, is_of_group, passes}
use Rattle.gd_points.specs.declared.table.Row.{Row}
use Rattle.gd_vec.specs.Vector.{IsWithin}
use Rattle.gd_flat.proofs.feature.points_of.Goals as goal

pub returns-in-None-clause-ascending : goal.returns-in-None-clause-ascending
returns-in-None-clause-ascending c =
    let rows = c.args.index.now.table.now.rows in
    subst (IsNonDecreasingBy (λ (n : ℕ). n)) (sym c.points_of.ensures.all) (ascending (λ i. passes (is_of c.args.feature) (slice_get rows i)) (length rows))

pub returns-in-None-clause-columns : goal.returns-in-None-clause-columns
returns-in-None-clause-columns c =
    let rows = c.args.index.now.table.now.rows in
    let r = c.points_of.result in
    subst (λ (rs : List Row). AreColumns r.columns.x.now r.columns.y.now r.columns.z.now rs) (sym (ap (judged_rows rows) c.points_of.ensures.all ∙ rows_where (is_of c.args.feature) rows)) c.points_of.ensures.columns

pub returns-in-None-clause-within : goal.returns-in-None-clause-within
returns-in-None-clause-within c =
    let rows = c.args.index.now.table.now.rows in
    subst (All (λ (row : Row). IsWithin COORDINATE row.at)) (sym (ap (judged_rows rows) c.points_of.ensures.all ∙ rows_where (is_of c.args.feature) rows)) c.points_of.ensures.within

pub returns-in-Some-clause-ascending : goal.returns-in-Some-clause-ascending
returns-in-Some-clause-ascending c =
    let rows = c.args.index.now.table.now.rows in
    subst (IsNonDecreasingBy (λ (n : ℕ). n)) (sym c.points_of_group.ensures.all) (ascending (λ i. passes (is_of_group c.args.feature c.in-Some.group) (slice_get rows i)) (length rows))

pub returns-in-Some-clause-columns : goal.returns-in-Some-clause-columns
returns-in-Some-clause-columns c =
    let rows = c.args.index.now.table.now.rows in
    let r = c.points_of_group.result in
    subst (λ (rs : List Row). AreColumns r.columns.x.now r.columns.y.now r.columns.z.now rs) (sym (ap (judged_rows rows) c.points_of_group.ensures.all ∙ rows_where (is_of_group c.args.feature c.in-Some.group) rows)) c.points_of_group.ensures.columns

pub returns-in-Some-clause-within : goal.returns-in-Some-clause-within
returns-in-Some-clause-within c =
    let rows = c.args.index.now.table.now.rows in
    subst (All (λ (row : Row). IsWithin COORDINATE row.at)) (sym (ap (judged_rows rows) c.points_of_group.ensures.all ∙ rows_where (is_of_group c.args.feature c.in-Some.group) rows)) c.points_of_group.ensures.within
