use Rattle.std.proofs.Common.{rules, arith, ◌≡◌, ◌∙◌}
use Rattle.gd_flat.proofs.Leading.{column_within}
use Rattle.gd_points.specs.declared.table.Row.{Row}
use Rattle.gd_flat.specs.PointRows.{rows_in}
use Rattle.gd_flat.proofs.face.face_of.Goals as goal

pub coordinates_of-x-requires : goal.coordinates_of-x-requires
coordinates_of-x-requires c = column_within (λ (row : Row). row.at.x) c.args.points.now.columns.x.now (rows_in c.args.points.now) c.args.points.now.same.x (λ row within. within.x) c.args.points.now.within

pub coordinates_of-y-requires : goal.coordinates_of-y-requires
coordinates_of-y-requires c = column_within (λ (row : Row). row.at.y) c.args.points.now.columns.y.now (rows_in c.args.points.now) c.args.points.now.same.y (λ row within. within.y) c.args.points.now.within

pub coordinates_of-z-requires : goal.coordinates_of-z-requires
coordinates_of-z-requires c = column_within (λ (row : Row). row.at.z) c.args.points.now.columns.z.now (rows_in c.args.points.now) c.args.points.now.same.z (λ row within. within.z) c.args.points.now.within

pub face_with-requires-in_default-clause-first : goal.face_with-requires-in_default-clause-first
face_with-requires-in_default-clause-first c =
    let third : c.args.directions.now.lead ≡ 3 = omega (arith, c.in_default, c.requires.leads.first, c.requires.leads.last) in
    let lo : c.axis_of-in_default.result.lo ≡ c.args.directions.now.lo.x = search rules in
    let hi : c.axis_of-in_default.result.hi ≡ c.args.directions.now.hi.x = search rules in
    rw third (record { along = c.axis_of-in_default.ensures.along ∙ c.coordinates_of-x.ensures ∙ c.args.points.now.same.x; lo = lo; hi = hi })

pub face_with-requires-in_default-clause-second : goal.face_with-requires-in_default-clause-second
face_with-requires-in_default-clause-second c =
    let third : c.args.directions.now.lead ≡ 3 = omega (arith, c.in_default, c.requires.leads.first, c.requires.leads.last) in
    let lo : c.axis_of-in_default-2.result.lo ≡ c.args.directions.now.lo.y = search rules in
    let hi : c.axis_of-in_default-2.result.hi ≡ c.args.directions.now.hi.y = search rules in
    rw third (record { along = c.axis_of-in_default-2.ensures.along ∙ c.coordinates_of-y.ensures ∙ c.args.points.now.same.y; lo = lo; hi = hi })
