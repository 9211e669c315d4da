use Rattle.std.proofs.Common.{rules, FitsSigned, ◌≡◌, ◌∙◌, sym, subst, ap, ℕ, List, [], map}
use Rattle.std.proofs.lemmas.Int.{to_z-of_z}
use Rattle.std.specs.Int.{w64, w128}
use Rattle.gd_points.specs.Index.{numbers_where}
use Rattle.gd_quat.specs.Formulas.{Ends, ends}
use Rattle.gd_zone.specs.Boxes.{placed_ends}
use Rattle.gd_zone.specs.Conditions.{belongs, is_of_feature, length2_of}
use Rattle.gd_zone.specs.Extremes.{AreExtremes, at_widest, ends_by}
use Rattle.gd_zone.specs.Tests.{is_at_most}
use Rattle.gd_zone.specs.declared.condition.Surface.{Surface}
use Rattle.gd_zone.proofs.Pairs.{spread-holds, spread-of-none}
use Rattle.gd_zone.proofs.holding.spread_holds.Goals as goal

pub returns-in-None : goal.returns-in-None
returns-in-None c =
    let f : ℕ → Ends = ends_by (placed_ends c.args.view.now.placed.now) c.args.view.now.base.now c.args.view.now.subject.now.condition c.args.view.now.subject.now.index.now.table.now.rows in
    let s : Surface = c.args.view.now.subject.now.condition.surface in
    let ns : List ℕ = numbers_where (belongs c.args.view.now.subject.now.condition) c.args.view.now.subject.now.index.now.table.now.rows in
    let ms : List ℕ = numbers_where (is_of_feature c.args.view.now.subject.now.condition) c.args.view.now.subject.now.index.now.table.now.rows in
    let n : c.points.result.now ≡ [] = search rules in
    spread-of-none s c.args.t (map f ns) (map f ms) (ap (map f) (sym c.points.ensures.all ∙ n))

pub returns-in-Some : goal.returns-in-Some
returns-in-Some c =
    let f : ℕ → Ends = ends_by (placed_ends c.args.view.now.placed.now) c.args.view.now.base.now c.args.view.now.subject.now.condition c.args.view.now.subject.now.index.now.table.now.rows in
    let s : Surface = c.args.view.now.subject.now.condition.surface in
    let ns : List ℕ = numbers_where (belongs c.args.view.now.subject.now.condition) c.args.view.now.subject.now.index.now.table.now.rows in
    let ms : List ℕ = numbers_where (is_of_feature c.args.view.now.subject.now.condition) c.args.view.now.subject.now.index.now.table.now.rows in
    let x = c.in-Some.x in
    let u : FitsSigned w128 c.in-Some.x.greatest.hi = search rules in
    let v : FitsSigned w128 c.in-Some.x.least.lo = search rules in
    let w : FitsSigned w64 c.args.t = search rules in
    let e : c.passes_at_most.result ≡ is_at_most (at_widest s c.in-Some.x.greatest.hi c.in-Some.x.least.lo) c.args.t (length2_of s) = rw (to_z-of_z w128 c.in-Some.x.greatest.hi u, to_z-of_z w128 c.in-Some.x.least.lo v, to_z-of_z w64 c.args.t w) at c.passes_at_most.ensures in
    let a : AreExtremes (map f ns) (ends x.least) (ends x.greatest) = subst (λ z. AreExtremes (map f z) (ends x.least) (ends x.greatest)) c.points.ensures.all c.in-Some.ensures.some in
    e ∙ spread-holds s c.args.t (map f ns) (map f ms) (ends x.least) (ends x.greatest) a
