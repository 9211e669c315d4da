use Rattle.std.proofs.Common.{◌≡◌, ◌∙◌, sym, subst, ap, true, Some, None}
use Rattle.std.specs.Option.{IfSome}
use Rattle.std.specs.Prelude.{option_map}
use Rattle.gd_bound.proofs.Chosen.{pair-is}
use Rattle.gd_bound.proofs.Firsts.{first-refutes, none-refutes}
use Rattle.gd_bound.proofs.Refuting.{refuted-is-empty}
use Rattle.gd_bound.specs.Evidence.{evidence_of, first, refuted_at, refuting_pair}
use Rattle.gd_cells.specs.declared.cell.Evidence.{Evidence}
use Rattle.gd_zone.specs.Boxes.{placed_ends}
use Rattle.gd_bound.proofs.finding.bound.Goals as goal

pub returns-in-None-clause-first : goal.returns-in-None-clause-first
returns-in-None-clause-first c =
    let r : c.refuting_pair.result ≡ refuting_pair (placed_ends c.args.placed.now) c.args.base.now c.args.subject.now.index.now.table.now.rows c.args.subject.now.condition =
    (rw (c.of-view.ensures.condition, c.of-view.ensures.index, c.of-view.ensures.base, c.of-view.ensures.placed) at c.refuting_pair.ensures)
    ∙ pair-is (placed_ends c.args.placed.now) c.args.base.now c.args.subject.now.index.now.table.now.rows c.args.subject.now.condition in
    let e : None ≡ first (placed_ends c.args.placed.now) c.args.base.now c.args.subject.now.index.now.table.now.rows c.args.subject.now.condition c.args.number = ap (option_map (evidence_of c.args.number)) (sym c.in-None.is ∙ r) in
    e

pub returns-in-None-clause-none : goal.returns-in-None-clause-none
returns-in-None-clause-none c =
    let r : c.refuting_pair.result ≡ refuting_pair (placed_ends c.args.placed.now) c.args.base.now c.args.subject.now.index.now.table.now.rows c.args.subject.now.condition =
    (rw (c.of-view.ensures.condition, c.of-view.ensures.index, c.of-view.ensures.base, c.of-view.ensures.placed) at c.refuting_pair.ensures)
    ∙ pair-is (placed_ends c.args.placed.now) c.args.base.now c.args.subject.now.index.now.table.now.rows c.args.subject.now.condition in
    let e : None ≡ first (placed_ends c.args.placed.now) c.args.base.now c.args.subject.now.index.now.table.now.rows c.args.subject.now.condition c.args.number = ap (option_map (evidence_of c.args.number)) (sym c.in-None.is ∙ r) in
    λ _ z. none-refutes (placed_ends c.args.placed.now) c.args.base.now c.args.subject.now.index.now.table.now.rows c.args.subject.now.condition c.args.number z c.requires.condition (sym e)

pub returns-in-Some-clause-first : goal.returns-in-Some-clause-first
returns-in-Some-clause-first c =
    let r : c.refuting_pair.result ≡ refuting_pair (placed_ends c.args.placed.now) c.args.base.now c.args.subject.now.index.now.table.now.rows c.args.subject.now.condition =
    (rw (c.of-view.ensures.condition, c.of-view.ensures.index, c.of-view.ensures.base, c.of-view.ensures.placed) at c.refuting_pair.ensures)
    ∙ pair-is (placed_ends c.args.placed.now) c.args.base.now c.args.subject.now.index.now.table.now.rows c.args.subject.now.condition in
    let x : Evidence = evidence_of c.args.number c.in-Some.pair in
    let e : Some x ≡ first (placed_ends c.args.placed.now) c.args.base.now c.args.subject.now.index.now.table.now.rows c.args.subject.now.condition c.args.number = ap (option_map (evidence_of c.args.number)) (sym c.in-Some.is ∙ r) in
    e

pub returns-in-Some-clause-refuted : goal.returns-in-Some-clause-refuted
returns-in-Some-clause-refuted c =
    let r : c.refuting_pair.result ≡ refuting_pair (placed_ends c.args.placed.now) c.args.base.now c.args.subject.now.index.now.table.now.rows c.args.subject.now.condition =
    (rw (c.of-view.ensures.condition, c.of-view.ensures.index, c.of-view.ensures.base, c.of-view.ensures.placed) at c.refuting_pair.ensures)
    ∙ pair-is (placed_ends c.args.placed.now) c.args.base.now c.args.subject.now.index.now.table.now.rows c.args.subject.now.condition in
    let x : Evidence = evidence_of c.args.number c.in-Some.pair in
    let e : Some x ≡ first (placed_ends c.args.placed.now) c.args.base.now c.args.subject.now.index.now.table.now.rows c.args.subject.now.condition c.args.number = ap (option_map (evidence_of c.args.number)) (sym c.in-Some.is ∙ r) in
    let t : IfSome (Some x) (λ z. refuted_at (placed_ends c.args.placed.now) c.args.base.now c.args.subject.now.index.now.table.now.rows c.args.subject.now.condition z ≡ true) =
    subst (λ o. IfSome o (λ z. refuted_at (placed_ends c.args.placed.now) c.args.base.now c.args.subject.now.index.now.table.now.rows c.args.subject.now.condition z ≡ true)) (sym e)
    (first-refutes (placed_ends c.args.placed.now) c.args.base.now c.args.subject.now.index.now.table.now.rows c.args.subject.now.condition c.args.number c.requires.condition) in
    t

pub returns-in-Some-clause-unmet : goal.returns-in-Some-clause-unmet
returns-in-Some-clause-unmet c =
    let r : c.refuting_pair.result ≡ refuting_pair (placed_ends c.args.placed.now) c.args.base.now c.args.subject.now.index.now.table.now.rows c.args.subject.now.condition =
    (rw (c.of-view.ensures.condition, c.of-view.ensures.index, c.of-view.ensures.base, c.of-view.ensures.placed) at c.refuting_pair.ensures)
    ∙ pair-is (placed_ends c.args.placed.now) c.args.base.now c.args.subject.now.index.now.table.now.rows c.args.subject.now.condition in
    let x : Evidence = evidence_of c.args.number c.in-Some.pair in
    let e : Some x ≡ first (placed_ends c.args.placed.now) c.args.base.now c.args.subject.now.index.now.table.now.rows c.args.subject.now.condition c.args.number = ap (option_map (evidence_of c.args.number)) (sym c.in-Some.is ∙ r) in
    let t : IfSome (Some x) (λ z. refuted_at (placed_ends c.args.placed.now) c.args.base.now c.args.subject.now.index.now.table.now.rows c.args.subject.now.condition z ≡ true) =
    subst (λ o. IfSome o (λ z. refuted_at (placed_ends c.args.placed.now) c.args.base.now c.args.subject.now.index.now.table.now.rows c.args.subject.now.condition z ≡ true)) (sym e)
    (first-refutes (placed_ends c.args.placed.now) c.args.base.now c.args.subject.now.index.now.table.now.rows c.args.subject.now.condition c.args.number c.requires.condition) in
    refuted-is-empty c.args.placed.now c.args.base.now c.args.subject.now.index.now.table.now.rows c.args.subject.now.condition x c.requires.condition t
