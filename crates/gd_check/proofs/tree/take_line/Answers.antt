use Rattle.std.proofs.Common.{rules, ◌≡◌, None, Some, length, sym, ap, ◌∙◌, subst, option_map}
use Rattle.std.proofs.lemmas.List.Elements.{All-pop}
use Rattle.gd_cells.specs.Grid.{IsCell}
use Rattle.gd_cells.specs.Meaning.{Questions}
use Rattle.gd_check.proofs.Waiting.{above_cell, line_breaks, line_keeps, low_cell, no_cell}
use Rattle.gd_check.specs.Rules.{code_of}
use Rattle.gd_check.specs.Wrong.{kind_of, line_code}
use Rattle.gd_check.proofs.tree.take_line.Goals as goal

pub returns-in_default-clause-line : goal.returns-in_default-clause-line
returns-in_default-clause-line g c =
    let q : Questions = g.T.Task.questions c.args.task.now in
    let none : length c.args.waiting.now.items ≡ 0 = search rules in
    λ line nodes. no_cell q (kind_of c.args.tree_of) c.args.waiting.now.items none line c.args.node.now nodes

pub wait_after-requires-clause-above : goal.wait_after-requires-clause-above
wait_after-requires-clause-above g c =
    let q : Questions = g.T.Task.questions c.args.task.now in
    let cell : IsCell q.grid c.in-Some.cell = (All-pop (IsCell q.grid) c.args.waiting.now.items c.pop.new.self.items (Some c.in-Some.cell) c.in-Some.ensures.items c.requires).1 in
    let code : line_code q (kind_of c.args.tree_of) c.in-Some.cell c.args.node.now ≡ None = sym c.broken_rule.ensures ∙ ap (option_map code_of) c.in-None.is in
    λ κs within split. above_cell q (kind_of c.args.tree_of) c.in-Some.cell (low_cell q c.in-Some.cell cell) (subst (λ node. line_code q (kind_of c.args.tree_of) c.in-Some.cell node ≡ None) split code)

pub returns-in-Some-broken_rule-clause-line : goal.returns-in-Some-broken_rule-clause-line
returns-in-Some-broken_rule-clause-line g c =
    let q : Questions = g.T.Task.questions c.args.task.now in
    line_breaks q (kind_of c.args.tree_of) c.args.waiting.now.items c.pop.new.self.items c.in-Some.cell c.args.node.now (code_of c.in-Some-broken_rule.rule) c.in-Some.ensures.items
    (sym c.broken_rule.ensures ∙ ap (option_map code_of) c.in-Some-broken_rule.is)

pub returns-in_ok-wait_after-in-None-clause-line : goal.returns-in_ok-wait_after-in-None-clause-line
returns-in_ok-wait_after-in-None-clause-line g c =
    let q : Questions = g.T.Task.questions c.args.task.now in
    line_keeps q (kind_of c.args.tree_of) c.args.waiting.now.items c.pop.new.self.items c.wait_after.new.waiting.items c.in-Some.cell c.args.node.now c.in-Some.ensures.items
    (sym c.broken_rule.ensures ∙ ap (option_map code_of) c.in-None.is) c.in_ok-wait_after-in-None.ensures.after
