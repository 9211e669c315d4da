use Rattle.std.proofs.Common.{◌≡◌, ◌∙◌, ◌+◌, ◌++◌, ◌∷◌, [], ap, sym, arith, rules, None}
use Rattle.std.proofs.lemmas.List.{append-nil, append_assoc}
use Rattle.gd_frames.specs.Groups.{groups_from}
use Rattle.gd_datum.proofs.Listing.{no-groups, one-group}
use Rattle.gd_datum.proofs.groups.groups_of.Goals as goal

pub loop-group-preserved : goal.loop-group-preserved
loop-group-preserved c =
    let rows = c.args.index.now.table.now.rows in
    let next = one-group rows c.args.feature c.loop-group.from c.in-Some.group c.in-Some.ensures.within c.in-Some.ensures.from c.in-Some.ensures.has c.in-Some.ensures.least in
    record {
      few = omega (arith, c.in-Some.ensures.within);
      left = ap (λ xs. xs ++ groups_from (c.in-Some.group + 1) rows c.args.feature) c.in_ok-push.ensures.items
          ∙ append_assoc c.loop-group.groups.items (c.in-Some.group ∷ []) (groups_from (c.in-Some.group + 1) rows c.args.feature)
          ∙ ap (λ ys. c.loop-group.groups.items ++ ys) (sym next) ∙ c.loop-group.invariant.left;
    }

pub returns : goal.returns
returns c =
    let is : c.next_group.result ≡ None = search rules in
    let none = no-groups c.args.index.now.table.now.rows c.args.feature c.loop-group.from c.loop-group.invariant.few (c.next_group.ensures.none is) in
    sym (append-nil c.loop-group.groups.items) ∙ ap (λ ys. c.loop-group.groups.items ++ ys) (sym none) ∙ c.loop-group.invariant.left
