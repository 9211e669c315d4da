use Rattle.std.proofs.Common.{rules, arith, refl, sym, ap, ◌≡◌, append-nil, length, drop, suc, ◌<◌, Some, None}
use Rattle.gd_search.specs.Lines.{left_of}
use Rattle.gd_cells.specs.declared.node.Node.TheVariants.{Split}
use Rattle.gd_search.proofs.Writing.{lines-joined, written-split}
use Rattle.gd_search.proofs.tree.+write_cell.Goals as goal

pub returns-in-None-clause-lines : goal.returns-in-None-clause-lines
returns-in-None-clause-lines t c =
    let n : length c.args.levels.now ≡ suc (length c.in-Some.below.now) = omega (arith, c.in-Some.ensures.cases.1) in
    rw (n, ap left_of c.in-Some.ensures.cases.0, c.in-None.ensures.0) (sym (append-nil c.args.lines.now.items))

pub returns-in-None-clause-rest : goal.returns-in-None-clause-rest
returns-in-None-clause-rest t c =
    let n : length c.args.levels.now ≡ suc (length c.in-Some.below.now) = omega (arith, c.in-Some.ensures.cases.1) in
    rw (n, ap left_of c.in-Some.ensures.cases.0, c.in-None.ensures.0, c.in-None.ensures.1) refl

pub returns-in_ok-push-in-Some-Some-clause-lines : goal.returns-in_ok-push-in-Some-Some-clause-lines
returns-in_ok-push-in-Some-Some-clause-lines t c =
    let n : length c.args.levels.now ≡ suc (length c.in-Some.below.now) = omega (arith, c.in-Some.ensures.cases.1) in
    let f : c.in-Some-Some.field-0 ≡ Some c.in-Some-Some.evidence = search rules in
    rw (n, ap left_of c.in-Some.ensures.cases.0, c.in-Some-Some.ensures, f) c.in_ok-push-in-Some-Some.ensures.items

pub returns-in_ok-push-in-Some-Some-clause-rest : goal.returns-in_ok-push-in-Some-Some-clause-rest
returns-in_ok-push-in-Some-Some-clause-rest t c =
    let n : length c.args.levels.now ≡ suc (length c.in-Some.below.now) = omega (arith, c.in-Some.ensures.cases.1) in
    let f : c.in-Some-Some.field-0 ≡ Some c.in-Some-Some.evidence = search rules in
    rw (n, ap left_of c.in-Some.ensures.cases.0, c.in-Some-Some.ensures, f) refl

pub returns-in_ok-push-in-Some-None-clause-lines : goal.returns-in_ok-push-in-Some-None-clause-lines
returns-in_ok-push-in-Some-None-clause-lines t c =
    let n : length c.args.levels.now ≡ suc (length c.in-Some.below.now) = omega (arith, c.in-Some.ensures.cases.1) in
    let f : c.in-Some-None.field-0 ≡ None = search rules in
    let z : length c.in-Some.below.now ≡ 0 = search rules in
    rw (n, ap left_of c.in-Some.ensures.cases.0, c.in-Some-None.ensures, f, z) c.in_ok-push-in-Some-None.ensures.items

pub returns-in_ok-write_cell-in-Some-None-2-clause-lines : goal.returns-in_ok-write_cell-in-Some-None-2-clause-lines
returns-in_ok-write_cell-in-Some-None-2-clause-lines t c =
    let n : length c.args.levels.now ≡ suc (length c.in-Some.below.now) = omega (arith, c.in-Some.ensures.cases.1) in
    let f : c.in-Some-None.field-0 ≡ None = search rules in
    let k : length c.write_cell.new.levels ≡ length c.in-Some.below.now = search rules in
    let some : 0 < length c.in-Some.below.now = search rules in
    rw (
      n,
      ap left_of c.in-Some.ensures.cases.0,
      c.in-Some-None.ensures,
      f,
      written-split (length c.in-Some.below.now) (drop c.take_next.new.level.next c.take_next.new.level.found.items) (left_of c.in-Some.below.now) some,
      c.in_ok-write_cell-in-Some-None-2.ensures.lines,
      c.in_ok-write_cell-in-Some-None.ensures.lines,
      c.in_ok-write_cell-in-Some-None.ensures.rest,
      c.in_ok-push-in-Some-None-2.ensures.items,
      k,
    ) (lines-joined _ Split _ _)

pub returns-in_ok-write_cell-in-Some-None-2-clause-rest : goal.returns-in_ok-write_cell-in-Some-None-2-clause-rest
returns-in_ok-write_cell-in-Some-None-2-clause-rest t c =
    let n : length c.args.levels.now ≡ suc (length c.in-Some.below.now) = omega (arith, c.in-Some.ensures.cases.1) in
    let f : c.in-Some-None.field-0 ≡ None = search rules in
    let k : length c.write_cell.new.levels ≡ length c.in-Some.below.now = search rules in
    let some : 0 < length c.in-Some.below.now = search rules in
    rw (
      n,
      ap left_of c.in-Some.ensures.cases.0,
      c.in-Some-None.ensures,
      f,
      written-split (length c.in-Some.below.now) (drop c.take_next.new.level.next c.take_next.new.level.found.items) (left_of c.in-Some.below.now) some,
      c.in_ok-write_cell-in-Some-None-2.ensures.rest,
      c.in_ok-write_cell-in-Some-None.ensures.rest,
      k,
    ) refl
