use Rattle.std.proofs.Common.{arith, ◌≡◌, ◌≢◌, ◌≤◌, ◌<◌, ◌+◌, ap, ◌∙◌, sym, rules, subst, below_more, ℕ, None, Some, option_map, List, [], ◌∷◌, ◌++◌, length, map, filter, find}
use Rattle.std.specs.List.{All, flat_map}
use Rattle.gd_cells.specs.Grid.{IsCell, count_from}
use Rattle.gd_cells.specs.Halves.{whole_root}
use Rattle.gd_cells.specs.Meaning.{Questions}
use Rattle.gd_search.proofs.Forest.{kept}
use Rattle.gd_search.proofs.Rows.{above_of_judged, cells_of_fresh, cells_of_judged, next_are, open_counted}
use Rattle.gd_verdict.proofs.Levels.{candidates, candidates-suc, candidates-zero, candidates_at, halves_left, next_counted}
use Rattle.std.proofs.lemmas.List.{length-map}
use Rattle.std.proofs.lemmas.Simd.{map-map}
use Rattle.gd_verdict.proofs.Ends.{rejected_is}
use Rattle.gd_search.proofs.Steps.{bounded, end_there, if_ok, kept_there, leaves_there, spent_there}
use Rattle.gd_search.specs.Lines.{left_of, written_roots}
use Rattle.gd_search.specs.Outcomes.{end_of}
use Rattle.gd_search.specs.Rows.{fresh, is_open, judged, rows_below}
use Rattle.gd_search.specs.Stops.{end_of_stop}
use Rattle.gd_verdict.specs.Verdict.{IsVerdict, end_at, end_with}
use Rattle.gd_cells.specs.declared.node.Node.{Node}
use Rattle.gd_search.specs.declared.row.Row.{Row}
use Rattle.gd_search.specs.declared.judge.Place.{Place}
use Rattle.gd_search.proofs.judge.search_levels.Goals as goal

pub levels-init : goal.levels-init
levels-init g c =
    let q : Questions = g.T.Task.questions c.args.task.now in
    let e : c.in_ok-rows.rows.items ≡ map fresh (candidates q 0) =
    c.in_ok-rows.ensures.rows ∙ ap (λ n. map (λ r. fresh (whole_root r)) (count_from 1 n)) c.roots-roots.ensures ∙ sym (map-map fresh whole_root (count_from 1 q.grid.roots)) ∙ sym (ap (map fresh) (candidates-zero q)) in
    record {
      rows = e;
      kept = ap left_of c.new-levels.ensures.items;
      count = ap length c.new-levels.ensures.items;
      spent = search rules;
      within = omega arith;
      few = omega (arith, c.in_ok-rows.ensures.count, c.roots-roots.ensures, (c.show_laws.ensures c.args.task.now).is_grid.few_roots);
      level = omega arith;
      before = λ m h. absurd (omega arith);
    }

pub bound_level-requires-clause-cells : goal.bound_level-requires-clause-cells
bound_level-requires-clause-cells g c κs within =
    let q : Questions = g.T.Task.questions c.args.task.now in
    let low : c.levels.place.level ≤ q.grid.finest = omega (arith, c.levels.invariant.level, c.finest_level-finest.ensures) in
    subst (λ rows. All (λ (row : Row). IsCell q.grid row.cell) rows) (sym c.levels.invariant.rows) (cells_of_fresh q c.levels.place.level (candidates q c.levels.place.level) (candidates_at q (c.show_laws.ensures c.args.task.now).is_grid c.levels.place.level low))

pub first_witness-holding-requires-after_bounds : goal.first_witness-holding-requires-after_bounds
first_witness-holding-requires-after_bounds g c κs within =
    let q : Questions = g.T.Task.questions c.args.task.now in
    let low : c.levels.place.level ≤ q.grid.finest = omega (arith, c.levels.invariant.level, c.finest_level-finest.ensures) in
    let r : c.bound_level.new.rows.items ≡ bounded q c.levels.place.level = c.bound_level.ensures ∙ ap (map (judged q)) c.levels.invariant.rows in
    subst (λ rows. All (λ (row : Row). IsCell q.grid row.cell) rows) (sym (c.as_slice-in-levels-2.ensures.value ∙ r)) (cells_of_judged q c.levels.place.level (candidates q c.levels.place.level) (candidates_at q (c.show_laws.ensures c.args.task.now).is_grid c.levels.place.level low))

pub finish-requires-clause-leaves : goal.finish-requires-clause-leaves
finish-requires-clause-leaves g c =
    let q : Questions = g.T.Task.questions c.args.task.now in
    let l : ℕ = c.levels.place.level in
    let low : c.levels.place.level ≤ q.grid.finest = omega (arith, c.levels.invariant.level, c.finest_level-finest.ensures) in
    let rows : List Row = c.bound_level.new.rows.items in
    let r : c.bound_level.new.rows.items ≡ bounded q c.levels.place.level = c.bound_level.ensures ∙ ap (map (judged q)) c.levels.invariant.rows in
    let counts : c.count_undecided.result ≡ length (filter is_open c.bound_level.new.rows.items) = c.count_undecided.ensures.count ∙ ap (λ rows. length (filter is_open rows)) c.as_slice-in-levels.ensures.value in
    let has : left_of c.keep_level.new.levels.items ≡ kept q (c.levels.place.level + 1) =
    kept_there q c.levels.place.level c.bound_level.new.rows.items (left_of c.levels.levels.items) (left_of c.keep_level.new.levels.items) r c.levels.invariant.kept
    (c.in_ok-keep_level.ensures.kept ∙ ap (λ rows. left_of c.levels.levels.items ++ map (λ (row : Row). row.found) rows ∷ []) c.as_slice.ensures.value) in
    let size : length c.keep_level.new.levels.items ≡ c.levels.place.level + 1 = omega (arith, c.in_ok-keep_level.ensures.count, c.levels.invariant.count) in
    let held : c.first_witness-holding.result ≡ option_map (λ (row : Row). q.tests.centre row.cell) (find (λ row. row.holds) c.bound_level.new.rows.items) =
    c.first_witness-holding.ensures ∙ ap (λ rows. option_map (λ (row : Row). q.tests.centre row.cell) (find (λ row. row.holds) rows)) c.as_slice-in-levels-2.ensures.value in
    let lines : List Node = written_roots c.roots-roots.result (length c.keep_level.new.levels.items) (left_of c.keep_level.new.levels.items) in
    let place : Place = record { level = c.levels.place.level; undecided = c.count_undecided.result; spent = c.levels.place.spent } in
    let e : end_with c.first_witness-holding.result lines c.levels.place.level c.count_undecided.result c.levels.place.spent c.roots-roots.result c.finest_level-finest.result c.args.budget ≡ end_at q c.args.budget c.levels.place.level =
    end_there q (c.show_laws.ensures c.args.task.now).is_grid c.args.budget c.levels.place.level low c.bound_level.new.rows.items r (left_of c.keep_level.new.levels.items) has c.first_witness-holding.result held
    c.count_undecided.result c.levels.place.spent c.roots-roots.result c.finest_level-finest.result (length c.keep_level.new.levels.items) counts c.levels.invariant.spent c.roots-roots.ensures c.finest_level-finest.ensures size in
    λ is.
    let none : c.count_undecided.result ≡ 0 =
    rejected_is c.first_witness-holding.result lines c.levels.place.level c.count_undecided.result c.levels.place.spent c.roots-roots.result c.finest_level-finest.result c.args.budget _ lines
    (sym (c.stop_at.ensures.rules lines c.roots-roots.result) ∙ ap (option_map (end_of_stop place lines c.roots-roots.result)) (c.in-Some.is ∙ ap Some is)) in
    leaves_there q (c.show_laws.ensures c.args.task.now).is_grid c.levels.place.level low c.bound_level.new.rows.items r (left_of c.keep_level.new.levels.items) has
    c.count_undecided.result c.levels.place.spent c.roots-roots.result (length c.keep_level.new.levels.items) counts c.levels.invariant.spent c.roots-roots.ensures size none

pub returns-in-Some : goal.returns-in-Some
returns-in-Some g c =
    let q : Questions = g.T.Task.questions c.args.task.now in
    let l : ℕ = c.levels.place.level in
    let low : c.levels.place.level ≤ q.grid.finest = omega (arith, c.levels.invariant.level, c.finest_level-finest.ensures) in
    let rows : List Row = c.bound_level.new.rows.items in
    let r : c.bound_level.new.rows.items ≡ bounded q c.levels.place.level = c.bound_level.ensures ∙ ap (map (judged q)) c.levels.invariant.rows in
    let counts : c.count_undecided.result ≡ length (filter is_open c.bound_level.new.rows.items) = c.count_undecided.ensures.count ∙ ap (λ rows. length (filter is_open rows)) c.as_slice-in-levels.ensures.value in
    let has : left_of c.keep_level.new.levels.items ≡ kept q (c.levels.place.level + 1) =
    kept_there q c.levels.place.level c.bound_level.new.rows.items (left_of c.levels.levels.items) (left_of c.keep_level.new.levels.items) r c.levels.invariant.kept
    (c.in_ok-keep_level.ensures.kept ∙ ap (λ rows. left_of c.levels.levels.items ++ map (λ (row : Row). row.found) rows ∷ []) c.as_slice.ensures.value) in
    let size : length c.keep_level.new.levels.items ≡ c.levels.place.level + 1 = omega (arith, c.in_ok-keep_level.ensures.count, c.levels.invariant.count) in
    let held : c.first_witness-holding.result ≡ option_map (λ (row : Row). q.tests.centre row.cell) (find (λ row. row.holds) c.bound_level.new.rows.items) =
    c.first_witness-holding.ensures ∙ ap (λ rows. option_map (λ (row : Row). q.tests.centre row.cell) (find (λ row. row.holds) rows)) c.as_slice-in-levels-2.ensures.value in
    let lines : List Node = written_roots c.roots-roots.result (length c.keep_level.new.levels.items) (left_of c.keep_level.new.levels.items) in
    let place : Place = record { level = c.levels.place.level; undecided = c.count_undecided.result; spent = c.levels.place.spent } in
    let e : end_with c.first_witness-holding.result lines c.levels.place.level c.count_undecided.result c.levels.place.spent c.roots-roots.result c.finest_level-finest.result c.args.budget ≡ end_at q c.args.budget c.levels.place.level =
    end_there q (c.show_laws.ensures c.args.task.now).is_grid c.args.budget c.levels.place.level low c.bound_level.new.rows.items r (left_of c.keep_level.new.levels.items) has c.first_witness-holding.result held
    c.count_undecided.result c.levels.place.spent c.roots-roots.result c.finest_level-finest.result (length c.keep_level.new.levels.items) counts c.levels.invariant.spent c.roots-roots.ensures c.finest_level-finest.ensures size in
    if_ok (λ o. end_of o ≡ end_of_stop place lines c.roots-roots.result c.in-Some.stop) (λ o. IsVerdict q c.args.budget (end_of o))
    (λ o told. (
      c.levels.place.level,
      c.levels.invariant.before,
      sym e ∙ sym (c.stop_at.ensures.rules lines c.roots-roots.result) ∙ ap (option_map (end_of_stop place lines c.roots-roots.result)) c.in-Some.is ∙ ap Some (sym told),
    ))
    c.finish.result c.finish.ensures

pub half_rows-requires-clause-cells : goal.half_rows-requires-clause-cells
half_rows-requires-clause-cells g c κs within =
    let q : Questions = g.T.Task.questions c.args.task.now in
    let low : c.levels.place.level ≤ q.grid.finest = omega (arith, c.levels.invariant.level, c.finest_level-finest.ensures) in
    let r : c.bound_level.new.rows.items ≡ bounded q c.levels.place.level = c.bound_level.ensures ∙ ap (map (judged q)) c.levels.invariant.rows in
    subst (λ rows. All (λ (row : Row). IsCell q.grid row.cell) rows) (sym (c.as_slice-in-levels-3.ensures.value ∙ r)) (cells_of_judged q c.levels.place.level (candidates q c.levels.place.level) (candidates_at q (c.show_laws.ensures c.args.task.now).is_grid c.levels.place.level low))

pub half_rows-requires-clause-above : goal.half_rows-requires-clause-above
half_rows-requires-clause-above g c κs within =
    let q : Questions = g.T.Task.questions c.args.task.now in
    let low : c.levels.place.level ≤ q.grid.finest = omega (arith, c.levels.invariant.level, c.finest_level-finest.ensures) in
    let r : c.bound_level.new.rows.items ≡ bounded q c.levels.place.level = c.bound_level.ensures ∙ ap (map (judged q)) c.levels.invariant.rows in
    let ne : c.levels.place.level ≢ c.finest_level-finest.result = c.in-None.ensures.level (search rules) in
    let above : c.levels.place.level < q.grid.finest = (let lv : c.levels.place.level ≤ c.finest_level-finest.result = c.levels.invariant.level in omega (arith, c.finest_level-finest.ensures)) in
    subst (λ rows. All (λ (row : Row). row.cell.level < q.grid.finest) rows) (sym (c.as_slice-in-levels-3.ensures.value ∙ r)) (above_of_judged q c.levels.place.level (candidates q c.levels.place.level) above (candidates_at q (c.show_laws.ensures c.args.task.now).is_grid c.levels.place.level low))

pub levels-preserved : goal.levels-preserved
levels-preserved g c =
    let q : Questions = g.T.Task.questions c.args.task.now in
    let l : ℕ = c.levels.place.level in
    let low : c.levels.place.level ≤ q.grid.finest = omega (arith, c.levels.invariant.level, c.finest_level-finest.ensures) in
    let rows : List Row = c.bound_level.new.rows.items in
    let r : c.bound_level.new.rows.items ≡ bounded q c.levels.place.level = c.bound_level.ensures ∙ ap (map (judged q)) c.levels.invariant.rows in
    let counts : c.count_undecided.result ≡ length (filter is_open c.bound_level.new.rows.items) = c.count_undecided.ensures.count ∙ ap (λ rows. length (filter is_open rows)) c.as_slice-in-levels.ensures.value in
    let has : left_of c.keep_level.new.levels.items ≡ kept q (c.levels.place.level + 1) =
    kept_there q c.levels.place.level c.bound_level.new.rows.items (left_of c.levels.levels.items) (left_of c.keep_level.new.levels.items) r c.levels.invariant.kept
    (c.in_ok-keep_level.ensures.kept ∙ ap (λ rows. left_of c.levels.levels.items ++ map (λ (row : Row). row.found) rows ∷ []) c.as_slice.ensures.value) in
    let size : length c.keep_level.new.levels.items ≡ c.levels.place.level + 1 = omega (arith, c.in_ok-keep_level.ensures.count, c.levels.invariant.count) in
    let held : c.first_witness-holding.result ≡ option_map (λ (row : Row). q.tests.centre row.cell) (find (λ row. row.holds) c.bound_level.new.rows.items) =
    c.first_witness-holding.ensures ∙ ap (λ rows. option_map (λ (row : Row). q.tests.centre row.cell) (find (λ row. row.holds) rows)) c.as_slice-in-levels-2.ensures.value in
    let lines : List Node = written_roots c.roots-roots.result (length c.keep_level.new.levels.items) (left_of c.keep_level.new.levels.items) in
    let place : Place = record { level = c.levels.place.level; undecided = c.count_undecided.result; spent = c.levels.place.spent } in
    let e : end_with c.first_witness-holding.result lines c.levels.place.level c.count_undecided.result c.levels.place.spent c.roots-roots.result c.finest_level-finest.result c.args.budget ≡ end_at q c.args.budget c.levels.place.level =
    end_there q (c.show_laws.ensures c.args.task.now).is_grid c.args.budget c.levels.place.level low c.bound_level.new.rows.items r (left_of c.keep_level.new.levels.items) has c.first_witness-holding.result held
    c.count_undecided.result c.levels.place.spent c.roots-roots.result c.finest_level-finest.result (length c.keep_level.new.levels.items) counts c.levels.invariant.spent c.roots-roots.ensures c.finest_level-finest.ensures size in
    let next : c.in_ok-rows-2.rows.items ≡ map fresh (flat_map (halves_left q) (candidates q c.levels.place.level)) =
    c.in_ok-rows-2.ensures.rows ∙ ap (flat_map (rows_below q)) (c.as_slice-in-levels-3.ensures.value ∙ r) ∙ next_are q (candidates q c.levels.place.level) in
    let within : c.levels.place.spent + c.count_undecided.result ≤ c.args.budget = c.in-None.ensures.budget (search rules) in
    record {
      rows = next ∙ ap (map fresh) (sym (candidates-suc q c.levels.place.level));
      kept = has;
      count = size;
      spent = spent_there q (c.show_laws.ensures c.args.task.now).is_grid c.levels.place.level low c.bound_level.new.rows.items r c.count_undecided.result c.levels.place.spent counts c.levels.invariant.spent;
      within = within;
      few = omega (arith, within, ap length next ∙ length-map (flat_map (halves_left q) (candidates q c.levels.place.level)) fresh, next_counted q (candidates q c.levels.place.level), counts, ap (λ rows. length (filter is_open rows)) r, open_counted q (candidates q c.levels.place.level));
      level = (let lv : c.levels.place.level ≤ c.finest_level-finest.result = c.levels.invariant.level in let ne : c.levels.place.level ≢ c.finest_level-finest.result = c.in-None.ensures.level (search rules) in omega arith);
      before = below_more (λ m. end_at q c.args.budget m ≡ None) c.levels.place.level c.levels.invariant.before
          (sym e ∙ sym (c.stop_at.ensures.rules lines c.roots-roots.result) ∙ ap (option_map (end_of_stop place lines c.roots-roots.result)) c.in-None.is);
    }
