use Rattle.std.proofs.Common.{◌≡◌, ◌≤◌, ◌+◌, true, List, ℕ, drop, map}
use Rattle.gd_run.specs.Inputs.{AreInOrder, IsTurn, IsWordOf, kinds_after, kinds_of, nothing_given, reads}
use Rattle.gd_run.specs.Reports.{IsSound}
use Rattle.gd_run.specs.Views.{given_of, input_of}
use Rattle.gd_world.specs.Shelf.{SameFiles}
use Rattle.gd_run.proofs.reading.read_inputs.Given as goal

abbrev pub invariant-loop-input : goal.invariant-loop-input
invariant-loop-input g l = record {
  sound : IsSound l.read;
  order : AreInOrder (kinds_of (given_of l.read)) (map input_of (drop l.input-index l.inputs));
  left : g.S.Shelf.tells ≡ true → reads (given_of l.read) (map input_of (drop l.input-index l.inputs)) (g.S.Shelf.holds l.fn.shelf) ≡ reads nothing_given (map input_of l.inputs) (g.S.Shelf.holds l.fn.shelf);
  turn : g.S.Shelf.tells ≡ true → (word : List ℕ) → IsTurn (given_of l.read) (map input_of (drop l.input-index l.inputs)) (g.S.Shelf.holds l.fn.shelf) word → IsTurn nothing_given (map input_of l.inputs) (g.S.Shelf.holds l.fn.shelf) word;
  kinds : kinds_after (kinds_of (given_of l.read)) (map input_of (drop l.input-index l.inputs)) ≡ kinds_after (kinds_of nothing_given) (map input_of l.inputs);
  words : (word : List ℕ) → IsWordOf (map input_of (drop l.input-index l.inputs)) word → IsWordOf (map input_of l.inputs) word;
  same : SameFiles (g.S.Shelf.holds l.fn.shelf) (g.S.Shelf.holds l.shelf);
  later : g.S.Shelf.faults l.fn.shelf ≤ g.S.Shelf.faults l.shelf;
  calls : g.S.Shelf.calls l.shelf ≤ g.S.Shelf.calls l.fn.shelf + l.input-index;
}
