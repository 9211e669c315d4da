-- How a search ends that stops at a place.
use Rattle.std.specs.Prelude.{ℕ, ◌+◌, List}
use Rattle.gd_cells.specs.declared.node.Node.{Node}
use Rattle.gd_search.specs.declared.judge.Place.{Place}
use Rattle.gd_search.specs.declared.judge.Stop.{Stop}
use Rattle.gd_search.specs.declared.judge.Stop.TheVariants as stop
use Rattle.gd_verdict.specs.Verdict.{Accepted, End, Open, Rejected}

-- the end of a search that stops at a place, with the lines of its tree and so many roots
abbrev pub end_of_stop : Place → List Node → ℕ → Stop → End
end_of_stop place lines roots (stop.Accept witness) = Accepted witness place.level
end_of_stop place lines roots stop.Reject = Rejected (place.spent + roots) lines
end_of_stop place lines roots (stop.Open counts) = Open lines counts
