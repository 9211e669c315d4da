-- What an outcome's line needs of it.
use Rattle.std.specs.Prelude.{◌≡◌, true}
use Rattle.gd_flat.specs.FlatTask.{is_in_range}
use Rattle.gd_search.specs.declared.outcome.Outcome.{Outcome}
use Rattle.gd_search.specs.declared.outcome.Outcome.TheVariants.{Accept, Reject, StillOpen}

-- the witness of an accept is a face and two ratios from -1 to 1
abbrev pub IsPrintable : Outcome → Type 0
IsPrintable (Accept witness level) = is_in_range witness ≡ true
IsPrintable (Reject tree) = Unit {0}
IsPrintable (StillOpen tree counts) = Unit {0}
