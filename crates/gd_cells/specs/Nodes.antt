-- The lines of a tree of cells.
use Rattle.std.specs.Prelude.{Bool, true, false}
use Rattle.gd_cells.specs.declared.node.Node.{Node}
use Rattle.gd_cells.specs.declared.node.Node.TheVariants.{Split, Refuted, Left}

-- a line of a refuted cell
abbrev pub is_refuted : Node → Bool
is_refuted Split = false
is_refuted (Refuted e) = true
is_refuted Left = false
