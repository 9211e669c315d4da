-- Lists of lists, as they are kept in memory.
use Rattle.std.specs.Prelude.{List, map}
use Rattle.std.specs.declared.alloc.Global.{Global}
use Rattle.std.specs.declared.vec.Vec.{Vec}
use Rattle.gd_group.specs.declared.requirement.Requirement.{Requirement}

abbrev pub lists_of : List (Vec Requirement Global) → List (List Requirement)
lists_of vs = map (λ (v : Vec Requirement Global). v.items) vs
