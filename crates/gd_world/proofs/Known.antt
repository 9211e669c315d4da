-- Known values of the definitions.
use Rattle.std.proofs.Common.{◌≡◌, ℕ, [], ◌∷◌, Some, None, true, false, refl}
use Rattle.std.specs.declared.vec.Vec.{Vec}
use Rattle.std.specs.declared.alloc.Global.{Global}
use Rattle.gd_world.specs.Memory.{is_due, one_more}
use Rattle.gd_world.specs.Shelf.{held, held_or}

pub one_more-first : one_more 0 ≡ 1
one_more-first = refl

pub one_more-last : one_more 18446744073709551615 ≡ 18446744073709551615
one_more-last = refl

-- the fourth call is due to fail, and the fifth isn't
pub is_due-fourth : is_due (4 ∷ []) 3 ≡ true
is_due-fourth = refl

pub is_due-fifth : is_due (4 ∷ []) 4 ≡ false
is_due-fifth = refl

-- the first of two entries of one name counts
pub held-first : (v w : Vec ℕ Global) → held ((97 ∷ [], v) ∷ (97 ∷ [], w) ∷ []) (97 ∷ []) ≡ Some v.items
held-first v w = refl

pub held-missing : (v : Vec ℕ Global) → held ((97 ∷ [], v) ∷ []) (98 ∷ []) ≡ None
held-missing v = refl

pub held_or-missing : (v : Vec ℕ Global) → held_or (100 ∷ []) ((97 ∷ [], v) ∷ []) (98 ∷ []) ≡ Some (100 ∷ [])
held_or-missing v = refl
