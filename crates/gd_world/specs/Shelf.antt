-- What a shelf of files holds, and what its calls do to it.
use Rattle.std.specs.Prelude.{ℕ, ◌≡◌, ◌≢◌, ◌⊎◌, Bool, true, false, List, [], ◌∷◌, Option, Some, None, Result, Ok, Err}
use Rattle.std.specs.Prelude.{take, nat_eq, if◌then◌else◌}
use Rattle.std.specs.Option.{unwrap_or}
use Rattle.std.specs.Cmp.Lexicographic.{pointwise}
use Rattle.std.specs.declared.vec.Vec.{Vec}
use Rattle.std.specs.declared.alloc.Global.{Global}
use Rattle.gd_world.specs.declared.shelf.LoadFault.{LoadFault}
use Rattle.gd_world.specs.declared.shelf.LoadFault.TheVariants as load_fault
use Rattle.gd_world.specs.declared.shelf.StoreFault.{StoreFault}
use Rattle.gd_world.specs.declared.shelf.StoreFault.TheVariants as store_fault

-- what each name holds
abbrev pub Files : Type 0
Files = List ℕ → Option (List ℕ)

-- every name holds what it held
abbrev pub SameFiles : Files → Files → Type 0
SameFiles old new = (name : List ℕ) → new name ≡ old name

-- the name holds these bytes, and every other name what it held
pub record Puts (old new : Files) (name bytes : List ℕ) : Type 0 where
  pub set : new name ≡ Some bytes
  pub others : (other : List ℕ) → other ≢ name → new other ≡ old other

-- the name holds what it held or a prefix of these bytes, and every other name what it held
pub record PutsPrefix (old new : Files) (name bytes : List ℕ) : Type 0 where
  pub set : (new name ≡ old name) ⊎ ((n : ℕ) × (new name ≡ Some (take n bytes)))
  pub others : (other : List ℕ) → other ≢ name → new other ≡ old other

-- the name of the last call that answered Failed, and whether that call was a store
abbrev pub Word : Type 0
Word = List ℕ × Bool

-- the failed word stays
abbrev pub SameWord : Word → Word → Type 0
SameWord before now = (now.0 ≡ before.0) × (now.1 ≡ before.1)

-- the failed word is this one
abbrev pub IsWord : Word → List ℕ → Bool → Type 0
IsWord now name storing = (now.0 ≡ name) × (now.1 ≡ storing)

-- the failed word after a load
abbrev pub LoadWord : {T : Type 0} → Word → Word → List ℕ → Result T LoadFault → Type 0
LoadWord before now name (Ok x) = SameWord before now
LoadWord before now name (Err load_fault.Failed) = IsWord now name false
LoadWord before now name (Err load_fault.TooLong) = SameWord before now
LoadWord before now name (Err load_fault.Memory) = SameWord before now

-- the failed word after a store
abbrev pub StoreWord : {T : Type 0} → Word → Word → List ℕ → Result T StoreFault → Type 0
StoreWord before now name (Ok x) = SameWord before now
StoreWord before now name (Err store_fault.Failed) = IsWord now name true
StoreWord before now name (Err store_fault.Memory) = SameWord before now

-- what the first entry of a name holds
abbrev pub held : List (List ℕ × Vec ℕ Global) → Files
held [] name = None
held (file ∷ files) name = if pointwise nat_eq file.0 name then Some file.1.items else held files name

-- what the first entry of a name holds, and these bytes for a name without an entry
abbrev pub held_or : List ℕ → List (List ℕ × Vec ℕ Global) → Files
held_or default files name = Some (unwrap_or (held files name) default)
