-- How calls that are kept in memory are counted, and which of them fail.
use Rattle.std.specs.Prelude.{ℕ, ◌≡◌, ◌+◌, ◌-◌, ◌^◌, ◌⊎◌, Bool, true, false, List, Option, None, Result, Ok, Err, min}
use Rattle.std.specs.Prelude.{nat_eq}
use Rattle.std.specs.List.{list_any}
use Rattle.gd_world.specs.declared.shelf.LoadFault.{LoadFault}
use Rattle.gd_world.specs.declared.shelf.LoadFault.TheVariants as load_fault
use Rattle.gd_world.specs.declared.shelf.StoreFault.{StoreFault}
use Rattle.gd_world.specs.declared.shelf.StoreFault.TheVariants as store_fault
use Rattle.gd_world.specs.declared.sink.PutFault.{PutFault}
use Rattle.gd_world.specs.declared.sink.PutFault.TheVariants as put_fault

-- one more, where the count stops at 2^64 - 1
abbrev pub one_more : ℕ → ℕ
one_more count = min (count + 1) (2 ^ 64 - 1)

-- whether the call after this many is one that shall fail
abbrev pub is_due : List ℕ → ℕ → Bool
is_due fail calls = list_any (λ number. nat_eq number (one_more calls)) fail

-- why a load answered so: it failed where it was due or the name isn't there, and nowhere else
abbrev pub LoadCause : {T : Type 0} → Bool → Option (List ℕ) → Result T LoadFault → Type 0
LoadCause due held (Ok x) = due ≡ false
LoadCause due held (Err load_fault.Failed) = (due ≡ true) ⊎ (held ≡ None)
LoadCause due held (Err load_fault.TooLong) = due ≡ false
LoadCause due held (Err load_fault.Memory) = Unit {0}

-- why a store answered so: it failed where it was due, and nowhere else
abbrev pub StoreCause : {T : Type 0} → Bool → Result T StoreFault → Type 0
StoreCause due (Ok x) = due ≡ false
StoreCause due (Err store_fault.Failed) = due ≡ true
StoreCause due (Err store_fault.Memory) = Unit {0}

-- why a put answered so: it failed where it was due, and nowhere else
abbrev pub PutCause : {T : Type 0} → Bool → Result T PutFault → Type 0
PutCause due (Ok x) = due ≡ false
PutCause due (Err put_fault.Failed) = due ≡ true
PutCause due (Err put_fault.Memory) = Unit {0}
