-- A record of five fields.
use Rattle.std.proofs.Common.{◌≡◌, ◌≢◌, ℕ, ◌<◌, List, [], ◌∷◌, length, Option, Some, None, refl, arith}
use Rattle.std.specs.Prelude.{zero, suc, IsSome, option_map}
use Rattle.csv.specs.Records.{field_at}
use Rattle.gd_points.specs.Points.{five_of}

pub field_at-some : (fs : List (List ℕ)) (i : ℕ) → i < length fs → IsSome (field_at fs i)
unfolding field_at
field_at-some [] i h = absurd (omega arith)
field_at-some (f ∷ fs) zero h = refl
field_at-some (f ∷ fs) (suc i) h = field_at-some fs i (omega arith)

pub five_of-other : (fs : List (List ℕ)) → length fs ≢ 5 → five_of fs ≡ None
five_of-other [] h = refl
five_of-other (a ∷ []) h = refl
five_of-other (a ∷ b ∷ []) h = refl
five_of-other (a ∷ b ∷ c ∷ []) h = refl
five_of-other (a ∷ b ∷ c ∷ d ∷ []) h = refl
five_of-other (a ∷ b ∷ c ∷ d ∷ e ∷ []) h = absurd (h refl)
five_of-other (a ∷ b ∷ c ∷ d ∷ e ∷ f ∷ fs) h = refl

pub five_of-fields : (fs : List (List ℕ)) (n g x y z : List ℕ) → length fs ≡ 5 → field_at fs 0 ≡ Some n → field_at fs 1 ≡ Some g → field_at fs 2 ≡ Some x → field_at fs 3 ≡ Some y → field_at fs 4 ≡ Some z
    → Some (record { name = n; group = g; x = x; y = y; z = z }) ≡ five_of fs
unfolding field_at
five_of-fields (a ∷ b ∷ c ∷ d ∷ e ∷ []) n g x y z h p q r s t = cc
five_of-fields fs n g x y z h p q r s t = absurd (omega arith)

pub some_of_map : {A B : Type 0} (f : A → B) (o : Option A) → IsSome (option_map f o) → IsSome o
some_of_map f None h = h
some_of_map f (Some x) h = refl
