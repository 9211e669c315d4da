-- Lists, item by item.
use Rattle.std.proofs.Common.{find, Some, ◌≡◌, refl, sym, ap, Bool, true, false, ◌&&◌, cond, List, [], ◌∷◌, map, filter, arith, subst}
use Rattle.std.specs.List.{All, flat_map}
use Rattle.std.proofs.lemmas.Grind.{flat_map-append}
use Rattle.std.proofs.lemmas.Option.{same_Some}
use Rattle.std.proofs.lemmas.List.Elements.{All-append, All-nil, All-tail}

-- what holds of each item holds of the first that passes a test
pub found_kept : {X : Type 0} (P : X → Type 0) (p : X → Bool) (x : X) (xs : List X) → All P xs → find p xs ≡ Some x → P x
found_kept P p x [] all e = cc
found_kept P p x (y ∷ xs) all e =
    elim (p y) as (λ v. cond v (Some y) (find p xs) ≡ Some x → P x)
    [ true ↦ λ f. subst P (same_Some y x f) (all 0 y (omega arith)) | false ↦ λ f. found_kept P p x xs (All-tail P y xs all) f ]
    e

pub found_passes : {X : Type 0} (p : X → Bool) (x : X) (xs : List X) → find p xs ≡ Some x → p x ≡ true
found_passes p x [] e = cc
found_passes p x (y ∷ xs) e =
    elim (p y) as (λ v. p y ≡ v → cond v (Some y) (find p xs) ≡ Some x → p x ≡ true)
    [ true ↦ λ is f. subst (λ z. p z ≡ true) (same_Some y x f) is | false ↦ λ is f. found_passes p x xs f ]
    refl
    e

pub flat_map_flat : {A B C : Type 0} (f : A → List B) (g : B → List C) (h : A → List C) → ((x : A) → h x ≡ flat_map g (f x)) → (xs : List A) → flat_map h xs ≡ flat_map g (flat_map f xs)
flat_map_flat f g h e [] = refl
flat_map_flat f g h e (x ∷ xs) = rw (e x, flat_map_flat f g h e xs) (sym (flat_map-append g (f x) (flat_map f xs)))

pub filter_and : {X : Type 0} (p q : X → Bool) (xs : List X) → filter (λ x. p x && q x) xs ≡ filter q (filter p xs)
filter_and p q [] = refl
filter_and p q (x ∷ xs) =
    elim (p x) as (λ v. cond (v && q x) (x ∷ filter (λ y. p y && q y) xs) (filter (λ y. p y && q y) xs) ≡ filter q (cond v (x ∷ filter p xs) (filter p xs)))
    [ true ↦ ap (λ ys. cond (q x) (x ∷ ys) ys) (filter_and p q xs) | false ↦ filter_and p q xs ]

pub filter-map : {X Y : Type 0} (p : Y → Bool) (f : X → Y) (xs : List X) → filter p (map f xs) ≡ map f (filter (λ x. p (f x)) xs)
filter-map p f [] = refl
filter-map p f (x ∷ xs) =
    elim (p (f x)) as (λ v. cond v (f x ∷ filter p (map f xs)) (filter p (map f xs)) ≡ map f (cond v (x ∷ filter (λ y. p (f y)) xs) (filter (λ y. p (f y)) xs)))
    [ true ↦ ap (λ ys. f x ∷ ys) (filter-map p f xs) | false ↦ filter-map p f xs ]

pub all_flat_map : {X Y : Type 0} (P : X → Type 0) (Q : Y → Type 0) (f : Y → List X) → ((y : Y) → Q y → All P (f y)) → (ys : List Y) → All Q ys → All P (flat_map f ys)
all_flat_map P Q f each [] all = All-nil P
all_flat_map P Q f each (y ∷ ys) all = All-append P (f y) (flat_map f ys) (each y (all 0 y (omega arith))) (all_flat_map P Q f each ys (All-tail Q y ys all))
