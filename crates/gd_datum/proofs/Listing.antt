-- Lists that a loop makes, one step on.
use Rattle.std.proofs.Common.{◌≡◌, ◌∙◌, ap, refl, sym, ℕ, zero, suc, ◌+◌, ◌-◌, ◌<◌, ◌≤◌, Bool, true, false, List, [], ◌∷◌, ◌++◌, length, filter, get_or, take, arith, Option, Some, None}
use Rattle.std.proofs.lemmas.Option.{none-some}
use Rattle.gd_datum.specs.Listed.{listed_at}
use Rattle.std.specs.List.{flat_map}
use Rattle.std.proofs.lemmas.Grind.{flat_map-append}
use Rattle.std.proofs.lemmas.List.{append-nil, take_more}
use Rattle.gd_frames.specs.Groups.{groups_from, has_group, numbers_from}
use Rattle.gd_points.specs.declared.table.Row.{Row}

-- a list of lists, one step on
pub listed-next : {X A : Type 0} (f : X → List A) (xs : List X) (i : ℕ) (d : X) → i < length xs
    → flat_map f (take (i + 1) xs) ≡ flat_map f (take i xs) ++ f (get_or xs i d)
listed-next f xs i d h =
    ap (flat_map f) (take_more xs i d h) ∙ flat_map-append f (take i xs) (get_or xs i d ∷ [])
    ∙ ap (λ ys. flat_map f (take i xs) ++ ys) (append-nil (f (get_or xs i d)))

-- nothing is listed where nothing stands
pub none-listed : {A B : Type 0} (list : A → List B) (o : Option A) → o ≡ None → listed_at list o ≡ []
none-listed list None is = refl
none-listed list (Some x) is = absurd (none-some x (sym is))

-- a list with no more is itself
pub with-none : {A : Type 0} (xs ys : List A) → ys ≡ [] → xs ≡ xs ++ ys
with-none xs ys none = sym (ap (λ zs. xs ++ zs) none ∙ append-nil xs)

-- ---- from group to group
-- numbers that fail are passed over
past : (p : ℕ → Bool) (n a m : ℕ) → ((k : ℕ) → a ≤ k → k < a + n → p k ≡ false) → filter p (numbers_from a (n + m)) ≡ filter p (numbers_from (a + n) m)
past p zero a m fails =
    let none : 0 + m ≡ m = omega arith in
    let same : a ≡ a + 0 = omega arith in
    ap (λ k. filter p (numbers_from a k)) none ∙ ap (λ k. filter p (numbers_from k m)) same
past p (suc n) a m fails =
    let more : suc n + m ≡ suc (n + m) = omega arith in
    let next : suc a + n ≡ a + suc n = omega arith in
    ap (λ k. filter p (numbers_from a k)) more
    ∙ rw (fails a (omega arith) (omega arith)) (past p n (suc a) m (λ k above below. fails k (omega arith) (omega arith)) ∙ ap (λ k. filter p (numbers_from k m)) next)

pub no-groups : (rows : List Row) (feature from : ℕ) → from ≤ 1000 → ((k : ℕ) → from ≤ k → has_group rows feature k ≡ false) → groups_from from rows feature ≡ []
unfolding groups_from
no-groups rows feature from few none =
    let all : 1000 - from ≡ (1000 - from) + 0 = omega arith in
    ap (λ k. filter (has_group rows feature) (numbers_from from k)) all ∙ past (has_group rows feature) (1000 - from) from 0 (λ k above below. none k above)

one-step : (p : ℕ → Bool) (g n : ℕ) → p g ≡ true → filter p (numbers_from g (suc n)) ≡ g ∷ filter p (numbers_from (g + 1) n)
one-step p g n is = let next : suc g ≡ g + 1 = omega arith in rw is (ap (λ k. g ∷ filter p (numbers_from k n)) next)

pub one-group : (rows : List Row) (feature from group : ℕ) → group ≤ 999 → from ≤ group → has_group rows feature group ≡ true
    → ((k : ℕ) → from ≤ k → k < group → has_group rows feature k ≡ false) → groups_from from rows feature ≡ group ∷ groups_from (group + 1) rows feature
unfolding groups_from
one-group rows feature from group small above is least =
    let p = has_group rows feature in
    let all : 1000 - from ≡ (group - from) + suc (1000 - (group + 1)) = omega (arith, small, above) in
    let at : from + (group - from) ≡ group = omega (arith, above) in
    ap (λ k. filter p (numbers_from from k)) all
    ∙ past p (group - from) from (suc (1000 - (group + 1))) (λ k up down. least k up (omega (arith, above)))
    ∙ ap (λ k. filter p (numbers_from k (suc (1000 - (group + 1))))) at
    ∙ one-step p group (1000 - (group + 1)) is
