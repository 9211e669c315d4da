-- The records that are left of a text, one after the other.
use Rattle.std.proofs.Common.{◌≡◌, ℕ, ◌+◌, ◌≤◌, ◌<◌, List, [], ◌∷◌, length, Option, Some, None, Bool, true, false, cond, ◌⊎◌, inl, inr, ap, subst, refl, ◌∙◌, arith, add-one}
use Rattle.std.specs.Prelude.{◌==◌, ◌&&◌, ◌||◌, zero, suc}
use Rattle.csv.specs.Machine.{Read, ends_at_end, is_end, next_record, step, in_field, start_field, start_record}
use Rattle.csv.specs.Reading.{default_config, records_from, records_next, Reached, ReadRecord}
use Rattle.csv.specs.declared.parser.State.{State}
use Rattle.csv.specs.declared.parser.State.TheVariants as st
use Rattle.csv.specs.declared.parser.Action.{Action}
use Rattle.csv.proofs.ReadFacts.{rows-more, rows-end}
use Rattle.std.specs.Prelude.{IsSome, Ok}
use Rattle.std.specs.Borrow.{Bor}
use Rattle.gd_points.specs.Reader.{IsBetween, Source, TakesNext, bytes_left, records_left, rest, size_left}

-- an action that ends a record leaves a state between records
abbrev Between : State × Action → Type 0
Between r = is_end r.1 ≡ true → ends_at_end r.0 ≡ false

between-cond : (b : Bool) (x y : State × Action) → Between x → Between y → Between (cond b x y)
between-cond true x y p q = p
between-cond false x y p q = q

after-between : (b : Bool) → ends_at_end (cond b st.AfterCr st.StartRecord) ≡ false
after-between true = refl
after-between false = refl

in_field-between : (c : ℕ) → Between (in_field default_config c)
in_field-between c = between-cond (c == 44) _ _ (λ h. cc h) (between-cond ((c == 13) || (c == 10)) _ _ (λ h. after-between (c == 13)) (λ h. cc h))

start_field-between : (c : ℕ) → Between (start_field default_config c)
start_field-between c = between-cond (true && (c == 34)) _ _ (λ h. cc h) (in_field-between c)

start_record-between : (c : ℕ) → Between (start_record default_config c)
start_record-between c = between-cond ((c == 13) || (c == 10)) _ _ (λ h. cc h) (start_field-between c)

step-between : (s : State) (c : ℕ) → Between (step default_config s c)
step-between st.StartRecord c = start_record-between c
step-between st.StartField c = start_field-between c
step-between st.InField c = in_field-between c
step-between st.InQuoted c = between-cond (true && (c == 34)) _ _ (λ h. cc h) (λ h. cc h)
step-between st.InEscape c = λ h. cc h
step-between st.AfterQuote c = between-cond (true && true && (c == 34)) _ _ (λ h. cc h) (in_field-between c)
step-between st.InComment c = between-cond (c == 10) _ _ (λ h. cc h) (λ h. cc h)
step-between st.AfterCr c = between-cond (c == 10) _ _ (λ h. cc h) (start_record-between c)

-- what a read of a record leaves
abbrev Shrinks : State → List ℕ → Read → Type 0
Shrinks s xs q = (ends_at_end q.1 ≡ false) × (length q.2 ≤ length xs) × (ends_at_end s ≡ false → length q.2 < length xs)

chosen : {A : Type 0} (b : Bool) (x y z : A) → cond b x y ≡ z → ((b ≡ true) × (x ≡ z)) ⊎ ((b ≡ false) × (y ≡ z))
chosen true x y z h = inl (refl, h)
chosen false x y z h = inr (refl, h)

some-same : {A : Type 0} (x y : A) → Some x ≡ Some y → x ≡ y
some-same x y h = cc h

shrink : (xs : List ℕ) (s : State) (f : List (List ℕ)) (p : List ℕ) (q : Read) → next_record default_config s f p xs ≡ Some q → Shrinks s xs q
unfolding next_record
shrink [] s f p q h = elim (chosen (ends_at_end s) _ _ _ h) [
  | inl w ↦ subst (Shrinks s []) (some-same _ _ w.1) (refl, omega arith, λ n. cc (w.0, n))
  | inr w ↦ cc w.1
]
shrink (c ∷ rest) s f p q h = elim (chosen (is_end (step default_config s c).1) _ _ _ h) [
  | inl w ↦ subst (Shrinks s (c ∷ rest)) (some-same _ _ w.1) (step-between s c w.0, omega arith, λ n. omega arith)
  | inr w ↦
      let (b, l, m) = shrink rest _ _ _ q w.1 in
      (b, omega arith, λ n. omega arith)
]

abbrev Same : ℕ → ℕ → Type 0
Same n m = (s : State) (y : List ℕ) → ends_at_end s ≡ false → length y < n → length y < m → records_from default_config n s y ≡ records_from default_config m s y

same-next : (n m : ℕ) → Same n m → (s : State) (y : List ℕ) → ends_at_end s ≡ false → length y < suc n → length y < suc m → (o : Option Read) → next_record default_config s [] [] y ≡ o
    → records_next (records_from default_config n) o ≡ records_next (records_from default_config m) o
same-next n m ih s y b l k None e = refl
same-next n m ih s y b l k (Some p) e =
    let (c, d, g) = shrink y s [] [] p e in
    let less = g b in
    ap (λ t. p.0 ∷ t) (ih p.1 p.2 c (omega arith) (omega arith))

same : (n m : ℕ) → Same n m
unfolding records_from
same zero m = λ s y b l k. absurd (omega arith)
same (suc n) zero = λ s y b l k. absurd (omega arith)
same (suc n) (suc m) = λ s y b l k. same-next n m (same n m) s y b l k _ refl

pub rest-some : (s : State) (y : List ℕ) (p : Read) → ends_at_end s ≡ false → next_record default_config s [] [] y ≡ Some p
    → (ends_at_end p.1 ≡ false) × (length p.2 < length y) × (rest s y ≡ p.0 ∷ rest p.1 p.2)
unfolding records_from
rest-some s y p b e =
    let (c, d, g) = shrink y s [] [] p e in
    let less = g b in
    (c, less, rw (add-one, e) (ap (λ t. p.0 ∷ t) (same (length y) (length p.2 + 1) p.1 p.2 c less (omega arith))))

pub rest-none : (s : State) (y : List ℕ) → next_record default_config s [] [] y ≡ None → rest s y ≡ []
unfolding records_from
rest-none s y e = rw (add-one, e) refl

some-of : {A : Type 0} (o : Option A) → IsSome o → (x : A) × (o ≡ Some x)
some-of None h = cc h
some-of (Some x) h = (x, refl)

-- a read that found a record
took : (a b : Source) (fields : List (List ℕ)) → IsBetween a → ReadRecord (λ (s : Bor (List ℕ)). Some s.now) a b true fields → b.first ≡ true
    → IsBetween b × (records_left a ≡ fields ∷ records_left b) × (size_left b < size_left a)
unfolding Reached
took a b fields h r first =
    let (y, source) = some-of (bytes_left a) h.known in
    let (z, left, reached) = rows-more (λ (s : Bor (List ℕ)). Some s.now) a b fields default_config a.state y y [] h.config source (refl, refl) r in
    let (p, e, is_f, ends) = reached in
    let (between, less, all) = rest-some a.state y p h.between e in (
      record { known = rw left refl; between = rw (← ends.0) between; config = r.2 ∙ h.config; trim = r.3 ∙ h.trim; ready = inl first },
      rw (source, left) (all ∙ cc (is_f, ends.0, ends.1)),
      rw (source, left) (rw (← ends.1) less),
    )

-- a read that found none
ended : (a b : Source) (fields : List (List ℕ)) → IsBetween a → ReadRecord (λ (s : Bor (List ℕ)). Some s.now) a b false fields → records_left a ≡ []
ended a b fields h r =
    let (y, source) = some-of (bytes_left a) h.known in
    rw source (rest-none a.state y (rows-end (λ (s : Bor (List ℕ)). Some s.now) a b fields default_config y h.config source r))

pub next : (a b : Source) (fields : List (List ℕ)) (found : Bool) → IsBetween a → ReadRecord (λ (s : Bor (List ℕ)). Some s.now) a b found fields → b.first ≡ true
    → TakesNext a b fields (Ok found)
next a b fields true h r first = took a b fields h r first
next a b fields false h r first = ended a b fields h r
