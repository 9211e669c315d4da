-- Counting the groups of a feature, point by point.
use Rattle.std.proofs.Common.{◌≡◌, ◌≢◌, if◌then◌else◌, inl, inr, ℕ, zero, suc, ◌+◌, ◌-◌, ◌*◌, ◌<◌, ◌≤◌, Bool, true, false, not, cond, nat_eq, ◌||◌, List, [], length, take, set, get_or, replicate, slice_get, Some, refl, sym, subst, ap, ◌∙◌, arith}
use Rattle.std.proofs.lemmas.Bool.{and_parts, cases_Bool, eq-eqb, eqb-true, false≢true}
use Rattle.std.proofs.lemmas.Bool.Decides.{eqb_tells}
use Rattle.std.proofs.lemmas.List.{get_or-set_same, get_or-set_other, length-set}
use Rattle.std.proofs.lemmas.List.Folds.{list_any_more}
use Rattle.std.proofs.lemmas.Option.{get_or_from_slice_get, slice_get_within}
use Rattle.std.specs.List.{filter, list_any}
use Rattle.gd_frames.specs.Tallies.{bumped}
use Rattle.gd_frames.specs.Groups.{AreCounts, groups_from, has_group, is_of, numbers_from}
use Rattle.gd_points.specs.declared.table.Row.{Row}

-- tests that agree everywhere, or everywhere but at a number below, pass as many
pub count_same : (p q : ℕ → Bool) → ((k : ℕ) → q k ≡ p k) → (n a : ℕ) → length (filter q (numbers_from a n)) ≡ length (filter p (numbers_from a n))
count_same p q same zero a = refl
count_same p q same (suc n) a =
    let rest = count_same p q same n (suc a) in
    elim (cases_Bool (p a)) [
      | inl passes ↦ rw (same a, passes, rest)
      | inr fails ↦ rw (same a, fails, rest)
    ]

pub count_above : (p q : ℕ → Bool) (g : ℕ) → ((k : ℕ) → k ≢ g → q k ≡ p k) → (n a : ℕ) → g < a → length (filter q (numbers_from a n)) ≡ length (filter p (numbers_from a n))
count_above p q g same zero a above = refl
count_above p q g same (suc n) a above =
    let rest = count_above p q g same n (suc a) (omega arith) in
    let here : q a ≡ p a = same a (λ e. omega (arith, e)) in
    elim (cases_Bool (p a)) [
      | inl passes ↦ rw (here, passes, rest)
      | inr fails ↦ rw (here, fails, rest)
    ]

-- a test that one number more passes
pub count_more : (p q : ℕ → Bool) (g : ℕ) → p g ≡ false → q g ≡ true → ((k : ℕ) → k ≢ g → q k ≡ p k) → (n a : ℕ) → a ≤ g → g < a + n
    → length (filter q (numbers_from a n)) ≡ length (filter p (numbers_from a n)) + 1
count_more p q g new met same zero a low high = absurd (omega (arith, low, high))
count_more p q g new met same (suc n) a low high =
    elim (eqb_tells a g) [
      | inl e ↦
          let rest = count_above p q g same n (suc a) (omega (arith, e.1)) in
          rw (ap q e.1 ∙ met, ap p e.1 ∙ new) (omega (arith, rest))
      | inr o ↦
          let rest = count_more p q g new met same n (suc a) (omega (arith, o.1)) (omega arith) in
          elim (cases_Bool (p a)) [
            | inl passes ↦ rw (same a o.1, passes) (omega (arith, rest))
            | inr fails ↦ rw (same a o.1, fails) rest
          ]
    ]

pub count_small : (p : ℕ → Bool) (n a : ℕ) → length (filter p (numbers_from a n)) ≤ n
count_small p zero a = omega arith
count_small p (suc n) a =
    let rest = count_small p n (suc a) in
    elim (cases_Bool (p a)) [
      | inl passes ↦ rw passes (omega (arith, rest))
      | inr fails ↦ rw fails (omega (arith, rest))
    ]

count_none : (n a : ℕ) → length (filter (λ (k : ℕ). false) (numbers_from a n)) ≡ 0
count_none zero a = refl
count_none (suc n) a = count_none n (suc a)

abbrev zeros : ℕ → List ℕ
zeros n = replicate n 0

zero_or : (n i : ℕ) → get_or (zeros n) i 0 ≡ 0
zero_or zero i = refl
zero_or (suc n) zero = refl
zero_or (suc n) (suc i) = zero_or n i

-- before the first point
pub counts_none : (first n : ℕ) → AreCounts first [] (replicate n 0)
unfolding groups_from
counts_none first n = λ feature. zero_or n feature ∙ sym (count_none (1000 - first) first)

-- what a point adds
pub has_more : (rows : List Row) (i : ℕ) (r : Row) → slice_get rows i ≡ Some r → (feature group : ℕ)
    → has_group (take (i + 1) rows) feature group ≡ (has_group (take i rows) feature group || is_of feature group r)
has_more rows i r at feature group =
    list_any_more (is_of feature group) rows i r (slice_get_within rows i r at)
    ∙ ap (λ x. has_group (take i rows) feature group || is_of feature group x) (get_or_from_slice_get rows i r r at)

or_right : (b c : Bool) → c ≡ false → (b || c) ≡ b
or_right true c e = refl
or_right false c e = e

or_true : (b : Bool) → (b || true) ≡ true
or_true true = refl
or_true false = refl

other_group : (r : Row) (feature group : ℕ) → group ≢ r.group → is_of feature group r ≡ false
other_group r feature group other = elim (eqb_tells r.group group) [
  | inl e ↦ absurd (other (sym e.1))
  | inr o ↦ elim (cases_Bool (nat_eq r.feature feature)) [ inl same ↦ rw (same, o.0) | inr fails ↦ rw fails ]
]

other_feature : (r : Row) (feature group : ℕ) → feature ≢ r.feature → is_of feature group r ≡ false
other_feature r feature group other = elim (eqb_tells r.feature feature) [
  | inl e ↦ absurd (other (sym e.1))
  | inr o ↦ rw o.0
]

is_of_itself : (r : Row) → is_of r.feature r.group r ≡ true
is_of_itself r = rw (eq-eqb r.feature r.feature refl, eq-eqb r.group r.group refl)

known_or : (b c : Bool) → (c ≡ true → b ≡ true) → (b || c) ≡ b
known_or true c h = refl
known_or false true h = sym (h refl)
known_or false false h = refl

-- a group that was met before adds nothing
has_known : (rows : List Row) (i : ℕ) (r : Row) → slice_get rows i ≡ Some r → has_group (take i rows) r.feature r.group ≡ true → (feature group : ℕ)
    → has_group (take (i + 1) rows) feature group ≡ has_group (take i rows) feature group
has_known rows i r at met feature group =
    has_more rows i r at feature group ∙ known_or _ _ (λ of.
    let parts = and_parts (nat_eq r.feature feature) (nat_eq r.group group) of in
    let P : ℕ → Type 0 = λ f. has_group (take i rows) f group ≡ true in
    let Q : ℕ → Type 0 = λ g. has_group (take i rows) r.feature g ≡ true in
    subst P (eqb-true r.feature feature parts.0) (subst Q (eqb-true r.group group parts.1) met))

pub known : (first : ℕ) (rows : List Row) (i : ℕ) (r : Row) (counts : List ℕ) → slice_get rows i ≡ Some r
    → has_group (take i rows) r.feature r.group ≡ true → AreCounts first (take i rows) counts → AreCounts first (take (i + 1) rows) counts
unfolding groups_from
known first rows i r counts at met are = λ feature.
    are feature ∙ sym (count_same (has_group (take i rows) feature) (has_group (take (i + 1) rows) feature)
    (has_known rows i r at met feature) (1000 - first) first)

-- a group below those that are counted adds nothing
pub below : (first : ℕ) (rows : List Row) (i : ℕ) (r : Row) (counts : List ℕ) → slice_get rows i ≡ Some r
    → r.group < first → AreCounts first (take i rows) counts → AreCounts first (take (i + 1) rows) counts
unfolding groups_from
below first rows i r counts at low are = λ feature.
    are feature ∙ sym (count_above (has_group (take i rows) feature) (has_group (take (i + 1) rows) feature) r.group
    (λ k o. has_more rows i r at feature k ∙ or_right _ _ (other_group r feature k o)) (1000 - first) first low)

counted_here : (first : ℕ) (rows : List Row) (i : ℕ) (r : Row) (counts : List ℕ) → slice_get rows i ≡ Some r
    → has_group (take i rows) r.feature r.group ≡ false → first ≤ r.group → r.group ≤ 999 → r.feature < length counts
    → AreCounts first (take i rows) counts
    → get_or (set counts r.feature (get_or counts r.feature 0 + 1)) r.feature 0 ≡ length (groups_from first (take (i + 1) rows) r.feature)
unfolding groups_from
counted_here first rows i r counts at new low high within are =
    let met : has_group (take (i + 1) rows) r.feature r.group ≡ true =
    has_more rows i r at r.feature r.group ∙ ap (λ b. has_group (take i rows) r.feature r.group || b) (is_of_itself r) ∙ or_true _ in
    let more = count_more (has_group (take i rows) r.feature) (has_group (take (i + 1) rows) r.feature) r.group new met
    (λ k o. has_more rows i r at r.feature k ∙ or_right _ _ (other_group r r.feature k o)) (1000 - first) first low (omega (arith, low, high)) in
    get_or-set_same counts r.feature _ 0 within ∙ ap (λ n. n + 1) (are r.feature) ∙ sym more

-- a group that is new is counted
pub counted : (first : ℕ) (rows : List Row) (i : ℕ) (r : Row) (counts : List ℕ) → slice_get rows i ≡ Some r
    → has_group (take i rows) r.feature r.group ≡ false → first ≤ r.group → r.group ≤ 999 → r.feature < length counts
    → AreCounts first (take i rows) counts → AreCounts first (take (i + 1) rows) (set counts r.feature (get_or counts r.feature 0 + 1))
unfolding groups_from
counted first rows i r counts at new low high within are = λ feature.
    elim (eqb_tells feature r.feature) [
      | inl e ↦
          let P : ℕ → Type 0 = λ f. get_or (set counts r.feature (get_or counts r.feature 0 + 1)) f 0 ≡ length (groups_from first (take (i + 1) rows) f) in
          subst P (sym e.1) (counted_here first rows i r counts at new low high within are)
      | inr o ↦
          get_or-set_other counts r.feature feature _ 0 o.1 ∙ are feature
          ∙ sym (count_same (has_group (take i rows) feature) (has_group (take (i + 1) rows) feature)
          (λ k. has_more rows i r at feature k ∙ or_right _ _ (other_feature r feature k o.1)) (1000 - first) first)
    ]

pub counts_small : (first : ℕ) (rows : List Row) (counts : List ℕ) → AreCounts first rows counts → (feature : ℕ) → get_or counts feature 0 ≤ 1000
unfolding groups_from
counts_small first rows counts are feature =
    omega (arith, are feature, count_small (has_group rows feature) (1000 - first) first)

-- the groups that were met, after one more
pub met_more : (old new : List ℕ) (rows : List Row) (i : ℕ) (r : Row) → slice_get rows i ≡ Some r → r.group ≤ 999
    → ((q : ℕ) → list_any (nat_eq q) new ≡ cond (nat_eq (r.feature * 1000 + r.group) q) true (list_any (nat_eq q) old))
    → ((feature group : ℕ) → group ≤ 999 → list_any (nat_eq (feature * 1000 + group)) old ≡ has_group (take i rows) feature group)
    → (feature group : ℕ) → group ≤ 999 → list_any (nat_eq (feature * 1000 + group)) new ≡ has_group (take (i + 1) rows) feature group
met_more old new rows i r at small updates met feature group h =
    let more = has_more rows i r at feature group in
    elim (cases_Bool (is_of feature group r)) [
      | inl of ↦
          let parts = and_parts (nat_eq r.feature feature) (nat_eq r.group group) of in
          let same : r.feature * 1000 + r.group ≡ feature * 1000 + group =
          omega (arith, eqb-true r.feature feature parts.0, eqb-true r.group group parts.1) in
          updates (feature * 1000 + group) ∙ rw (eq-eqb _ _ same) (sym (more ∙ ap (λ b. has_group (take i rows) feature group || b) of ∙ or_true _))
      | inr other ↦
          let apart : nat_eq (r.feature * 1000 + r.group) (feature * 1000 + group) ≡ false =
          elim (eqb_tells (r.feature * 1000 + r.group) (feature * 1000 + group)) [
            | inl e ↦
                let features : r.feature ≡ feature = omega (arith, e.1, small, h) in
                let groups : r.group ≡ group = omega (arith, e.1, small, h) in
                absurd (false≢true (sym other ∙ rw (eq-eqb _ _ features, eq-eqb _ _ groups)))
            | inr o ↦ o.0
          ] in
          updates (feature * 1000 + group) ∙ rw apart (met feature group h ∙ sym (more ∙ or_right _ _ other))
    ]

-- the counts after a group that is new: those from 0 on, and those from 1 on
pub counted_all : (rows : List Row) (i : ℕ) (r : Row) (old new : List ℕ) → slice_get rows i ≡ Some r
    → has_group (take i rows) r.feature r.group ≡ false → r.group ≤ 999 → r.feature < length old
    → new ≡ bumped old r.feature → AreCounts 0 (take i rows) old → AreCounts 0 (take (i + 1) rows) new
counted_all rows i r old new at first_met small within is are =
    let P : List ℕ → Type 0 = λ xs. AreCounts 0 (take (i + 1) rows) xs in
    subst P (sym is) (counted 0 rows i r old at first_met (omega arith) small within are)

pub counted_contacts : (rows : List Row) (i : ℕ) (r : Row) (old new : List ℕ) → slice_get rows i ≡ Some r
    → has_group (take i rows) r.feature r.group ≡ false → r.group ≤ 999 → r.feature < length old
    → new ≡ (if nat_eq r.group 0 then old else bumped old r.feature) → AreCounts 1 (take i rows) old → AreCounts 1 (take (i + 1) rows) new
counted_contacts rows i r old new at first_met small within is are =
    let P : List ℕ → Type 0 = λ xs. AreCounts 1 (take (i + 1) rows) xs in
    elim (eqb_tells r.group 0) [
      | inl none ↦
          let stays : new ≡ old = is ∙ rw none.0 in
          subst P (sym stays) (below 1 rows i r old at (omega (arith, none.1)) are)
      | inr some ↦
          let more : new ≡ bumped old r.feature = is ∙ rw some.0 in
          subst P (sym more) (counted 1 rows i r old at first_met (omega (arith, some.1)) small within are)
    ]

pub length_bumped : (counts : List ℕ) (feature : ℕ) → length (bumped counts feature) ≡ length counts
length_bumped counts feature = length-set counts feature _

pub length_contacts : (group feature : ℕ) (counts : List ℕ) → length (if nat_eq group 0 then counts else bumped counts feature) ≡ length counts
length_contacts group feature counts = elim (cases_Bool (nat_eq group 0)) [
  | inl none ↦ rw none
  | inr some ↦ rw some (length_bumped counts feature)
]

-- a group that was put in is new, or was met before
pub new_group : (b has : Bool) (r : Bool) → r ≡ not b → b ≡ has → r ≡ true → has ≡ false
new_group true has r is same new = absurd (false≢true (sym is ∙ new))
new_group false has r is same new = sym same

pub old_group : (b has : Bool) (r : Bool) → r ≡ not b → b ≡ has → r ≡ false → has ≡ true
old_group true has r is same old = sym same
old_group false has r is same old = absurd (false≢true (sym old ∙ is))
