-- Subjects one by one, and their conditions.
use Rattle.std.proofs.Common.{◌≡◌, refl, sym, ap, ◌∙◌, arith, ℕ, zero, suc, ◌+◌, ◌-◌, ◌≤◌, ◌<◌, ◌&&◌, Option, None, Some, Bor, List, [], ◌∷◌, ◌++◌, length, drop, take, get_or}
use Rattle.std.proofs.Math.Seq.{drop-cons}
use Rattle.std.proofs.lemmas.List.{take_more}
use Rattle.std.proofs.lemmas.List.Elements.{All-head, All-tail}
use Rattle.std.specs.List.{list_all}
use Rattle.std.specs.Option.{option_or}
use Rattle.std.specs.Prelude.{option_copied, option_map, slice_get}
use Rattle.gd_bound.specs.Evidence.{first}
use Rattle.gd_fit.specs.Subjects.{SpeakOf, conditions_of}
use Rattle.gd_fit.specs.Tests.{first_against, numbered}
use Rattle.gd_points.specs.declared.table.Row.{Row}
use Rattle.gd_vec.specs.declared.vector.V3.{V3}
use Rattle.gd_zone.specs.Boxes.{PlacedEnds}
use Rattle.gd_zone.specs.Seen.{subject_holds}
use Rattle.gd_zone.specs.Tests.{condition_holds}
use Rattle.gd_zone.specs.declared.condition.Condition.{Condition}
use Rattle.gd_zone.specs.declared.subject.Subject.{Subject}

-- ---- one more subject
conditions-push : (ss : List Subject) (s : Subject) → conditions_of (ss ++ s ∷ []) ≡ conditions_of ss ++ s.condition ∷ []
conditions-push [] s = refl
conditions-push (t ∷ ss) s = ap (λ (cs : List Condition). t.condition ∷ cs) (conditions-push ss s)

pub one-more : (cs : List Condition) (ss : List Subject) (at : ℕ) (d : Condition) (s : Subject) → at < length cs
    → conditions_of ss ≡ take at cs → s.condition ≡ get_or cs at d
    → conditions_of (ss ++ s ∷ []) ≡ take (at + 1) cs
one-more cs ss at d s lt e f =
    conditions-push ss s
    ∙ ap (λ (xs : List Condition). xs ++ s.condition ∷ []) e
    ∙ ap (λ (c : Condition). take at cs ++ c ∷ []) f
    ∙ sym (take_more cs at d lt)

-- ---- a subject by its number
slice-of : (ss : List Subject) (i : ℕ)
    → option_map (λ (s : Subject). s.condition) (slice_get ss i) ≡ slice_get (conditions_of ss) i
slice-of [] i = refl
slice-of (s ∷ ss) zero = refl
slice-of (s ∷ ss) (suc i) = slice-of ss i

pub subject-named : (ss : List Subject) (n : ℕ) → 1 ≤ n
    → option_map (λ (s : Subject). s.condition) (slice_get ss (n - 1)) ≡ numbered (conditions_of ss) n
subject-named ss zero h = absurd (omega (arith, h))
subject-named ss (suc i) h =
    let e : suc i - 1 ≡ i = omega arith in
    ap (λ j. option_map (λ (s : Subject). s.condition) (slice_get ss j)) e ∙ slice-of ss i

pub borrowed : (r : Option (Bor Subject))
    → option_map (λ (s : Bor Subject). s.now.condition) r ≡ option_map (λ (s : Subject). s.condition) (option_copied r)
borrowed None = refl
borrowed (Some s) = refl

-- ---- over a box
module _ (b : PlacedEnds) (base : V3) (rows : List Row) where
  -- the first of the rest, and those after it
  pub first-of-rest : (ss : List Subject) (at : ℕ) (d : Subject) → at < length ss → SpeakOf rows ss
      → first_against b base rows (at + 1) (conditions_of (drop at ss))
      ≡ option_or (first b base (get_or ss at d).index.now.table.now.rows (get_or ss at d).condition (at + 1))
      (first_against b base rows (at + 1 + 1) (conditions_of (drop (at + 1) ss)))
  first-of-rest ss at d lt of =
      let s : Subject = get_or ss at d in
      let e : suc at ≡ at + 1 = omega arith in
      let cons : drop at ss ≡ s ∷ drop (at + 1) ss = drop-cons ss at d lt ∙ ap (λ n. s ∷ drop n ss) e in
      ap (λ (xs : List Subject). first_against b base rows (at + 1) (conditions_of xs)) cons
      ∙ ap (λ (r : List Row). option_or (first b base r s.condition (at + 1))
      (first_against b base rows (at + 1 + 1) (conditions_of (drop (at + 1) ss)))) (sym (of at d lt))

  pub all-hold : (ss : List Subject) → SpeakOf rows ss
      → list_all (subject_holds b base) ss ≡ list_all (condition_holds b base rows) (conditions_of ss)
  all-hold [] of = refl
  all-hold (s ∷ ss) of =
      ap (λ (r : List Row). condition_holds b base r s.condition && list_all (subject_holds b base) ss)
      (All-head (λ (t : Subject). t.index.now.table.now.rows ≡ rows) s ss of)
      ∙ ap (λ t. condition_holds b base rows s.condition && t)
      (all-hold ss (All-tail (λ (t : Subject). t.index.now.table.now.rows ≡ rows) s ss of))
