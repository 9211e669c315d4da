-- Where some evidence refutes, the condition is refuted by its written test.
use Rattle.std.proofs.Common.{◌≡◌, refl, sym, subst, ap, ◌∙◌, ℕ, zero, suc, ◌-◌, List, [], ◌∷◌, map, filter, get_or, Bool, true, false, cond, ◌&&◌, ◌||◌, ◌==◌, arith}
use Rattle.std.proofs.lemmas.Bool.{false≢true}
use Rattle.std.specs.List.{list_all, list_any}
use Rattle.std.specs.Prelude.{slice_get}
use Rattle.gd_bound.specs.Evidence.{names, passes_by_more, refuted_at, refutes_by, value_outside}
use Rattle.gd_bound.specs.Laws.{EvidenceRefutes, RefutedIsEmpty}
use Rattle.gd_bound.proofs.Written.{contact-is, inner-is, outer-is, spread-is, within-is}
use Rattle.gd_points.specs.Index.{passes, row_at}
use Rattle.gd_points.specs.declared.table.Row.{Row}
use Rattle.gd_quat.specs.Formulas.{Ends}
use Rattle.gd_vec.specs.declared.vector.V3.{V3}
use Rattle.gd_zone.proofs.Unmet.{refuted-is-unmet}
use Rattle.gd_zone.specs.Boxes.{PlacedEnds, placed_ends}
use Rattle.gd_zone.specs.Conditions.{IsPair, belongs, is_of_feature, length2_of}
use Rattle.gd_zone.specs.Extremes.{ends_by}
use Rattle.gd_zone.specs.Refutations.{condition_refuted, is_more, surface_refuted}
use Rattle.gd_zone.specs.Tests.{ends_at}
use Rattle.gd_zone.specs.declared.condition.Condition.{Condition}
use Rattle.gd_zone.specs.declared.condition.Demand.{Demand}
use Rattle.gd_zone.specs.declared.condition.Demand.TheVariants.{Within, Spread, Contact, HugInner, HugOuter}

pub and-left : (a b : Bool) → (a && b) ≡ true → a ≡ true
and-left true b h = refl
and-left false b h = absurd (false≢true h)

pub and-right : (a b : Bool) → (a && b) ≡ true → b ≡ true
and-right true b h = h
and-right false b h = absurd (false≢true h)

pub and-both : (a b : Bool) → a ≡ true → b ≡ true → (a && b) ≡ true
and-both true b h k = k
and-both false b h k = absurd (false≢true h)

or-right : (a b : Bool) → b ≡ true → (a || b) ≡ true
or-right true b h = refl
or-right false b h = h

-- a first test that failed
pub or-else : (p q a b : Bool) → p ≡ a → p ≡ false → q ≡ b → q ≡ (a || b)
or-else p q true b e f g = absurd (false≢true (sym f ∙ e))
or-else p q false b e f g = g

-- ---- a row that passes stands among those that pass
any-of-row : (p : Ends → Bool) (f : Row → Ends) (test : Row → Bool) (rows : List Row) (i : ℕ) (d : Row) → passes test (slice_get rows i) ≡ true → p (f (get_or rows i d)) ≡ true
    → list_any p (map f (filter test rows)) ≡ true
any-of-row p f test [] i d n h = absurd (false≢true n)
any-of-row p f test (r ∷ rows) zero d n h = by (test r) n
  where
    by : (t : Bool) → t ≡ true → list_any p (map f (cond t (r ∷ filter test rows) (filter test rows))) ≡ true
    by true e = ap (λ b. b || list_any p (map f (filter test rows))) h
    by false e = absurd (false≢true e)
any-of-row p f test (r ∷ rows) (suc i) d n h = by (test r) (any-of-row p f test rows i d n h)
  where
    by : (t : Bool) → list_any p (map f (filter test rows)) ≡ true → list_any p (map f (cond t (r ∷ filter test rows) (filter test rows))) ≡ true
    by true more = or-right (p (f r)) (list_any p (map f (filter test rows))) more
    by false more = more

module _ (b : PlacedEnds) (base : V3) (rows : List Row) (c : Condition) where
  -- the value of a named point stands among those of the points that the test names
  any-named : (p : Ends → Bool) (test : Row → Bool) (a : ℕ) → names test rows a ≡ true → p (ends_by b base c rows (a - 1)) ≡ true → list_any p (map (ends_at b base c) (filter test rows)) ≡ true
  unfolding ends_by
  any-named p test zero n h = absurd (false≢true n)
  any-named p test (suc i) n h = any-of-row p (ends_at b base c) test rows i (row_at [] 0) n (subst (λ j. p (ends_at b base c (row_at rows j)) ≡ true) (one-less i) h)
    where
      one-less : (i : ℕ) → suc i - 1 ≡ i
      one-less i = omega arith

  by : (d : Demand) (i j : ℕ) → IsPair c.surface d → refutes_by c rows d (ends_by b base c rows) (map (ends_at b base c) (filter (belongs c) rows)) i j ≡ true
      → surface_refuted c.surface d (map (ends_at b base c) (filter (belongs c) rows)) (map (ends_at b base c) (filter (is_of_feature c) rows)) ≡ true
  unfolding refutes_by
  by (Within lo hi) i j is h =
      let e = ends_by b base c rows in
      let vs = map (ends_at b base c) (filter (belongs c) rows) in
      let n = and-left (names (belongs c) rows i && (j == 0)) (value_outside c.surface lo hi (e (i - 1))) h in
      within-is c.surface lo hi vs (map (ends_at b base c) (filter (is_of_feature c) rows))
      ∙ any-named (value_outside c.surface lo hi) (belongs c) i (and-left (names (belongs c) rows i) (j == 0) n) (and-right (names (belongs c) rows i && (j == 0)) (value_outside c.surface lo hi (e (i - 1))) h)
  by (Spread t) i j is h =
      let e = ends_by b base c rows in
      let vs = map (ends_at b base c) (filter (belongs c) rows) in
      let n = and-left (names (belongs c) rows i && names (belongs c) rows j) (passes_by_more c.surface t (e (i - 1)) (e (j - 1))) h in
      let m = and-right (names (belongs c) rows i && names (belongs c) rows j) (passes_by_more c.surface t (e (i - 1)) (e (j - 1))) h in
      spread-is c.surface t vs (map (ends_at b base c) (filter (is_of_feature c) rows))
      ∙ any-named (λ v. list_any (λ w. passes_by_more c.surface t v w) vs) (belongs c) i (and-left (names (belongs c) rows i) (names (belongs c) rows j) n)
      (any-named (λ w. passes_by_more c.surface t (e (i - 1)) w) (belongs c) j (and-right (names (belongs c) rows i) (names (belongs c) rows j) n) m)
  by (Contact hi) i j is h =
      let vs = map (ends_at b base c) (filter (belongs c) rows) in
      contact-is c.surface hi is vs (map (ends_at b base c) (filter (is_of_feature c) rows)) ∙ and-right ((i == 0) && (j == 0)) (list_all (λ v. is_more v.lo hi (length2_of c.surface)) vs) h
  by (HugInner t) i j is h =
      let e = ends_by b base c rows in
      let vs = map (ends_at b base c) (filter (belongs c) rows) in
      let n = and-left (names (is_of_feature c) rows j && (i == 0)) (list_all (λ v. passes_by_more c.surface t v (e (j - 1))) vs) h in
      inner-is c.surface t is vs (map (ends_at b base c) (filter (is_of_feature c) rows))
      ∙ any-named (λ w. list_all (λ v. passes_by_more c.surface t v w) vs) (is_of_feature c) j (and-left (names (is_of_feature c) rows j) (i == 0) n)
      (and-right (names (is_of_feature c) rows j && (i == 0)) (list_all (λ v. passes_by_more c.surface t v (e (j - 1))) vs) h)
  by (HugOuter t) i j is h =
      let e = ends_by b base c rows in
      let vs = map (ends_at b base c) (filter (belongs c) rows) in
      let n = and-left (names (is_of_feature c) rows i && (j == 0)) (list_all (λ v. passes_by_more c.surface t (e (i - 1)) v) vs) h in
      outer-is c.surface t is vs (map (ends_at b base c) (filter (is_of_feature c) rows))
      ∙ any-named (λ w. list_all (λ v. passes_by_more c.surface t w v) vs) (is_of_feature c) i (and-left (names (is_of_feature c) rows i) (j == 0) n)
      (and-right (names (is_of_feature c) rows i && (j == 0)) (list_all (λ v. passes_by_more c.surface t (e (i - 1)) v) vs) h)

pub evidence-refutes : EvidenceRefutes
unfolding refuted_at condition_refuted
evidence-refutes b base rows c e is h = by b base rows c c.demand e.a e.b is.pair h

pub refuted-is-empty : RefutedIsEmpty
refuted-is-empty b base rows c e is h p ok held m = refuted-is-unmet b p base rows c ok held is (evidence-refutes (placed_ends b) base rows c e is h) m
