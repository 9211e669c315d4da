-- A test by the extremes is the test of all points, or of all pairs.
use Rattle.std.proofs.Common.{◌≡◌, refl, sym, subst, ap, ◌∙◌, ℕ, ◌<◌, List, [], map, length, get_or, Bool, true, false, not, ◌&&◌, Option, arith}
use Rattle.std.proofs.lemmas.Bool.{false≢true}
use Rattle.std.proofs.lemmas.Int.{ints}
use Rattle.std.proofs.lemmas.List.{get_or-map, length-map}
use Rattle.std.proofs.lemmas.List.Folds.{list_all_at, list_any_at, list_any_none}
use Rattle.std.proofs.lemmas.List.Sums.{list_all-from_AllPass}
use Rattle.std.specs.List.{All, Any, list_all, list_any}
use Rattle.std.specs.Prelude.{ℤ, pos, ◌^◌, ◌*ℤ◌, ◌≤ℤ◌}
use Rattle.gd_int.proofs.Comparisons.{AtMost-below}
use Rattle.gd_int.proofs.Orders.{at_most_from_cmp}
use Rattle.gd_quat.specs.Formulas.{Ends}
use Rattle.gd_zone.proofs.Roots.{ceil-root-mono, floor-root-mono}
use Rattle.gd_zone.specs.Conditions.{IsPair, length2_of}
use Rattle.gd_zone.specs.Extremes.{AreExtremes, IsGreatest, IsLeast, at_narrowest, at_widest, value_within}
use Rattle.gd_zone.specs.Refutations.{is_more}
use Rattle.gd_vec.specs.declared.vector.V3.{V3}
use Rattle.gd_zone.specs.Tests.{ceil_root, distance_within, floor_root, is_at_most, surface_holds}
use Rattle.gd_zone.specs.Tests as tests
use Rattle.gd_zone.specs.declared.condition.Demand.TheVariants.{Within, Spread, Contact, HugInner, HugOuter}
use Rattle.gd_zone.specs.declared.condition.Surface.{Surface}
use Rattle.gd_zone.specs.declared.condition.Surface.TheVariants.{Plane, Axis, Ball}

-- ---- one value that decides for all, or for some
pub all-is : {X : Type 0} (p : X → Bool) (xs : List X) (r : Bool) → All (λ x. r ≡ true → p x ≡ true) xs → Any (λ x. p x ≡ r) xs → list_all p xs ≡ r
all-is p xs true all some = list_all-from_AllPass p xs (λ k d l. all k d l refl)
all-is p xs false all some = list_all_at p xs some.0 some.1 some.2 (ap p some.3 ∙ some.4)

not-true : (b : Bool) → (b ≡ true → false ≡ true) → b ≡ false
not-true true f = absurd (false≢true (f refl))
not-true false f = refl

pub any-is : {X : Type 0} (p : X → Bool) (xs : List X) (r : Bool) → All (λ x. p x ≡ true → r ≡ true) xs → Any (λ x. p x ≡ r) xs → list_any p xs ≡ r
any-is p xs true all some = list_any_at p xs some.0 some.1 some.2 (ap p some.3 ∙ some.4)
any-is p xs false all some = list_any_none p xs (λ k d l. not-true (p (get_or xs k d)) (all k d l))

-- ---- a test of two numbers that passes for lesser first and greater second ones, too
abbrev pub Falls : (ℤ → ℤ → Bool) → Type 0
Falls test = (x x' y y' : ℤ) → x' ≤ℤ x → y ≤ℤ y' → test x y ≡ true → test x' y' ≡ true

pub z-refl : (x : ℤ) → x ≤ℤ x
z-refl x = omega (arith, ints)

module _ (test : ℤ → ℤ → Bool) (falls : Falls test) (hi lo : Ends → ℤ) (vs ws : List Ends) where
  -- the second of one value against all
  all-second : (x least : ℤ) → IsLeast lo ws least → list_all (λ b. test x (lo b)) ws ≡ test x least
  all-second x least h =
      all-is (λ b. test x (lo b)) ws (test x least) (λ k d l. falls x x least (lo (get_or ws k d)) (z-refl x) (h.below k d l))
      (h.reached.0, h.reached.1, h.reached.2, h.reached.3, ap (test x) h.reached.4)

  pub all-all : (greatest least : ℤ) → IsGreatest hi vs greatest → IsLeast lo ws least → list_all (λ a. list_all (λ b. test (hi a) (lo b)) ws) vs ≡ test greatest least
  all-all greatest least g h =
      all-is (λ a. list_all (λ b. test (hi a) (lo b)) ws) vs (test greatest least)
      (λ k d l t. all-second (hi (get_or vs k d)) least h ∙ falls greatest (hi (get_or vs k d)) least least (g.above k d l) (z-refl least) t)
      (g.reached.0, g.reached.1, g.reached.2, g.reached.3, all-second (hi g.reached.1) least h ∙ ap (λ x. test x least) g.reached.4)

  pub any-all : (first least : ℤ) → IsLeast hi vs first → IsLeast lo ws least → list_any (λ a. list_all (λ b. test (hi a) (lo b)) ws) vs ≡ test first least
  any-all first least g h =
      any-is (λ a. list_all (λ b. test (hi a) (lo b)) ws) vs (test first least)
      (λ k d l t. falls (hi (get_or vs k d)) first least least (g.below k d l) (z-refl least) (sym (all-second (hi (get_or vs k d)) least h) ∙ t))
      (g.reached.0, g.reached.1, g.reached.2, g.reached.3, all-second (hi g.reached.1) least h ∙ ap (λ x. test x least) g.reached.4)

  -- the first of one value against all
  all-first : (y greatest : ℤ) → IsGreatest hi ws greatest → list_all (λ b. test (hi b) y) ws ≡ test greatest y
  all-first y greatest h =
      all-is (λ b. test (hi b) y) ws (test greatest y) (λ k d l. falls greatest (hi (get_or ws k d)) y y (h.above k d l) (z-refl y))
      (h.reached.0, h.reached.1, h.reached.2, h.reached.3, ap (λ x. test x y) h.reached.4)

  pub any-all-first : (greatest second : ℤ) → IsGreatest hi ws greatest → IsGreatest lo vs second → list_any (λ a. list_all (λ b. test (hi b) (lo a)) ws) vs ≡ test greatest second
  any-all-first greatest second h g =
      any-is (λ a. list_all (λ b. test (hi b) (lo a)) ws) vs (test greatest second)
      (λ k d l t. falls greatest greatest (lo (get_or vs k d)) second (z-refl greatest) (g.above k d l) (sym (all-first (lo (get_or vs k d)) greatest h) ∙ t))
      (g.reached.0, g.reached.1, g.reached.2, g.reached.3, all-first (lo g.reached.1) greatest h ∙ ap (λ y. test greatest y) g.reached.4)

  any-first : (y least : ℤ) → IsLeast hi ws least → list_any (λ b. test (hi b) y) ws ≡ test least y
  any-first y least h =
      any-is (λ b. test (hi b) y) ws (test least y) (λ k d l. falls (hi (get_or ws k d)) least y y (h.below k d l) (z-refl y))
      (h.reached.0, h.reached.1, h.reached.2, h.reached.3, ap (λ x. test x y) h.reached.4)

  pub any-any : (least second : ℤ) → IsLeast hi ws least → IsGreatest lo vs second → list_any (λ a. list_any (λ b. test (hi b) (lo a)) ws) vs ≡ test least second
  any-any least second h g =
      any-is (λ a. list_any (λ b. test (hi b) (lo a)) ws) vs (test least second)
      (λ k d l t. falls least least (lo (get_or vs k d)) second (z-refl least) (g.above k d l) (sym (any-first (lo (get_or vs k d)) least h) ∙ t))
      (g.reached.0, g.reached.1, g.reached.2, g.reached.3, any-first (lo g.reached.1) least h ∙ ap (λ y. test least y) g.reached.4)

-- ---- at most, and more
at-most-below : (a a' h n : ℤ) → a' ≤ℤ a → is_at_most a h n ≡ true → is_at_most a' h n ≡ true
at-most-below a a' h n l t = (at_most_from_cmp a' (h *ℤ pos (2 ^ 15)) n).1 (AtMost-below a a' (h *ℤ pos (2 ^ 15)) n l ((at_most_from_cmp a (h *ℤ pos (2 ^ 15)) n).0 t))

not-falls : (a b : Bool) → (b ≡ true → a ≡ true) → not a ≡ true → not b ≡ true
not-falls true b f h = absurd (false≢true h)
not-falls false true f h = absurd (false≢true (f refl))
not-falls false false f h = refl

pub more-above : (a a' h n : ℤ) → a ≤ℤ a' → is_more a h n ≡ true → is_more a' h n ≡ true
more-above a a' h n l t = not-falls (is_at_most a h n) (is_at_most a' h n) (at-most-below a' a h n l) t

widest-falls : (s : Surface) (x x' y y' : ℤ) → x' ≤ℤ x → y ≤ℤ y' → at_widest s x' y' ≤ℤ at_widest s x y
widest-falls (Plane d p) x x' y y' h k = omega (arith, ints, h, k)
widest-falls (Axis d p) x x' y y' h k = let u = ceil-root-mono x' x h in let v = floor-root-mono y y' k in omega (arith, ints, u, v)
widest-falls (Ball p) x x' y y' h k = let u = ceil-root-mono x' x h in let v = floor-root-mono y y' k in omega (arith, ints, u, v)

narrowest-falls : (s : Surface) (x x' y y' : ℤ) → x' ≤ℤ x → y ≤ℤ y' → at_narrowest s y x ≤ℤ at_narrowest s y' x'
narrowest-falls (Plane d p) x x' y y' h k = omega (arith, ints, h, k)
narrowest-falls (Axis d p) x x' y y' h k = let u = ceil-root-mono x' x h in let v = floor-root-mono y y' k in omega (arith, ints, u, v)
narrowest-falls (Ball p) x x' y y' h k = let u = ceil-root-mono x' x h in let v = floor-root-mono y y' k in omega (arith, ints, u, v)

-- ---- tests of two values
abbrev pub passes_at_most : Surface → ℤ → ℤ → ℤ → Bool
passes_at_most s t hi lo = is_at_most (at_widest s hi lo) t (length2_of s)

abbrev pub passes_by_more : Surface → ℤ → ℤ → ℤ → Bool
passes_by_more s t hi lo = is_more (at_narrowest s lo hi) t (length2_of s)

at-most-falls : (s : Surface) (t : ℤ) → Falls (passes_at_most s t)
at-most-falls s t x x' y y' h k p = at-most-below (at_widest s x y) (at_widest s x' y') t (length2_of s) (widest-falls s x x' y y' h k) p

pub more-falls : (s : Surface) (t : ℤ) → Falls (passes_by_more s t)
more-falls s t x x' y y' h k p = more-above (at_narrowest s y x) (at_narrowest s y' x') t (length2_of s) (narrowest-falls s x x' y y' h k) p

-- ---- what holds
pub within-is : (s : Surface) (lo hi : Option ℤ) (vs all : List Ends) → surface_holds s (Within lo hi) vs all ≡ list_all (value_within s lo hi) vs
unfolding tests.plane_holds tests.distance_holds
within-is (Plane d p) lo hi vs all = refl
within-is (Axis d p) lo hi vs all = refl
within-is (Ball p) lo hi vs all = refl

spread-is : (s : Surface) (t : ℤ) (vs all : List Ends) → surface_holds s (Spread t) vs all ≡ list_all (λ a. list_all (λ b. passes_at_most s t a.hi b.lo) vs) vs
unfolding tests.plane_holds tests.distance_holds
spread-is (Plane d p) t vs all = refl
spread-is (Axis d p) t vs all = refl
spread-is (Ball p) t vs all = refl

pub spread-holds : (s : Surface) (t : ℤ) (vs all : List Ends) (least greatest : Ends) → AreExtremes vs least greatest
    → passes_at_most s t greatest.hi least.lo ≡ surface_holds s (Spread t) vs all
spread-holds s t vs all least greatest e =
    sym (spread-is s t vs all ∙ all-all (passes_at_most s t) (at-most-falls s t) (λ v. v.hi) (λ v. v.lo) vs vs greatest.hi least.lo e.greatest_hi e.least_lo)

pub spread-of-none : (s : Surface) (t : ℤ) (vs all : List Ends) → vs ≡ [] → true ≡ surface_holds s (Spread t) vs all
spread-of-none s t vs all e = subst (λ z. true ≡ surface_holds s (Spread t) z all) (sym e) (sym (spread-is s t [] all))

contact-is : (s : Surface) (hi : ℤ) → IsPair s (Contact hi) → (vs all : List Ends) → surface_holds s (Contact hi) vs all ≡ list_any (λ v. is_at_most v.hi hi (length2_of s)) vs
unfolding tests.plane_holds tests.distance_holds
contact-is (Plane d p) hi is vs all = refl
contact-is (Axis d p) hi is vs all = absurd is
contact-is (Ball p) hi is vs all = absurd is

inner-is : (s : Surface) (t : ℤ) → IsPair s (HugInner t) → (vs all : List Ends) → surface_holds s (HugInner t) vs all ≡ list_any (λ a. list_all (λ b. passes_at_most s t a.hi b.lo) all) vs
unfolding tests.plane_holds tests.distance_holds
inner-is (Plane d p) t is vs all = absurd is
inner-is (Axis d p) t is vs all = refl
inner-is (Ball p) t is vs all = absurd is

outer-is : (s : Surface) (t : ℤ) → IsPair s (HugOuter t) → (vs all : List Ends) → surface_holds s (HugOuter t) vs all ≡ list_any (λ a. list_all (λ b. passes_at_most s t b.hi a.lo) all) vs
unfolding tests.plane_holds tests.distance_holds
outer-is (Plane d p) t is vs all = absurd is
outer-is (Axis d p) t is vs all = refl
outer-is (Ball p) t is vs all = absurd is

-- the group's extremes, and the feature's
pub inner-holds : (s : Surface) (t : ℤ) → IsPair s (HugInner t) → (vs all : List Ends) (least greatest l g : Ends) → AreExtremes vs least greatest → AreExtremes all l g
    → passes_at_most s t least.hi l.lo ≡ surface_holds s (HugInner t) vs all
inner-holds s t is vs all least greatest l g e f =
    sym (inner-is s t is vs all ∙ any-all (passes_at_most s t) (at-most-falls s t) (λ v. v.hi) (λ v. v.lo) vs all least.hi l.lo e.least_hi f.least_lo)

pub outer-holds : (s : Surface) (t : ℤ) → IsPair s (HugOuter t) → (vs all : List Ends) (least greatest l g : Ends) → AreExtremes vs least greatest → AreExtremes all l g
    → passes_at_most s t g.hi greatest.lo ≡ surface_holds s (HugOuter t) vs all
outer-holds s t is vs all least greatest l g e f =
    sym (outer-is s t is vs all ∙ any-all-first (passes_at_most s t) (at-most-falls s t) (λ v. v.hi) (λ v. v.lo) vs all g.hi greatest.lo f.greatest_hi e.greatest_lo)

pub inner-of-none : (s : Surface) (t : ℤ) → IsPair s (HugInner t) → (vs all : List Ends) → vs ≡ [] → false ≡ surface_holds s (HugInner t) vs all
inner-of-none s t is vs all e = subst (λ z. false ≡ surface_holds s (HugInner t) z all) (sym e) (sym (inner-is s t is [] all))

pub outer-of-none : (s : Surface) (t : ℤ) → IsPair s (HugOuter t) → (vs all : List Ends) → vs ≡ [] → false ≡ surface_holds s (HugOuter t) vs all
outer-of-none s t is vs all e = subst (λ z. false ≡ surface_holds s (HugOuter t) z all) (sym e) (sym (outer-is s t is [] all))

-- a group of a feature with no points: that never is, but the test is what is written
pub inner-of-no-feature : (s : Surface) (t : ℤ) → IsPair s (HugInner t) → (vs all : List Ends) (least greatest : Ends) → AreExtremes vs least greatest → all ≡ [] → true ≡ surface_holds s (HugInner t) vs all
inner-of-no-feature s t is vs all least greatest e f =
    subst (λ z. true ≡ surface_holds s (HugInner t) vs z) (sym f)
    (sym (inner-is s t is vs [] ∙ list_any_at (λ (a : Ends). list_all (λ (b : Ends). passes_at_most s t a.hi b.lo) []) vs e.least_lo.reached.0 e.least_lo.reached.1 e.least_lo.reached.2 refl))

pub outer-of-no-feature : (s : Surface) (t : ℤ) → IsPair s (HugOuter t) → (vs all : List Ends) (least greatest : Ends) → AreExtremes vs least greatest → all ≡ [] → true ≡ surface_holds s (HugOuter t) vs all
outer-of-no-feature s t is vs all least greatest e f =
    subst (λ z. true ≡ surface_holds s (HugOuter t) vs z) (sym f)
    (sym (outer-is s t is vs [] ∙ list_any_at (λ (a : Ends). list_all (λ (b : Ends). passes_at_most s t b.hi a.lo) []) vs e.least_lo.reached.0 e.least_lo.reached.1 e.least_lo.reached.2 refl))

-- ---- points one by one
pub within-all : (s : Surface) (lo hi : Option ℤ) (f : ℕ → Ends) (ns : List ℕ) (all : List Ends) → ((j : ℕ) → j < length ns → value_within s lo hi (f (get_or ns j 0)) ≡ true)
    → true ≡ surface_holds s (Within lo hi) (map f ns) all
within-all s lo hi f ns all h =
    sym (within-is s lo hi (map f ns) all ∙ list_all-from_AllPass (value_within s lo hi) (map f ns) (λ k d l.
    let m : k < length ns = omega (arith, l, length-map ns f) in
    subst (λ v. value_within s lo hi v ≡ true) (sym (get_or-map f ns k 0 d m)) (h k m)))

pub within-not : (s : Surface) (lo hi : Option ℤ) (f : ℕ → Ends) (ns : List ℕ) (all : List Ends) (j : ℕ) → j < length ns → value_within s lo hi (f (get_or ns j 0)) ≡ false
    → false ≡ surface_holds s (Within lo hi) (map f ns) all
within-not s lo hi f ns all j l h =
    sym (within-is s lo hi (map f ns) all ∙ list_all_at (value_within s lo hi) (map f ns) j (f (get_or ns j 0)) (omega (arith, l, length-map ns f)) (ap (value_within s lo hi) (get_or-map f ns j 0 (f (get_or ns j 0)) l) ∙ h))

pub contact-some : (s : Surface) (hi : ℤ) → IsPair s (Contact hi) → (f : ℕ → Ends) (ns : List ℕ) (all : List Ends) (j : ℕ) → j < length ns → is_at_most (f (get_or ns j 0)).hi hi (length2_of s) ≡ true
    → true ≡ surface_holds s (Contact hi) (map f ns) all
contact-some s hi is f ns all j l h =
    sym (contact-is s hi is (map f ns) all ∙ list_any_at (λ (v : Ends). is_at_most v.hi hi (length2_of s)) (map f ns) j (f (get_or ns j 0)) (omega (arith, l, length-map ns f))
    (ap (λ (v : Ends). is_at_most v.hi hi (length2_of s)) (get_or-map f ns j 0 (f (get_or ns j 0)) l) ∙ h))

pub contact-none : (s : Surface) (hi : ℤ) → IsPair s (Contact hi) → (f : ℕ → Ends) (ns : List ℕ) (all : List Ends) → ((j : ℕ) → j < length ns → is_at_most (f (get_or ns j 0)).hi hi (length2_of s) ≡ false)
    → false ≡ surface_holds s (Contact hi) (map f ns) all
contact-none s hi is f ns all h =
    sym (contact-is s hi is (map f ns) all ∙ list_any_none (λ (v : Ends). is_at_most v.hi hi (length2_of s)) (map f ns) (λ k d l.
    let m : k < length ns = omega (arith, l, length-map ns f) in
    subst (λ (v : Ends). is_at_most v.hi hi (length2_of s) ≡ false) (sym (get_or-map f ns k 0 d m)) (h k m)))

-- ---- a first test that passed
pub and-then : (p q a b : Bool) → p ≡ a → p ≡ true → q ≡ b → q ≡ (a && b)
and-then p q true b e f g = g
and-then p q false b e f g = absurd (false≢true (sym e ∙ f))

-- ---- an axis
pub within-axis : (s : Surface) (d p : V3) (lo hi : Option ℤ) (e : Ends) (n : ℤ) → s ≡ Axis d p → n ≡ length2_of s → distance_within lo hi n e ≡ value_within s lo hi e
within-axis s d p lo hi e n is h = subst (λ z. n ≡ length2_of z → distance_within lo hi n e ≡ value_within z lo hi e) (sym is) (λ k. ap (λ m. distance_within lo hi m e) k) h
