-- The written refutation of each demand, in one form for all surfaces.
use Rattle.std.proofs.Common.{◌≡◌, refl, sym, subst, ap, List, Option}
use Rattle.std.specs.List.{list_all, list_any}
use Rattle.std.specs.Prelude.{ℤ}
use Rattle.gd_bound.specs.Evidence.{passes_by_more, value_outside}
use Rattle.gd_quat.specs.Formulas.{Ends}
use Rattle.gd_vec.specs.declared.vector.V3.{V3}
use Rattle.gd_zone.specs.Conditions.{IsPair, length2_of}
use Rattle.gd_zone.specs.Refutations.{distance_outside, distance_refuted, is_more, plane_refuted, surface_refuted}
use Rattle.gd_zone.specs.declared.condition.Demand.TheVariants.{Within, Spread, Contact, HugInner, HugOuter}
use Rattle.gd_zone.specs.declared.condition.Surface.{Surface}
use Rattle.gd_zone.specs.declared.condition.Surface.TheVariants.{Plane, Axis, Ball}

pub within-is : (s : Surface) (lo hi : Option ℤ) (vs all : List Ends) → surface_refuted s (Within lo hi) vs all ≡ list_any (value_outside s lo hi) vs
unfolding plane_refuted distance_refuted
within-is (Plane d p) lo hi vs all = refl
within-is (Axis d p) lo hi vs all = refl
within-is (Ball p) lo hi vs all = refl

pub spread-is : (s : Surface) (t : ℤ) (vs all : List Ends) → surface_refuted s (Spread t) vs all ≡ list_any (λ a. list_any (λ b. passes_by_more s t a b) vs) vs
unfolding plane_refuted distance_refuted
spread-is (Plane d p) t vs all = refl
spread-is (Axis d p) t vs all = refl
spread-is (Ball p) t vs all = refl

pub contact-is : (s : Surface) (hi : ℤ) → IsPair s (Contact hi) → (vs all : List Ends) → surface_refuted s (Contact hi) vs all ≡ list_all (λ v. is_more v.lo hi (length2_of s)) vs
unfolding plane_refuted distance_refuted
contact-is (Plane d p) hi is vs all = refl
contact-is (Axis d p) hi is vs all = absurd is
contact-is (Ball p) hi is vs all = absurd is

pub inner-is : (s : Surface) (t : ℤ) → IsPair s (HugInner t) → (vs all : List Ends) → surface_refuted s (HugInner t) vs all ≡ list_any (λ b. list_all (λ a. passes_by_more s t a b) vs) all
unfolding plane_refuted distance_refuted
inner-is (Plane d p) t is vs all = absurd is
inner-is (Axis d p) t is vs all = refl
inner-is (Ball p) t is vs all = absurd is

pub outer-is : (s : Surface) (t : ℤ) → IsPair s (HugOuter t) → (vs all : List Ends) → surface_refuted s (HugOuter t) vs all ≡ list_any (λ b. list_all (λ a. passes_by_more s t b a) vs) all
unfolding plane_refuted distance_refuted
outer-is (Plane d p) t is vs all = absurd is
outer-is (Axis d p) t is vs all = refl
outer-is (Ball p) t is vs all = absurd is

-- ---- an axis
pub outside-axis : (s : Surface) (d p : V3) (lo hi : Option ℤ) (e : Ends) (n : ℤ) → s ≡ Axis d p → n ≡ length2_of s → distance_outside lo hi n e ≡ value_outside s lo hi e
outside-axis s d p lo hi e n is h = subst (λ z. n ≡ length2_of z → distance_outside lo hi n e ≡ value_outside z lo hi e) (sym is) (λ k. ap (λ m. distance_outside lo hi m e) k) h
