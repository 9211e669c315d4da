-- For a single direction of whole entries the offsets move a cross product.
use Rattle.std.proofs.Common.{◌≡◌, refl, sym, subst, ap, ◌∙◌, arith}
use Rattle.std.proofs.lemmas.Int.{ints, clamps}
use Rattle.std.specs.Prelude.{ℤ, pos, neg_ℤ, ◌+ℤ◌, ◌-ℤ◌, ◌*ℤ◌}
use Rattle.std.specs.Int.{int_max, int_min}
use Rattle.gd_axis.proofs.AxisSizes.{across-is}
use Rattle.gd_axis.proofs.SignProducts.{minor-whole}
use Rattle.gd_axis.specs.AxisTests.{across, direction_ends, from_offset, minor, span_of}
use Rattle.gd_axis.specs.Lenses.{IsSingle, moved, offsets_off}
use Rattle.gd_base.specs.Scales.{FINE}
use Rattle.gd_dir.specs.declared.shape.DirBox.{DirBox}
use Rattle.gd_int.proofs.Integers.{mul-neg_right, mul-sub_right}
use Rattle.gd_interval.specs.Formulas.{mul_hi, mul_lo}
use Rattle.gd_quat.specs.Formulas.{Ends, VectorEnds, difference, product}
use Rattle.gd_vec.specs.declared.vector.V3.{V3}

lo-moves : (a d h l : ℤ) → mul_lo a a (d -ℤ h) (d -ℤ l) ≡ mul_lo a a (neg_ℤ h) (neg_ℤ l) +ℤ (a *ℤ d)
lo-moves a d h l = least (a *ℤ d) (a *ℤ h) (a *ℤ l) (a *ℤ (d -ℤ h)) (a *ℤ (d -ℤ l)) (a *ℤ neg_ℤ h) (a *ℤ neg_ℤ l) (mul-sub_right a d h) (mul-sub_right a d l) (mul-neg_right a h) (mul-neg_right a l)
  where
    least : (w u v p q r s : ℤ) → p ≡ w -ℤ u → q ≡ w -ℤ v → r ≡ neg_ℤ u → s ≡ neg_ℤ v → int_min (int_min p q) (int_min p q) ≡ int_min (int_min r s) (int_min r s) +ℤ w
    least w u v p q r s e f g h = omega (arith, ints, clamps, e, f, g, h)

hi-moves : (a d h l : ℤ) → mul_hi a a (d -ℤ h) (d -ℤ l) ≡ mul_hi a a (neg_ℤ h) (neg_ℤ l) +ℤ (a *ℤ d)
hi-moves a d h l = most (a *ℤ d) (a *ℤ h) (a *ℤ l) (a *ℤ (d -ℤ h)) (a *ℤ (d -ℤ l)) (a *ℤ neg_ℤ h) (a *ℤ neg_ℤ l) (mul-sub_right a d h) (mul-sub_right a d l) (mul-neg_right a h) (mul-neg_right a l)
  where
    most : (w u v p q r s : ℤ) → p ≡ w -ℤ u → q ≡ w -ℤ v → r ≡ neg_ℤ u → s ≡ neg_ℤ v → int_max (int_max p q) (int_max p q) ≡ int_max (int_max r s) (int_max r s) +ℤ w
    most w u v p q r s e f g h = omega (arith, ints, clamps, e, f, g, h)

pair : ℤ → ℤ → Ends
pair l h = record { lo = l; hi = h }

-- an entry
same-minor : (n y m z : Ends) → minor 0 n y m z ≡ difference (product n y) (product m z)
same-minor n y m z = sym (minor-whole (difference (product n y) (product m z)) (product n y) (product m z) (product n y) (product m z) refl refl refl)

one-moves : (a c l h l' h' d e : ℤ)
    → moved (minor 0 (span_of a a) (span_of (neg_ℤ h) (neg_ℤ l)) (span_of c c) (span_of (neg_ℤ h') (neg_ℤ l'))) (a *ℤ d -ℤ c *ℤ e)
    ≡ minor 0 (span_of a a) (span_of (d -ℤ h) (d -ℤ l)) (span_of c c) (span_of (e -ℤ h') (e -ℤ l'))
unfolding pair
one-moves a c l h l' h' d e =
    ap (λ v. moved v (a *ℤ d -ℤ c *ℤ e)) (same-minor (span_of a a) (span_of (neg_ℤ h) (neg_ℤ l)) (span_of c c) (span_of (neg_ℤ h') (neg_ℤ l')))
    ∙ ap (λ x. pair x ((mul_hi a a (neg_ℤ h) (neg_ℤ l) -ℤ mul_lo c c (neg_ℤ h') (neg_ℤ l')) +ℤ (a *ℤ d -ℤ c *ℤ e))) (apart (mul_lo a a (neg_ℤ h) (neg_ℤ l)) (mul_hi c c (neg_ℤ h') (neg_ℤ l')) (mul_lo a a (d -ℤ h) (d -ℤ l)) (mul_hi c c (e -ℤ h') (e -ℤ l')) (a *ℤ d) (c *ℤ e) (lo-moves a d h l) (hi-moves c e h' l'))
    ∙ ap (λ x. pair (mul_lo a a (d -ℤ h) (d -ℤ l) -ℤ mul_hi c c (e -ℤ h') (e -ℤ l')) x) (apart (mul_hi a a (neg_ℤ h) (neg_ℤ l)) (mul_lo c c (neg_ℤ h') (neg_ℤ l')) (mul_hi a a (d -ℤ h) (d -ℤ l)) (mul_lo c c (e -ℤ h') (e -ℤ l')) (a *ℤ d) (c *ℤ e) (hi-moves a d h l) (lo-moves c e h' l'))
    ∙ sym (same-minor (span_of a a) (span_of (d -ℤ h) (d -ℤ l)) (span_of c c) (span_of (e -ℤ h') (e -ℤ l')))
  where
    apart : (x y p q w v : ℤ) → p ≡ x +ℤ w → q ≡ y +ℤ v → (x -ℤ y) +ℤ (w -ℤ v) ≡ p -ℤ q
    apart x y p q w v f g = omega (arith, ints, f, g)

pub minor-moves : (a a' c c' l h l' h' d e : ℤ) → a ≡ a' → c ≡ c'
    → moved (minor 0 (span_of a a') (span_of (neg_ℤ h) (neg_ℤ l)) (span_of c c') (span_of (neg_ℤ h') (neg_ℤ l'))) (a *ℤ d -ℤ c *ℤ e)
    ≡ minor 0 (span_of a a') (span_of (d -ℤ h) (d -ℤ l)) (span_of c c') (span_of (e -ℤ h') (e -ℤ l'))
minor-moves a a' c c' l h l' h' d e f g =
    subst (λ s. moved (minor 0 (span_of a s) (span_of (neg_ℤ h) (neg_ℤ l)) (span_of c c') (span_of (neg_ℤ h') (neg_ℤ l'))) (a *ℤ d -ℤ c *ℤ e) ≡ minor 0 (span_of a s) (span_of (d -ℤ h) (d -ℤ l)) (span_of c c') (span_of (e -ℤ h') (e -ℤ l'))) f
    (subst (λ s. moved (minor 0 (span_of a a) (span_of (neg_ℤ h) (neg_ℤ l)) (span_of c s) (span_of (neg_ℤ h') (neg_ℤ l'))) (a *ℤ d -ℤ c *ℤ e) ≡ minor 0 (span_of a a) (span_of (d -ℤ h) (d -ℤ l)) (span_of c s) (span_of (e -ℤ h') (e -ℤ l'))) g
    (one-moves a c l h l' h' d e))

-- all three
pub across-moves : (b : DirBox) (own at y : V3) (k r : VectorEnds) → IsSingle b k → y.x ≡ pos FINE *ℤ (at.x -ℤ own.x) → y.y ≡ pos FINE *ℤ (at.y -ℤ own.y) → y.z ≡ pos FINE *ℤ (at.z -ℤ own.z)
    → r.x ≡ moved k.x ((b.lo.y *ℤ y.z) -ℤ (b.lo.z *ℤ y.y)) → r.y ≡ moved k.y ((b.lo.z *ℤ y.x) -ℤ (b.lo.x *ℤ y.z)) → r.z ≡ moved k.z ((b.lo.x *ℤ y.y) -ℤ (b.lo.y *ℤ y.x))
    → r ≡ across 0 (direction_ends b) (from_offset b own at)
unfolding across
across-moves b own at y k r single ex ey ez f g h =
    let o : V3 = record { x = pos FINE *ℤ (at.x -ℤ own.x); y = pos FINE *ℤ (at.y -ℤ own.y); z = pos FINE *ℤ (at.z -ℤ own.z) } in
    across-is 0 (direction_ends b) (from_offset b own at) r.x r.y r.z
    (f ∙ ap (λ v. moved v.x ((b.lo.y *ℤ y.z) -ℤ (b.lo.z *ℤ y.y))) single.offsets ∙ ap (λ v. moved (across 0 (direction_ends b) (offsets_off b)).x ((b.lo.y *ℤ v) -ℤ (b.lo.z *ℤ y.y))) ez ∙ ap (λ v. moved (across 0 (direction_ends b) (offsets_off b)).x ((b.lo.y *ℤ o.z) -ℤ (b.lo.z *ℤ v))) ey
    ∙ minor-moves b.lo.y b.hi.y b.lo.z b.hi.z b.offset_lo.z b.offset_hi.z b.offset_lo.y b.offset_hi.y o.z o.y single.y single.z)
    (g ∙ ap (λ v. moved v.y ((b.lo.z *ℤ y.x) -ℤ (b.lo.x *ℤ y.z))) single.offsets ∙ ap (λ v. moved (across 0 (direction_ends b) (offsets_off b)).y ((b.lo.z *ℤ v) -ℤ (b.lo.x *ℤ y.z))) ex ∙ ap (λ v. moved (across 0 (direction_ends b) (offsets_off b)).y ((b.lo.z *ℤ o.x) -ℤ (b.lo.x *ℤ v))) ez
    ∙ minor-moves b.lo.z b.hi.z b.lo.x b.hi.x b.offset_lo.x b.offset_hi.x b.offset_lo.z b.offset_hi.z o.x o.z single.z single.x)
    (h ∙ ap (λ v. moved v.z ((b.lo.x *ℤ y.y) -ℤ (b.lo.y *ℤ y.x))) single.offsets ∙ ap (λ v. moved (across 0 (direction_ends b) (offsets_off b)).z ((b.lo.x *ℤ v) -ℤ (b.lo.y *ℤ y.x))) ey ∙ ap (λ v. moved (across 0 (direction_ends b) (offsets_off b)).z ((b.lo.x *ℤ o.y) -ℤ (b.lo.y *ℤ v))) ex
    ∙ minor-moves b.lo.x b.hi.x b.lo.y b.hi.y b.offset_lo.y b.offset_hi.y b.offset_lo.x b.offset_hi.x o.y o.x single.x single.y)
