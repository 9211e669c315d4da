-- Values worked by hand, so that a wrong definition doesn't check.
use Rattle.std.proofs.Common.{◌≡◌, refl, inl, inr, Less, Equal, Greater}
use Rattle.std.specs.Prelude.{pos, neg_ℤ}
use Rattle.gd_int.specs.Comparisons.{AtMost, RootAtMost}
use Rattle.gd_int.specs.Division.{ceil_of, floor_of}
use Rattle.gd_int.specs.Roots.{cmp_root_of}

-- 7 / 2 is 3.5
pub known_floors : (floor_of (pos 7) (pos 2) ≡ pos 3) × (floor_of (neg_ℤ (pos 7)) (pos 2) ≡ neg_ℤ (pos 4))
    × (floor_of (neg_ℤ (pos 6)) (pos 2) ≡ neg_ℤ (pos 3))
known_floors = (refl, refl, refl)

pub known_ceilings : (ceil_of (pos 7) (pos 2) ≡ pos 4) × (ceil_of (neg_ℤ (pos 7)) (pos 2) ≡ neg_ℤ (pos 3))
    × (ceil_of (pos 6) (pos 2) ≡ pos 3)
known_ceilings = (refl, refl, refl)

-- 4 roots of 3 are 6.93, and 3 roots of 4 are 6
pub known_orders : (cmp_root_of (pos 10) (pos 4) (pos 3) ≡ Greater) × (cmp_root_of (pos 6) (pos 4) (pos 3) ≡ Less)
    × (cmp_root_of (pos 6) (pos 3) (pos 4) ≡ Equal)
known_orders = (refl, refl, refl)

-- the root of 2 is 1.41421356237.., and the greatest numbers that a comparison takes
pub known_close_orders : (cmp_root_of (pos 141_421_356_237) (pos 100_000_000_000) (pos 2) ≡ Less)
    × (cmp_root_of (pos 141_421_356_238) (pos 100_000_000_000) (pos 2) ≡ Greater)
    × (cmp_root_of (pos 9_223_372_036_854_775_807) (pos 4_611_686_018_427_387_903) (pos 3) ≡ Greater)
known_close_orders = (refl, refl, refl)

-- and with the signs turned
pub known_negative_orders : (cmp_root_of (neg_ℤ (pos 10)) (neg_ℤ (pos 4)) (pos 3) ≡ Less)
    × (cmp_root_of (neg_ℤ (pos 6)) (neg_ℤ (pos 4)) (pos 3) ≡ Greater)
    × (cmp_root_of (neg_ℤ (pos 6)) (neg_ℤ (pos 3)) (pos 4) ≡ Equal)
    × (cmp_root_of (pos 1) (neg_ℤ (pos 4)) (pos 3) ≡ Greater)
known_negative_orders = (refl, refl, refl, refl)

pub known_bounds : AtMost (pos 6) (pos 4) (pos 3) × (¬ (AtMost (pos 7) (pos 4) (pos 3)))
    × AtMost (neg_ℤ (pos 7)) (neg_ℤ (pos 4)) (pos 3) × (¬ (AtMost (neg_ℤ (pos 6)) (neg_ℤ (pos 4)) (pos 3)))
unfolding AtMost
known_bounds = (record { le = tt }, λ h. h.le, record { le = tt }, λ h. h.le)

-- 3 is 2 + 1, the root of 10 is more, and the root of 3 is less than 2 alone
pub known_sums : RootAtMost (pos 9) (pos 4) (pos 1) × (RootAtMost (pos 3) (pos 4) (pos 9))
unfolding RootAtMost
known_sums = (inr (record { le = tt }), inl (record { le = tt }))

pub known_excess : ¬ (RootAtMost (pos 10) (pos 4) (pos 1))
unfolding RootAtMost
known_excess h = elim h as (λ _. ⊥) [ inl l ↦ l.le | inr l ↦ l.le ]
