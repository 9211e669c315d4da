-- The root of p against the roots of q and r, for natural numbers, where x bounds the root of p and y that of q.
use Rattle.std.proofs.Common.{◌≡◌, ℕ, ◌+◌, ◌-◌, ◌*◌, ◌≤◌, ◌<◌, ◌⊎◌, inl, inr, arith}
use Rattle.std.proofs.lemmas.Bool.{cases_lt}
use Rattle.std.proofs.lemmas.Int.{ints}
use Rattle.std.specs.Prelude.{pos, ◌-ℤ◌, ◌*ℤ◌, ◌≤ℤ◌}
use borrow.Author.Differences.{le_out}
use Rattle.gd_int.specs.Comparisons.{RootAtMost, excess}
use Rattle.gd_int.proofs.Squares.{square_le, excess-le, excess-gt}

pub from_bounds : (p q r x y : ℕ) → p ≤ x * x → y * y ≤ q → ((pos x ≤ℤ pos y) ⊎ (((pos x -ℤ pos y) *ℤ (pos x -ℤ pos y)) ≤ℤ pos r)) → RootAtMost (pos p) (pos q) (pos r)
unfolding RootAtMost
from_bounds p q r x y a b c = elim (cases_lt (q + r) p) as (λ _. RootAtMost (pos p) (pos q) (pos r)) [
  | inr l ↦ inl (omega (arith, ints))
  | inl l ↦ elim (cases_lt y x) as (λ _. RootAtMost (pos p) (pos q) (pos r)) [
    | inr m ↦ absurd (omega (arith, square_le x y m))
    | inl m ↦
        let ex : excess (pos p) (pos q) (pos r) ≡ pos (p - (q + r)) = omega (arith, ints) in
        let e : pos x -ℤ pos y ≡ pos (x - y) = omega (arith, ints) in
        let s : (x - y) * (x - y) ≤ r = elim c as (λ _. (x - y) * (x - y) ≤ r) [ inl z ↦ absurd (omega (arith, ints)) | inr z ↦ (let w : pos ((x - y) * (x - y)) ≤ℤ pos r = rw e at z in omega (arith, le_out (pos ((x - y) * (x - y))) (pos r) w)) ] in
        let f : y + (x - y) ≡ x = omega arith in
        let g : q + r + (p - (q + r)) ≡ p = omega arith in
        let h : q + r + (p - (q + r)) ≤ (y + (x - y)) * (y + (x - y)) = rw (f, g) a in
        inr (rw ex (omega (arith, ints, excess-le q r (p - (q + r)) y (x - y) h b s)))
  ]
]

pub to_bounds : (p q r x y : ℕ) → x * x ≤ p → q ≤ y * y → RootAtMost (pos p) (pos q) (pos r) → (pos x ≤ℤ pos y) ⊎ (((pos x -ℤ pos y) *ℤ (pos x -ℤ pos y)) ≤ℤ pos r)
unfolding RootAtMost
to_bounds p q r x y a b c = elim (cases_lt y x) as (λ _. (pos x ≤ℤ pos y) ⊎ (((pos x -ℤ pos y) *ℤ (pos x -ℤ pos y)) ≤ℤ pos r)) [
  | inr m ↦ inl (omega (arith, ints))
  | inl m ↦
      let e : pos x -ℤ pos y ≡ pos (x - y) = omega (arith, ints) in
      inr (rw e (elim (cases_lt r ((x - y) * (x - y))) as (λ _. pos ((x - y) * (x - y)) ≤ℤ pos r) [
        | inr o ↦ omega (arith, ints)
        | inl o ↦
            let f : y + (x - y) ≡ x = omega arith in
            let u : (y + (x - y)) * (y + (x - y)) ≤ p = rw f a in
            let v : q + r < p = omega arith in
            let ex : excess (pos p) (pos q) (pos r) ≡ pos (p - (q + r)) = omega (arith, ints) in
            let g : q + r + (p - (q + r)) ≡ p = omega arith in
            let h : (y + (x - y)) * (y + (x - y)) ≤ q + r + (p - (q + r)) = rw g u in
            let w : 4 * q * r < (p - (q + r)) * (p - (q + r)) = excess-gt q r (p - (q + r)) y (x - y) h b o in
            absurd (elim c as (λ _. ⊥) [
              | inl z ↦ omega (arith, ints)
              | inr z ↦ (let t : pos ((p - (q + r)) * (p - (q + r))) ≤ℤ pos (4 * (q * r)) = rw ex at z in omega (arith, le_out (pos ((p - (q + r)) * (p - (q + r)))) (pos (4 * (q * r))) t))
            ])
      ]))
]
