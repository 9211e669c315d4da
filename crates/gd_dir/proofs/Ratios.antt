-- How often a ratio is halved, and how wide its boxes are.
use Rattle.std.proofs.Common.{arith, ◌≡◌, refl, ℕ, zero, suc, ◌+◌, ◌-◌, ◌*◌, ◌/◌, ◌%◌, ◌^◌, ◌≤◌, ◌<◌, Bool, true, false}
use Rattle.std.proofs.Common.{cond, ◌==◌, ◌≢◌}
use Rattle.std.proofs.lemmas.Bool.Decides.{nat_tests}
use Rattle.std.proofs.lemmas.Nat.{pow_pos}
use Rattle.std.proofs.Math.Nat.{mul-le-mul_right}
use Rattle.gd_cells.specs.Grid.{halvings}
use Rattle.gd_dir.specs.Faces.{faces}

-- one step more: a step of the ratio's turn adds a halving
next_halving : (ratio l : ℕ) (v : Bool) → (l % 2 == ratio) ≡ v
    → halvings faces ratio (suc l) ≡ cond v (halvings faces ratio l + 1) (halvings faces ratio l)
next_halving ratio l v e = rw e refl

-- the first ratio is halved in steps 0, 2, 4 .., the second in steps 1, 3, 5 ..
pub halvings_are : (ratio l : ℕ) → ratio < 2 → halvings faces ratio l ≡ (l + 1 - ratio) / 2
halvings_are ratio zero h = omega arith
halvings_are ratio (suc l) h =
    let before = halvings_are ratio l h in
    elim (l % 2 == ratio) as (λ v. (l % 2 == ratio) ≡ v
    → cond v (halvings faces ratio l + 1) (halvings faces ratio l) ≡ (suc l + 1 - ratio) / 2) [
      | true ↦ λ e. (let t : l % 2 ≡ ratio = grind (arith, nat_tests) in omega (arith, before))
      | false ↦ λ e. (let t : l % 2 ≢ ratio = grind (arith, nat_tests) in omega (arith, before))
    ] refl

-- a box whose number is one of its size's lies on the face
pub on_face : (i j : ℕ) → i < 2 ^ j → (i * (2 ^ 31 / 2 ^ j)) + (2 ^ 31 / 2 ^ j) ≤ 2 ^ 31
on_face i j h =
    let w : ℕ = 2 ^ 31 / 2 ^ j in
    let whole : 2 ^ j * w ≤ 2 ^ 31 = omega (arith, pow_pos j) in
    let below : (i + 1) * w ≤ 2 ^ j * w = mul-le-mul_right w (omega (arith, h)) in
    omega (arith, whole, below)
