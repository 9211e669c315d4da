-- A spread is the same for numbers with the same differences.
use Rattle.std.proofs.Common.{◌≡◌, subst, suc, List, [], ◌∷◌, map, arith}
use Rattle.std.proofs.lemmas.List.Elements.{All-cons, All-nil}
use Rattle.std.specs.List.{All}
use Rattle.std.specs.Prelude.{ℤ, ◌-ℤ◌}
use Rattle.gd_int.specs.Comparisons.{AtMost}
use Rattle.gd_points.specs.declared.table.Row.{Row}
use Rattle.gd_zone.specs.Conditions.{twice}

head-of : (P : ℤ → Type 0) (y : ℤ) (ys : List ℤ) → All P (y ∷ ys) → P y
head-of P y ys h = h 0 y (omega arith)

tail-of : (P : ℤ → Type 0) (y : ℤ) (ys : List ℤ) → All P (y ∷ ys) → All P ys
tail-of P y ys h k d l = h (suc k) d (omega (arith, l))

all-moved : (P Q : ℤ → Type 0) (x y : Row → ℤ) (rows : List Row) → ((r : Row) → P (x r) → Q (y r)) → All P (map x rows) → All Q (map y rows)
all-moved P Q x y [] g h = All-nil Q
all-moved P Q x y (r ∷ rows) g h = All-cons Q (y r) (map y rows) (g r (head-of P (x r) (map x rows) h)) (all-moved P Q x y rows g (tail-of P (x r) (map x rows) h))

pub spread-moved : (h n : ℤ) (x y : Row → ℤ) (rows : List Row) → ((a b : Row) → x a -ℤ x b ≡ y a -ℤ y b)
    → All (λ a. All (λ b. AtMost (twice (a -ℤ b)) h n) (map x rows)) (map x rows)
    → All (λ a. All (λ b. AtMost (twice (a -ℤ b)) h n) (map y rows)) (map y rows)
spread-moved h n x y rows same all =
    all-moved (λ a. All (λ b. AtMost (twice (a -ℤ b)) h n) (map x rows)) (λ a. All (λ b. AtMost (twice (a -ℤ b)) h n) (map y rows)) x y rows
    (λ a i. all-moved (λ b. AtMost (twice (x a -ℤ b)) h n) (λ b. AtMost (twice (y a -ℤ b)) h n) x y rows (λ b j. subst (λ z. AtMost (twice z) h n) (same a b) j) i) all
