-- Squares of natural numbers: their order, and how bounds by squares add.
use Rattle.std.proofs.Common.{ℕ, ◌+◌, ◌*◌, ◌≤◌, ◌<◌, arith, inl, inr}
use Rattle.std.proofs.Math.Nat.{mul-le-mul}
use Rattle.std.proofs.lemmas.Nat.{mul-lt}
use Rattle.std.proofs.lemmas.Bool.{cases_lt}

pub square_le : (x y : ℕ) → x ≤ y → x * x ≤ y * y
square_le x y h = mul-le-mul h h

pub square_lt : (x y : ℕ) → x < y → x * x < y * y
square_lt x y h = mul-lt x x y y h h

pub square-le_out : (x y : ℕ) → x * x ≤ y * y → x ≤ y
square-le_out x y h = elim (cases_lt y x) as (λ _. x ≤ y) [ inl l ↦ absurd (omega (arith, square_lt y x l)) | inr l ↦ l ]

-- x is at most h times a root, and y at most k times it: so are their product and their sum
pub product-le : (x y h k n : ℕ) → x * x ≤ h * h * n → y * y ≤ k * k * n → x * y ≤ h * k * n
product-le x y h k n a b =
    let m : x * x * (y * y) ≤ h * h * n * (k * k * n) = mul-le-mul a b in
    square-le_out (x * y) (h * k * n) (omega arith)

pub product-ge : (x y h k n : ℕ) → h * h * n ≤ x * x → k * k * n ≤ y * y → h * k * n ≤ x * y
product-ge x y h k n a b =
    let m : h * h * n * (k * k * n) ≤ x * x * (y * y) = mul-le-mul a b in
    square-le_out (h * k * n) (x * y) (omega arith)

pub sum-le : (x y h k n : ℕ) → x * x ≤ h * h * n → y * y ≤ k * k * n → (x + y) * (x + y) ≤ (h + k) * (h + k) * n
sum-le x y h k n a b = let m = product-le x y h k n a b in omega arith

pub sum-lt : (x y h k n : ℕ) → x * x < h * h * n → y * y ≤ k * k * n → (x + y) * (x + y) < (h + k) * (h + k) * n
sum-lt x y h k n a b = let m = product-le x y h k n (omega arith) b in omega arith

pub sum-ge : (x y h k n : ℕ) → h * h * n ≤ x * x → k * k * n ≤ y * y → (h + k) * (h + k) * n ≤ (x + y) * (x + y)
sum-ge x y h k n a b = let m = product-ge x y h k n a b in omega arith

pub sum-gt : (x y h k n : ℕ) → h * h * n < x * x → k * k * n ≤ y * y → (h + k) * (h + k) * n < (x + y) * (x + y)
sum-gt x y h k n a b = let m = product-ge x y h k n (omega arith) b in omega arith

-- the root of p passes the root of q by at most e, where e * e is at most r: d is p - q - r
pub excess-le : (q r d y e : ℕ) → q + r + d ≤ (y + e) * (y + e) → y * y ≤ q → e * e ≤ r → d * d ≤ 4 * q * r
excess-le q r d y e h a b =
    let l : d ≤ 2 * (y * e) = omega arith in
    let s : d * d ≤ 2 * (y * e) * (2 * (y * e)) = square_le d (2 * (y * e)) l in
    let m : y * y * (e * e) ≤ q * r = mul-le-mul a b in
    omega arith

pub excess-gt : (q r d y e : ℕ) → (y + e) * (y + e) ≤ q + r + d → q ≤ y * y → r < e * e → 4 * q * r < d * d
excess-gt q r d y e h a b =
    let l : 2 * (y * e) < d = omega arith in
    let s : 2 * (y * e) * (2 * (y * e)) < d * d = square_lt (2 * (y * e)) d l in
    let m : q * r ≤ y * y * (e * e) = mul-le-mul a (omega arith) in
    omega arith
