-- Equations of polynomials over whole numbers: they hold where the difference of both sides has no coefficient but 0.
use Rattle.std.proofs.Common.{◌≡◌, refl, sym, ap, ◌∙◌, ℕ, List, [], ◌∷◌, Bool, true, false, cond, ◌&&◌, get_or, arith}
use Rattle.std.proofs.lemmas.Int.{ints}
use Rattle.std.proofs.lemmas.Bool.{eqb-true}
use Rattle.std.proofs.Math.Dec.{eqb}
use Rattle.std.specs.Prelude.{ℤ, pos, negsuc, ◌+ℤ◌, ◌-ℤ◌, ◌*ℤ◌, nat_le}
use Rattle.gd_int.proofs.Integers.{mul-assoc_ℤ, mul_comm_ℤ, mul-add_left, mul-add_right, mul_swap_ℤ}

-- a polynomial as it is written: variables by number, whole numbers, sums, differences, products
pub data Poly : Type 0 where
  var : ℕ → Poly
  num : ℤ → Poly
  ◌⊕◌ : Poly → Poly → Poly
  ◌⊖◌ : Poly → Poly → Poly
  ◌⊗◌ : Poly → Poly → Poly

infixl 65 ◌⊕◌
infixl 65 ◌⊖◌
infixl 70 ◌⊗◌
-- its value, where the variables have the values of a list
abbrev pub value : List ℤ → Poly → ℤ
value xs (var i) = get_or xs i (pos 0)
value xs (num z) = z
value xs (a ⊕ b) = value xs a +ℤ value xs b
value xs (a ⊖ b) = value xs a -ℤ value xs b
value xs (a ⊗ b) = value xs a *ℤ value xs b

-- a product of variables, in ascending order, and sums of multiples of such
abbrev pub Product : Type 0
Product = List ℕ

abbrev pub Sum : Type 0
Sum = List (ℤ × Product)

abbrev pub product_value : List ℤ → Product → ℤ
product_value xs [] = pos 1
product_value xs (i ∷ m) = get_or xs i (pos 0) *ℤ product_value xs m

abbrev pub sum_value : List ℤ → Sum → ℤ
sum_value xs [] = pos 0
sum_value xs (t ∷ p) = (t.0 *ℤ product_value xs t.1) +ℤ sum_value xs p

-- ---- the sum of products that a polynomial is
abbrev pub with_variable : ℕ → Product → Product
with_variable i [] = i ∷ []
with_variable i (j ∷ m) = cond (nat_le i j) (i ∷ j ∷ m) (j ∷ with_variable i m)

abbrev pub joined : Product → Product → Product
joined [] n = n
joined (i ∷ m) n = with_variable i (joined m n)

abbrev pub are_same : Product → Product → Bool
are_same [] [] = true
are_same [] (j ∷ n) = false
are_same (i ∷ m) [] = false
are_same (i ∷ m) (j ∷ n) = eqb i j && are_same m n

abbrev pub with_multiple : ℤ → Product → Sum → Sum
with_multiple c m [] = (c, m) ∷ []
with_multiple c m (t ∷ p) = cond (are_same m t.1) ((c +ℤ t.0, m) ∷ p) (t ∷ with_multiple c m p)

abbrev pub sum_of : Sum → Sum → Sum
sum_of [] q = q
sum_of (t ∷ p) q = with_multiple t.0 t.1 (sum_of p q)

abbrev pub multiple_of : ℤ → Product → Sum → Sum
multiple_of c m [] = []
multiple_of c m (t ∷ p) = with_multiple (c *ℤ t.0) (joined m t.1) (multiple_of c m p)

abbrev pub product_of : Sum → Sum → Sum
product_of [] q = []
product_of (t ∷ p) q = sum_of (multiple_of t.0 t.1 q) (product_of p q)

abbrev pub terms : Poly → Sum
terms (var i) = (pos 1, i ∷ []) ∷ []
terms (num z) = (z, []) ∷ []
terms (a ⊕ b) = sum_of (terms a) (terms b)
terms (a ⊖ b) = sum_of (terms a) (multiple_of (negsuc 0) [] (terms b))
terms (a ⊗ b) = product_of (terms a) (terms b)

abbrev pub is_zero : ℤ → Bool
is_zero (pos n) = eqb n 0
is_zero (negsuc n) = false

abbrev pub are_zero : Sum → Bool
are_zero [] = true
are_zero (t ∷ p) = is_zero t.0 && are_zero p

-- ---- it has the same value
variable-value : (xs : List ℤ) (i : ℕ) (m : Product) → product_value xs (with_variable i m) ≡ get_or xs i (pos 0) *ℤ product_value xs m
variable-value xs i [] = refl
variable-value xs i (j ∷ m) =
    let x : ℤ = get_or xs i (pos 0) in
    let y : ℤ = get_or xs j (pos 0) in
    let z : ℤ = product_value xs m in
    elim (nat_le i j) as (λ b. product_value xs (cond b (i ∷ j ∷ m) (j ∷ with_variable i m)) ≡ x *ℤ (y *ℤ z)) [
      | true ↦ refl
      | false ↦ ap (λ w. y *ℤ w) (variable-value xs i m) ∙ sym (mul-assoc_ℤ y x z) ∙ ap (λ w. w *ℤ z) (mul_comm_ℤ y x) ∙ mul-assoc_ℤ x y z
    ]

joined-value : (xs : List ℤ) (m n : Product) → product_value xs (joined m n) ≡ product_value xs m *ℤ product_value xs n
joined-value xs [] n = omega (arith, ints)
joined-value xs (i ∷ m) n =
    variable-value xs i (joined m n) ∙ ap (λ w. get_or xs i (pos 0) *ℤ w) (joined-value xs m n)
    ∙ sym (mul-assoc_ℤ (get_or xs i (pos 0)) (product_value xs m) (product_value xs n))

and-left : (a b : Bool) → (a && b) ≡ true → a ≡ true
and-left true b h = refl
and-left false b h = h

and-right : (a b : Bool) → (a && b) ≡ true → b ≡ true
and-right true b h = h
and-right false b h = cc

same-is : (m n : Product) → are_same m n ≡ true → m ≡ n
same-is [] [] h = refl
same-is [] (j ∷ n) h = cc
same-is (i ∷ m) [] h = cc
same-is (i ∷ m) (j ∷ n) h =
    let e : i ≡ j = eqb-true i j (and-left (eqb i j) (are_same m n) h) in
    let f : m ≡ n = same-is m n (and-right (eqb i j) (are_same m n) h) in
    ap (λ k. k ∷ m) e ∙ ap (λ l. j ∷ l) f

multiple-value : (xs : List ℤ) (c : ℤ) (m : Product) (p : Sum) → sum_value xs (with_multiple c m p) ≡ c *ℤ product_value xs m +ℤ sum_value xs p
multiple-value xs c m [] = refl
multiple-value xs c m (t ∷ p) =
    let w : ℤ = product_value xs m in
    let z : ℤ = product_value xs t.1 in
    let s : ℤ = sum_value xs p in
    cases (are_same m t.1) (same-is m t.1) (multiple-value xs c m p)
  where
    cases : (b : Bool) → (b ≡ true → m ≡ t.1) → sum_value xs (with_multiple c m p) ≡ c *ℤ product_value xs m +ℤ sum_value xs p
        → sum_value xs (cond b ((c +ℤ t.0, m) ∷ p) (t ∷ with_multiple c m p)) ≡ c *ℤ product_value xs m +ℤ ((t.0 *ℤ product_value xs t.1) +ℤ sum_value xs p)
    cases true f h =
        let e : product_value xs m ≡ product_value xs t.1 = ap (λ n. product_value xs n) (f refl) in
        let d : (c +ℤ t.0) *ℤ product_value xs m ≡ c *ℤ product_value xs m +ℤ t.0 *ℤ product_value xs m = mul-add_left c t.0 (product_value xs m) in
        let g : t.0 *ℤ product_value xs m ≡ t.0 *ℤ product_value xs t.1 = ap (λ w. t.0 *ℤ w) e in
        omega (arith, ints, d, g)
    cases false f h = omega (arith, ints, h)

sum-value : (xs : List ℤ) (p q : Sum) → sum_value xs (sum_of p q) ≡ sum_value xs p +ℤ sum_value xs q
sum-value xs [] q = omega (arith, ints)
sum-value xs (t ∷ p) q = let e = multiple-value xs t.0 t.1 (sum_of p q) in let f = sum-value xs p q in omega (arith, ints, e, f)

multiples-value : (xs : List ℤ) (c : ℤ) (m : Product) (p : Sum) → sum_value xs (multiple_of c m p) ≡ (c *ℤ product_value xs m) *ℤ sum_value xs p
multiples-value xs c m [] = omega (arith, ints)
multiples-value xs c m (t ∷ p) =
    let w : ℤ = product_value xs m in
    let z : ℤ = product_value xs t.1 in
    multiple-value xs (c *ℤ t.0) (joined m t.1) (multiple_of c m p)
    ∙ ap (λ v. (c *ℤ t.0) *ℤ v +ℤ sum_value xs (multiple_of c m p)) (joined-value xs m t.1)
    ∙ ap (λ v. (c *ℤ t.0) *ℤ (w *ℤ z) +ℤ v) (multiples-value xs c m p)
    ∙ ap (λ v. v +ℤ (c *ℤ w) *ℤ sum_value xs p) (mul_swap_ℤ c t.0 w z)
    ∙ sym (mul-add_right (c *ℤ w) (t.0 *ℤ z) (sum_value xs p))

product-value : (xs : List ℤ) (p q : Sum) → sum_value xs (product_of p q) ≡ sum_value xs p *ℤ sum_value xs q
product-value xs [] q = omega (arith, ints)
product-value xs (t ∷ p) q =
    sum-value xs (multiple_of t.0 t.1 q) (product_of p q)
    ∙ ap (λ v. v +ℤ sum_value xs (product_of p q)) (multiples-value xs t.0 t.1 q)
    ∙ ap (λ v. (t.0 *ℤ product_value xs t.1) *ℤ sum_value xs q +ℤ v) (product-value xs p q)
    ∙ sym (mul-add_left (t.0 *ℤ product_value xs t.1) (sum_value xs p) (sum_value xs q))

terms-value : (xs : List ℤ) (a : Poly) → sum_value xs (terms a) ≡ value xs a
terms-value xs (var i) = omega (arith, ints)
terms-value xs (num z) = omega (arith, ints)
terms-value xs (a ⊕ b) = let e = sum-value xs (terms a) (terms b) in let f = terms-value xs a in let g = terms-value xs b in omega (arith, ints, e, f, g)
terms-value xs (a ⊖ b) =
    let e = sum-value xs (terms a) (multiple_of (negsuc 0) [] (terms b)) in
    let h = multiples-value xs (negsuc 0) [] (terms b) in
    let f = terms-value xs a in
    let g = terms-value xs b in
    omega (arith, ints, e, f, g, h)
terms-value xs (a ⊗ b) = product-value xs (terms a) (terms b) ∙ ap (λ v. v *ℤ sum_value xs (terms b)) (terms-value xs a) ∙ ap (λ v. value xs a *ℤ v) (terms-value xs b)

zero-is : (z : ℤ) → is_zero z ≡ true → z ≡ pos 0
zero-is (pos n) h = ap pos (eqb-true n 0 h)
zero-is (negsuc n) h = cc

zeros-value : (xs : List ℤ) (p : Sum) → are_zero p ≡ true → sum_value xs p ≡ pos 0
zeros-value xs [] h = refl
zeros-value xs (t ∷ p) h =
    let e : t.0 ≡ pos 0 = zero-is t.0 (and-left (is_zero t.0) (are_zero p) h) in
    let d : t.0 *ℤ product_value xs t.1 ≡ pos 0 *ℤ product_value xs t.1 = ap (λ v. v *ℤ product_value xs t.1) e in
    let f = zeros-value xs p (and-right (is_zero t.0) (are_zero p) h) in
    omega (arith, ints, d, f)

-- both sides are equal, whatever the variables are
pub equal : (xs : List ℤ) (a b : Poly) → are_zero (terms (a ⊖ b)) ≡ true → value xs a ≡ value xs b
equal xs a b h =
    let e : value xs a -ℤ value xs b ≡ pos 0 = sym (terms-value xs (a ⊖ b)) ∙ zeros-value xs (terms (a ⊖ b)) h in
    omega (arith, ints, e)

-- (x + y) (x - y) = x^2 - y^2
pub known_product : (x y : ℤ) → (x +ℤ y) *ℤ (x -ℤ y) ≡ x *ℤ x -ℤ y *ℤ y
known_product x y = equal (x ∷ y ∷ []) ((var 0 ⊕ var 1) ⊗ (var 0 ⊖ var 1)) (var 0 ⊗ var 0 ⊖ var 1 ⊗ var 1) refl
