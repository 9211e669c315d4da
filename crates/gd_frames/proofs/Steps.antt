-- What is so of each value that a reader may give, step by step.
use Rattle.std.proofs.Common.{arith, ◌≡◌, ◌∙◌, refl, sym, ap, subst, ℕ, zero, suc, ◌<◌, ◌≤◌, ◌≢◌, Bool, true, false, not, cond, List, [], ◌∷◌, ◌++◌, map, length, get_or, Option, Some, None, option_map, option_and_then, Result, Ok, Err, IfOk, IfSome, nat_eq, nat_le, All, AllPairs, ℤ, pos, negsuc, append_assoc}
use Rattle.std.proofs.lemmas.Bool.{and_parts, false≢true, leb-true}
use Rattle.std.proofs.lemmas.List.{append-nil, get_or-map, length-map}
use Rattle.std.proofs.lemmas.List.Folds.{list_any_at}
use Rattle.std.proofs.lemmas.List.Quantifiers.{all_pairs_push, position-Some}
use Rattle.std.specs.Cmp.Lexicographic.{bytes_decides, nat_list_eq_equiv, pointwise}
use Rattle.std.specs.List.{AllZip}
use Rattle.toml.specs.Data.{Data, Members, as_integer, get_member}
use Rattle.gd_keys.specs.Contents.{each_as, in_range, is_within, list_of, number, three, three_of, up_to}
use Rattle.gd_keys.specs.Keys.{are_new, default_to, is_among, needed, once, optional, value_or}
use Rattle.gd_keys.specs.Rules.{◌>>=◌, or_broken}
use Rattle.gd_keys.specs.declared.rule.Rule.{Rule}
use Rattle.gd_keys.specs.declared.rule.Rule.TheVariants as rule
use Rattle.gd_tables.specs.Listed.{place_of}
use Rattle.gd_vec.specs.Vector.{IsWithin}
use Rattle.gd_vec.specs.declared.vector.V3.{V3}

-- ---- results

-- what is so after one step is so after the next, if the next makes it so
pub after : {A B E : Type 0} (P : A → Type 0) (Q : B → Type 0) (r : Result A E) (next : A → Result B E) → IfOk r P
    → ((x : A) → P x → IfOk (next x) Q) → IfOk (r >>= next) Q
after P Q (Ok x) next h g = g x h
after P Q (Err e) next h g = tt

pub any : {A E : Type 0} (r : Result A E) → IfOk r (λ _. Unit {0})
any (Ok x) = tt
any (Err e) = tt

pub weaker : {A E : Type 0} (P Q : A → Type 0) (r : Result A E) → IfOk r P → ((x : A) → P x → Q x) → IfOk r Q
weaker P Q (Ok x) h g = g x h
weaker P Q (Err e) h g = tt

-- a test that is broken where it says so
pub unless : {A : Type 0} (P : A → Type 0) (b : Bool) (broken : Rule) (r : Result A Rule) → (b ≡ false → IfOk r P)
    → IfOk (cond b (Err broken) r) P
unless P true broken r h = tt
unless P false broken r h = h refl

pub ranged : {A : Type 0} (P : A → Type 0) (b : Bool) (x : A) → (b ≡ true → P x) → IfOk (in_range b x) P
ranged P true x h = h refl
ranged P false x h = tt

pub passing : {A : Type 0} (P : A → Type 0) (b : Bool) (x : A) (broken : Rule) → (b ≡ true → P x)
    → IfOk (cond b (Ok x) (Err broken)) P
passing P true x broken h = h refl
passing P false x broken h = tt

pub when : {A : Type 0} (P : A → Type 0) (b : Bool) (o : Option A) → (b ≡ true → IfSome o P) → IfSome (cond b o None) P
when P true o h = h refl
when P false o h = tt

pub found : {A : Type 0} (P : A → Type 0) (o : Option A) (broken : Rule) → IfSome o P → IfOk (or_broken o broken) P
found P (Some x) broken h = h
found P None broken h = tt

not_true : (b : Bool) → not b ≡ true → b ≡ false
not_true true h = sym h
not_true false h = refl

pub not_false : (b : Bool) → not b ≡ false → b ≡ true
not_false true h = refl
not_false false h = sym h

-- ---- keys

pub valued : {A : Type 0} (P : A → Type 0) (absent : Result A Rule) (content : Data → Result A Rule)
    (o : Option Data) → IfOk absent P → ((d : Data) → IfOk (content d) P) → IfOk (value_or absent content o) P
valued P absent content None h g = h
valued P absent content (Some d) h g = g d

pub needs : {A : Type 0} (P : A → Type 0) (key : List ℕ) (content : Data → Result A Rule) (table : Members)
    → ((d : Data) → IfOk (content d) P) → IfOk (needed key content table) P
needs P key content table g = valued P (Err rule.Needed) content (get_member key table) tt g

pub defaults : {A : Type 0} (P : A → Type 0) (value : A) (key : List ℕ) (content : Data → Result A Rule)
    (table : Members) → P value → ((d : Data) → IfOk (content d) P) → IfOk (default_to value key content table) P
defaults P value key content table h g = valued P (Ok value) content (get_member key table) h g

pub options : {A : Type 0} (P : A → Type 0) (key : List ℕ) (content : Data → Result A Rule) (table : Members)
    → ((d : Data) → IfOk (content d) P) → IfOk (optional key content table) (λ o. IfSome o P)
options P key content table g =
    valued (λ o. IfSome o P) (Ok None) (λ d. content d >>= (λ x. Ok (Some x))) (get_member key table) tt
    (λ d. after P (λ o. IfSome o P) (content d) (λ x. Ok (Some x)) (g d) (λ x h. h))

-- the same, and what is so after the next steps
pub after_any : {A B E : Type 0} (Q : B → Type 0) (r : Result A E) (next : A → Result B E)
    → ((x : A) → IfOk (next x) Q) → IfOk (r >>= next) Q
after_any Q (Ok x) next g = g x
after_any Q (Err e) next g = tt

pub after_need : {A B : Type 0} (P : A → Type 0) (Q : B → Type 0) (key : List ℕ) (content : Data → Result A Rule)
    (table : Members) (next : A → Result B Rule)
    → ((d : Data) → IfOk (content d) P) → ((x : A) → P x → IfOk (next x) Q) → IfOk (needed key content table >>= next) Q
after_need P Q key content table next h g = after P Q (needed key content table) next (needs P key content table h) g

pub after_default : {A B : Type 0} (P : A → Type 0) (Q : B → Type 0) (value : A) (key : List ℕ)
    (content : Data → Result A Rule) (table : Members) (next : A → Result B Rule)
    → P value → ((d : Data) → IfOk (content d) P) → ((x : A) → P x → IfOk (next x) Q)
    → IfOk (default_to value key content table >>= next) Q
after_default P Q value key content table next is h g = after P Q (default_to value key content table) next
    (defaults P value key content table is h) g

pub after_option : {A B : Type 0} (P : A → Type 0) (Q : B → Type 0) (key : List ℕ) (content : Data → Result A Rule)
    (table : Members) (next : Option A → Result B Rule)
    → ((d : Data) → IfOk (content d) P) → ((o : Option A) → IfSome o P → IfOk (next o) Q)
    → IfOk (optional key content table >>= next) Q
after_option P Q key content table next h g = after (λ o. IfSome o P) Q (optional key content table) next
    (options P key content table h) g

-- ---- numbers

up_to_small : (limit : ℕ) (z : ℤ) → IfOk (up_to limit z) (λ n. n ≤ limit)
up_to_small limit (pos n) = ranged (λ m. m ≤ limit) (nat_le n limit) n (λ h. leb-true n limit h)
up_to_small limit (negsuc n) = tt

pub number_small : (limit : ℕ) (d : Data) → IfOk (number limit d) (λ n. n ≤ limit)
number_small limit d = after (λ _. Unit {0}) (λ n. n ≤ limit) (or_broken (as_integer d) rule.Kind) (up_to limit)
    (any _) (λ z _. up_to_small limit z)

within : (limit : ℕ) (v : V3) → is_within limit v ≡ true → IsWithin limit v
within limit v h =
    let parts = and_parts _ _ h in
    let first = and_parts _ _ parts.0 in
    record { x = leb-true _ _ first.0; y = leb-true _ _ first.1; z = leb-true _ _ parts.1 }

three_small : (limit : ℕ) (numbers : List ℤ) → IfOk (three_of limit numbers) (IsWithin limit)
three_small limit [] = tt
three_small limit (x ∷ []) = tt
three_small limit (x ∷ y ∷ []) = tt
three_small limit (x ∷ y ∷ z ∷ []) =
    let v : V3 = record { x = x; y = y; z = z } in
    ranged (IsWithin limit) (is_within limit v) v (within limit v)
three_small limit (x ∷ y ∷ z ∷ w ∷ more) = tt

pub three_within : (limit : ℕ) (d : Data) → IfOk (three limit d) (IsWithin limit)
three_within limit d = after (λ _. Unit {0}) (IsWithin limit) (list_of as_integer d) (three_of limit) (any _)
    (λ numbers _. three_small limit numbers)

-- ---- names and places

pub same_name : (m n : List ℕ) → pointwise nat_eq m n ≡ true → m ≡ n
same_name m n h = (bytes_decides m n).0 h

-- a name that isn't among others is none of them
pub is_new : (names : List (List ℕ)) (name : List ℕ) → is_among names name ≡ false → (k : ℕ) (d : List ℕ)
    → k < length names → get_or names k d ≢ name
is_new names name new k d lt same =
    false≢true (sym new ∙ list_any_at (pointwise nat_eq name) names k d lt
    (ap (pointwise nat_eq name) same ∙ nat_list_eq_equiv.refl name))

-- names that are new one after another are apart
pub apart : (seen names : List (List ℕ)) → are_new seen names ≡ true → AllPairs (λ m n. m ≢ n) seen
    → AllPairs (λ m n. m ≢ n) (seen ++ names)
apart seen [] h pairs = subst (AllPairs (λ m n. m ≢ n)) (sym (append-nil seen)) pairs
apart seen (name ∷ more) h pairs =
    let parts = and_parts (not (is_among seen name)) (are_new (seen ++ name ∷ []) more) h in
    let new : is_among seen name ≡ false = not_true _ parts.0 in
    let now : AllPairs (λ m n. m ≢ n) (seen ++ name ∷ []) = all_pairs_push (λ m n. m ≢ n) seen name pairs
    (λ k d lt. is_new seen name new k d lt) in
    subst (AllPairs (λ m n. m ≢ n)) (append_assoc seen (name ∷ []) more) (apart (seen ++ name ∷ []) more parts.1 now)

pub none_twice : (names : List (List ℕ)) → IfOk (once names) (λ _. AllPairs (λ m n. m ≢ n) names)
none_twice names = passing (λ _. AllPairs (λ m n. m ≢ n) names) (are_new [] names) tt rule.Once
    (λ h. apart [] names h (λ i j d lt no. absurd (omega (arith, no))))

-- where a name stands
pub stands : (names : List (List ℕ)) (name : List ℕ) (place : ℕ) → place_of names name ≡ Some place
    → (place < length names) × (get_or names place [] ≡ name)
stands names name place h =
    let at = position-Some (pointwise nat_eq name) names place [] h in
    (at.0, sym (same_name name (get_or names place []) at.1))

pub some_is : {A : Type 0} (o : Option A) → IfSome o (λ x. o ≡ Some x)
some_is None = tt
some_is (Some x) = refl

-- ---- lists that are taken element by element

each_step : {A B : Type 0} (R : A → B → Type 0) (x : A) (more : List A) (o : Option B) (p : Option (List B))
    → IfSome o (R x) → IfSome p (AllZip R more)
    → IfSome (option_and_then (λ y. option_map (λ ys. y ∷ ys) p) o) (AllZip R (x ∷ more))
each_step R x more None p h g = tt
each_step R x more (Some y) None h g = tt
each_step R x more (Some y) (Some ys) h g = (h, g)

pub each_zip : {A B : Type 0} (pick : A → Option B) (xs : List A)
    → IfSome (each_as pick xs) (AllZip (λ x y. pick x ≡ Some y) xs)
each_zip pick [] = tt
each_zip pick (x ∷ more) = each_step (λ a b. pick a ≡ Some b) x more (pick x) (each_as pick more) (some_is (pick x))
    (each_zip pick more)

pub zip_length : {A B : Type 0} (R : A → B → Type 0) (xs : List A) (ys : List B) → AllZip R xs ys
    → length xs ≡ length ys
zip_length R [] [] zip = refl
zip_length R [] (y ∷ ys) zip = absurd zip
zip_length R (x ∷ xs) [] zip = absurd zip
zip_length R (x ∷ xs) (y ∷ ys) zip = ap suc (zip_length R xs ys zip.1)

zip_at : {A B : Type 0} (R : A → B → Type 0) (x : A) (xs : List A) (ys : List B) → AllZip R xs ys → (k : ℕ) (d : B)
    → k < length ys → R (get_or xs k x) (get_or ys k d)
zip_at R x [] [] zip k d lt = absurd (omega (arith, lt))
zip_at R x [] (y ∷ ys) zip k d lt = absurd zip
zip_at R x (z ∷ xs) [] zip k d lt = absurd zip
zip_at R x (z ∷ xs) (y ∷ ys) zip zero d lt = zip.0
zip_at R x (z ∷ xs) (y ∷ ys) zip (suc k) d lt = zip_at R x xs ys zip.1 k d (omega (arith, lt))

pub zip_all : {A B : Type 0} (R : A → B → Type 0) (P : B → Type 0) (x : A) (xs : List A) (ys : List B)
    → AllZip R xs ys → ((a : A) (b : B) → R a b → P b) → All P ys
zip_all R P x xs ys zip says = λ k d lt. says (get_or xs k x) (get_or ys k d) (zip_at R x xs ys zip k d lt)

-- what differs before differs after
pub zip_apart : {A B K : Type 0} (R : A → B → Type 0) (key : A → K) (view : B → K) (x : A) (xs : List A)
    (ys : List B) → AllZip R xs ys
    → ((a : A) (b : B) → R a b → view b ≡ key a) → AllPairs (λ a b. key a ≢ key b) xs
    → AllPairs (λ a b. view a ≢ view b) ys
zip_apart R key view x xs ys zip says pairs = λ i j d lt inside same.
    let n = zip_length R xs ys zip in
    let first = says (get_or xs i x) (get_or ys i d) (zip_at R x xs ys zip i d (omega (arith, lt, inside))) in
    let second = says (get_or xs j x) (get_or ys j d) (zip_at R x xs ys zip j d inside) in
    pairs i j x lt (omega (arith, n, inside)) (sym first ∙ same ∙ second)

-- names that differ are those of things that differ
pub map_apart : {A K : Type 0} (f : A → K) (xs : List A) → AllPairs (λ a b. a ≢ b) (map f xs)
    → AllPairs (λ a b. f a ≢ f b) xs
map_apart f xs pairs = λ i j d lt inside same.
    let n = length-map xs f in
    let first : get_or (map f xs) i (f d) ≡ f (get_or xs i d) = get_or-map f xs i d (f d) (omega (arith, lt, inside)) in
    let second : get_or (map f xs) j (f d) ≡ f (get_or xs j d) = get_or-map f xs j d (f d) inside in
    pairs i j (f d) lt (omega (arith, n, inside)) (first ∙ same ∙ sym second)

-- what is so of views is so of what has them
pub view_apart : {A B K : Type 0} (view : A → K) (other : A → B) (whole : B → K) (xs : List A)
    → ((a : A) → view a ≡ whole (other a)) → AllPairs (λ a b. view a ≢ view b) xs
    → AllPairs (λ a b. other a ≢ other b) xs
view_apart view other whole xs is pairs = λ i j d lt inside same.
    pairs i j d lt inside (is (get_or xs i d) ∙ ap whole same ∙ sym (is (get_or xs j d)))
