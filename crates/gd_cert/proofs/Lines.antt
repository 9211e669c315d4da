-- What one line tells: what is read is spelled so, and what is spelled so is read.
use Rattle.std.proofs.Common.{◌≡◌, ℕ, ◌≤◌, ◌<◌, ◌^◌, Bool, true, false, ◌==◌, ◌&&◌, List, [], ◌∷◌, Option, Some, None, cond, length, map, ℤ, arith, sym, refl, ap, subst, ◌∙◌, decimal, inl, inr, ◌⊎◌}
use Rattle.std.specs.Prelude.{Result, Ok, Err, codes, nat_le, unsigned_abs}
use Rattle.std.specs.Cmp.Lexicographic.{same_text}
use Rattle.std.specs.Fmt.{signed_decimal}
use Rattle.std.specs.List.{All, list_all}
use Rattle.std.proofs.lemmas.Bool.Decides.{nat_tests}
use Rattle.std.proofs.lemmas.List.{length-map}
use Rattle.std.proofs.lemmas.List.Elements.{All-cons, All-nil, All-tail}
use Rattle.gd_base.specs.Limits.{BUDGET, GROUPS}
use Rattle.gd_cells.specs.Grid.{MOST_DIMS}
use Rattle.gd_base.specs.declared.verdict.Counts.{Counts}
use Rattle.gd_base.specs.declared.verdict.Reason.{Reason}
use Rattle.gd_base.specs.declared.verdict.Reason.TheVariants as reason
use Rattle.gd_cells.specs.declared.node.Node.{Node}
use Rattle.gd_cells.specs.declared.node.Node.TheVariants.{Split, Refuted, Left}
use Rattle.gd_cert.proofs.Numbers.{below_again, below_spelled, both, signed_again, signed_spelled}
use Rattle.gd_cert.specs.Bounds.{CountsFit, HeadingFits, IsDecided, IsRequirement, NodeFits, WitnessFits, is_requirement_byte}
use Rattle.gd_cert.specs.Certificates.{Body, Accept, Heading, Plain, Probe}
use Rattle.gd_cert.specs.Lines.{begun_by, counts_in, counts_of, end_in, evidence_in, group_in, heading_in, level_in, lone, node_in, number_and_verdict_in, place_in, reason_in, share_in, sized_in, title_in, told_in, verdict_in, witness_in}
use Rattle.gd_cert.specs.Text.{heading_words, node_words, reason_word, title, counts_words}
use Rattle.gd_cert.specs.Words.{and_then_read, is_requirement, is_word, number_below, number_of, onto, or_rule, signed_number, signed_numbers}
use Rattle.gd_cert.specs.declared.rule.Rule.{Rule}
use Rattle.gd_cert.specs.declared.rule.Rule.TheVariants as rule
use Rattle.gd_cert.specs.declared.stage.Stage.{Stage}
use Rattle.gd_cert.specs.declared.stage.Stage.TheVariants as stage

-- ---- tests and steps that went well

pub chosen : {A : Type 0} (b : Bool) (x y z : A) → cond b x y ≡ z → ((b ≡ true) × (x ≡ z)) ⊎ ((b ≡ false) × (y ≡ z))
chosen true x y z h = inl (refl, h)
chosen false x y z h = inr (refl, h)

pub passed : {A E : Type 0} (b : Bool) (x : Result A E) (e : E) (z : A) → cond b x (Err e) ≡ Ok z → (b ≡ true) × (x ≡ Ok z)
passed true x e z h = (refl, h)
passed false x e z h = cc h

pub bind_ok : {A B E : Type 0} (r : Result A E) (f : A → Result B E) (y : B) → and_then_read r f ≡ Ok y → (x : A) × (r ≡ Ok x) × (f x ≡ Ok y)
bind_ok (Ok x) f y h = (x, refl, h)
bind_ok (Err e) f y h = cc h

or_ok : {A : Type 0} (o : Option A) (e : Rule) (x : A) → or_rule o e ≡ Ok x → o ≡ Some x
or_ok None e x h = cc h
or_ok (Some y) e x h = cc h

pub ok_same : {A E : Type 0} (x y : A) → ◌≡◌ {A = Result A E} (Ok x) (Ok y) → x ≡ y
ok_same x y h = cc h

some_same : {A : Type 0} (x y : A) → Some x ≡ Some y → x ≡ y
some_same x y h = cc h

pub same : (word other : List ℕ) → is_word word other ≡ true → word ≡ other
same word other h = same_text word other (sym h)

spelled : (limit : ℕ) (word : List ℕ) (e : Rule) (n : ℕ) → or_rule (number_below limit word) e ≡ Ok n → (word ≡ decimal n) × (n < limit)
spelled limit word e n h = let (lt, is) = below_spelled limit word n (or_ok (number_below limit word) e n h) in (is, lt)

-- ---- the head

pub title_found : (words : List (List ℕ)) → title_in words ≡ true → words ≡ title
title_found [] h = cc h
title_found (a ∷ []) h = cc h
title_found (a ∷ b ∷ []) h = let (x, y) = both _ _ h in rw (same a (codes "gdcert") x, same b (codes "1") y) refl
title_found (a ∷ b ∷ c ∷ more) h = cc h

requirement_fits : (name : List ℕ) → is_requirement name ≡ true → IsRequirement name
requirement_fits name h =
    let (xy, z) = both (nat_le 1 (length name) && nat_le (length name) 48) (list_all is_requirement_byte name) h in
    let (x, y) = both (nat_le 1 (length name)) (nat_le (length name) 48) xy in
    record { some = grind (arith, nat_tests); few = grind (arith, nat_tests); bytes = z }

requirement_again : (name : List ℕ) → IsRequirement name → is_requirement name ≡ true
requirement_again name fits =
    let x : nat_le 1 (length name) ≡ true = grind (arith, nat_tests, fits.some) in
    let y : nat_le (length name) 48 ≡ true = grind (arith, nat_tests, fits.few) in
    rw (x, y) fits.bytes

pub heading_found : (words : List (List ℕ)) (h : Heading) → heading_in words ≡ Ok h → (words ≡ heading_words h) × HeadingFits h
heading_found [] h is = cc is
heading_found (a ∷ []) h is =
    let (x, y) = passed _ _ _ h is in
    subst (λ (k : Heading). ((a ∷ []) ≡ heading_words k) × HeadingFits k) (ok_same Plain h y) (rw (same a (codes "plain") x) refl, tt)
heading_found (a ∷ name ∷ tolerance ∷ []) h is =
    let (x, y) = passed _ _ _ h is in
    let (word, fits) = both _ _ x in
    let (t, number, made) = bind_ok _ _ h y in
    let (numeral, lt) = spelled 16000001 tolerance rule.Head t number in
    subst (λ (k : Heading). ((a ∷ name ∷ tolerance ∷ []) ≡ heading_words k) × HeadingFits k) (ok_same (Probe name t) h made)
    ((λ i. same a (codes "probe") word i ∷ name ∷ numeral i ∷ []), (requirement_fits name fits, omega (arith, lt)))
heading_found (a ∷ b ∷ []) h is = cc is
heading_found (a ∷ b ∷ c ∷ d ∷ more) h is = cc is

pub heading_again : (h : Heading) → HeadingFits h → heading_in (heading_words h) ≡ Ok h
heading_again Plain fits = refl
heading_again (Probe name t) fits = rw (requirement_again name fits.0, below_again 16000001 t (omega arith) (omega (arith, fits.1))) refl

sized_found : (name : List ℕ) (limit : ℕ) (words : List (List ℕ)) (n : ℕ) → sized_in name limit words ≡ Ok n → (words ≡ name ∷ decimal n ∷ []) × (n < limit)
sized_found name limit [] n is = cc is
sized_found name limit (a ∷ []) n is = cc is
sized_found name limit (a ∷ b ∷ []) n is =
    let (x, y) = passed _ _ _ n is in
    let (numeral, lt) = spelled limit b rule.Head n y in
    (rw (same a name x, numeral) refl, lt)
sized_found name limit (a ∷ b ∷ c ∷ more) n is = cc is

pub share_found : (words : List (List ℕ)) (n : ℕ) → share_in words ≡ Ok n → (words ≡ codes "share" ∷ decimal n ∷ []) × (n ≤ BUDGET)
share_found words n is = let (w, lt) = sized_found (codes "share") 1000001 words n is in (w, omega (arith, lt))

pub share_again : (n : ℕ) → n ≤ BUDGET → share_in (codes "share" ∷ decimal n ∷ []) ≡ Ok n
share_again n few = rw (below_again 1000001 n (omega arith) (omega arith)) refl

some_told : (told n : ℕ) → cond (told == 0) (Err rule.Head) (Ok told) ≡ Ok n → (told ≡ n) × (1 ≤ n)
some_told told n h = elim (chosen (told == 0) _ _ _ h) [
  | inl w ↦ cc w.1
  | inr w ↦ let is : told ≡ n = ok_same told n w.1 in (is, grind (arith, nat_tests, w.0, is))
]

pub told_found : (words : List (List ℕ)) (n : ℕ) → told_in words ≡ Ok n → (words ≡ codes "groups" ∷ decimal n ∷ []) × (1 ≤ n) × (n ≤ GROUPS)
told_found words n is =
    let (told, sized, more) = bind_ok _ _ n is in
    let (w, lt) = sized_found (codes "groups") 300001 words told sized in
    let (eq, some) = some_told told n more in
    (subst (λ m. words ≡ codes "groups" ∷ decimal m ∷ []) eq w, some, omega (arith, lt, eq))

pub told_again : (n : ℕ) → 1 ≤ n → n ≤ GROUPS → told_in (codes "groups" ∷ decimal n ∷ []) ≡ Ok n
told_again n some few =
    let other : (n == 0) ≡ false = grind (arith, nat_tests) in
    rw (below_again 300001 n (omega arith) (omega arith), other) refl

-- ---- the line of a group

abbrev pub group_line : ℕ → List ℕ → List (List ℕ)
group_line number word = codes "group" ∷ decimal number ∷ word ∷ []

-- the words behind which a stage comes
abbrev pub IsGroupLine : ℕ → List (List ℕ) → Stage → Type 0
IsGroupLine next words stage.Witness = (words ≡ group_line next (codes "accept")) × (next < 2 ^ 32)
IsGroupLine next words stage.Reject = (words ≡ group_line next (codes "reject")) × (next < 2 ^ 32)
IsGroupLine next words stage.Counts = (words ≡ group_line next (codes "open")) × (next < 2 ^ 32)
IsGroupLine next words stage.Done = words ≡ codes "end" ∷ []
IsGroupLine next words s = ⊥

verdict_found : (next : ℕ) (ws : List (List ℕ)) (s : Stage) → next < 2 ^ 32 → verdict_in ws ≡ Some s → IsGroupLine next (codes "group" ∷ decimal next ∷ ws) s
verdict_found next [] s small h = cc h
verdict_found next (w ∷ []) s small h = elim (chosen (is_word w (codes "accept")) _ _ _ h) [
  | inl x ↦ subst (IsGroupLine next (group_line next w)) (some_same _ _ x.1) (ap (group_line next) (same w (codes "accept") x.0), small)
  | inr x ↦ elim (chosen (is_word w (codes "reject")) _ _ _ x.1) [
    | inl y ↦ subst (IsGroupLine next (group_line next w)) (some_same _ _ y.1) (ap (group_line next) (same w (codes "reject") y.0), small)
    | inr y ↦ elim (chosen (is_word w (codes "open")) _ _ _ y.1) [
      | inl z ↦ subst (IsGroupLine next (group_line next w)) (some_same _ _ z.1) (ap (group_line next) (same w (codes "open") z.0), small)
      | inr z ↦ cc z.1
    ]
  ]
]
verdict_found next (w ∷ v ∷ more) s small h = cc h

begun_found : (next : ℕ) (word : List ℕ) (ws : List (List ℕ)) (o : Option ℕ) (v : Option Stage) (s : Stage) → number_of word ≡ o → verdict_in ws ≡ v → begun_by next o v ≡ Ok s
    → IsGroupLine next (codes "group" ∷ word ∷ ws) s
begun_found next word ws None None s n v h = cc h
begun_found next word ws None (Some t) s n v h = cc h
begun_found next word ws (Some k) o s n v h =
    let (x, y) = passed (k == next) _ _ s h in
    let eq : k ≡ next = grind (arith, nat_tests) in
    let (lt, numeral) = below_spelled 4294967296 word k n in
    let found = verdict_found next ws s (omega (arith, lt, eq)) (v ∙ or_ok o rule.Words s y) in
    subst (λ w. IsGroupLine next (codes "group" ∷ w ∷ ws) s) (sym (numeral ∙ ap decimal eq)) found

end_found : (next : ℕ) (ws : List (List ℕ)) (s : Stage) → end_in ws ≡ Ok s → IsGroupLine next (codes "end" ∷ ws) s
end_found next [] s h = subst (IsGroupLine next (codes "end" ∷ [])) (ok_same stage.Done s h) refl
end_found next (w ∷ ws) s h = cc h

numbered_found : (next : ℕ) (ws : List (List ℕ)) (s : Stage) → number_and_verdict_in next ws ≡ Ok s → IsGroupLine next (codes "group" ∷ ws) s
numbered_found next [] s h = cc h
numbered_found next (k ∷ ws) s h = begun_found next k ws (number_of k) (verdict_in ws) s refl refl h

pub group_found : (next : ℕ) (words : List (List ℕ)) (s : Stage) → group_in next words ≡ Ok s → IsGroupLine next words s
group_found next [] s h = cc h
group_found next (w ∷ ws) s h = elim (chosen (is_word w (codes "group")) _ _ _ h) [
  | inl x ↦ subst (λ v. IsGroupLine next (v ∷ ws) s) (sym (same w (codes "group") x.0)) (numbered_found next ws s x.1)
  | inr x ↦ let (y, z) = passed (is_word w (codes "end")) _ _ s x.1 in subst (λ v. IsGroupLine next (v ∷ ws) s) (sym (same w (codes "end") y)) (end_found next ws s z)
]

-- the line of a group is read as what it is
pub group_again : (next : ℕ) (word : List ℕ) (s : Stage) → next < 2 ^ 32 → verdict_in (word ∷ []) ≡ Some s → group_in next (group_line next word) ≡ Ok s
group_again next word s small h =
    let same_number : (next == next) ≡ true = grind (arith, nat_tests) in
    rw (below_again 4294967296 next (omega arith) (omega (arith, small)), same_number) (ap (λ o. or_rule o rule.Words) h)

-- ---- a witness

onto_some : {A : Type 0} (o : Option A) (p : Option (List A)) (zs : List A) → onto o p ≡ Some zs → (x : A) × (xs : List A) × (o ≡ Some x) × (p ≡ Some xs) × ((x ∷ xs) ≡ zs)
onto_some None p zs h = cc h
onto_some (Some x) None zs h = cc h
onto_some (Some x) (Some xs) zs h = (x, xs, refl, refl, some_same _ _ h)

abbrev AreSigned : List (List ℕ) → List ℤ → Type 0
AreSigned ws xs = (ws ≡ map signed_decimal xs) × All (λ x. unsigned_abs x < 2 ^ 62) xs

signed_found : (ws : List (List ℕ)) (xs : List ℤ) → signed_numbers ws ≡ Some xs → AreSigned ws xs
signed_found [] xs h = subst (AreSigned []) (some_same _ _ h) (refl, All-nil (λ x. unsigned_abs x < 2 ^ 62))
signed_found (w ∷ ws) zs h =
    let (x, xs, one, all, is) = onto_some (signed_number w) (signed_numbers ws) zs h in
    let (word, size) = signed_spelled w x one in
    let (words, sizes) = signed_found ws xs all in
    subst (AreSigned (w ∷ ws)) is ((λ i. word i ∷ words i), All-cons (λ x. unsigned_abs x < 2 ^ 62) x xs size sizes)

signed_all_again : (xs : List ℤ) → All (λ x. unsigned_abs x < 2 ^ 62) xs → signed_numbers (map signed_decimal xs) ≡ Some xs
signed_all_again [] h = refl
signed_all_again (x ∷ xs) h =
    rw (signed_again x (h 0 x (omega arith)), signed_all_again xs (All-tail (λ x. unsigned_abs x < 2 ^ 62) x xs h)) refl

abbrev pub witness_words : ℕ → List ℤ → List (List ℕ)
witness_words root at = codes "w" ∷ decimal root ∷ map signed_decimal at

abbrev pub IsWitness : List (List ℕ) → Body → Type 0
IsWitness words (Accept root at) = (words ≡ witness_words root at) × WitnessFits root at
IsWitness words body = ⊥

place_found : (ws : List (List ℕ)) (body : Body) → place_in ws ≡ Ok body → IsWitness (codes "w" ∷ ws) body
place_found [] body h = cc h
place_found (root ∷ at) body h =
    let (counts, numbers) = passed (nat_le 2 (length at) && nat_le (length at) MOST_DIMS) _ _ body h in
    let (low, high) = both (nat_le 2 (length at)) (nat_le (length at) MOST_DIMS) counts in
    let (r, first, others) = bind_ok _ _ body numbers in
    let (xs, all, made) = bind_ok _ _ body others in
    let (numeral, lt) = spelled 4294967296 root rule.Number r first in
    let (words, sizes) = signed_found at xs (or_ok (signed_numbers at) rule.Number xs all) in
    let many : length xs ≡ length at = sym (ap length words ∙ length-map xs signed_decimal) in
    let some : 2 ≤ length at = grind (arith, nat_tests) in
    let few : length at ≤ MOST_DIMS = grind (arith, nat_tests) in
    subst (IsWitness (codes "w" ∷ root ∷ at)) (ok_same _ _ made)
    ((λ i. codes "w" ∷ numeral i ∷ words i), record { root_fits = omega (arith, lt); some = omega arith; few = omega arith; sizes = sizes })

pub witness_found : (words : List (List ℕ)) (body : Body) → witness_in words ≡ Ok body → IsWitness words body
witness_found [] body h = cc h
witness_found (w ∷ ws) body h = let (x, y) = passed (is_word w (codes "w")) _ _ body h in subst (λ v. IsWitness (v ∷ ws) body) (sym (same w (codes "w") x)) (place_found ws body y)

pub witness_again : (root : ℕ) (at : List ℤ) → WitnessFits root at → witness_in (witness_words root at) ≡ Ok (Accept root at)
witness_again root at fits =
    let many : length (map signed_decimal at) ≡ length at = length-map at signed_decimal in
    let low : nat_le 2 (length (map signed_decimal at)) ≡ true = rw many (grind (arith, nat_tests, fits.some)) in
    let high : nat_le (length (map signed_decimal at)) MOST_DIMS ≡ true = rw many (grind (arith, nat_tests, fits.few)) in
    rw (low, high, below_again 4294967296 root (omega arith) (omega (arith, fits.root_fits)), signed_all_again at fits.sizes) refl

-- ---- the counts of an open group

abbrev pub IsCountsLine : List (List ℕ) → Stage → Type 0
IsCountsLine words (stage.Open o) = (words ≡ counts_words o) × CountsFit o
IsCountsLine words s = ⊥

reason_found : (w : List ℕ) (r : Reason) → reason_in w ≡ Some r → w ≡ reason_word r
reason_found w r h = elim (chosen (is_word w (codes "budget")) _ _ _ h) [
  | inl x ↦ subst (λ q. w ≡ reason_word q) (some_same _ _ x.1) (same w (codes "budget") x.0)
  | inr x ↦ elim (chosen (is_word w (codes "floor")) _ _ _ x.1) [
    | inl y ↦ subst (λ q. w ≡ reason_word q) (some_same _ _ y.1) (same w (codes "floor") y.0)
    | inr y ↦ cc y.1
  ]
]

level_found : (ws : List (List ℕ)) (s : Stage) → level_in ws ≡ Ok s → IsCountsLine (codes "at" ∷ ws) s
level_found [] s h = cc h
level_found (a ∷ []) s h = cc h
level_found (a ∷ b ∷ []) s h = cc h
level_found (a ∷ b ∷ c ∷ []) s h = cc h
level_found (a ∷ b ∷ c ∷ d ∷ []) s h =
    let (r, why, h1) = bind_ok _ _ s h in
    let (l, n1, h2) = bind_ok _ _ s h1 in
    let (u, n2, h3) = bind_ok _ _ s h2 in
    let (p, n3, made) = bind_ok _ _ s h3 in
    let (x, lx) = spelled 4294967296 a rule.Number l n1 in
    let (y, ly) = spelled 4294967296 b rule.Number u n2 in
    let (z, lz) = spelled 4294967296 c rule.Number p n3 in
    let e = reason_found d r (or_ok (reason_in d) rule.Words r why) in
    subst (IsCountsLine (codes "at" ∷ a ∷ b ∷ c ∷ d ∷ [])) {x = stage.Open (counts_of l u p r)} (ok_same (stage.Open (counts_of l u p r)) s made)
    ((λ i. codes "at" ∷ x i ∷ y i ∷ z i ∷ e i ∷ []), record { level_fits = omega (arith, lx); undecided_fits = omega (arith, ly); spent_fits = omega (arith, lz) })
level_found (a ∷ b ∷ c ∷ d ∷ e ∷ more) s h = cc h

pub counts_found : (words : List (List ℕ)) (s : Stage) → counts_in words ≡ Ok s → IsCountsLine words s
counts_found [] s h = cc h
counts_found (w ∷ ws) s h = let (x, y) = passed (is_word w (codes "at")) _ _ s h in subst (λ v. IsCountsLine (v ∷ ws) s) (sym (same w (codes "at") x)) (level_found ws s y)

reason_again : (r : Reason) → reason_in (reason_word r) ≡ Some r
reason_again reason.Budget = refl
reason_again reason.Floor = refl

pub counts_again : (c : Counts) → CountsFit c → counts_in (counts_words c) ≡ Ok (stage.Open c)
counts_again c fits =
    rw (
      reason_again c.reason,
      below_again 4294967296 c.level (omega arith) (omega (arith, fits.level_fits)),
      below_again 4294967296 c.undecided (omega arith) (omega (arith, fits.undecided_fits)),
      below_again 4294967296 c.spent (omega arith) (omega (arith, fits.spent_fits)),
    ) refl

-- ---- a line of a tree

abbrev pub IsNodeLine : Bool → List (List ℕ) → Node → Type 0
IsNodeLine undecided words node = (words ≡ node_words node) × NodeFits node × (undecided ≡ false → IsDecided node)

evidence_found : (undecided : Bool) (ws : List (List ℕ)) (node : Node) → evidence_in ws ≡ Ok node → IsNodeLine undecided (codes "r" ∷ ws) node
evidence_found undecided [] node h = cc h
evidence_found undecided (a ∷ []) node h = cc h
evidence_found undecided (a ∷ b ∷ []) node h = cc h
evidence_found undecided (a ∷ b ∷ c ∷ []) node h =
    let (l, n1, h2) = bind_ok _ _ node h in
    let (u, n2, h3) = bind_ok _ _ node h2 in
    let (p, n3, made) = bind_ok _ _ node h3 in
    let (x, lx) = spelled 4294967296 a rule.Number l n1 in
    let (y, ly) = spelled 4294967296 b rule.Number u n2 in
    let (z, lz) = spelled 4294967296 c rule.Number p n3 in
    subst (IsNodeLine undecided (codes "r" ∷ a ∷ b ∷ c ∷ [])) (ok_same _ _ made)
    ((λ i. codes "r" ∷ x i ∷ y i ∷ z i ∷ []), record { condition = omega (arith, lx); a = omega (arith, ly); b = omega (arith, lz) }, λ _. tt)
evidence_found undecided (a ∷ b ∷ c ∷ d ∷ more) node h = cc h

alone_found : (n node : Node) (w : List ℕ) (ws : List (List ℕ)) → lone n ws ≡ Ok node → (ws ≡ []) × (n ≡ node)
alone_found n node w [] h = (refl, ok_same _ _ h)
alone_found n node w (v ∷ ws) h = cc h

split_found : (undecided : Bool) (w : List ℕ) (ws : List (List ℕ)) (node : Node) → w ≡ codes "s" → lone Split ws ≡ Ok node → IsNodeLine undecided (w ∷ ws) node
split_found undecided w ws node is h = let (none, eq) = alone_found Split node w ws h in subst (IsNodeLine undecided (w ∷ ws)) eq (rw (is, none) refl, tt, λ _. tt)

left_found : (undecided : Bool) (w : List ℕ) (ws : List (List ℕ)) (node : Node) → w ≡ codes "o" → undecided ≡ true → lone Left ws ≡ Ok node → IsNodeLine undecided (w ∷ ws) node
left_found undecided w ws node is may h = let (none, eq) = alone_found Left node w ws h in subst (IsNodeLine undecided (w ∷ ws)) eq (rw (is, none) refl, tt, λ e. cc (e, may))

pub node_found : (undecided : Bool) (words : List (List ℕ)) (node : Node) → node_in undecided words ≡ Ok node → IsNodeLine undecided words node
node_found undecided [] node h = cc h
node_found undecided (w ∷ ws) node h = elim (chosen (is_word w (codes "r")) _ _ _ h) [
  | inl x ↦ subst (λ v. IsNodeLine undecided (v ∷ ws) node) (sym (same w (codes "r") x.0)) (evidence_found undecided ws node x.1)
  | inr x ↦ elim (chosen (is_word w (codes "s")) _ _ _ x.1) [
    | inl y ↦ split_found undecided w ws node (same w (codes "s") y.0) y.1
    | inr y ↦
        let (p, q) = passed (is_word w (codes "o") && undecided) _ _ node y.1 in
        let (word, may) = both (is_word w (codes "o")) undecided p in
        left_found undecided w ws node (same w (codes "o") word) may q
  ]
]

-- in a tree that may have such a node
pub node_again : (undecided : Bool) (node : Node) → NodeFits node → (undecided ≡ false → IsDecided node) → node_in undecided (node_words node) ≡ Ok node
node_again undecided Split fits may = refl
node_again undecided (Refuted e) fits may =
    rw (
      below_again 4294967296 e.condition (omega arith) (omega (arith, fits.condition)),
      below_again 4294967296 e.a (omega arith) (omega (arith, fits.a)),
      below_again 4294967296 e.b (omega arith) (omega (arith, fits.b)),
    ) refl
node_again true Left fits may = refl
node_again false Left fits may = absurd (may refl)
