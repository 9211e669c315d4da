-- The lengths of lines and of whole texts.
use Rattle.std.proofs.Common.{arith, length-append, ℕ, zero, suc, ℤ, pos, negsuc, ◌≡◌, ◌≤◌, ◌<◌, ◌+◌, ◌*◌, ◌^◌, refl, ap, List, [], ◌∷◌, ◌++◌, length, map, drop, get_or, codes, decimal, unsigned_abs, Some, is_some, slice_get}
use Rattle.std.specs.Fmt.{signed_decimal}
use Rattle.std.specs.List.{All, flat_map, sum_by}
use Rattle.std.proofs.lemmas.Bool.{false≢true}
use Rattle.std.proofs.lemmas.Fmt.{length-decimal-le, length_signed_le}
use Rattle.std.proofs.lemmas.List.Elements.{All-cons, All-head, All-nil, All-tail}
use Rattle.std.proofs.lemmas.List.Concat.{flat_map-append}
use Rattle.std.proofs.lemmas.List.Sums.{sum_by-cons}
use Rattle.std.proofs.lemmas.Option.{same_Some}
use Rattle.gd_base.specs.declared.verdict.Counts.{Counts}
use Rattle.gd_base.specs.declared.verdict.Reason.{Reason}
use Rattle.gd_base.specs.declared.verdict.Reason.TheVariants as reason
use Rattle.gd_cells.specs.declared.node.Node.{Node}
use Rattle.gd_cells.specs.declared.node.Node.TheVariants.{Split, Refuted, Left}
use Rattle.gd_cert.specs.Bounds.{BodyFits, CountsFit, HeadingFits, NodeFits, WitnessFits}
use Rattle.gd_cert.specs.Certificates.{Body, Accept, Reject, Open, Certificate, Heading, Plain, Probe, body_of, certificate_of}
use Rattle.gd_cert.specs.Sizes.{GroupsLieWithin, KeptLinesLieWithin, LinesAreFew, OneGroupIsShort, TextsAreShort, most_bytes, tree_of}
use Rattle.gd_cert.specs.Text.{body_lines, first_lines, groups_lines, heading_words, line_text, lines, node_words, reason_word, spaced, text, verdict_word, counts_words}
use Rattle.gd_cert.specs.declared.cert.CertGroup.{CertGroup}
use Rattle.gd_cert.proofs.Writing.{whole_text}

-- the bytes of words and of what follows each
abbrev total : List (List ℕ) → ℕ
total [] = 0
total (word ∷ words) = length word + 1 + total words

spaced_size : (word : List ℕ) (words : List (List ℕ)) → length (spaced (word ∷ words)) + 1 ≡ total (word ∷ words)
spaced_size word [] = omega arith
spaced_size word (next ∷ words) = omega (arith, length-append word (32 ∷ spaced (next ∷ words)), spaced_size next words)

line_size : (word : List ℕ) (words : List (List ℕ)) → length (line_text (word ∷ words)) ≡ total (word ∷ words)
line_size word words = omega (arith, length-append (spaced (word ∷ words)) (10 ∷ []), spaced_size word words)

number_size : (n : ℕ) → n < 2 ^ 32 → length (decimal n) ≤ 10
number_size n h = length-decimal-le 10 n (omega arith) (omega arith) (omega arith)

node_size : (node : Node) → NodeFits node → length (line_text (node_words node)) ≤ 35
node_size Split h = omega arith
node_size (Refuted e) h =
    omega (arith, line_size (codes "r") (decimal e.condition ∷ decimal e.a ∷ decimal e.b ∷ []), number_size e.condition h.condition, number_size e.a h.a, number_size e.b h.b)
node_size Left h = omega arith

pub tree_size : (tree : List Node) → All NodeFits tree → length (flat_map line_text (map node_words tree)) ≤ 35 * length tree
tree_size [] h = omega arith
tree_size (node ∷ tree) h =
    omega (arith, length-append (line_text (node_words node)) (flat_map line_text (map node_words tree)), node_size node (All-head NodeFits node tree h), tree_size tree (All-tail NodeFits node tree h))

signed_size : (z : ℤ) → unsigned_abs z < 2 ^ 62 → length (signed_decimal z) ≤ 20
signed_size (pos n) h = length_signed_le 19 (pos n) (omega arith) (omega arith)
signed_size (negsuc n) h = length_signed_le 19 (negsuc n) (omega arith) (omega arith)

numbers_total : (at : List ℤ) → All (λ x. unsigned_abs x < 2 ^ 62) at → total (map signed_decimal at) ≤ 21 * length at
numbers_total [] h = omega arith
numbers_total (z ∷ at) h =
    omega (arith, signed_size z (All-head (λ x. unsigned_abs x < 2 ^ 62) z at h), numbers_total at (All-tail (λ x. unsigned_abs x < 2 ^ 62) z at h))

witness_size : (root : ℕ) (at : List ℤ) → WitnessFits root at → length (line_text (codes "w" ∷ decimal root ∷ map signed_decimal at)) ≤ 265
witness_size root at h =
    omega (arith, line_size (codes "w") (decimal root ∷ map signed_decimal at), number_size root h.root_fits, numbers_total at h.sizes, h.few)

reason_size : (why : Reason) → length (reason_word why) ≤ 6
reason_size reason.Budget = omega arith
reason_size reason.Floor = omega arith

counts_size : (c : Counts) → CountsFit c → length (line_text (counts_words c)) ≤ 43
counts_size c h =
    omega (
      arith,
      line_size (codes "at") (decimal c.level ∷ decimal c.undecided ∷ decimal c.spent ∷ reason_word c.reason ∷ []),
      number_size c.level h.level_fits,
      number_size c.undecided h.undecided_fits,
      number_size c.spent h.spent_fits,
      reason_size c.reason,
    )

-- with 24 bytes for the line before them
body_size : (body : Body) → BodyFits body → 24 + length (flat_map line_text (body_lines body)) ≤ most_bytes body
body_size (Accept root at) h =
    omega (arith, length-append (line_text (codes "w" ∷ decimal root ∷ map signed_decimal at)) [], witness_size root at h)
body_size (Reject tree) h = omega (arith, tree_size tree h.0)
body_size (Open counts tree) h =
    omega (
      arith,
      length-append (line_text (counts_words counts)) (flat_map line_text (map node_words tree)),
      counts_size counts h.0,
      tree_size tree h.1,
    )

verdict_size : (body : Body) → length (verdict_word body) ≤ 6
verdict_size (Accept root at) = omega arith
verdict_size (Reject tree) = omega arith
verdict_size (Open counts tree) = omega arith

first_size : (number : ℕ) (body : Body) → number < 2 ^ 32 → length (line_text (codes "group" ∷ decimal number ∷ verdict_word body ∷ [])) ≤ 24
first_size number body h =
    omega (arith, line_size (codes "group") (decimal number ∷ verdict_word body ∷ []), number_size number h, verdict_size body)

-- a group and those behind it
group_parts : (number : ℕ) (body : Body) (bodies : List Body) → length (flat_map line_text (groups_lines number (body ∷ bodies)))
    ≡ length (line_text (codes "group" ∷ decimal number ∷ verdict_word body ∷ [])) + (length (flat_map line_text (body_lines body)) + length (flat_map line_text (groups_lines (number + 1) bodies)))
group_parts number body bodies =
    rw (
      length-append (line_text (codes "group" ∷ decimal number ∷ verdict_word body ∷ [])) (flat_map line_text (body_lines body ++ groups_lines (number + 1) bodies)),
      flat_map-append line_text (body_lines body) (groups_lines (number + 1) bodies),
      length-append (flat_map line_text (body_lines body)) (flat_map line_text (groups_lines (number + 1) bodies)),
    ) refl

pub groups_size : (number : ℕ) (bodies : List Body) → number + length bodies ≤ 2 ^ 32 → All BodyFits bodies → length (flat_map line_text (groups_lines number bodies)) ≤ sum_by most_bytes bodies
groups_size number [] few h = omega arith
groups_size number (body ∷ bodies) few h =
    omega (
      arith,
      group_parts number body bodies,
      sum_by-cons most_bytes body bodies,
      first_size number body (omega arith),
      body_size body (All-head BodyFits body bodies h),
      groups_size (number + 1) bodies (omega arith) (All-tail BodyFits body bodies h),
    )

heading_size : (heading : Heading) → HeadingFits heading → length (line_text (heading_words heading)) ≤ 64
heading_size Plain h = omega arith
heading_size (Probe name tolerance) h =
    omega (arith, line_size (codes "probe") (name ∷ decimal tolerance ∷ []), h.0.few, length-decimal-le 8 tolerance (omega arith) (omega (arith, h.1)) (omega (arith, h.1)))

count_size : (word : List ℕ) (count : ℕ) → count < 2 ^ 32 → length (line_text (word ∷ decimal count ∷ [])) ≤ length word + 12
count_size word count h = omega (arith, line_size word (decimal count ∷ []), number_size count h)

-- six pieces of a text
six_sizes : (a b c d e f : List ℕ) → length (((((a ++ b) ++ c) ++ d) ++ e) ++ f) ≡ length a + length b + length c + length d + length e + length f
six_sizes a b c d e f =
    rw (length-append ((((a ++ b) ++ c) ++ d) ++ e) f, length-append (((a ++ b) ++ c) ++ d) e, length-append ((a ++ b) ++ c) d, length-append (a ++ b) c, length-append a b) refl

pub texts_are_short : TextsAreShort
texts_are_short c h =
    let groups = flat_map line_text (groups_lines 1 c.groups) in
    let size = six_sizes (codes "gdcert 1\n") (line_text (heading_words c.heading)) (line_text (codes "share" ∷ decimal c.share ∷ [])) (line_text (codes "groups" ∷ decimal c.told ∷ [])) groups (codes "end\n") in
    let whole = ap length (whole_text c) in
    omega (
      arith,
      size,
      whole,
      heading_size c.heading h.heading,
      count_size (codes "share") c.share (omega (arith, h.share)),
      count_size (codes "groups") c.told (omega (arith, h.few_told)),
      groups_size 1 c.groups (omega (arith, h.count)) h.groups,
    )

most_by_tree : (body : Body) → most_bytes body ≤ 289 + 35 * length (tree_of body)
most_by_tree (Accept root at) = omega arith
most_by_tree (Reject tree) = omega arith
most_by_tree (Open counts tree) = omega arith

pub one_group_is_short : OneGroupIsShort
one_group_is_short c body h one small =
    omega (arith, texts_are_short c h, ap (sum_by most_bytes) one, sum_by-cons most_bytes body [], most_by_tree body, small)

-- ---- lines
lines_below : (lines : List (List (List ℕ))) → length lines ≤ length (flat_map line_text lines)
lines_below [] = omega arith
lines_below (words ∷ lines) =
    omega (arith, length-append (line_text words) (flat_map line_text lines), length-append (spaced words) (10 ∷ []), lines_below lines)

pub lines_are_few : LinesAreFew
unfolding text
lines_are_few c = lines_below (lines c)

groups_count : (number : ℕ) (body : Body) (bodies : List Body) → length (groups_lines number (body ∷ bodies)) ≡ 1 + length (body_lines body) + length (groups_lines (number + 1) bodies)
groups_count number body bodies = omega (arith, length-append (body_lines body) (groups_lines (number + 1) bodies))

lines_count : (c : Certificate) → length (lines c) ≡ 5 + length (groups_lines 1 c.groups)
lines_count c = omega (arith, length-append (groups_lines 1 c.groups) ((codes "end" ∷ []) ∷ []))

nth_within : (number first : ℕ) (bodies : List Body) (k line : ℕ) (body : Body) → slice_get (first_lines first bodies) k ≡ Some line → slice_get bodies k ≡ Some body
    → line + 1 + length (body_lines body) ≤ first + length (groups_lines number bodies)
nth_within number first [] k line body e f = absurd (false≢true (ap is_some f))
nth_within number first (b ∷ bodies) zero line body e f =
    omega (arith, groups_count number b bodies, same_Some first line e, ap (λ v. length (body_lines v)) (same_Some b body f))
nth_within number first (b ∷ bodies) (suc k) line body e f =
    omega (arith, groups_count number b bodies, nth_within (number + 1) (first + 1 + length (body_lines b)) bodies k line body e f)

pub groups_lie_within : GroupsLieWithin
groups_lie_within c k line body e f = omega (arith, lines_count c, nth_within 1 5 c.groups k line body e f)

abbrev bodies_of : List CertGroup → List Body
bodies_of groups = map (λ (group : CertGroup). body_of group.body) groups

abbrev Within : ℕ → CertGroup → Type 0
Within end group = group.line + 1 + length (body_lines (body_of group.body)) ≤ end

kept_within : (number first end : ℕ) (groups : List CertGroup) → map (λ (group : CertGroup). group.line) groups ≡ first_lines first (bodies_of groups)
    → first + length (groups_lines number (bodies_of groups)) ≤ end → All (Within end) groups
kept_within number first end [] e h = All-nil (Within end)
kept_within number first end (group ∷ groups) e h =
    let body = body_of group.body in
    let count = groups_count number body (bodies_of groups) in
    All-cons (Within end) group groups (omega (arith, ap (λ xs. get_or xs 0 0) e, count, h))
    (kept_within (number + 1) (first + 1 + length (body_lines body)) end groups (ap (drop 1) e) (omega (arith, count, h)))

pub kept_lines_lie_within : KeptLinesLieWithin
kept_lines_lie_within c e = kept_within 1 5 (length (lines (certificate_of c))) c.groups.items e (omega (arith, lines_count (certificate_of c)))
