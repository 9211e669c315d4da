-- The text of a certificate, version 1: lines of words.
use Rattle.std.specs.Prelude.{ℕ, ◌+◌, ◌≡◌, List, [], ◌∷◌, ◌++◌, codes, decimal, length, map}
use Rattle.std.specs.Fmt.{signed_decimal}
use Rattle.std.specs.List.{flat_map}
use Rattle.gd_base.specs.declared.verdict.Counts.{Counts}
use Rattle.gd_base.specs.declared.verdict.Reason.{Reason}
use Rattle.gd_base.specs.declared.verdict.Reason.TheVariants as reason
use Rattle.gd_cells.specs.declared.node.Node.{Node}
use Rattle.gd_cells.specs.declared.node.Node.TheVariants.{Split, Refuted, Left}
use Rattle.gd_cert.specs.Certificates.{Body, Accept, Reject, Open, Certificate, Heading, Plain, Probe, certificate_of}
use Rattle.gd_cert.specs.declared.cert.Cert.{Cert}
use Rattle.gd_cert.specs.declared.cert.CertGroup.{CertGroup}

-- words with one space between each and the next
abbrev pub spaced : List (List ℕ) → List ℕ
spaced [] = []
spaced (word ∷ []) = word
spaced (word ∷ next ∷ words) = word ++ 32 ∷ spaced (next ∷ words)

-- the line of some words, which ends in LF
abbrev pub line_text : List (List ℕ) → List ℕ
line_text words = spaced words ++ 10 ∷ []

-- the name of the format and its version, and the first line, which tells both
abbrev pub format : List ℕ
format = codes "gdcert"

abbrev pub version : List ℕ
version = codes "1"

abbrev pub title : List (List ℕ)
title = format ∷ version ∷ []

abbrev pub heading_words : Heading → List (List ℕ)
heading_words Plain = codes "plain" ∷ []
heading_words (Probe name tolerance) = codes "probe" ∷ name ∷ decimal tolerance ∷ []

-- the line of a cell in a tree
abbrev pub node_words : Node → List (List ℕ)
node_words Split = codes "s" ∷ []
node_words (Refuted e) = codes "r" ∷ decimal e.condition ∷ decimal e.a ∷ decimal e.b ∷ []
node_words Left = codes "o" ∷ []

abbrev pub reason_word : Reason → List ℕ
reason_word reason.Budget = codes "budget"
reason_word reason.Floor = codes "floor"

-- the line of where a search stopped, and why
abbrev pub counts_words : Counts → List (List ℕ)
counts_words c = codes "at" ∷ decimal c.level ∷ decimal c.undecided ∷ decimal c.spent ∷ reason_word c.reason ∷ []

-- the lines of a group after its first
abbrev pub body_lines : Body → List (List (List ℕ))
body_lines (Accept root at) = (codes "w" ∷ decimal root ∷ map signed_decimal at) ∷ []
body_lines (Reject tree) = map node_words tree
body_lines (Open counts tree) = counts_words counts ∷ map node_words tree

abbrev pub verdict_word : Body → List ℕ
verdict_word (Accept root at) = codes "accept"
verdict_word (Reject tree) = codes "reject"
verdict_word (Open counts tree) = codes "open"

-- the lines of the groups, of which the first has this number
abbrev pub groups_lines : ℕ → List Body → List (List (List ℕ))
groups_lines number [] = []
groups_lines number (body ∷ bodies) = (codes "group" ∷ decimal number ∷ verdict_word body ∷ []) ∷ (body_lines body ++ groups_lines (number + 1) bodies)

-- all lines
abbrev pub lines : Certificate → List (List (List ℕ))
lines c =
    title
    ∷ heading_words c.heading
    ∷ (codes "share" ∷ decimal c.share ∷ [])
    ∷ (codes "groups" ∷ decimal c.told ∷ [])
    ∷ (groups_lines 1 c.groups ++ (codes "end" ∷ []) ∷ [])

unfoldable pub text : Certificate → List ℕ
text c = flat_map line_text (lines c)

-- the numbers, from 1, of the lines on which the groups begin, of which the first begins on this one
abbrev pub first_lines : ℕ → List Body → List ℕ
first_lines line [] = []
first_lines line (body ∷ bodies) = line ∷ first_lines (line + 1 + length (body_lines body)) bodies

-- each group keeps the number of its first line
abbrev pub KeepsLines : Cert → Type 0
KeepsLines c = map (λ (group : CertGroup). group.line) c.groups.items ≡ first_lines 5 (certificate_of c).groups
