-- How long a text is, and how many lines it has.
use Rattle.std.specs.Prelude.{ℕ, ◌+◌, ◌*◌, ◌≡◌, ◌≤◌, Some, List, [], ◌∷◌, length, slice_get}
use Rattle.std.specs.List.{All, sum_by}
use Rattle.gd_base.specs.Limits.{FILE_BYTES}
use Rattle.gd_cells.specs.declared.node.Node.{Node}
use Rattle.gd_cert.specs.Bounds.{IsInBounds}
use Rattle.gd_cert.specs.Certificates.{Body, Accept, Reject, Open, Certificate, body_of, certificate_of}
use Rattle.gd_cert.specs.Text.{KeepsLines, body_lines, first_lines, lines, text}
use Rattle.gd_cert.specs.declared.cert.Cert.{Cert}
use Rattle.gd_cert.specs.declared.cert.CertGroup.{CertGroup}

-- the tree of a group; an accept has none
abbrev pub tree_of : Body → List Node
tree_of (Accept root at) = []
tree_of (Reject tree) = tree
tree_of (Open counts tree) = tree

-- no more bytes than these tell of a group: of its first line, and of its witness, or of its counts and its tree
abbrev pub most_bytes : Body → ℕ
most_bytes (Accept root at) = 289
most_bytes (Reject tree) = 24 + 35 * length tree
most_bytes (Open counts tree) = 67 + 35 * length tree

-- the text of a certificate in bounds is no longer than its groups allow
abbrev pub TextsAreShort : Type 0
TextsAreShort = (c : Certificate) → IsInBounds c → length (text c) ≤ 200 + sum_by most_bytes c.groups

-- a text has as many bytes as lines, or more
abbrev pub LinesAreFew : Type 0
LinesAreFew = (c : Certificate) → length (lines c) ≤ length (text c)

-- a group that begins on this line, the lines behind its first, and `end` are among the lines of the certificate
abbrev pub LiesWithin : Certificate → ℕ → Body → Type 0
LiesWithin c line body = line + 1 + length (body_lines body) ≤ length (lines c)

-- each group lies within
abbrev pub GroupsLieWithin : Type 0
GroupsLieWithin = (c : Certificate) (k line : ℕ) (body : Body) → slice_get (first_lines 5 c.groups) k ≡ Some line
    → slice_get c.groups k ≡ Some body → LiesWithin c line body

-- each group lies within by the line that it keeps
abbrev pub KeptLinesLieWithin : Type 0
KeptLinesLieWithin = (c : Cert) → KeepsLines c
    → All (λ (group : CertGroup). LiesWithin (certificate_of c) group.line (body_of group.body)) c.groups.items

-- the text of a certificate of one group, whose tree has at most 2,000,004 lines, has at most the 134,217,728 bytes
-- that a file may have
abbrev pub OneGroupIsShort : Type 0
OneGroupIsShort = (c : Certificate) (body : Body) → IsInBounds c → c.groups ≡ body ∷ []
    → length (tree_of body) ≤ 2000004 → length (text c) ≤ FILE_BYTES
