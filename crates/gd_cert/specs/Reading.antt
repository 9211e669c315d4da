-- The certificate that bytes spell, or their first fault: line by line, and in a line by the order of its tests.
use Rattle.std.specs.Prelude.{ℕ, ◌+◌, ◌≡◌, Bool, true, false, List, [], ◌∷◌, ◌++◌, Option, Some, None, Result, Ok, Err, length, map, if◌then◌else◌}
use Rattle.gd_cells.specs.declared.node.Node.{Node}
use Rattle.gd_cert.specs.Certificates.{Body, Reject, Certificate, Heading, Plain, Open}
use Rattle.gd_cert.specs.Lines.{counts_in, ends_tree, group_in, heading_in, node_in, share_in, title_in, told_in, witness_in}
use Rattle.gd_cert.specs.Rules.{code_of}
use Rattle.gd_cert.specs.Words.{and_then_read, pieces, words_of}
use Rattle.gd_cert.specs.declared.fault.CertFault.{CertFault}
use Rattle.gd_cert.specs.declared.fault.CertReadFault.{CertReadFault}
use Rattle.gd_cert.specs.declared.fault.CertReadFault.TheVariants as read_fault
use Rattle.gd_cert.specs.declared.rule.Rule.{Rule}
use Rattle.gd_cert.specs.declared.rule.Rule.TheVariants as rule
use Rattle.gd_cert.specs.declared.stage.Stage.{Stage}
use Rattle.gd_cert.specs.declared.stage.Stage.TheVariants as stage

-- what is wrong with a line
abbrev pub fault : ℕ → ℕ → CertFault
fault line code = record { line = line; code = code }

-- the cause of a certificate that wasn't read: its first fault, where it isn't want of memory
abbrev pub cert_cause : CertReadFault → Option CertFault
cert_cause (read_fault.Cert f) = Some f
cert_cause read_fault.Memory = None

-- a group and the line on which its text begins
pub record Placed : Type 0 where
  pub line : ℕ
  pub body : Body

-- what the lines so far tell: the head, the groups that are whole, which line comes next, on which line the last group begins, and the tree's lines
pub record Draft : Type 0 where
  pub heading : Heading
  pub share : ℕ
  pub told : ℕ
  pub groups : List Placed
  pub stage : Stage
  pub begun : ℕ
  pub tree : List Node

-- before the first line
abbrev pub empty_draft : Draft
empty_draft = record { heading = Plain; share = 0; told = 1; groups = []; stage = stage.Title; begun = 0; tree = [] }

abbrev pub bodies_of : List Placed → List Body
bodies_of groups = map (λ (group : Placed). group.body) groups

abbrev pub lines_of : List Placed → List ℕ
lines_of groups = map (λ (group : Placed). group.line) groups

abbrev pub certificate_in : Draft → Certificate
certificate_in d = record { heading = d.heading; share = d.share; told = d.told; groups = bodies_of d.groups }

-- the group that was begun is whole
abbrev pub with_body : Body → Draft → Draft
with_body body d = record d { groups = d.groups ++ record { line = d.begun; body = body } ∷ []; stage = stage.Group }

abbrev pub without_tree : Draft → Draft
without_tree d = record d { tree = [] }

-- and its tree is in it
abbrev pub with_tree_in : Body → Draft → Draft
with_tree_in body d = with_body body (without_tree d)

abbrev pub at_stage : Stage → Draft → Draft
at_stage s d = record d { stage = s }

abbrev pub with_title : List (List ℕ) → Draft → Result Draft Rule
with_title words d = if title_in words then Ok (at_stage stage.Heading d) else Err rule.Title

abbrev pub with_heading : List (List ℕ) → Draft → Result Draft Rule
with_heading words d = and_then_read (heading_in words) (λ h.
    Ok (record d { heading = h; stage = stage.Share }))

abbrev pub with_share : List (List ℕ) → Draft → Result Draft Rule
with_share words d = and_then_read (share_in words) (λ n.
    Ok (record d { share = n; stage = stage.Told }))

abbrev pub with_told : List (List ℕ) → Draft → Result Draft Rule
with_told words d = and_then_read (told_in words) (λ n.
    Ok (record d { told = n; stage = stage.Group }))

abbrev pub with_group : ℕ → List (List ℕ) → Draft → Result Draft Rule
with_group line words d = and_then_read (group_in (length d.groups + 1) words) (λ s.
    Ok (record d { stage = s; begun = line }))

abbrev pub with_witness : List (List ℕ) → Draft → Result Draft Rule
with_witness words d = and_then_read (witness_in words) (λ body. Ok (with_body body d))

abbrev pub with_counts : List (List ℕ) → Draft → Result Draft Rule
with_counts words d = and_then_read (counts_in words) (λ s. Ok (at_stage s d))

abbrev pub with_node : Bool → List (List ℕ) → Draft → Result Draft Rule
with_node undecided words d = and_then_read (node_in undecided words) (λ node.
    Ok (record d { tree = d.tree ++ node ∷ [] }))

-- one more line of a tree, or the line that ends it
abbrev pub with_tree_line : ℕ → List (List ℕ) → Bool → Body → Draft → Result Draft Rule
with_tree_line line words undecided body d =
    if ends_tree words then with_group line words (with_tree_in body d) else with_node undecided words d

abbrev pub with_line_at : Stage → ℕ → List (List ℕ) → Draft → Result Draft Rule
with_line_at stage.Title line words d = with_title words d
with_line_at stage.Heading line words d = with_heading words d
with_line_at stage.Share line words d = with_share words d
with_line_at stage.Told line words d = with_told words d
with_line_at stage.Group line words d = with_group line words d
with_line_at stage.Witness line words d = with_witness words d
with_line_at stage.Counts line words d = with_counts words d
with_line_at stage.Reject line words d = with_tree_line line words false (Reject d.tree) d
with_line_at (stage.Open counts) line words d = with_tree_line line words true (Open counts d.tree) d
with_line_at stage.Done line words d = Err rule.Behind

-- what the lines tell with one more, of which these are the words
unfoldable pub with_line : ℕ → List (List ℕ) → Draft → Result Draft Rule
with_line line words d = with_line_at d.stage line words d

-- a rule that is broken by a line
abbrev pub on_line : {A : Type 0} → ℕ → Result A Rule → Result A CertFault
on_line line (Ok x) = Ok x
on_line line (Err broken) = Err (fault line (code_of broken))

-- what is wrong with what follows the last line end, where that isn't nothing behind `end`
abbrev pub last_fault : Stage → List ℕ → Option Rule
last_fault stage.Done [] = None
last_fault stage.Done bytes = Some rule.Behind
last_fault s bytes = Some rule.Cut

abbrev pub unless : {A : Type 0} → Option Rule → A → Result A Rule
unless None x = Ok x
unless (Some broken) x = Err broken

-- what the lines of a file tell, of which these come next, the last without its end
abbrev pub drafted_from : ℕ → Draft → List (List ℕ) → Result Draft CertFault
drafted_from line d [] = Err (fault line 45)
drafted_from line d (piece ∷ []) = on_line line (unless (last_fault d.stage piece) d)
drafted_from line d (piece ∷ next ∷ rest) = and_then_read (on_line line (with_line line (words_of piece) d)) (λ e. drafted_from (line + 1) e (next ∷ rest))

unfoldable pub drafted : List ℕ → Result Draft CertFault
drafted bytes = drafted_from 1 empty_draft (pieces 10 bytes)

unfoldable pub reading : List ℕ → Result Certificate CertFault
reading bytes = and_then_read (drafted bytes) (λ d. Ok (certificate_in d))
