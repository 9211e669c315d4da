-- What one line of a certificate tells, by its words. In a line the tests have this order: its kind and its number
-- (42), its words (44), and how numbers are spelled (43).
use Rattle.std.specs.Prelude.{ℕ, Bool, false, List, [], ◌∷◌, Option, Some, None, Result, Ok, Err, length, nat_le, ◌==◌}
use Rattle.std.specs.Prelude.{◌&&◌, ◌||◌, if◌then◌else◌, codes}
use Rattle.gd_cells.specs.Grid.{MOST_DIMS}
use Rattle.gd_base.specs.declared.verdict.Reason.{Reason}
use Rattle.gd_base.specs.declared.verdict.Reason.TheVariants as reason
use Rattle.gd_cells.specs.declared.node.Node.{Node}
use Rattle.gd_cells.specs.declared.node.Node.TheVariants.{Split, Refuted, Left}
use Rattle.gd_cert.specs.Certificates.{Body, Accept, Heading, Plain, Probe}
use Rattle.gd_cert.specs.Text.{format, version}
use Rattle.gd_cert.specs.Words.{and_then_read, is_requirement, is_word, number_below, number_of, or_rule}
use Rattle.gd_cert.specs.Words.{signed_numbers}
use Rattle.gd_cert.specs.declared.rule.Rule.{Rule}
use Rattle.gd_cert.specs.declared.rule.Rule.TheVariants as rule
use Rattle.gd_base.specs.declared.verdict.Counts.{Counts}
use Rattle.gd_cert.specs.declared.stage.Stage.{Stage}
use Rattle.gd_cert.specs.declared.stage.Stage.TheVariants as stage

-- `gdcert 1`
abbrev pub title_in : List (List ℕ) → Bool
title_in (name ∷ number ∷ []) = is_word name format && is_word number version
title_in words = false

-- a requirement at a tolerance
abbrev pub probe_in : List ℕ → List ℕ → Result Heading Rule
probe_in name tolerance = and_then_read (or_rule (number_below 16000001 tolerance) rule.Head) (λ t. Ok (Probe name t))

-- `plain`, or `probe NAME T`
abbrev pub heading_in : List (List ℕ) → Result Heading Rule
heading_in (word ∷ []) = if is_word word (codes "plain") then Ok Plain else Err rule.Head
heading_in (word ∷ name ∷ tolerance ∷ []) =
    if is_word word (codes "probe") && is_requirement name
    then probe_in name tolerance
    else Err rule.Head
heading_in words = Err rule.Head

-- a word and one number below a limit
abbrev pub sized_in : List ℕ → ℕ → List (List ℕ) → Result ℕ Rule
sized_in name limit (word ∷ number ∷ []) = if is_word word name then or_rule (number_below limit number) rule.Head else
    Err rule.Head
sized_in name limit words = Err rule.Head

-- `share N`
abbrev pub share_in : List (List ℕ) → Result ℕ Rule
share_in words = sized_in (codes "share") 1000001 words

-- `groups G`, from 1 on
abbrev pub told_in : List (List ℕ) → Result ℕ Rule
told_in words = and_then_read (sized_in (codes "groups") 300001 words)
    (λ told. if told == 0 then Err rule.Head else Ok told)

-- what stands behind the number of a group
abbrev pub verdict_in : List (List ℕ) → Option Stage
verdict_in (word ∷ []) =
    if is_word word (codes "accept") then Some stage.Witness
    else if is_word word (codes "reject") then Some stage.Reject
    else if is_word word (codes "open") then Some stage.Counts
    else None
verdict_in words = None

-- another number than the next is the first fault, and a misspelled one the last
abbrev pub begun_by : ℕ → Option ℕ → Option Stage → Result Stage Rule
begun_by next None None = Err rule.Words
begun_by next None (Some s) = Err rule.Number
begun_by next (Some n) verdict = if n == next then or_rule verdict rule.Words else Err rule.Expected

-- `K accept`, `K reject` or `K open`
abbrev pub number_and_verdict_in : ℕ → List (List ℕ) → Result Stage Rule
number_and_verdict_in next [] = Err rule.Words
number_and_verdict_in next (number ∷ words) = begun_by next (number_of number) (verdict_in words)

abbrev pub end_in : List (List ℕ) → Result Stage Rule
end_in [] = Ok stage.Done
end_in words = Err rule.Words

-- the line of a group, or the last one
abbrev pub group_in : ℕ → List (List ℕ) → Result Stage Rule
group_in next [] = Err rule.Expected
group_in next (word ∷ words) =
    if is_word word (codes "group") then number_and_verdict_in next words
    else if is_word word (codes "end") then end_in words
    else Err rule.Expected

-- a root, and from 2 to MOST_DIMS numbers
abbrev pub place_in : List (List ℕ) → Result Body Rule
place_in [] = Err rule.Words
place_in (root ∷ at) =
    if nat_le 2 (length at) && nat_le (length at) MOST_DIMS
    then and_then_read (or_rule (number_of root) rule.Number)
    (λ r. and_then_read (or_rule (signed_numbers at) rule.Number) (λ xs. Ok (Accept r xs)))
    else Err rule.Words

-- `w R n n ..`
abbrev pub witness_in : List (List ℕ) → Result Body Rule
witness_in [] = Err rule.Expected
witness_in (word ∷ words) = if is_word word (codes "w") then place_in words else Err rule.Expected

abbrev pub reason_in : List ℕ → Option Reason
reason_in word =
    if is_word word (codes "budget") then Some reason.Budget
    else if is_word word (codes "floor") then Some reason.Floor
    else None

abbrev pub counts_of : ℕ → ℕ → ℕ → Reason → Counts
counts_of level undecided spent why = record { level = level; undecided = undecided; spent = spent; reason = why }

-- three counts and a reason
abbrev pub level_in : List (List ℕ) → Result Stage Rule
level_in (level ∷ undecided ∷ spent ∷ why ∷ []) =
    and_then_read (or_rule (reason_in why) rule.Words) (λ r.
    and_then_read (or_rule (number_of level) rule.Number) (λ l.
    and_then_read (or_rule (number_of undecided) rule.Number) (λ u.
    and_then_read (or_rule (number_of spent) rule.Number) (λ s. Ok (stage.Open (counts_of l u s r))))))
level_in words = Err rule.Words

-- `at L U S budget` or `at L U S floor`
abbrev pub counts_in : List (List ℕ) → Result Stage Rule
counts_in [] = Err rule.Expected
counts_in (word ∷ words) = if is_word word (codes "at") then level_in words else Err rule.Expected

abbrev pub evidence_in : List (List ℕ) → Result Node Rule
evidence_in (condition ∷ a ∷ b ∷ []) =
    and_then_read (or_rule (number_of condition) rule.Number) (λ c.
    and_then_read (or_rule (number_of a) rule.Number) (λ x.
    and_then_read (or_rule (number_of b) rule.Number) (λ y. Ok (Refuted (record { condition = c; a = x; b = y })))))
evidence_in words = Err rule.Words

abbrev pub lone : Node → List (List ℕ) → Result Node Rule
lone node [] = Ok node
lone node words = Err rule.Words

-- a line of a tree: `s`, `r C A B`, and `o` where a cell may be undecided
abbrev pub node_in : Bool → List (List ℕ) → Result Node Rule
node_in undecided [] = Err rule.Words
node_in undecided (word ∷ words) =
    if is_word word (codes "r") then evidence_in words
    else if is_word word (codes "s") then lone Split words
    else if is_word word (codes "o") && undecided then lone Left words
    else Err rule.Words

-- such a line ends a tree
abbrev pub ends_tree : List (List ℕ) → Bool
ends_tree [] = false
ends_tree (word ∷ words) = is_word word (codes "group") || is_word word (codes "end")
