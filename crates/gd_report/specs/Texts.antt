-- The texts that a run prints. Each is one line.
use Rattle.std.specs.Prelude.{ℕ, ◌++◌, List, codes, decimal}
use Rattle.std.specs.Fmt.{signed_decimal}
use Rattle.gd_base.specs.declared.fault.InputFault.{InputFault}
use Rattle.gd_base.specs.declared.verdict.Counts.{Counts}
use Rattle.gd_base.specs.declared.verdict.Reason.{Reason}
use Rattle.gd_base.specs.declared.verdict.Reason.TheVariants as reason
use Rattle.gd_vec.specs.declared.vector.V3.{V3}

abbrev pub wrong_words_text : List ℕ
wrong_words_text = codes "gdteval: wrong words\n"

abbrev pub cannot_read_text : List ℕ → List ℕ
cannot_read_text word = codes "gdteval: cannot read " ++ (word ++ codes "\n")

-- the place of a fault
abbrev pub place_text : ℕ → ℕ → List ℕ
place_text row column = codes "row " ++ (decimal row ++ (codes " column " ++ (decimal column ++ codes "\n")))

abbrev pub input_text : List ℕ → InputFault → List ℕ
input_text word f = codes "input " ++ (word ++ (codes " code " ++ (decimal f.code ++ (codes " "
    ++ place_text f.row f.column))))

-- the entries of a direction, in 2^-30
abbrev pub direction_text : V3 → List ℕ
direction_text n = signed_decimal n.x ++ (codes " " ++ (signed_decimal n.y ++ (codes " " ++ (signed_decimal n.z
    ++ codes "\n"))))

abbrev pub accept_text : ℕ → V3 → List ℕ
accept_text level n = codes "accept level " ++ (decimal level ++ (codes " direction " ++ direction_text n))

abbrev pub reject_text : ℕ → List ℕ
reject_text leaves = codes "reject leaves " ++ (decimal leaves ++ codes "\n")

abbrev pub reason_text : Reason → List ℕ
reason_text reason.Budget = codes "budget"
reason_text reason.Floor = codes "floor"

-- how many cells were undecided, and how many had been split before
abbrev pub counts_text : ℕ → ℕ → List ℕ
counts_text undecided spent = codes " undecided " ++ (decimal undecided ++ (codes " spent " ++ (decimal spent
    ++ codes "\n")))

abbrev pub open_text : Counts → List ℕ
open_text c = codes "open " ++ (reason_text c.reason ++ (codes " level " ++ (decimal c.level
    ++ counts_text c.undecided c.spent)))

abbrev pub valid_text : List ℕ
valid_text = codes "valid\n"

abbrev pub invalid_text : ℕ → ℕ → List ℕ
invalid_text line code = codes "invalid line " ++ (decimal line ++ (codes " code " ++ (decimal code ++ codes "\n")))
