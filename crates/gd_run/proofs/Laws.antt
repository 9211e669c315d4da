-- Laws of how a run ends.
use Rattle.std.proofs.Common.{arith, ◌≡◌, ◌≢◌, ◌∙◌, ap, sym, ℕ, ◌≤◌, ◌⊎◌, ◌++◌, inl, inr, true, List, []}
use Rattle.gd_base.specs.Causes.{Rose}
use Rattle.gd_report.specs.Said.{status_of}
use Rattle.gd_report.specs.Texts.{wrong_words_text}
use Rattle.gd_run.specs.Answers.{Answer}
use Rattle.gd_run.specs.Asks.{IsNoCommand}
use Rattle.gd_run.specs.Endings.{Answers, Course, Ends, EndsInPut, EndsInStore, EndsInWant, EndsUnread, EndsWithAnswer}
use Rattle.gd_run.specs.Runs.{IsPossible}
use Rattle.gd_world.specs.Shelf.{SameFiles}

-- the five ways in which a run ends, with their statuses
abbrev Each : Course → ℕ → Type 0 → Type 0
Each c code P = (EndsWithAnswer c code → P) → (EndsUnread c code → P) → (EndsInStore c code → P) → (EndsInPut c code → P) → (EndsInWant c code → P) → P

pub each_end : {P : Type 0} (c : Course) (code : ℕ) → Ends c code → Each c code P
each_end c code (inl e) a u s p w = a e
each_end c code (inr (inl e)) a u s p w = u e
each_end c code (inr (inr (inl e))) a u s p w = s e
each_end c code (inr (inr (inr (inl e)))) a u s p w = p e
each_end c code (inr (inr (inr (inr e)))) a u s p w = w e

-- without the statuses of faults a run ends with its answer
pub answered : (c : Course) (code : ℕ) → Ends c code → code ≢ 5 → code ≢ 6 → code ≢ 7 → EndsWithAnswer c code
answered c code ends five six seven = each_end c code ends (λ e. e) (λ e. absurd (five e.status)) (λ e. absurd (six e.status)) (λ e. absurd (six e.status)) (λ e. absurd (seven e.status))

pub answer_told : (c : Course) (code : ℕ) → c.shelf_tells ≡ true → c.sink_tells ≡ true → EndsWithAnswer c code → Answers c.words c.old c.new c.before c.now code
answer_told c code shelf sink e = record { answer = e.answer; is = e.has.is shelf; status = e.status; stored = e.stored shelf; written = e.written sink }

-- ---- what an answer may be
possible_four : (words : List (List ℕ)) (a : Answer) → IsPossible words a → status_of a.said.ending ≡ 4 → IsNoCommand words × (a.said.text ≡ wrong_words_text)
possible_four words a (inl wrong) four = (wrong.0, ap (λ (b : Answer). b.said.text) wrong.1)
possible_four words a (inr other) four = elim other.2.ending as (λ _. IsNoCommand words × (a.said.text ≡ wrong_words_text)) [ inl low ↦ absurd (omega (arith, low, four)) | inr eight ↦ absurd (omega (arith, eight, four)) ]

possible_wrong : (words : List (List ℕ)) (a : Answer) → IsPossible words a → IsNoCommand words → status_of a.said.ending ≡ 4
possible_wrong words a (inl wrong) none = ap (λ (b : Answer). status_of b.said.ending) wrong.1
possible_wrong words a (inr other) none = absurd (none other.0 other.1)

possible_same : (words : List (List ℕ)) (a : Answer) → IsPossible words a → 3 ≤ status_of a.said.ending → a.stores ≡ []
possible_same words a (inl wrong) high = ap (λ (b : Answer). b.stores) wrong.1
possible_same words a (inr other) high = other.2.refused high

possible_range : (words : List (List ℕ)) (a : Answer) → IsPossible words a → status_of a.said.ending ≤ 8
possible_range words a (inl wrong) = let four : status_of a.said.ending ≡ 4 = ap (λ (b : Answer). status_of b.said.ending) wrong.1 in omega (arith, four)
possible_range words a (inr other) = elim other.2.ending as (λ _. status_of a.said.ending ≤ 8) [ inl low ↦ omega (arith, low) | inr eight ↦ omega (arith, eight) ]

-- no answer has the status of a fault
fault_is_no_answer : (words : List (List ℕ)) (a : Answer) → IsPossible words a → (code : ℕ) → status_of a.said.ending ≡ code → 5 ≤ code → code ≤ 7 → ⊥
fault_is_no_answer words a (inl wrong) code is low high = let four : status_of a.said.ending ≡ 4 = ap (λ (b : Answer). status_of b.said.ending) wrong.1 in omega (arith, four, is, low)
fault_is_no_answer words a (inr other) code is low high = elim other.2.ending as (λ _. ⊥) [ inl few ↦ omega (arith, few, is, low) | inr eight ↦ omega (arith, eight, is, high) ]

-- ---- wrong words
pub four_is_wrong : (c : Course) (code : ℕ) → Ends c code → code ≡ 4 → IsNoCommand c.words × (c.sink_tells ≡ true → c.now ≡ c.before ++ wrong_words_text)
four_is_wrong c code ends four =
    let e = answered c code ends (λ h. omega (arith, h, four)) (λ h. omega (arith, h, four)) (λ h. omega (arith, h, four)) in
    let p = possible_four c.words e.answer e.has.possible (sym e.status ∙ four) in
    (p.0, λ t. e.written t ∙ ap (λ text. c.before ++ text) p.1)

pub wrong_is_four : (c : Course) (code : ℕ) → Ends c code → IsNoCommand c.words → code ≢ 6 → code ≢ 7 → code ≡ 4
wrong_is_four c code ends none six seven = each_end c code ends
    (λ e. e.status ∙ possible_wrong c.words e.answer e.has.possible none)
    (λ e. absurd (none e.unread.to_read.ask e.unread.to_read.asks))
    (λ e. absurd (six e.status)) (λ e. absurd (six e.status)) (λ e. absurd (seven e.status))

-- ---- files and statuses
pub same_files : (c : Course) (code : ℕ) → Ends c code → code ≢ 0 → code ≢ 1 → code ≢ 2 → code ≢ 6 → code ≢ 7 → SameFiles c.old c.new
same_files c code ends zero one two six seven = each_end c code ends
    (λ e. e.kept (possible_same c.words e.answer e.has.possible (omega (arith, e.status, zero, one, two))))
    (λ e. e.unread.kept)
    (λ e. absurd (six e.status)) (λ e. absurd (six e.status)) (λ e. absurd (seven e.status))

pub in_range : (c : Course) (code : ℕ) → Ends c code → code ≤ 8
in_range c code ends = each_end c code ends
    (λ e. omega (arith, e.status, possible_range c.words e.answer e.has.possible))
    (λ e. omega (arith, e.status)) (λ e. omega (arith, e.status)) (λ e. omega (arith, e.status)) (λ e. omega (arith, e.status))

-- ---- causes
pub load_failed : (c : Course) (code : ℕ) → Ends c code → code ≡ 5 → EndsUnread c code
load_failed c code ends five = each_end c code ends
    (λ e. absurd (fault_is_no_answer c.words e.answer e.has.possible 5 (sym e.status ∙ five) (omega arith) (omega arith)))
    (λ e. e)
    (λ e. absurd (omega (arith, e.status, five))) (λ e. absurd (omega (arith, e.status, five))) (λ e. absurd (omega (arith, e.status, five)))

pub write_failed : (c : Course) (code : ℕ) → Ends c code → code ≡ 6 → Rose c.shelf_faults.0 c.shelf_faults.1 ⊎ Rose c.sink_faults.0 c.sink_faults.1
write_failed c code ends six = each_end c code ends
    (λ e. absurd (fault_is_no_answer c.words e.answer e.has.possible 6 (sym e.status ∙ six) (omega arith) (omega arith)))
    (λ e. absurd (omega (arith, e.status, six)))
    (λ e. inl e.rose) (λ e. inr e.rose)
    (λ e. absurd (omega (arith, e.status, six)))

pub nothing_put : (c : Course) (code : ℕ) → Ends c code → c.sink_tells ≡ true → code ≡ 7 → c.now ≡ c.before
nothing_put c code ends told seven = each_end c code ends
    (λ e. absurd (fault_is_no_answer c.words e.answer e.has.possible 7 (sym e.status ∙ seven) (omega arith) (omega arith)))
    (λ e. absurd (omega (arith, e.status, seven)))
    (λ e. absurd (omega (arith, e.status, seven))) (λ e. absurd (omega (arith, e.status, seven)))
    (λ e. e.nothing told)
