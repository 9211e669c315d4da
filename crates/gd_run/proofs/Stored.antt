-- What a run leaves under the word of a certificate.
use Rattle.std.proofs.Common.{arith, ◌≡◌, ◌∙◌, ap, sym, refl, subst, ℕ, ◌≤◌, ◌⊎◌, inl, inr, true, List, [], ◌∷◌, ◌++◌, Some}
use Rattle.gd_cert.specs.Text.{text}
use Rattle.gd_flat.specs.FlatTask.{questions_of}
use Rattle.gd_report.specs.Said.{status_of}
use Rattle.gd_run.proofs.Asked.{same_ask}
use Rattle.gd_run.proofs.Claimed.{end_is_valid}
use Rattle.gd_run.proofs.FilesRead.{FlatRead, JudgeRead, JudgeRefused, JudgeReported, Judged, Refused, few_of, flat_read, judge_read, some_of}
use Rattle.gd_run.proofs.Laws.{each_end}
use Rattle.gd_run.specs.Answers.{Answer, Store, certificate_of_end, stores_to}
use Rattle.gd_run.specs.Asks.{Ask, Asks, ForCheck, ForCheckFlat, ForFlat, ForJudge, IsInRange, store_of}
use Rattle.gd_run.specs.Claims.{HoldsFront, HoldsValid, IsCertificateOf, LeavesValid, StoresValid}
use Rattle.gd_run.specs.Endings.{Course, Ends, EndsWithAnswer, StoresDone}
use Rattle.gd_run.specs.FlatCommand.{Flat}
use Rattle.gd_run.specs.JudgeCommand.{Judge}
use Rattle.gd_run.specs.Runs.{IsAnswer, IsAnswerTo}
use Rattle.gd_world.specs.Shelf.{Files, IsWord, PutsPrefix, SameFiles, Word}

-- an answer stores nothing, where an input was refused, or a valid certificate
data AskStores (old : Files) (ask : Ask) (name : List ℕ) (a : Answer) : Type 0 where
  Nothing : a.stores ≡ [] → 3 ≤ status_of a.said.ending → AskStores old ask name a
  Certificate : (bytes : List ℕ) → a.stores ≡ (name, bytes) ∷ [] → IsCertificateOf old ask bytes → AskStores old ask name a

flat_stores : (old : Files) (flat : Flat) (name : List ℕ) → IsInRange (ForFlat flat) → flat.certificate ≡ Some name → (a : Answer) → FlatRead old flat a → AskStores old (ForFlat flat) name a
flat_stores old flat name range wanted a (Refused f is) = Nothing (ap (λ (b : Answer). b.stores) is) (let three : status_of a.said.ending ≡ 3 = ap (λ (b : Answer). status_of b.said.ending) is in omega (arith, three))
flat_stores old flat name range wanted a (Judged input is) =
    let bytes : List ℕ = text (certificate_of_end (questions_of input.table.rows flat.tolerance) flat.budget is.0) in
    Certificate bytes (ap (λ (b : Answer). b.stores) is.2 ∙ ap (λ w. stores_to w bytes) wanted)
    (record { input = input; valid = end_is_valid input.table.rows flat.tolerance flat.budget is.0 (some_of input) (few_of input) range.budget is.1 })

judge_stores : (old : Files) (judge : Judge) (name : List ℕ) → Some judge.certificate ≡ Some name → (a : Answer) → JudgeRead old judge a → AskStores old (ForJudge judge) name a
judge_stores old judge name wanted a (JudgeRefused word f is) = Nothing (ap (λ (b : Answer). b.stores) is) (let three : status_of a.said.ending ≡ 3 = ap (λ (b : Answer). status_of b.said.ending) is in omega (arith, three))
judge_stores old judge name wanted a (JudgeReported input frames is) =
    let bytes : List ℕ = text is.certificate in
    let named : judge.certificate ≡ name = cc in
    Certificate bytes (ap (λ (b : Answer). b.stores) is.answer ∙ ap (λ w. (w, bytes) ∷ []) named)
    (record {
      input = input;
      frames = frames;
      valid = record { short = is.so.short; certificate = is.certificate; fits = is.so.fits; spelled = refl; plain = is.so.judged.heading; right = is.so.right };
    })

stores_of_ask : (old : Files) (ask : Ask) (name : List ℕ) → IsInRange ask → store_of ask ≡ Some name → (a : Answer) → IsAnswerTo ask old a → AskStores old ask name a
stores_of_ask old (ForFlat flat) name range wanted a is = flat_stores old flat name range wanted a (flat_read old flat a is)
stores_of_ask old (ForCheckFlat check) name range wanted a is = cc
stores_of_ask old (ForJudge judge) name range wanted a is = judge_stores old judge name wanted a (judge_read old judge a is)
stores_of_ask old (ForCheck check) name range wanted a is = cc

answer_stores : (words : List (List ℕ)) (old : Files) (ask : Ask) (name : List ℕ) → Asks words ask → store_of ask ≡ Some name → (a : Answer) → IsAnswer words old a → AskStores old ask name a
answer_stores words old ask name asks wanted a (inl wrong) = absurd (wrong.0 ask asks)
answer_stores words old ask name asks wanted a (inr asked) =
    let same : asked.0 ≡ ask = same_ask words asked.0 ask asked.1 asks in
    let answer : IsAnswerTo ask old a = subst (λ k. IsAnswerTo k old a) same asked.2 in
    stores_of_ask old ask name asks.range wanted a answer

-- ---- stores that were done
abbrev Left : Files → Files → Ask → List ℕ → Word → Type 0
Left old new ask name failed = HoldsValid old new ask name ⊎ ((new name ≡ old name) ⊎ (IsWord failed name true × HoldsFront old new ask name))

abbrev first_name : List Store → List ℕ
first_name [] = []
first_name (s ∷ ss) = s.0

abbrev first_bytes : List Store → List ℕ
first_bytes [] = []
first_bytes (s ∷ ss) = s.1

stored_name : (ss : List Store) (name bytes : List ℕ) (old new : Files) → ss ≡ (name, bytes) ∷ [] → StoresDone ss old new → new name ≡ Some bytes
stored_name [] name bytes old new is done = cc
stored_name (s ∷ []) name bytes old new is done =
    let n : s.0 ≡ name = ap first_name is in
    let b : s.1 ≡ bytes = ap first_bytes is in
    done.2 name ∙ ap done.0 (sym n) ∙ done.1.set ∙ ap Some b
stored_name (s ∷ t ∷ ss) name bytes old new is done = cc

all_stored : (old new : Files) (ask : Ask) (name : List ℕ) (a : Answer) → AskStores old ask name a → StoresDone a.stores old new → status_of a.said.ending ≤ 2 → HoldsValid old new ask name
all_stored old new ask name a (Nothing none high) done low = absurd (omega (arith, high, low))
all_stored old new ask name a (Certificate bytes is valid) done low = record { bytes = bytes; held = stored_name a.stores name bytes old new is done; valid = valid }

none_stored : (ss : List Store) (old new : Files) → ss ≡ [] → StoresDone ss old new → SameFiles old new
none_stored [] old new is done = done
none_stored (s ∷ ss) old new is done = cc

-- the first stores of a list of one are none or all
some_stored : (old new : Files) (ask : Ask) (name : List ℕ) (failed : Word) (ss done left : List Store) → ss ≡ done ++ left → (a : Answer) → a.stores ≡ ss → AskStores old ask name a → StoresDone done old new → Left old new ask name failed
some_stored old new ask name failed ss [] left order a is f stored = inr (inl (stored name))
some_stored old new ask name failed ss (s ∷ done) left order a is (Nothing none high) stored = let no : [] ≡ s ∷ (done ++ left) = sym none ∙ is ∙ order in cc
some_stored old new ask name failed ss (s ∷ []) left order a is (Certificate bytes one valid) stored =
    let both : (name, bytes) ∷ [] ≡ s ∷ left = sym one ∙ is ∙ order in
    let s_is : (name, bytes) ≡ s = cc in
    inl (record { bytes = bytes; held = stored_name (s ∷ []) name bytes old new (ap (λ t. t ∷ []) (sym s_is)) stored; valid = valid })
some_stored old new ask name failed ss (s ∷ t ∷ done) left order a is (Certificate bytes one valid) stored =
    let both : (name, bytes) ∷ [] ≡ s ∷ (t ∷ (done ++ left)) = sym one ∙ is ∙ order in cc

-- a store that failed is the one of the list
one_failed : (old mid new : Files) (ask : Ask) (name : List ℕ) (failed : Word) (done : List Store) (store : Store) (left : List Store) (a : Answer) → a.stores ≡ done ++ store ∷ left → AskStores old ask name a
    → StoresDone done old mid → PutsPrefix mid new store.0 store.1 → IsWord failed store.0 true → Left old new ask name failed
one_failed old mid new ask name failed [] store left a order (Nothing none high) same prefix word = let no : [] ≡ store ∷ left = sym none ∙ order in cc
one_failed old mid new ask name failed (s ∷ done) store left a order (Nothing none high) same prefix word = let no : [] ≡ s ∷ (done ++ store ∷ left) = sym none ∙ order in cc
one_failed old mid new ask name failed [] store left a order (Certificate bytes one valid) same prefix word =
    let both : (name, bytes) ∷ [] ≡ store ∷ left = sym one ∙ order in
    let n : store.0 ≡ name = sym (ap first_name both) in
    let b : store.1 ≡ bytes = sym (ap first_bytes both) in
    let named : PutsPrefix mid new name bytes = subst (λ m. PutsPrefix mid new m bytes) n (subst (λ c. PutsPrefix mid new store.0 c) b prefix) in
    elim named.set as (λ _. Left old new ask name failed) [
      | inl kept ↦ inr (inl (kept ∙ same name))
      | inr front ↦ inr (inr (subst (λ m. IsWord failed m true) n word, record { bytes = bytes; count = front.0; held = front.1; valid = valid }))
    ]
one_failed old mid new ask name failed (s ∷ []) store left a order (Certificate bytes one valid) same prefix word = let both : (name, bytes) ∷ [] ≡ s ∷ (store ∷ left) = sym one ∙ order in cc
one_failed old mid new ask name failed (s ∷ t ∷ done) store left a order (Certificate bytes one valid) same prefix word = let both : (name, bytes) ∷ [] ≡ s ∷ (t ∷ (done ++ store ∷ left)) = sym one ∙ order in cc

done_left : (old new : Files) (ask : Ask) (name : List ℕ) (failed : Word) (a : Answer) → AskStores old ask name a → StoresDone a.stores old new → Left old new ask name failed
done_left old new ask name failed a (Nothing none high) done = inr (inl (none_stored a.stores old new none done name))
done_left old new ask name failed a (Certificate bytes is valid) done = inl (record { bytes = bytes; held = stored_name a.stores name bytes old new is done; valid = valid })

-- ---- however a run ends
pub stores_valid : (c : Course) (code : ℕ) → c.shelf_tells ≡ true → code ≤ 2 → EndsWithAnswer c code → StoresValid c.words c.old c.new
stores_valid c code told low e ask name asks wanted = all_stored c.old c.new ask name e.answer (answer_stores c.words c.old ask name asks wanted e.answer (e.has.is told)) (e.stored told) (omega (arith, low, e.status))

pub leaves_valid : (c : Course) (code : ℕ) → c.shelf_tells ≡ true → Ends c code → LeavesValid c.words c.old c.new c.failed
leaves_valid c code told ends ask name asks wanted = each_end c code ends
    (λ e. done_left c.old c.new ask name c.failed e.answer (answer_stores c.words c.old ask name asks wanted e.answer (e.has.is told)) (e.stored told))
    (λ e. inr (inl (e.unread.kept name)))
    (λ e. one_failed c.old e.mid c.new ask name c.failed e.done e.store e.left e.answer e.order (answer_stores c.words c.old ask name asks wanted e.answer (e.has.is told)) (e.stored told).0 (e.stored told).1 e.failed_word)
    (λ e. elim e.to_put as (λ _. Left c.old c.new ask name c.failed) [
      | inl put ↦ done_left c.old c.new ask name c.failed put.0 (answer_stores c.words c.old ask name asks wanted put.0 (put.1.is told)) (subst (λ ss. StoresDone ss c.old c.new) (sym put.2) (e.stored told))
      | inr unread ↦ inr (inl (unread.1.kept name))
    ])
    (λ e. elim e.files as (λ _. Left c.old c.new ask name c.failed) [
      | inl same ↦ inr (inl (same name))
      | inr some ↦ some_stored c.old c.new ask name c.failed some.answer.stores some.done some.left some.order some.answer refl (answer_stores c.words c.old ask name asks wanted some.answer (some.has.is told)) (some.stored told)
    ])
