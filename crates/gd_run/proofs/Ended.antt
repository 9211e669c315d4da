-- How a run ends, from its report and from how that was stored and put.
use Rattle.std.proofs.Common.{arith, ◌≡◌, ◌≢◌, ◌∙◌, ap, sym, refl, subst, ℕ, ◌≤◌, ◌+◌, ◌⊎◌, inl, inr, true, false, List, [], ◌∷◌, ◌++◌, Option, Some, None, Result, Ok, Err, take}
use Rattle.std.proofs.lemmas.List.{append-nil}
use Rattle.std.proofs.lemmas.List.Elements.{All-head}
use Rattle.std.specs.List.{All}
use Rattle.std.specs.Option.{option_len}
use Rattle.std.specs.String.{string_bytes}
use Rattle.gd_base.specs.Causes.{Rose}
use Rattle.gd_report.specs.Said.{Said, status_of, wrong_words}
use Rattle.gd_report.specs.Texts.{cannot_read_text}
use Rattle.gd_report.specs.declared.ending.Ending.{Ending}
use Rattle.gd_report.specs.declared.ending.Ending.TheVariants as ending
use Rattle.gd_run.proofs.Asked.{same_ask}
use Rattle.gd_run.specs.Answers.{Answer, Store, only_said}
use Rattle.gd_run.specs.Asks.{Ask, store_of}
use Rattle.gd_run.specs.Endings.{CallsFew, Course, Ends, EndsInPut, EndsInStore, EndsInWant, EndsWithAnswer, HasAnswer, IsUnread, ReadsFew, StoredSome, StoresDone}
use Rattle.gd_run.specs.Reports.{HasReport, IsUnreadAnd, OnReport, PutFails, StoreFails, stores_wanted}
use Rattle.gd_run.specs.Runs.{IsAnswer, IsNext, IsPossible, IsToRead}
use Rattle.gd_run.specs.Views.{answer_in, stores_in}
use Rattle.gd_run.specs.declared.report.NamedFile.{NamedFile}
use Rattle.gd_run.specs.declared.report.Report.{Report}
use Rattle.gd_run.specs.declared.report.Stop.{Stop}
use Rattle.gd_run.specs.declared.report.Stop.TheVariants as stop
use Rattle.gd_world.specs.Shelf.{Files, IsWord, PutsPrefix, SameFiles, Word}

-- ---- files that loads have left as they were
pub stores_moved : (ss : List Store) (old mid new : Files) → SameFiles old mid → StoresDone ss mid new → StoresDone ss old new
stores_moved [] old mid new same done = λ name. done name ∙ same name
stores_moved (s ∷ ss) old mid new same done = (done.0, record { set = done.1.set; others = λ other apart. done.1.others other apart ∙ same other }, done.2)

prefix_moved : (old mid new : Files) (name bytes : List ℕ) → SameFiles old mid → PutsPrefix mid new name bytes → PutsPrefix old new name bytes
prefix_moved old mid new name bytes same prefix =
    record { set = elim prefix.set as (λ _. (new name ≡ old name) ⊎ ((n : ℕ) × (new name ≡ Some (take n bytes)))) [ inl kept ↦ inl (kept ∙ same name) | inr front ↦ inr front ]; others = λ other apart. prefix.others other apart ∙ same other }

still_same : (old mid new : Files) → SameFiles old mid → SameFiles mid new → SameFiles old new
still_same old mid new first second name = second name ∙ first name

-- a count that rose later has risen
rose_later : (a b c : ℕ) → a ≤ b → Rose b c → Rose a c
rose_later a b c more rose = omega (arith, more, rose)

no_file : (file : Option NamedFile) → stores_in file ≡ [] → file ≡ None
no_file None h = refl
no_file (Some f) h = cc

-- ---- an ending is one of three faults, or none of them
abbrev pub IsNoFault : Ending → Type 0
IsNoFault e = (e ≢ ending.Unread) × (e ≢ ending.Unwritten) × (e ≢ ending.OutOfMemory)

pub which : (e : Ending) → IsNoFault e ⊎ ((e ≡ ending.Unread) ⊎ ((e ≡ ending.Unwritten) ⊎ (e ≡ ending.OutOfMemory)))
which ending.Done = inl (λ h. cc, λ h. cc, λ h. cc)
which ending.Rejected = inl (λ h. cc, λ h. cc, λ h. cc)
which ending.Open = inl (λ h. cc, λ h. cc, λ h. cc)
which ending.Refused = inl (λ h. cc, λ h. cc, λ h. cc)
which ending.WrongWords = inl (λ h. cc, λ h. cc, λ h. cc)
which ending.Unread = inr (inl refl)
which ending.Unwritten = inr (inr (inl refl))
which ending.OutOfMemory = inr (inr (inr refl))
which ending.Invalid = inl (λ h. cc, λ h. cc, λ h. cc)

-- ---- what the two halves of a run did: the answer was found while the shelf went from `old` to `mid`, and it was stored and put
-- while the shelf went on to `new`
pub record Halves (c : Course) (mid : Files) (failed : Word) (faults : ℕ) (answer : Result Report Stop) (e : Ending) : Type 0 where
  pub is : c.shelf_tells ≡ true → OnReport (λ r. IsAnswer c.words c.old (answer_in r)) (λ w. IsNext c.words c.old w) answer
  pub possible : OnReport (λ r. IsPossible c.words (answer_in r)) (λ w. IsToRead c.words w) answer
  pub unread : OnReport (λ r. Unit {0}) (λ w. Rose c.shelf_faults.0 faults × IsWord failed w false) answer
  pub same : SameFiles c.old mid
  pub later : c.shelf_faults.0 ≤ faults
  pub ends : IsNoFault e → HasReport (λ r. e ≡ r.line.ending) answer
  pub written : c.sink_tells ≡ true → IsNoFault e → HasReport (λ r. c.now ≡ c.before ++ string_bytes r.line.text) answer
  pub stored : c.shelf_tells ≡ true → IsNoFault e → HasReport (λ r. StoresDone (stores_in r.file) mid c.new) answer
  pub unread_put : e ≡ ending.Unread → IsUnreadAnd (λ w. c.sink_tells ≡ true → c.now ≡ c.before ++ cannot_read_text w) answer
  pub untouched : IsUnreadAnd (λ w. Unit {0}) answer → SameFiles mid c.new × (c.failed ≡ failed) × (c.shelf_faults.1 ≡ faults)
  pub unwritten : e ≡ ending.Unwritten → HasReport (λ r. StoreFails r c.shelf_tells mid c.new c.failed faults c.shelf_faults.1 c.sink_tells c.before c.now
      ⊎ PutFails r c.shelf_tells mid c.new c.sink_tells c.before c.now c.sink_faults.0 c.sink_faults.1) answer
      ⊎ IsUnreadAnd (λ w. Rose c.sink_faults.0 c.sink_faults.1 × (c.sink_tells ≡ true → (n : ℕ) × (c.now ≡ c.before ++ take n (cannot_read_text w)))) answer
  pub silent : c.sink_tells ≡ true → e ≡ ending.OutOfMemory → c.now ≡ c.before
  pub want : e ≡ ending.OutOfMemory → SameFiles mid c.new ⊎ HasReport (λ r. c.shelf_tells ≡ true → StoresDone (stores_in r.file) mid c.new) answer
  pub none : OnReport (λ r. r.file ≡ None) (λ w. Unit {0}) answer → SameFiles mid c.new

has_answer : (c : Course) (mid : Files) (failed : Word) (faults : ℕ) (r : Report) (e : Ending) → Halves c mid failed faults (Ok r) e → HasAnswer c (answer_in r)
has_answer c mid failed faults r e h = record { possible = h.possible; is = h.is }

-- a report that stores nothing leaves all files as they were
kept_of : (c : Course) (mid : Files) (failed : Word) (faults : ℕ) (r : Report) (e : Ending) → Halves c mid failed faults (Ok r) e → stores_in r.file ≡ [] → SameFiles c.old c.new
kept_of c mid failed faults r e h nothing = still_same c.old mid c.new h.same (h.none (no_file r.file nothing))

-- the word of a file that could not be read
unread_of : (c : Course) (mid : Files) (failed : Word) (faults : ℕ) (w : _) (e : Ending) → Halves c mid failed faults (Err (stop.Unread w)) e → IsUnread c w.now
unread_of c mid failed faults w e h =
    let u = h.untouched tt in
    record {
      to_read = h.possible;
      next = h.is;
      failed_word = rw u.1 h.unread.1;
      rose = rw u.2 h.unread.0;
      kept = still_same c.old mid c.new h.same u.0;
    }

-- ---- a report
answered : (c : Course) (mid : Files) (failed : Word) (faults : ℕ) (r : Report) (e : Ending) → Halves c mid failed faults (Ok r) e → IsNoFault e → EndsWithAnswer c (status_of e)
answered c mid failed faults r e h plain = record {
  answer = answer_in r;
  has = has_answer c mid failed faults r e h;
  status = ap status_of (h.ends plain);
  stored = λ t. stores_moved (stores_in r.file) c.old mid c.new h.same (h.stored t plain);
  kept = kept_of c mid failed faults r e h;
  written = λ t. h.written t plain;
}

store_failed : (c : Course) (mid : Files) (failed : Word) (faults : ℕ) (r : Report) (e : Ending) → Halves c mid failed faults (Ok r) e → e ≡ ending.Unwritten
    → StoreFails r c.shelf_tells mid c.new c.failed faults c.shelf_faults.1 c.sink_tells c.before c.now → EndsInStore c (status_of e)
store_failed c mid failed faults r e h is f = record {
  answer = answer_in r;
  has = has_answer c mid failed faults r e h;
  done = [];
  store = (f.file.name.now, f.file.bytes.items);
  left = [];
  order = ap stores_in f.of_report;
  failed_word = f.failed_word;
  rose = rose_later c.shelf_faults.0 faults c.shelf_faults.1 h.later f.rose;
  status = ap status_of is;
  mid = c.old;
  stored = λ t. (λ name. refl, prefix_moved c.old mid c.new f.file.name.now f.file.bytes.items h.same (f.prefix t));
  nothing = f.nothing;
}

put_failed : (c : Course) (mid : Files) (failed : Word) (faults : ℕ) (r : Report) (e : Ending) → Halves c mid failed faults (Ok r) e → e ≡ ending.Unwritten
    → PutFails r c.shelf_tells mid c.new c.sink_tells c.before c.now c.sink_faults.0 c.sink_faults.1 → EndsInPut c (status_of e)
put_failed c mid failed faults r e h is f = record {
  stores = stores_in r.file;
  text = string_bytes r.line.text;
  to_put = inl (answer_in r, has_answer c mid failed faults r e h, refl, refl);
  rose = f.rose;
  status = ap status_of is;
  stored = λ t. stores_moved (stores_in r.file) c.old mid c.new h.same (f.stored t);
  kept = kept_of c mid failed faults r e h;
  written = f.prefix;
}

wanting : (c : Course) (mid : Files) (failed : Word) (faults : ℕ) (r : Report) (e : Ending) → Halves c mid failed faults (Ok r) e → e ≡ ending.OutOfMemory → EndsInWant c (status_of e)
wanting c mid failed faults r e h is = record {
  status = ap status_of is;
  files = elim (h.want is) as (λ _. SameFiles c.old c.new ⊎ StoredSome c) [
    | inl same ↦ inl (still_same c.old mid c.new h.same same)
    | inr stored ↦ inr (record { answer = answer_in r; has = has_answer c mid failed faults r e h; done = stores_in r.file; left = []; order = sym (append-nil (stores_in r.file)); stored = λ t. stores_moved (stores_in r.file) c.old mid c.new h.same (stored t) })
  ];
  nothing = λ t. h.silent t is;
}

reported : (c : Course) (mid : Files) (failed : Word) (faults : ℕ) (r : Report) (e : Ending) → Halves c mid failed faults (Ok r) e → Ends c (status_of e)
reported c mid failed faults r e h = elim (which e) as (λ _. Ends c (status_of e)) [
  | inl plain ↦ inl (answered c mid failed faults r e h plain)
  | inr some ↦ elim some as (λ _. Ends c (status_of e)) [
    | inl is ↦ absurd (h.unread_put is)
    | inr other ↦ elim other as (λ _. Ends c (status_of e)) [
      | inl is ↦ elim (h.unwritten is) as (λ _. Ends c (status_of e)) [
        | inl f ↦ elim f as (λ _. Ends c (status_of e)) [ inl s ↦ inr (inr (inl (store_failed c mid failed faults r e h is s))) | inr p ↦ inr (inr (inr (inl (put_failed c mid failed faults r e h is p)))) ]
        | inr none ↦ absurd none
      ]
      | inr is ↦ inr (inr (inr (inr (wanting c mid failed faults r e h is))))
    ]
  ]
]

-- ---- a file that could not be read
unread_ends : (c : Course) (mid : Files) (failed : Word) (faults : ℕ) (w : _) (e : Ending) → Halves c mid failed faults (Err (stop.Unread w)) e → Ends c (status_of e)
unread_ends c mid failed faults w e h = elim (which e) as (λ _. Ends c (status_of e)) [
  | inl plain ↦ absurd (h.ends plain)
  | inr some ↦ elim some as (λ _. Ends c (status_of e)) [
    | inl is ↦ inr (inl (record { word = w.now; unread = unread_of c mid failed faults w e h; status = ap status_of is; written = h.unread_put is }))
    | inr other ↦ elim other as (λ _. Ends c (status_of e)) [
      | inl is ↦ elim (h.unwritten is) as (λ _. Ends c (status_of e)) [
        | inl f ↦ absurd f
        | inr p ↦ inr (inr (inr (inl (record {
          stores = [];
          text = cannot_read_text w.now;
          to_put = inr (w.now, unread_of c mid failed faults w e h, refl, refl);
          rose = p.0;
          status = ap status_of is;
          stored = λ t. (unread_of c mid failed faults w e h).kept;
          kept = λ n. (unread_of c mid failed faults w e h).kept;
          written = p.1;
        }))))
      ]
      | inr is ↦ inr (inr (inr (inr (record { status = ap status_of is; files = inl (unread_of c mid failed faults w e h).kept; nothing = λ t. h.silent t is }))))
    ]
  ]
]

-- ---- want of memory
memory_ends : (c : Course) (mid : Files) (failed : Word) (faults : ℕ) (e : Ending) → Halves c mid failed faults (Err stop.Memory) e → Ends c (status_of e)
memory_ends c mid failed faults e h = elim (which e) as (λ _. Ends c (status_of e)) [
  | inl plain ↦ absurd (h.ends plain)
  | inr some ↦ elim some as (λ _. Ends c (status_of e)) [
    | inl is ↦ absurd (h.unread_put is)
    | inr other ↦ elim other as (λ _. Ends c (status_of e)) [
      | inl is ↦ elim (h.unwritten is) as (λ _. Ends c (status_of e)) [ inl f ↦ absurd f | inr p ↦ absurd p ]
      | inr is ↦ inr (inr (inr (inr (record { status = ap status_of is; files = inl (still_same c.old mid c.new h.same (h.none tt)); nothing = λ t. h.silent t is }))))
    ]
  ]
]

pub ends_of : (c : Course) (mid : Files) (failed : Word) (faults : ℕ) (answer : Result Report Stop) (e : Ending) → Halves c mid failed faults answer e → Ends c (status_of e)
ends_of c mid failed faults (Ok r) e h = reported c mid failed faults r e h
ends_of c mid failed faults (Err (stop.Unread w)) e h = unread_ends c mid failed faults w e h
ends_of c mid failed faults (Err stop.Memory) e h = memory_ends c mid failed faults e h

-- ---- how often the shelf is called
few_stores : (ask : Ask) (file : Option NamedFile) → All (λ (s : Store). store_of ask ≡ Some s.0) (stores_in file) → option_len file ≤ option_len (store_of ask)
few_stores ask None named = omega arith
few_stores ask (Some f) named = rw (All-head (λ (s : Store). store_of ask ≡ Some s.0) (f.name.now, f.bytes.items) [] named) (omega arith)

no_stores : (r : Report) (said : Said) → answer_in r ≡ only_said said → option_len r.file ≡ 0
no_stores r said is = ap option_len (no_file r.file (ap (λ (a : Answer). a.stores) is))

pub calls_few : (words : List (List ℕ)) (answer : Result Report Stop) (Q : List ℕ → Type 0) (a b c : ℕ) → ReadsFew words a b → OnReport (λ r. IsPossible words (answer_in r)) Q answer → c ≤ b + stores_wanted answer → CallsFew words a c
calls_few words (Err e) Q a b c reads possible few = elim reads as (λ _. CallsFew words a c) [
  | inl none ↦ inl (none.0, omega (arith, none.1, few))
  | inr asked ↦ inr (asked.0, asked.1, omega (arith, asked.2, few))
]
calls_few words (Ok r) Q a b c reads possible few = elim reads as (λ _. CallsFew words a c) [
  | inl none ↦ elim possible as (λ _. CallsFew words a c) [
    | inl wrong ↦ inl (none.0, omega (arith, none.1, few, no_stores r wrong_words wrong.1))
    | inr other ↦ absurd (none.0 other.0 other.1)
  ]
  | inr asked ↦ elim possible as (λ _. CallsFew words a c) [
    | inl wrong ↦ absurd (wrong.0 asked.0 asked.1)
    | inr other ↦
        let same : other.0 ≡ asked.0 = same_ask words other.0 asked.0 other.1 asked.1 in
        let few_file : option_len r.file ≤ option_len (store_of asked.0) = subst (λ ask. option_len r.file ≤ option_len (store_of ask)) same (few_stores other.0 r.file other.2.named) in
        inr (asked.0, asked.1, omega (arith, asked.2, few, few_file))
  ]
]
