-- Reports: what is so of the store and of the put of one.
use Rattle.std.proofs.Common.{◌≡◌, refl, true, Bool, ℕ, List, Option, Some, None}
use Rattle.std.specs.Prelude.{IsSomeAnd}
use Rattle.gd_base.specs.Causes.{Rose}
use Rattle.gd_run.specs.Reports.{StoreFails}
use Rattle.gd_run.specs.declared.report.NamedFile.{NamedFile}
use Rattle.gd_run.specs.declared.report.Report.{Report}
use Rattle.gd_world.specs.Shelf.{Files, IsWord, PutsPrefix, Word}

store_fails_of : (r : Report) (tells : Bool) (old new : Files) (failed : Word) (faults faults_now : ℕ) (sink_tells : Bool) (before : List ℕ) (file : Option NamedFile) → r.file ≡ file
    → IsSomeAnd file (λ f. IsWord failed f.name.now true) → Rose faults faults_now → (tells ≡ true → IsSomeAnd file (λ f. PutsPrefix old new f.name.now f.bytes.items))
    → StoreFails r tells old new failed faults faults_now sink_tells before before
store_fails_of r tells old new failed faults faults_now sink_tells before None is word rose prefix = absurd word
store_fails_of r tells old new failed faults faults_now sink_tells before (Some f) is word rose prefix =
    record { file = f; of_report = is; failed_word = word; rose = rose; prefix = prefix; nothing = λ t. refl }

pub store_fails : (r : Report) (tells : Bool) (old new : Files) (failed : Word) (faults faults_now : ℕ) (sink_tells : Bool) (before : List ℕ)
    → IsSomeAnd r.file (λ f. IsWord failed f.name.now true) → Rose faults faults_now → (tells ≡ true → IsSomeAnd r.file (λ f. PutsPrefix old new f.name.now f.bytes.items))
    → StoreFails r tells old new failed faults faults_now sink_tells before before
store_fails r tells old new failed faults faults_now sink_tells before word rose prefix = store_fails_of r tells old new failed faults faults_now sink_tells before r.file refl word rose prefix
