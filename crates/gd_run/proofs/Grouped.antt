-- What a report of groups says of the part, by its status.
use Rattle.std.proofs.Common.{arith, ◌≡◌, ◌∙◌, ap, sym, refl, subst, ℕ, ℤ, zero, suc, Bool, true, false, ◌||◌, cond, List, [], ◌∷◌, length}
use Rattle.std.specs.List.{list_any}
use Rattle.gd_base.specs.declared.verdict.Verdict.{Verdict}
use Rattle.gd_base.specs.declared.verdict.Verdict.TheVariants as verdict
use Rattle.gd_cells.specs.Meaning.{Questions}
use Rattle.gd_cells.specs.declared.cell.Witness.{Witness}
use Rattle.gd_cert.specs.Certificates.{Accept, Body, Open, Reject}
use Rattle.gd_judge.specs.Means.{AreMeant, IsMeant}
use Rattle.gd_report.specs.Groups.{ending_of, is_open, is_reject, is_rejected}
use Rattle.gd_report.specs.Said.{status_of}
use Rattle.gd_report.specs.declared.ending.Ending.TheVariants as ending
use Rattle.gd_report.specs.declared.group.GroupVerdict.{GroupVerdict}
use Rattle.gd_run.specs.Answers.{Answer}
use Rattle.gd_run.specs.GroupReports.{AreReported, labelled, said_of_groups}
use Rattle.gd_run.specs.GroupVerdicts.{AreAccepted, IsAcceptedBy, SomeOpen, SomeRejected}
use Rattle.gd_run.specs.declared.layout.Layout.{Layout}
use Rattle.gd_run.specs.declared.layout.Layout.TheVariants as layout
use Rattle.gd_verdict.specs.Trees.{tree}
use Rattle.gd_verdict.specs.Verdict as verdicts

-- ---- how a report ends
neither : (a b : Bool) → a || b ≡ false → (a ≡ false) × (b ≡ false)
neither true b h = cc
neither false b h = (refl, h)

abbrev ending_by : Bool → Bool → ℕ
ending_by rejected opened = status_of (cond rejected ending.Rejected (cond opened ending.Open ending.Done))

zero_by : (rejected opened : Bool) → ending_by rejected opened ≡ 0 → (rejected ≡ false) × (opened ≡ false)
zero_by true opened h = absurd (omega (arith, h))
zero_by false true h = absurd (omega (arith, h))
zero_by false false h = (refl, refl)

one_by : (rejected opened : Bool) → ending_by rejected opened ≡ 1 → rejected ≡ true
one_by true opened h = refl
one_by false true h = absurd (omega (arith, h))
one_by false false h = absurd (omega (arith, h))

two_by : (rejected opened : Bool) → ending_by rejected opened ≡ 2 → (rejected ≡ false) × (opened ≡ true)
two_by true opened h = absurd (omega (arith, h))
two_by false true h = (refl, refl)
two_by false false h = absurd (omega (arith, h))

never_more : (rejected opened : Bool) (code : ℕ) → ending_by rejected opened ≡ code → code ≡ 8 → ⊥
never_more true opened code h eight = absurd (omega (arith, h, eight))
never_more false true code h eight = absurd (omega (arith, h, eight))
never_more false false code h eight = absurd (omega (arith, h, eight))

layout_ends : (layout : Layout) (groups : List GroupVerdict) → status_of (said_of_groups layout groups).ending ≡ status_of (ending_of groups)
layout_ends layout.Text groups = refl
layout_ends layout.Json groups = refl

module _ {A : Type 0} (questions : A → Questions) (meets : A → List ℤ → Type 0) (assignment : A → Witness → List ℤ) where
  -- ---- all are accepted
  accepted_by : (asks : A) (share : ℕ) (v : Verdict) (b : Body) → IsMeant (questions asks) (meets asks) (assignment asks) share v b → is_reject v ≡ false → is_open (record { label = []; verdict = v }) ≡ false
      → IsAcceptedBy questions meets assignment asks v b
  accepted_by asks share (verdict.Accept level) (Accept root at) m r o = record { level = level; root = root; at = at; told = refl; witness = refl; shown = m.right; met = m.true }
  accepted_by asks share (verdict.Accept level) (Reject lines) m r o = absurd m.agrees
  accepted_by asks share (verdict.Accept level) (Open counts lines) m r o = absurd m.agrees
  accepted_by asks share (verdict.Reject leaves) b m r o = cc
  accepted_by asks share (verdict.StillOpen counts) b m r o = cc

  are_accepted : (asked : List A) (share : ℕ) (labels : List (List ℕ)) (vs : List Verdict) (bs : List Body) → length labels ≡ length asked → AreMeant questions meets assignment asked share vs bs
      → list_any is_rejected (labelled labels vs) ≡ false → list_any is_open (labelled labels vs) ≡ false → AreAccepted questions meets assignment asked vs bs
  are_accepted [] share labels vs bs count m r o = m
  are_accepted (asks ∷ asked) share labels [] bs count m r o = absurd m
  are_accepted (asks ∷ asked) share labels (v ∷ vs) [] count m r o = absurd m
  are_accepted (asks ∷ asked) share [] (v ∷ vs) (b ∷ bs) count m r o = absurd (omega (arith, count))
  are_accepted (asks ∷ asked) share (label ∷ labels) (v ∷ vs) (b ∷ bs) count m r o =
      let rs = neither (is_reject v) (list_any is_rejected (labelled labels vs)) r in
      let os = neither (is_open (record { label = []; verdict = v })) (list_any is_open (labelled labels vs)) o in
      (accepted_by asks share v b m.0 rs.0 os.0, are_accepted asked share labels vs bs (omega (arith, count)) m.1 rs.1 os.1)

  -- ---- some is rejected
  none_meets : (asks : A) (share leaves : ℕ) (b : Body) → IsMeant (questions asks) (meets asks) (assignment asks) share (verdict.Reject leaves) b → (a : List ℤ) → meets asks a → ⊥
  none_meets asks share leaves (Accept root at) m = absurd m.agrees
  none_meets asks share leaves (Reject lines) m = m.true
  none_meets asks share leaves (Open counts lines) m = absurd m.agrees

  later_rejected : (asks : A) (asked : List A) (label : List ℕ) (labels : List (List ℕ)) (v : Verdict) (vs : List Verdict) → SomeRejected meets asked labels vs → SomeRejected meets (asks ∷ asked) (label ∷ labels) (v ∷ vs)
  later_rejected asks asked label labels v vs s = record {
    asks = s.asks;
    leaves = s.leaves;
    group = record { place = suc s.group.place; label = s.group.label; found = s.group.found; named = s.group.named; told = s.group.told };
    none = s.none;
  }

  some_rejected : (asked : List A) (share : ℕ) (labels : List (List ℕ)) (vs : List Verdict) (bs : List Body) → length labels ≡ length asked → AreMeant questions meets assignment asked share vs bs
      → list_any is_rejected (labelled labels vs) ≡ true → SomeRejected meets asked labels vs
  some_rejected [] share [] vs bs count m r = cc
  some_rejected [] share (label ∷ labels) vs bs count m r = absurd (omega (arith, count))
  some_rejected (asks ∷ asked) share labels [] bs count m r = absurd m
  some_rejected (asks ∷ asked) share labels (v ∷ vs) [] count m r = absurd m
  some_rejected (asks ∷ asked) share [] (v ∷ vs) (b ∷ bs) count m r = absurd (omega (arith, count))
  some_rejected (asks ∷ asked) share (label ∷ labels) (verdict.Accept level ∷ vs) (b ∷ bs) count m r =
      later_rejected asks asked label labels (verdict.Accept level) vs (some_rejected asked share labels vs bs (omega (arith, count)) m.1 r)
  some_rejected (asks ∷ asked) share (label ∷ labels) (verdict.Reject leaves ∷ vs) (b ∷ bs) count m r =
      record { asks = asks; leaves = leaves; group = record { place = zero; label = label; found = refl; named = refl; told = refl }; none = none_meets asks share leaves b m.0 }
  some_rejected (asks ∷ asked) share (label ∷ labels) (verdict.StillOpen counts ∷ vs) (b ∷ bs) count m r =
      later_rejected asks asked label labels (verdict.StillOpen counts) vs (some_rejected asked share labels vs bs (omega (arith, count)) m.1 r)

  -- ---- none is rejected, and some is open
  open_is : (asks : A) (share : ℕ) (told : _) (b : Body) → IsMeant (questions asks) (meets asks) (assignment asks) share (verdict.StillOpen told) b → verdicts.IsVerdict (questions asks) share (verdicts.Open (tree (questions asks) told.level) told)
  open_is asks share told (Accept root at) m = absurd m.agrees
  open_is asks share told (Reject lines) m = absurd m.agrees
  open_is asks share told (Open counts lines) m = subst (λ c. verdicts.IsVerdict (questions asks) share (verdicts.Open (tree (questions asks) c.level) c)) (sym m.agrees) m.true

  later_open : (asks : A) (asked : List A) (label : List ℕ) (labels : List (List ℕ)) (share : ℕ) (v : Verdict) (vs : List Verdict) → is_reject v ≡ false → SomeOpen questions asked labels share vs → SomeOpen questions (asks ∷ asked) (label ∷ labels) share (v ∷ vs)
  later_open asks asked label labels share v vs unrejected s = record {
    asks = s.asks;
    lines = s.lines;
    counts = s.counts;
    group = record { place = suc s.group.place; label = s.group.label; found = s.group.found; named = s.group.named; told = s.group.told };
    is = s.is;
    unrejected = rw unrejected s.unrejected;
  }

  unrejected_all : (asked : List A) (share : ℕ) (labels : List (List ℕ)) (vs : List Verdict) (bs : List Body) → length labels ≡ length asked → AreMeant questions meets assignment asked share vs bs
      → list_any is_rejected (labelled labels vs) ≡ false → list_any is_reject vs ≡ false
  unrejected_all [] share labels vs bs count m r = ap (list_any is_reject) m.0
  unrejected_all (asks ∷ asked) share labels [] bs count m r = absurd m
  unrejected_all (asks ∷ asked) share labels (v ∷ vs) [] count m r = absurd m
  unrejected_all (asks ∷ asked) share [] (v ∷ vs) (b ∷ bs) count m r = absurd (omega (arith, count))
  unrejected_all (asks ∷ asked) share (label ∷ labels) (v ∷ vs) (b ∷ bs) count m r =
      let rs = neither (is_reject v) (list_any is_rejected (labelled labels vs)) r in
      rw rs.0 (unrejected_all asked share labels vs bs (omega (arith, count)) m.1 rs.1)

  some_open : (asked : List A) (share : ℕ) (labels : List (List ℕ)) (vs : List Verdict) (bs : List Body) → length labels ≡ length asked → AreMeant questions meets assignment asked share vs bs
      → list_any is_rejected (labelled labels vs) ≡ false → list_any is_open (labelled labels vs) ≡ true → SomeOpen questions asked labels share vs
  some_open [] share [] vs bs count m r o = cc
  some_open [] share (label ∷ labels) vs bs count m r o = absurd (omega (arith, count))
  some_open (asks ∷ asked) share labels [] bs count m r o = absurd m
  some_open (asks ∷ asked) share labels (v ∷ vs) [] count m r o = absurd m
  some_open (asks ∷ asked) share [] (v ∷ vs) (b ∷ bs) count m r o = absurd (omega (arith, count))
  some_open (asks ∷ asked) share (label ∷ labels) (verdict.Accept level ∷ vs) (b ∷ bs) count m r o =
      later_open asks asked label labels share (verdict.Accept level) vs refl (some_open asked share labels vs bs (omega (arith, count)) m.1 r o)
  some_open (asks ∷ asked) share (label ∷ labels) (verdict.Reject leaves ∷ vs) (b ∷ bs) count m r o = cc
  some_open (asks ∷ asked) share (label ∷ labels) (verdict.StillOpen told ∷ vs) (b ∷ bs) count m r o = record {
    asks = asks;
    lines = tree (questions asks) told.level;
    counts = told;
    group = record { place = zero; label = label; found = refl; named = refl; told = refl };
    is = open_is asks share told b m.0;
    unrejected = unrejected_all asked share labels vs bs (omega (arith, count)) m.1 r;
  }

  -- ---- the answer by its status
  module _ (asked : List A) (labels : List (List ℕ)) (budget : ℕ) (layout : Layout) (name : List ℕ) (a : Answer) (count : length labels ≡ length asked) (rep : AreReported questions meets assignment asked labels budget layout name a) where
    abbrev told : List GroupVerdict
    told = labelled labels rep.verdicts

    status : status_of a.said.ending ≡ ending_by (list_any is_rejected told) (list_any is_open told)
    status = ap (λ (b : Answer). status_of b.said.ending) rep.answer ∙ layout_ends layout told

    pub report_zero : status_of a.said.ending ≡ 0 → AreAccepted questions meets assignment asked rep.verdicts rep.certificate.groups
    report_zero h =
        let by = zero_by (list_any is_rejected told) (list_any is_open told) (sym status ∙ h) in
        are_accepted asked rep.certificate.share labels rep.verdicts rep.certificate.groups count rep.so.means by.0 by.1

    pub report_one : status_of a.said.ending ≡ 1 → SomeRejected meets asked labels rep.verdicts
    report_one h =
        some_rejected asked rep.certificate.share labels rep.verdicts rep.certificate.groups count rep.so.means (one_by (list_any is_rejected told) (list_any is_open told) (sym status ∙ h))

    pub report_two : status_of a.said.ending ≡ 2 → SomeOpen questions asked labels rep.certificate.share rep.verdicts
    report_two h =
        let by = two_by (list_any is_rejected told) (list_any is_open told) (sym status ∙ h) in
        some_open asked rep.certificate.share labels rep.verdicts rep.certificate.groups count rep.so.means by.0 by.1

    pub report_eight : status_of a.said.ending ≡ 8 → ⊥
    report_eight h = never_more (list_any is_rejected told) (list_any is_open told) 8 (sym status ∙ h) refl
