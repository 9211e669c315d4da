use Rattle.std.proofs.Common.{◌+◌, ◌*◌, nat_eq, length, get_or, ap, ◌∙◌}
use Rattle.std.proofs.lemmas.List.{length-replicate}
use Rattle.std.specs.List.{list_any}
use Rattle.gd_frames.proofs.Counting.{counts_none}
use Rattle.gd_frames.proofs.groups.count_groups.Goals as goal

pub loop-at-init : goal.loop-at-init
loop-at-init c =
    let e = c.in_ok-tally.ensures in
    record {
      met = λ feature group h. ap (λ ks. list_any (nat_eq (feature * 1000 + group)) ks) e.met;
      sections = λ feature. ap (λ xs. get_or xs feature 0) e.sections ∙ counts_none 0 _ feature;
      contacts = λ feature. ap (λ xs. get_or xs feature 0) e.contacts ∙ counts_none 1 _ feature;
      has_sections = ap length e.sections ∙ length-replicate _ _ ∙ c.features.ensures.count;
      has_contacts = ap length e.contacts ∙ length-replicate _ _ ∙ c.features.ensures.count;
    }
