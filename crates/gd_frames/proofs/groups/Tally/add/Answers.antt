use Rattle.std.proofs.Common.{◌≡◌, ℕ, ◌+◌, ◌*◌, cond, true, nat_eq, length, take, ap, ◌∙◌, arith}
use Rattle.std.specs.List.{list_any}
use Rattle.gd_frames.specs.Groups.{has_group}
use Rattle.gd_frames.proofs.Counting.{counted_all, counted_contacts, counts_small, known, length_bumped, length_contacts, met_more, new_group, old_group}
use Rattle.gd_frames.proofs.groups.Tally.add.Goals as goal

pub count-requires-clause-few_sections : goal.count-requires-clause-few_sections
count-requires-clause-few_sections c = counts_small 0 (take c.args.at c.args.points.now.rows) _ c.requires.tally.sections c.row_at-row.result.feature

pub count-requires-clause-few_contacts : goal.count-requires-clause-few_contacts
count-requires-clause-few_contacts c = counts_small 1 (take c.args.at c.args.points.now.rows) _ c.requires.tally.contacts c.row_at-row.result.feature

pub returns-then-branch : goal.returns-then-branch
returns-then-branch c =
    let t = c.requires.tally in
    let rows = c.args.points.now.rows in
    let r = c.row_at-row.result in
    let keys = c.args.self.now.met.keys in
    let was : list_any (nat_eq c.group_key.result) keys ≡ has_group (take c.args.at rows) r.feature r.group =
    ap (λ k. list_any (nat_eq k) keys) c.group_key.ensures ∙ t.met r.feature r.group c.row_at-row.ensures.group in
    let is_new = new_group _ _ c.in_ok-insert.field-0 c.in_ok-insert.ensures.added was c.if-branch.true in
    let updates : (q : ℕ) → list_any (nat_eq q) c.insert.new.self.keys ≡ cond (nat_eq (r.feature * 1000 + r.group) q) true (list_any (nat_eq q) keys) =
    λ q. c.in_ok-insert.ensures.updates.0 q ∙ ap (λ k. cond (nat_eq k q) true (list_any (nat_eq q) keys)) c.group_key.ensures in
    let met = met_more keys c.insert.new.self.keys rows c.args.at r c.row_at-row.ensures.row c.row_at-row.ensures.group updates t.met in
    record {
      met = λ feature group h. ap (λ ks. list_any (nat_eq (feature * 1000 + group)) ks) c.count.ensures.met ∙ met feature group h;
      sections = counted_all rows c.args.at r c.args.self.now.sections.items c.count.new.self.sections.items c.row_at-row.ensures.row is_new c.row_at-row.ensures.group (omega (arith, c.row_at-row.ensures.feature, t.has_sections)) c.count.ensures.sections t.sections;
      contacts = counted_contacts rows c.args.at r c.args.self.now.contacts.items c.count.new.self.contacts.items c.row_at-row.ensures.row is_new c.row_at-row.ensures.group (omega (arith, c.row_at-row.ensures.feature, t.has_contacts)) c.count.ensures.contacts t.contacts;
      has_sections = ap length c.count.ensures.sections ∙ length_bumped _ _ ∙ t.has_sections;
      has_contacts = ap length c.count.ensures.contacts ∙ length_contacts _ _ _ ∙ t.has_contacts;
    }

pub returns-else-branch : goal.returns-else-branch
returns-else-branch c =
    let t = c.requires.tally in
    let rows = c.args.points.now.rows in
    let r = c.row_at-row.result in
    let keys = c.args.self.now.met.keys in
    let was : list_any (nat_eq c.group_key.result) keys ≡ has_group (take c.args.at rows) r.feature r.group =
    ap (λ k. list_any (nat_eq k) keys) c.group_key.ensures ∙ t.met r.feature r.group c.row_at-row.ensures.group in
    let is_old = old_group _ _ c.in_ok-insert.field-0 c.in_ok-insert.ensures.added was c.if-branch.false in
    let updates : (q : ℕ) → list_any (nat_eq q) c.insert.new.self.keys ≡ cond (nat_eq (r.feature * 1000 + r.group) q) true (list_any (nat_eq q) keys) =
    λ q. c.in_ok-insert.ensures.updates.0 q ∙ ap (λ k. cond (nat_eq k q) true (list_any (nat_eq q) keys)) c.group_key.ensures in
    record {
      met = met_more keys c.insert.new.self.keys rows c.args.at r c.row_at-row.ensures.row c.row_at-row.ensures.group updates t.met;
      sections = known 0 rows c.args.at r _ c.row_at-row.ensures.row is_old t.sections;
      contacts = known 1 rows c.args.at r _ c.row_at-row.ensures.row is_old t.contacts;
      has_sections = t.has_sections;
      has_contacts = t.has_contacts;
    }
