use Rattle.std.proofs.Common.{◌≡◌, ◌+◌, ◌++◌, map, drop}
use Rattle.std.specs.List.{flat_map}
use Rattle.gd_cert.specs.Certificates.{body_of}
use Rattle.gd_cert.specs.Text.{groups_lines, line_text}
use Rattle.gd_cert.specs.declared.cert.CertGroup.{CertGroup}
use Rattle.gd_cert.proofs.write.put_groups.Given as goal

abbrev pub invariant-loop-at : goal.invariant-loop-at
invariant-loop-at l = l.text.items ++ flat_map line_text (groups_lines (l.at + 1) (map (λ (group : CertGroup). body_of group.body) (drop l.at l.groups)))
    ≡ l.fn.text.items ++ flat_map line_text (groups_lines 1 (map (λ (group : CertGroup). body_of group.body) l.groups))
