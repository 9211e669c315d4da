use Rattle.std.proofs.Common.{◌≡◌, [], filter, map}
use Rattle.std.specs.List.{range_with_len}
use Rattle.gd_group.specs.Groups.{is_partner, whole}
use Rattle.gd_tables.specs.Kinds.{file_of, frame_of}
use Rattle.gd_group.proofs.joining.leads.Given as goal

-- none of the frames before is joined to it
abbrev pub invariant-loop-number : goal.invariant-loop-number
invariant-loop-number l = filter (is_partner (file_of l.file) (frame_of l.frame)) (map whole (range_with_len 0 l.number)) ≡ []
