use Rattle.std.proofs.Common.{◌∙◌, ◌<◌, ◌++◌, ◌∷◌, [], List, ap, cond, filter, length, map, rules, sym}
use Rattle.std.specs.List.{range_with_len}
use Rattle.gd_frames.specs.Counts.{joins}
use Rattle.gd_group.proofs.GroupLists.{partners_more}
use Rattle.gd_group.specs.Groups.{is_partner, whole}
use Rattle.gd_group.specs.declared.requirement.Requirement.{Requirement}
use Rattle.gd_tables.specs.Kinds.{file_of, frame_of}
use Rattle.gd_tables.specs.declared.file.FrameDef.{FrameDef}
use Rattle.gd_group.proofs.joining.partners.Goals as goal

pub loop-number-preserved : goal.loop-number-preserved
loop-number-preserved c =
    let file = c.args.file.now in
    let f = frame_of c.args.frame.now in
    let n = c.loop-number.number in
    let other = c.index.result.now in
    let within : n < length file.frames.items = search rules in
    let before : List Requirement = filter (is_partner (file_of file) f) (map whole (range_with_len 0 n)) in
    c.in_ok-push_partner.ensures
    ∙ ap (λ (rs : List Requirement). rs ++ cond (joins f (frame_of other)) (whole n ∷ []) []) c.loop-number.invariant
    ∙ ap (λ (g : FrameDef). before ++ cond (joins f (frame_of g)) (whole n ∷ []) []) c.index.ensures
    ∙ sym (partners_more file f n other within)
