use Rattle.std.proofs.Common.{◌≡◌, ◌∙◌, ◌<◌, ap, false, get_or, length, rules, sym, true}
use Rattle.gd_frames.specs.Counts.{joins}
use Rattle.gd_group.proofs.GroupLists.{partners-begin, partners-none}
use Rattle.gd_tables.specs.Kinds.{frame_of}
use Rattle.gd_tables.specs.declared.file.FrameDef.{FrameDef}
use Rattle.gd_group.proofs.joining.leads.Goals as goal

pub returns-then-joins : goal.returns-then-joins
returns-then-joins c =
    let file = c.args.file.now in
    let f = frame_of c.args.frame.now in
    let n = c.loop-number.number in
    let other = c.index.result.now in
    let within : n < length file.frames.items = search rules in
    let joined : joins f (frame_of (get_or file.frames.items n other)) ≡ true =
    ap (λ (g : FrameDef). joins f (frame_of g)) (sym c.index.ensures) ∙ sym c.joins.ensures ∙ c.if-joins.true
    in
    sym (partners-begin file f c.args.requirement.now n other within c.loop-number.invariant joined)

pub loop-number-preserved : goal.loop-number-preserved
loop-number-preserved c =
    let file = c.args.file.now in
    let f = frame_of c.args.frame.now in
    let n = c.loop-number.number in
    let other = c.index.result.now in
    let within : n < length file.frames.items = search rules in
    let apart : joins f (frame_of (get_or file.frames.items n other)) ≡ false =
    ap (λ (g : FrameDef). joins f (frame_of g)) (sym c.index.ensures) ∙ sym c.joins.ensures ∙ c.if-joins.false
    in
    partners-none file f n other within c.loop-number.invariant apart
