use Rattle.std.proofs.Common.{rules, FitsSigned, ◌≡◌, ◌∙◌}
use Rattle.std.proofs.lemmas.Int.{to_z-of_z}
use Rattle.std.specs.Int.{w64}
use Rattle.gd_quat.specs.Formulas.{alone, ends}
use Rattle.gd_quat.proofs.Grid.{leading-grid}
use Rattle.gd_quat.proofs.images.box_at.Goals as goal

pub returns-clause-ends : goal.returns-clause-ends
returns-clause-ends c =
    let f : FitsSigned w64 c.args.a.now.ratios.first = search rules in
    let g : FitsSigned w64 c.args.a.now.ratios.second = search rules in
    let h : FitsSigned w64 c.args.a.now.ratios.third = search rules in
    let x : ends c.ratio.result ≡ alone c.args.a.now.ratios.first = rw (to_z-of_z w64 c.args.a.now.ratios.first f) at c.ratio.ensures.ends in
    let y : ends c.ratio-2.result ≡ alone c.args.a.now.ratios.second = rw (to_z-of_z w64 c.args.a.now.ratios.second g) at c.ratio-2.ensures.ends in
    let z : ends c.ratio-3.result ≡ alone c.args.a.now.ratios.third = rw (to_z-of_z w64 c.args.a.now.ratios.third h) at c.ratio-3.ensures.ends in
    c.leading_at.ensures.ends ∙ leading-grid c.args.a.now.face c.args.a.now.ratios (ends c.ratio.result) (ends c.ratio-2.result) (ends c.ratio-3.result) c.requires.face x y z

pub returns-clause-fits : goal.returns-clause-fits
returns-clause-fits c = c.leading_at.ensures.fits c.ratio.ensures.size c.ratio-2.ensures.size c.ratio-3.ensures.size
