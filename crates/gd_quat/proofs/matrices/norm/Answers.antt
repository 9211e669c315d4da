use Rattle.std.proofs.Common.{◌≡◌, ap, sym, subst, pos, ◌^◌, ◌≤ℤ◌}
use Rattle.gd_interval.specs.Formulas.{square_lo}
use Rattle.gd_quat.proofs.Encloses.{norm-large}
use Rattle.gd_quat.proofs.matrices.norm.Goals as goal

pub returns-clause-large : goal.returns-clause-large
returns-clause-large c =
    let e0 : c.squared.result.lo ≡ square_lo c.args.q.now.q0.lo c.args.q.now.q0.hi = ap (λ e. e.lo) c.squared.ensures.ends in
    let e1 : c.squared-2.result.lo ≡ square_lo c.args.q.now.q1.lo c.args.q.now.q1.hi = ap (λ e. e.lo) c.squared-2.ensures.ends in
    let e2 : c.squared-3.result.lo ≡ square_lo c.args.q.now.q2.lo c.args.q.now.q2.hi = ap (λ e. e.lo) c.squared-3.ensures.ends in
    let e3 : c.squared-4.result.lo ≡ square_lo c.args.q.now.q3.lo c.args.q.now.q3.hi = ap (λ e. e.lo) c.squared-4.ensures.ends in
    subst (λ z. pos (2 ^ 60) ≤ℤ z) (sym (ap (λ e. e.lo) c.total_of.ensures.ends)) (rw (e0, e1, e2, e3) (norm-large c.args.q.now c.requires))
