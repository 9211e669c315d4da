use Rattle.std.proofs.Common.{◌≡◌, ◌∙◌, ◌*ℤ◌, neg_ℤ, pos, rules}
use Rattle.std.specs.Int.{int_max}
use Rattle.gd_axis.proofs.SignProducts.{farthest-square, nearest-square}
use Rattle.gd_interval.proofs.Products.{square-ordered}
use Rattle.gd_interval.proofs.Wholes.{same_order}
use Rattle.gd_interval.specs.Formulas.{square_hi, square_lo}
use Rattle.gd_axis.proofs.square.square_by_ends.Goals as goal

pub between-requires : goal.between-requires
between-requires c =
    let a = c.args.a.lo in
    let b = c.args.a.hi in
    let l : c.by_itself.result ≡ int_max (int_max a (neg_ℤ b)) (pos 0) *ℤ int_max (int_max a (neg_ℤ b)) (pos 0) = search rules in
    let h : c.by_itself-2.result ≡ int_max (neg_ℤ a) b *ℤ int_max (neg_ℤ a) b = search rules in
    let lo : c.by_itself.result ≡ square_lo a b = l ∙ nearest-square a b c.args.a.ordered in
    let hi : c.by_itself-2.result ≡ square_hi a b = h ∙ farthest-square a b c.args.a.ordered in
    same_order c.by_itself.result c.by_itself-2.result (search rules) (search rules) (rw (lo, hi) (square-ordered a b c.args.a.ordered))

pub returns-clause-lo : goal.returns-clause-lo
returns-clause-lo c =
    let a = c.args.a.lo in
    let b = c.args.a.hi in
    let l : c.between.result.lo ≡ int_max (int_max a (neg_ℤ b)) (pos 0) *ℤ int_max (int_max a (neg_ℤ b)) (pos 0) = search rules in
    l ∙ nearest-square a b c.args.a.ordered

pub returns-clause-hi : goal.returns-clause-hi
returns-clause-hi c =
    let a = c.args.a.lo in
    let b = c.args.a.hi in
    let h : c.between.result.hi ≡ int_max (neg_ℤ a) b *ℤ int_max (neg_ℤ a) b = search rules in
    h ∙ farthest-square a b c.args.a.ordered
