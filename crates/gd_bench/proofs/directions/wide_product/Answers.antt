use Rattle.std.proofs.Common.{◌≡◌, ◌*ℤ◌, ◌^◌, arith, rules}
use Rattle.std.specs.Int.{int_min, int_max}
use Rattle.gd_bench.proofs.Sizes.{entry-product, greatest-size, least-size}
use Rattle.gd_bench.proofs.directions.wide_product.Goals as goal

pub returns-clause-lo : goal.returns-clause-lo
returns-clause-lo c =
    let e : c.scale.result.lo ≡ int_min (c.args.n.it.lo *ℤ c.args.coordinate) (c.args.n.it.hi *ℤ c.args.coordinate) = search rules in
    rw e (least-size (c.args.n.it.lo *ℤ c.args.coordinate) (c.args.n.it.hi *ℤ c.args.coordinate) (2 ^ 53) (entry-product c.args.n.it.lo c.args.coordinate (search rules) (search rules)) (entry-product c.args.n.it.hi c.args.coordinate (search rules) (search rules)))

pub returns-clause-hi : goal.returns-clause-hi
returns-clause-hi c =
    let e : c.scale.result.hi ≡ int_max (c.args.n.it.lo *ℤ c.args.coordinate) (c.args.n.it.hi *ℤ c.args.coordinate) = search rules in
    rw e (greatest-size (c.args.n.it.lo *ℤ c.args.coordinate) (c.args.n.it.hi *ℤ c.args.coordinate) (2 ^ 53) (entry-product c.args.n.it.lo c.args.coordinate (search rules) (search rules)) (entry-product c.args.n.it.hi c.args.coordinate (search rules) (search rules)))
