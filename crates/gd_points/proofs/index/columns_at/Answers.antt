use Rattle.gd_points.proofs.ByNumber.{columns_at}
use Rattle.gd_points.proofs.index.columns_at.Goals as goal

pub returns : goal.returns
returns c = columns_at c.args.table.now.rows _ _ _ c.args.numbers.now _ _ _ c.columns-columns.ensures.columns c.in_ok-x.ensures c.in_ok-y.ensures c.in_ok-z.ensures
