use Rattle.gd_interval.proofs.Nests.{sum-nests, difference-nests, multiple-nests, product-nests, square-nests, quotient-nests, narrowed-nests, root-nests}
use Rattle.gd_interval.proofs.laws.results_nest.Goals as goal

pub returns : goal.returns
returns c = record {
  sum = sum-nests;
  difference = difference-nests;
  multiple = multiple-nests;
  product = product-nests;
  square = square-nests;
  quotient = quotient-nests;
  narrowed = narrowed-nests;
  root = root-nests;
}
