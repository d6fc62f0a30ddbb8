-- Fractions compare as their cross products do.
use Rattle.dcx_frac.proofs.Orders.{less_exactly, equal_exactly, greater_exactly}
use Rattle.dcx_frac.proofs.fraction.Frac.cmp_exact.Goals as goal

pub returns : goal.returns
returns c = record {
  less = less_exactly c.args.self.now c.args.other.now c.order.result c.order.ensures;
  equal = equal_exactly c.args.self.now c.args.other.now c.order.result c.order.ensures;
  greater = greater_exactly c.args.self.now c.args.other.now c.order.result c.order.ensures;
}
