-- The values in order are the items, no more of them than are counted.
use Rattle.std.proofs.Common.{sym, map, arith}
use Rattle.dcx_script_values.specs.Meant.{meant}
use Rattle.dcx_script_values.proofs.Lists.{items_of-values_of, length_le-count}
use Rattle.dcx_script_values.proofs.items.Items.values.Goals as goal

pub returns-clause-values : goal.returns-clause-values
returns-clause-values c = rw (c.as_slice.ensures.value, ← c.self.view_is) (sym (items_of-values_of (map meant c.self.inside.values.items)))

pub returns-clause-few : goal.returns-clause-few
returns-clause-few c = rw c.as_slice.ensures.value (omega (arith, length_le-count c.self.inside.values.items, c.self.invariant.told, c.self.invariant.most))
