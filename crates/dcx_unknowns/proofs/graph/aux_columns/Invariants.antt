-- The columns of the unknowns so far.
use Rattle.std.proofs.Common.{◌≡◌, map, take, sum_by}
use Rattle.dcx_linear.specs.Size.{columns_for, capped}
use Rattle.dcx_unknowns.specs.Layout.{aux_kind}
use Rattle.dcx_unknowns.proofs.graph.aux_columns.Given as goal

abbrev pub invariant-kinds : goal.invariant-kinds
invariant-kinds l = l.count ≡ capped (sum_by columns_for (map aux_kind (take l.kind-index l.kinds)))
