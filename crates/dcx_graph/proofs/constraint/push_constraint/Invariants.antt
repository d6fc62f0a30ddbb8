-- The entries so far are added.
use Rattle.std.proofs.Common.{◌≡◌, ◌++◌}
use Rattle.dcx_atom.specs.Arrays.{list_below}
use Rattle.dcx_postsolve.specs.Duals.{row_kind}
use Rattle.dcx_graph.proofs.constraint.push_constraint.Given as goal

abbrev pub invariant-entries : goal.invariant-entries
invariant-entries l =
    l.entries.items ≡ l.fn.entries.items ++ list_below l.entry (λ e. record {
      constraint = l.index;
      entry = e;
      kind = row_kind l.constraint.kind;
      left = l.constraint.left;
      right = l.constraint.right;
    })
