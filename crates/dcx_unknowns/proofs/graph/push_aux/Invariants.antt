-- The kinds so far are added.
use Rattle.std.proofs.Common.{◌≡◌, ◌++◌, map, take}
use Rattle.dcx_unknowns.specs.Layout.{aux_kind}
use Rattle.dcx_unknowns.proofs.graph.push_aux.Given as goal

abbrev pub invariant-aux : goal.invariant-aux
invariant-aux l = l.kinds.items ≡ l.fn.kinds.items ++ map aux_kind (take l.kind-index l.aux)
