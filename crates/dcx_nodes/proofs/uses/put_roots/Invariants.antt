-- It is put at the objective and the sides of the constraints so far.
use Rattle.std.proofs.Common.{take}
use Rattle.dcx_tree.specs.Problems.{roots_of}
use Rattle.dcx_nodes.specs.Uses.{IsPut}
use Rattle.dcx_nodes.proofs.uses.put_roots.Given as goal

abbrev pub invariant-constraints : goal.invariant-constraints
invariant-constraints l = IsPut (roots_of l.problem.objective (take l.constraint-index l.problem.constraints)) l.place l.fn.uses l.uses
