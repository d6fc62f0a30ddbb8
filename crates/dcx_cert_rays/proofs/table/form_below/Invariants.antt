-- The reached nodes so far are known.
use Rattle.dcx_arena.specs.Nodes.{positions}
use Rattle.dcx_cert_rays.proofs.Below.{IsBelow}
use Rattle.dcx_cert_rays.proofs.table.form_below.Given as goal

abbrev pub invariant-loop-i : goal.invariant-loop-i
invariant-loop-i l = IsBelow l.along.problem.now l.along.setting.now l.along.ray.now (positions l.roots) l.i l.arrays.items
