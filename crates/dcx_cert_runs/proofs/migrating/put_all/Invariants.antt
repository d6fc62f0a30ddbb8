-- The sections so far have the values of their settings.
use Rattle.std.proofs.Common.{length}
use Rattle.dcx_cert_runs.specs.Migrating.{with_values}
use Rattle.dcx_cert_runs.proofs.Lists.{AreMade}
use Rattle.dcx_cert_runs.proofs.migrating.put_all.Given as goal

abbrev pub invariant-loop-section : goal.invariant-loop-section
invariant-loop-section l = AreMade (with_values l.problem) l.settings l.fn.sections.list l.list.items (length l.yielded)
