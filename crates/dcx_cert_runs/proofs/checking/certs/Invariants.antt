-- So many of the sections so far show an answer.
use Rattle.std.proofs.Common.{◌≡◌, take}
use Rattle.std.specs.Prelude.{count_by}
use Rattle.dcx_cert_runs.specs.Checking.{is_cert}
use Rattle.dcx_cert_runs.proofs.checking.certs.Given as goal

abbrev pub invariant-loop-section : goal.invariant-loop-section
invariant-loop-section l = l.certs ≡ count_by is_cert (take l.section-index l.list)
