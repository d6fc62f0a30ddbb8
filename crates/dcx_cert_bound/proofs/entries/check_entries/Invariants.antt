-- What reaches the entries so far may.
use Rattle.std.proofs.Common.{ℕ, ◌<◌}
use Rattle.dcx_shape.specs.Shape.{sides_of}
use Rattle.dcx_cert_bound.specs.Variables.{entry_check}
use Rattle.dcx_cert_bound.proofs.entries.check_entries.Given as goal

abbrev pub invariant-loop-entry : goal.invariant-loop-entry
invariant-loop-entry l = (e : ℕ) → e < l.entry → (entry_check l.attribute (sides_of l.shape) l.coefficients l.number e).passes
