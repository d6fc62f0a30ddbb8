-- The entries so far are as the attribute demands.
use Rattle.std.proofs.Common.{ℕ, ◌<◌}
use Rattle.dcx_shape.specs.Shape.{sides_of}
use Rattle.dcx_atom.specs.Arrays.{number_at}
use Rattle.dcx_domain.specs.Entries.{KeepsAt}
use Rattle.dcx_domain.proofs.array.first_left.Given as goal

abbrev pub invariant-loop-entry : goal.invariant-loop-entry
invariant-loop-entry l = (k : ℕ) → k < l.entry → KeepsAt l.attribute (sides_of l.shape) (number_at l.numbers) k
