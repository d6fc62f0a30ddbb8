-- The terms so far are those of the entries passed.
use Rattle.std.proofs.Common.{◌≡◌, map}
use Rattle.dcx_atom.specs.Frac.{value}
use Rattle.dcx_atom.specs.Arrays.{list_below}
use Rattle.dcx_atom.specs.Axis.{stride_entry}
use Rattle.dcx_atom.specs.Linear.{linear_term}
use Rattle.dcx_affine.proofs.strided.terms_of.Given as goal

abbrev pub invariant-loop-i : goal.invariant-loop-i
invariant-loop-i l = map linear_term l.terms.items ≡ list_below l.i (λ i. record { argument = 0; entry = stride_entry l.stride i; coefficient = value l.coefficient })
