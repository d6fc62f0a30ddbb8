-- The level and so many unknowns are listed.
use Rattle.std.proofs.Common.{◌≡◌, map}
use Rattle.dcx_atom.specs.Graph.{form_term}
use Rattle.dcx_fold.specs.Largest.{level_form}
use Rattle.dcx_fold.proofs.largest.level_result.Given as goal

abbrev pub invariant-loop-i : goal.invariant-loop-i
invariant-loop-i l = map form_term l.terms.items ≡ level_form l.bend l.k l.i
