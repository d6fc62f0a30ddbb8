-- So many unknowns have their form.
use Rattle.std.proofs.Common.{◌≡◌, map}
use Rattle.dcx_atom.specs.Arrays.{list_below}
use Rattle.dcx_atom.specs.Graph.{form_term}
use Rattle.dcx_atom.specs.Bounding.{unknown_form}
use Rattle.dcx_atom.proofs.bounding.each_alone.Given as goal

abbrev pub invariant-loop-unknown : goal.invariant-loop-unknown
invariant-loop-unknown l = map (map form_term) l.forms.items ≡ list_below l.unknown unknown_form
