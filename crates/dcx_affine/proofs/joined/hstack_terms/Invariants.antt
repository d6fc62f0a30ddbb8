-- The lists so far are those of the entries passed.
use Rattle.std.proofs.Common.{◌≡◌, map}
use Rattle.dcx_atom.specs.Arrays.{sides_list, list_below}
use Rattle.dcx_atom.specs.Linear.{linear_term}
use Rattle.dcx_affine.specs.Joined.{hstack_meaning}
use Rattle.dcx_affine.proofs.joined.hstack_terms.Given as goal

abbrev pub invariant-loop-k : goal.invariant-loop-k
invariant-loop-k l = map (map linear_term) l.lists.items ≡ list_below l.k (hstack_meaning.terms (sides_list l.args))
