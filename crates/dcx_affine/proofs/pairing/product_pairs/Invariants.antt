-- The pairs so far are those of the entries passed.
use Rattle.std.proofs.Common.{◌≡◌}
use Rattle.dcx_shape.specs.Shape.{sides_of}
use Rattle.dcx_atom.specs.Arrays.{list_below}
use Rattle.dcx_affine.specs.Pairing.{product_pair}
use Rattle.dcx_affine.proofs.pairing.product_pairs.Given as goal

abbrev pub invariant-loop-t : goal.invariant-loop-t
invariant-loop-t l = l.pairs.items ≡ list_below l.t (product_pair (sides_of l.a) (sides_of l.b) l.k)
