-- The lists so far are those of the entries passed.
use Rattle.std.proofs.Common.{◌≡◌}
use Rattle.dcx_shape.specs.Shape.{sides_of}
use Rattle.dcx_atom.specs.Arrays.{list_below}
use Rattle.dcx_affine.specs.Pairing.{pairs_at}
use Rattle.dcx_affine.proofs.pairing.Pairing.pairs.Given as goal

abbrev pub invariant-loop-k : goal.invariant-loop-k
invariant-loop-k l = l.lists.items ≡ list_below l.k (pairs_at l.self (sides_of l.a) (sides_of l.b))
