-- The weights of the atoms so far.
use Rattle.std.proofs.Common.{◌≡◌, map, take}
use Rattle.dcx_cert_build.specs.Weights.{node_numbers, atom_numbers}
use Rattle.dcx_cert_build.proofs.weights.atom_weights.Given as goal

abbrev pub invariant-atoms : goal.invariant-atoms
invariant-atoms l = map node_numbers l.weights.items ≡ map (atom_numbers l.rows) (take l.atom-index l.atoms)
