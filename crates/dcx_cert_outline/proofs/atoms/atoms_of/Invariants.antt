-- The atoms of the nodes so far.
use Rattle.std.proofs.Common.{◌≡◌, map}
use Rattle.std.specs.List.{flat_map, range_with_len}
use Rattle.dcx_cert_sections.specs.Outlines.{rows_shown}
use Rattle.dcx_cert_outline.specs.Drawn.{atoms_at}
use Rattle.dcx_cert_outline.proofs.atoms.atoms_of.Given as goal

abbrev pub invariant-nodes : goal.invariant-nodes
invariant-nodes l = map rows_shown l.atoms.items ≡ flat_map (atoms_at l.problem) (range_with_len 0 l.i)
