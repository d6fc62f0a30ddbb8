-- So many unknowns have the kind.
use Rattle.std.proofs.Common.{◌≡◌, replicate}
use Rattle.dcx_atom.proofs.bounding.of_kind.Given as goal

abbrev pub invariant-loop-unknown : goal.invariant-loop-unknown
invariant-loop-unknown l = l.kinds.items ≡ replicate l._unknown l.kind
