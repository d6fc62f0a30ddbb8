-- The entries so far are formed.
use Rattle.dcx_atom.specs.Entrywise.{AreFormed}
use Rattle.dcx_array.proofs.forming.fill.Given as goal

abbrev pub invariant-loop-k : goal.invariant-loop-k
invariant-loop-k g l = AreFormed (g.E.Entrywise.formed l.entries) l.k l.formed.items
