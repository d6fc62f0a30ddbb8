-- The entries so far are formed.
use Rattle.dcx_call.specs.Forming.{AreFormed}
use Rattle.dcx_call.proofs.fill.fill.Given as goal

abbrev pub invariant-loop-j : goal.invariant-loop-j
invariant-loop-j g l = AreFormed (g.E.Entrywise.formed l.entries) l.j l.formed.items
