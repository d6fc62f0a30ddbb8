-- The terms so far are copied.
use Rattle.std.proofs.Common.{◌≡◌, ◌++◌, take}
use Rattle.dcx_linear.proofs.term.push_copies.Given as goal

abbrev pub invariant-loop-term : goal.invariant-loop-term
invariant-loop-term g l = l.list.items ≡ l.initial.list.items ++ take l.term-index l.terms
