-- The entries so far that have an unknown of their own.
use Rattle.std.proofs.Common.{◌≡◌}
use Rattle.dcx_unknowns.specs.Own.{own_before}
use Rattle.dcx_unknowns.specs.Unknowns.{demanded, sides_in}
use Rattle.dcx_unknowns.proofs.own.own_count.Given as goal

abbrev pub invariant-entries : goal.invariant-entries
invariant-entries l = l.count ≡ own_before (demanded l.variable) (sides_in l.variable) l.entry
