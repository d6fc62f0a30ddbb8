-- The numbers so far, and then those that are left, are all.
use Rattle.std.proofs.Common.{◌≡◌, ◌++◌, drop}
use Rattle.dcx_iis.specs.Runs.{numbers_from}
use Rattle.dcx_iis.proofs.filtering.members_of.Given as goal

abbrev pub invariant-kept : goal.invariant-kept
invariant-kept l = l.members.items ++ numbers_from l.index (drop l.index l.kept) ≡ numbers_from 0 l.kept
