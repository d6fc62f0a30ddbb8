-- The constraints so far, and then those that are left, are all that are kept.
use Rattle.std.proofs.Common.{◌≡◌, ◌++◌, drop}
use Rattle.dcx_iis.specs.Steps.{flagged, kept_from, kept_of}
use Rattle.dcx_iis.proofs.duals.constraints_kept.Given as goal

abbrev pub invariant-constraints : goal.invariant-constraints
invariant-constraints l = l.members.items ++ kept_from (flagged l.kept) l.index (drop l.index l.constraints) ≡ kept_of (flagged l.kept) l.constraints
