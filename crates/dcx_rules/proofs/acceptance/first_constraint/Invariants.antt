-- The constraints that are passed keep their rules.
use Rattle.std.proofs.Common.{◌≡◌, take, true}
use Rattle.std.specs.List.{list_all}
use Rattle.dcx_rules.specs.Accepted.{stands}
use Rattle.dcx_rules.proofs.acceptance.first_constraint.Given as goal

abbrev pub invariant-loop-k : goal.invariant-loop-k
invariant-loop-k l = list_all (stands l.judgements) (take l.k l.constraints) ≡ true
