-- What is found of the nodes that are passed.
use Rattle.std.proofs.Common.{◌≡◌, map, take, Some}
use Rattle.dcx_rules.specs.Accepted.{finding_of}
use Rattle.dcx_rules.proofs.checking.findings.Given as goal

abbrev pub invariant-loop-i : goal.invariant-loop-i
invariant-loop-i l = map Some l.findings.items ≡ map finding_of (take l.i l.judgements)
