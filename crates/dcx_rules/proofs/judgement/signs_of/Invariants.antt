-- The signs of the judgements that are passed.
use Rattle.std.proofs.Common.{◌≡◌, take}
use Rattle.dcx_rules.specs.Judgements.{signs_of}
use Rattle.dcx_rules.proofs.judgement.signs_of.Given as goal

abbrev pub invariant-loop-g : goal.invariant-loop-g
invariant-loop-g l = l.signs.items ≡ signs_of (take l.g-index l.args)
