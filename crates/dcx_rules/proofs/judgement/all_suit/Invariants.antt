-- The arguments that are passed may stand in their places.
use Rattle.std.proofs.Common.{◌≡◌, map, take}
use Rattle.dcx_call.specs.Calls.{trend_of}
use Rattle.dcx_convex.specs.Rules.{all_suit}
use Rattle.dcx_rules.specs.Judgements.{judgement_of}
use Rattle.dcx_rules.proofs.judgement.all_suit.Given as goal

abbrev pub invariant-loop-i : goal.invariant-loop-i
invariant-loop-i l = l.suited ≡ all_suit l.bend (trend_of l.call l.signs) (map judgement_of (take l.i l.args))
