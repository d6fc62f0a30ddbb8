-- Each leaf is tested.
use Rattle.std.proofs.Common.{refl, arith}
use Rattle.std.proofs.lemmas.Option.{slice_get_within}
use Rattle.dcx_call.specs.Values.{IsGiven}
use Rattle.dcx_tree.proofs.Forming.{call_more}
use Rattle.dcx_tree.proofs.tree.Tree.is_given.Goals as goal

pub loop-i-preserved : goal.loop-i-preserved
loop-i-preserved c =
    call_more (λ call. IsGiven call c.args.setting.now c.args.point.now) c.args.self.now c.loop-i.i c.call.result.now c.call.ensures (c.is_given.ensures.0 c.if-not-is_given.false) c.loop-i.invariant

pub returns : goal.returns
returns c =
    ((λ t i n at. let lt = slice_get_within c.args.self.now i n at in c.loop-i.invariant i n (omega (arith, lt, c.nodes-i-end.ensures.count, c.loop-i-test.false)) at), (λ h. refl))
