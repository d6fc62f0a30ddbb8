-- Each node is tested.
use Rattle.std.proofs.Common.{IsSome, refl, arith}
use Rattle.std.proofs.lemmas.Option.{slice_get_within}
use Rattle.dcx_convex.specs.Rules.{Plain}
use Rattle.dcx_linear.specs.Parameters.{entry_of}
use Rattle.dcx_graph.specs.Reducing.{IsGivenFor}
use Rattle.dcx_tree.proofs.Forming.{call_more}
use Rattle.dcx_listing.proofs.given.are_given.Goals as goal

pub loop-i-preserved : goal.loop-i-preserved
loop-i-preserved c =
    call_more (λ call. IsGivenFor Plain (λ pairs name entry. IsSome (entry_of pairs name entry)) c.args.setting.now call) c.args.tree.now c.loop-i.i c.call.result.now c.call.ensures
    (c.is_given.ensures.0 c.if-not-is_given.false) c.loop-i.invariant

pub returns : goal.returns
returns c =
    ((λ t i n at. let lt = slice_get_within c.args.tree.now i n at in c.loop-i.invariant i n (omega (arith, lt, c.nodes-i-end.ensures.count, c.loop-i-test.false)) at), (λ h. refl))
