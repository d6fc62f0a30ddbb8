-- The main statements hold: on calls, nodes, signs, convexity, answers, reductions and certificates.
use Rattle.std.proofs.Common.{[], ◌∷◌, ◌++◌}
use Rattle.dcx_convex.specs.Nodes.{Setting, zeros, value_by, value_at}
use Rattle.dcx_convex.specs.Rules.{no_argument, judgement_by, judgement_at}
use Rattle.dcx_convex.specs.Problems.{Problem}
use Rattle.dcx_convex.specs.Laws.{CallsAreLawful, NodesAreTold, SignsAreTrue, AcceptedIsConvex, AnswersAgree, DppIsAccepted, ConstantsAreFixed, ReachedAreBent}
use Rattle.dcx_convex.specs.Laws.{FormsAreBeyond, ReductionsMapBack, CertifiedIsAnswered, RenumberingChangesNothing, PushingChangesNothing, TestedAreInDualCone}
use Rattle.dcx_convex.specs.Examples.{Verdicts, LeastAbs}
use Rattle.dcx_convex.proofs.Examples as examples
use Rattle.dcx_convex.proofs.LeastAbs as abs
use Rattle.dcx_convex.proofs.SideInduction.{side}
use Rattle.dcx_convex.proofs.MapBack as back
use Rattle.dcx_convex.specs.Answers.{penalty_of, lagrangian_of}
use Rattle.dcx_convex.proofs.Certified.{bounds}
use Rattle.dcx_convex.proofs.DualCones.{dual}
use Rattle.dcx_math.proofs.Orders.{≤ℚ_trans}
use Rattle.dcx_convex.proofs.Reached.{reached_bent}
use Rattle.dcx_convex.proofs.Mapped.{ordered_before, pushed}
use Rattle.dcx_convex.proofs.Told.{value_tells, judgement_tells, only, renumbered}
use Rattle.dcx_convex.proofs.Signs.{value_signed, value_fixed}
use Rattle.dcx_convex.proofs.Acceptance as acceptance
use Rattle.dcx_convex.proofs.OneAnswer.{agree}
use Rattle.dcx_convex.proofs.Dpp as dpp
use Rattle.dcx_convex.proofs.AtomLaws.{atom_lawful, linear_lawful}
use Rattle.dcx_convex.proofs.PairLaws.{product_lawful, quotient_lawful}

-- calls
pub calls_are_lawful : CallsAreLawful
calls_are_lawful = record { atoms = atom_lawful; linear_calls = linear_lawful; products = product_lawful; quotients = quotient_lawful }

-- values and judgements, node by node
pub nodes_are_told : NodesAreTold
unfolding value_at judgement_at
nodes_are_told nodes ordered = record {
  values = value_tells nodes ordered;
  one_value = λ s x f law. only zeros (value_by s x) nodes ordered f law;
  judgements = λ rules. judgement_tells rules nodes ordered;
  one_judgement = λ rules f law. only no_argument (judgement_by rules) nodes ordered f law;
}

-- new positions
pub renumbering_changes_nothing : RenumberingChangesNothing
unfolding value_at judgement_at
renumbering_changes_nothing before after old ordered sorted same = record {
  values = λ s x. renumbered zeros (value_by s x) before after old ordered sorted same;
  judgements = λ rules. renumbered no_argument (judgement_by rules) before after old ordered sorted same;
}

pub pushing_changes_nothing : PushingChangesNothing
pushing_changes_nothing nodes n ordered = renumbering_changes_nothing (nodes ++ n ∷ []) nodes (λ i. i) ordered (ordered_before nodes n ordered) (pushed nodes n)

-- signs
pub signs_are_true : SignsAreTrue
signs_are_true rules nodes law s fit = value_signed rules nodes law s fit.parameters

-- convexity
pub accepted_is_convex : AcceptedIsConvex
accepted_is_convex p law ok s fit = acceptance.accepted_is_convex p law s fit ok

-- answers
pub answers_agree : (p : Problem) (s : Setting) → AnswersAgree p s
answers_agree p s = agree p s

-- parameters that are affine
pub dpp_is_accepted : DppIsAccepted
dpp_is_accepted = dpp.dpp_is_accepted

-- nodes that reach no variable
pub constants_are_fixed : ConstantsAreFixed
constants_are_fixed = value_fixed

-- examples
pub verdicts : Verdicts
verdicts = examples.verdicts

-- reached nodes
pub reached_are_bent : ReachedAreBent
reached_are_bent = reached_bent

-- the side induction
pub forms_are_beyond : FormsAreBeyond
forms_are_beyond rules nodes ordered law s fit x dom f stands i b bend t j = (side rules nodes ordered law s fit x dom f stands i b).beyond j bend t

-- answers of reduced programs
pub reductions_map_back : ReductionsMapBack
reductions_map_back rules p law formed ok s fit r reduction = record {
  optimal = back.optimal rules p law formed ok s fit r reduction;
  infeasible = back.infeasible rules p law formed ok s fit r reduction;
  unbounded = back.unbounded rules p law formed ok s fit r reduction;
}

-- certificates
pub certified_is_answered : CertifiedIsAnswered
certified_is_answered p ordered s = record {
  optimal = λ v x m c g feasible value multipliers certificate above. record {
    feasible = feasible;
    value = value;
    multipliers = multipliers;
    bound = λ y dom. ≤ℚ_trans above (bounds p.nodes ordered s (lagrangian_of p m) c g certificate y dom);
  };
  infeasible = λ m gap c g positive multipliers certificate above. record {
    positive = positive;
    multipliers = multipliers;
    bound = λ y dom. ≤ℚ_trans above (bounds p.nodes ordered s (penalty_of p m) c g certificate y dom);
  };
}

-- dual cones
pub tested_are_in_dual_cone : TestedAreInDualCone
tested_are_in_dual_cone = dual

pub least_abs : (s : Setting) → LeastAbs s
least_abs s = abs.least s
