-- The judgements of the nodes that are passed.
use Rattle.std.proofs.Common.{◌≡◌, ℕ, length, Some}
use Rattle.std.specs.List.{slice_get}
use Rattle.dcx_convex.specs.Rules.{judgement_at}
use Rattle.dcx_tree.specs.Meaning.{convex_problem}
use Rattle.dcx_rules.specs.declared.judgement.Judgement.{Judgement}
use Rattle.dcx_rules.specs.Judgements.{rules_of, judgement_of}
use Rattle.dcx_rules.proofs.judgements.judgements.Given as goal

abbrev pub invariant-loop-i : goal.invariant-loop-i
invariant-loop-i l = record {
  count : length l.judgements.items ≡ l.i;
  each : (j : ℕ) (g : Judgement) → slice_get l.judgements.items j ≡ Some g → judgement_of g ≡ judgement_at (rules_of l.rules) (convex_problem l.problem).nodes j;
}
