-- The setting that isn't read gives no value.
use Rattle.std.proofs.Common.{subst}
use Rattle.dcx_linear.specs.declared.param_form.ParamForm.{ParamForm}
use Rattle.dcx_graph.specs.Reduced.{Reduction}
use Rattle.dcx_graph.specs.Reducing.{OrMemory}
use Rattle.dcx_graph.specs.Correct.{ReducesAffine}
use Rattle.dcx_cache.proofs.program.affine.Goals as goal

pub returns-clause-program : goal.returns-clause-program
returns-clause-program g c = subst (λ s. OrMemory c.reduce-map.result (λ (q : Reduction ParamForm). q.program) (ReducesAffine c.args.problem.now s)) c.empty-unread.ensures c.reduce-map.ensures.program
