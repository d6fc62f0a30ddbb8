-- The program is a reduced program of the problem.
use Rattle.std.proofs.Common.{IfOk, sym, ap, subst}
use Rattle.dcx_tree.specs.declared.problem.Problem.{Problem}
use Rattle.dcx_cache.specs.Programs.{HasMap, IsProgramAt}
use Rattle.dcx_cache.specs.Sessions.{State}
use Rattle.dcx_cache.proofs.Answered.{reduced_at}
use Rattle.dcx_cache.proofs.session.Session.program.Goals as goal

pub returns-clause-reduced : goal.returns-clause-reduced
returns-clause-reduced g c =
    subst (λ (p : Problem). IfOk c.formed.result (λ r. IsProgramAt p c.args.setting.now r.program)) (ap (λ (s : State). s.problem) c.self.view_is)
    (reduced_at c.self.inside.problem c.args.setting.now c.formed.result c.self.invariant.accepted c.formed.ensures.fits c.formed.ensures.gives)

pub returns-clause-counted : goal.returns-clause-counted
returns-clause-counted g c = λ m. c.formed.ensures.counted (subst (λ (p : Problem). HasMap p) (sym (ap (λ (s : State). s.problem) c.self.view_is)) m)
