-- The problem that a session shows is its own.
use Rattle.std.proofs.Common.{Ok, sym, subst}
use Rattle.std.specs.Prelude.{MatchOption}
use Rattle.dcx_tree.specs.declared.problem.Problem.{Problem}
use Rattle.dcx_cache.specs.Programs.{IsMapOf, HasMap, SessionGives, IsProgramAt}
use Rattle.dcx_outcomes.proofs.asking.answer.Goals as goal

pub ask-requires-clause-can : goal.ask-requires-clause-can
ask-requires-clause-can g c = subst (g.Q.Question.can_ask c.args.question.now) (sym c.problem.ensures.problem) c.requires.can

pub ask-requires-clause-kept : goal.ask-requires-clause-kept
ask-requires-clause-kept g c = subst (λ (z : Problem). MatchOption c.map.result (¬ (HasMap z)) (λ m. IsMapOf z m.now.program)) (sym c.problem.ensures.problem) c.map.ensures.map

pub ask-requires-clause-given : goal.ask-requires-clause-given
ask-requires-clause-given g c = subst (λ (z : Problem). SessionGives z c.args.setting.now (Ok c.args.program.now.program)) (sym c.problem.ensures.problem) c.requires.given

pub ask-requires-clause-program : goal.ask-requires-clause-program
ask-requires-clause-program g c = subst (λ (z : Problem). IsProgramAt z c.args.setting.now c.args.program.now.program) (sym c.problem.ensures.problem) c.requires.program

pub returns : goal.returns
returns g c = record {
  fits = c.requires.fits;
  program = c.args.program.now.program;
  gives = c.requires.given;
  answers = subst (λ (z : Problem). g.Q.Question.gives c.args.question.now z c.args.setting.now c.args.program.now.program c.ask.result) c.problem.ensures.problem c.ask.ensures;
}
