-- The certificate is of the problem.
use Rattle.std.proofs.Common.{IfOk, sym, subst}
use Rattle.dcx_tree.specs.Meaning.{setting_of}
use Rattle.dcx_answer.specs.declared.answer.Answer.{Answer}
use Rattle.dcx_answer.specs.declared.answer.Answer.TheVariants as answers
use Rattle.dcx_cert_sections.specs.Shown.{IsCertOf}
use Rattle.dcx_cert_outline.specs.Drawn.{problem_outline}
use Rattle.dcx_entries.proofs.Each.{if_ok_weaker}
use Rattle.dcx_graph.specs.Answers.{IsRead}
use Rattle.dcx_cert_build.specs.Built.{IsBuilt}
use Rattle.dcx_cert_build.proofs.OfProblem.{rows_noted, cert_of}
use Rattle.dcx_cert_build.proofs.building.build.Goals as goal

pub optimal-requires-clause-noted : goal.optimal-requires-clause-noted
optimal-requires-clause-noted c = rows_noted c.args.problem.now (setting_of c.args.problem.now c.args.setting.now) c.args.reduced.now.program c.args.lp.now c.requires.answered

pub infeasible-requires-clause-noted : goal.infeasible-requires-clause-noted
infeasible-requires-clause-noted c = rows_noted c.args.problem.now (setting_of c.args.problem.now c.args.setting.now) c.args.reduced.now.program c.args.lp.now c.requires.answered

pub returns-in-Optimal-clause-of_problem : goal.returns-in-Optimal-clause-of_problem
returns-in-Optimal-clause-of_problem c =
    let p = c.args.problem.now in
    let q = c.args.reduced.now.program in
    let a = c.args.lp.now in
    let noted = rows_noted p (setting_of p c.args.setting.now) q a c.requires.answered in
    let x = answers.Optimal c.in-Optimal.value c.in-Optimal.point c.in-Optimal.duals in
    let read = subst (IsRead p q.kinds a) c.in-Optimal.is c.requires.read in
    if_ok_weaker c.optimal.result (IsBuilt p c.args.setting.now q.origins a x) (IsCertOf (problem_outline p))
    (λ cert h. cert_of p c.args.setting.now c.requires.given q c.requires.laid_out a noted q.kinds x cert read h) c.optimal.ensures.built

pub returns-in-Infeasible-clause-of_problem : goal.returns-in-Infeasible-clause-of_problem
returns-in-Infeasible-clause-of_problem c =
    let p = c.args.problem.now in
    let q = c.args.reduced.now.program in
    let a = c.args.lp.now in
    let noted = rows_noted p (setting_of p c.args.setting.now) q a c.requires.answered in
    let x = answers.Infeasible c.in-Infeasible.duals c.in-Infeasible.gap in
    let read = subst (IsRead p q.kinds a) c.in-Infeasible.is c.requires.read in
    if_ok_weaker c.infeasible.result (IsBuilt p c.args.setting.now q.origins a x) (IsCertOf (problem_outline p))
    (λ cert h. cert_of p c.args.setting.now c.requires.given q c.requires.laid_out a noted q.kinds x cert read h) c.infeasible.ensures.built

pub returns-in_ok-unbounded-in-Unbounded-clause-of_problem : goal.returns-in_ok-unbounded-in-Unbounded-clause-of_problem
returns-in_ok-unbounded-in-Unbounded-clause-of_problem c =
    let p = c.args.problem.now in
    let q = c.args.reduced.now.program in
    let a = c.args.lp.now in
    let noted = rows_noted p (setting_of p c.args.setting.now) q a c.requires.answered in
    let x = answers.Unbounded c.in-Unbounded.point c.in-Unbounded.ray c.in-Unbounded.bound c.in-Unbounded.slope in
    let read = subst (IsRead p q.kinds a) c.in-Unbounded.is c.requires.read in
    cert_of p c.args.setting.now c.requires.given q c.requires.laid_out a noted q.kinds x c.in_ok-unbounded-in-Unbounded.field-0 read c.in_ok-unbounded-in-Unbounded.ensures

pub returns-in-Optimal-clause-built : goal.returns-in-Optimal-clause-built
returns-in-Optimal-clause-built c =
    let q = c.args.reduced.now.program in
    subst (λ (a : Answer). IfOk c.optimal.result (IsBuilt c.args.problem.now c.args.setting.now q.origins c.args.lp.now a)) (sym c.in-Optimal.is) c.optimal.ensures.built

pub returns-in-Optimal-clause-stops : goal.returns-in-Optimal-clause-stops
returns-in-Optimal-clause-stops c = c.optimal.ensures.stops

pub returns-in-Infeasible-clause-built : goal.returns-in-Infeasible-clause-built
returns-in-Infeasible-clause-built c =
    let q = c.args.reduced.now.program in
    subst (λ (a : Answer). IfOk c.infeasible.result (IsBuilt c.args.problem.now c.args.setting.now q.origins c.args.lp.now a)) (sym c.in-Infeasible.is) c.infeasible.ensures.built

pub returns-in-Infeasible-clause-stops : goal.returns-in-Infeasible-clause-stops
returns-in-Infeasible-clause-stops c = c.infeasible.ensures.stops
