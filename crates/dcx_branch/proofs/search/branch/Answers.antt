-- The run begins at the root, and where no box is open it ends, and so its answer is right.
use Rattle.std.proofs.Common.{◌<◌, List, length, Ok, sym, subst, arith}
use Rattle.dcx_call.specs.declared.attribute.Variable.{Variable}
use Rattle.dcx_tree.specs.Meaning.{setting_of}
use Rattle.dcx_tree.proofs.Few.{few_variables}
use Rattle.dcx_unknowns.specs.Unknowns.{variable_unknowns}
use Rattle.dcx_unknowns.proofs.Domains.{unknowns_few}
use Rattle.dcx_answer.specs.declared.whole_answer.WholeAnswer.{WholeAnswer}
use Rattle.dcx_graph.proofs.Slacks.{rows_of_reduced}
use Rattle.dcx_branch.specs.Answers.{IsEndOf}
use Rattle.dcx_right.specs.WholeAnswers.{IsRightFor}
use Rattle.dcx_branch.proofs.Right.{runs_are_right}
use Rattle.dcx_branch.proofs.Advance.{begun, done_ends}
use Rattle.dcx_branch.proofs.search.branch.Goals as goal

pub places_of-requires-clause-few : goal.places_of-requires-clause-few
places_of-requires-clause-few c =
    let few = unknowns_few c.args.problem.now in
    subst (λ (vs : List Variable). variable_unknowns vs < 4294967296) (sym c.as_slice.ensures) (omega (arith, few))

pub places_of-requires-clause-numbered : goal.places_of-requires-clause-numbered
places_of-requires-clause-numbered c =
    let few = few_variables c.args.problem.now in
    subst (λ (vs : List Variable). length vs < 4294967296) (sym c.as_slice.ensures) (omega (arith, few))

pub run-requires-clause-rows : goal.run-requires-clause-rows
run-requires-clause-rows c =
    let p = c.args.problem.now in
    rows_of_reduced p (setting_of p c.args.setting.now) c.args.reduced.now.program c.requires.program

pub returns-in-Err-clause-end : goal.returns-in-Err-clause-end
returns-in-Err-clause-end c =
    let p = c.args.problem.now in
    let s = setting_of p c.args.setting.now in
    let q = c.args.reduced.now.program in
    let begin = c.begin-search.ensures in
    let at = begun p q c.args.limit c.begin-search.result begin.sides begin.nodes begin.best begin.count in
    c.in-Err.ensures.stops s c.requires.program at

pub returns-in-Ok-clause-end : goal.returns-in-Ok-clause-end
returns-in-Ok-clause-end c =
    let p = c.args.problem.now in
    let q = c.args.reduced.now.program in
    let begin = c.begin-search.ensures in
    let at = begun p q c.args.limit c.begin-search.result begin.sides begin.nodes begin.best begin.count in
    let ends = done_ends p q c.args.limit c.run.new.self c.args.nodes c.in-Ok.ensures.few (c.in-Ok.ensures.done at) in
    subst (λ (a : WholeAnswer). IsEndOf p q c.args.limit c.args.nodes (Ok a)) (sym c.answer.ensures) ends

pub returns-in-Ok-clause-right : goal.returns-in-Ok-clause-right
returns-in-Ok-clause-right c =
    let p = c.args.problem.now in
    let s = setting_of p c.args.setting.now in
    let q = c.args.reduced.now.program in
    let begin = c.begin-search.ensures in
    let at = begun p q c.args.limit c.begin-search.result begin.sides begin.nodes begin.best begin.count in
    let ends = done_ends p q c.args.limit c.run.new.self c.args.nodes c.in-Ok.ensures.few (c.in-Ok.ensures.done at) in
    subst (IsRightFor p s) (sym c.answer.ensures) (runs_are_right p s q c.args.limit c.args.nodes _ c.requires.program ends)
