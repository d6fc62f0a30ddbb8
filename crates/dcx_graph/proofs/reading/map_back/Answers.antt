-- The rows that are lent are those of the program: so its answer can be read, and what is read is right.
use Rattle.std.proofs.Common.{IfOk, sym, ◌∙◌, subst}
use Rattle.std.proofs.lemmas.Result.{IfOk-weaker}
use Rattle.dcx_tree.specs.Meaning.{setting_of}
use Rattle.dcx_graph.specs.Answers.{CanBeRead, IsRead}
use Rattle.dcx_postsolve.specs.Answers.{IsRightFor}
use Rattle.dcx_graph.proofs.Mapped.{known_of, can_be_read, read_right}
use Rattle.dcx_graph.proofs.reading.map_back.Goals as goal

pub read-requires : goal.read-requires
read-requires c =
    let p = c.args.problem.now in
    let q = c.args.reduced.now.program in
    let a = c.args.answer.now in
    let known = known_of q c.rows.result.now.kinds c.rows.result.now.rows c.rows.result.now.objective c.rows.ensures.kinds c.rows.ensures.rows c.rows.ensures.objective c.rows.result.now.rows_known
    c.rows.result.now.objective_known in
    record { there = subst (λ kinds. CanBeRead p kinds a) (sym (c.as_slice.ensures ∙ c.rows.ensures.kinds)) (can_be_read p (setting_of p c.args.setting.now) q a known c.requires.answered) }

pub returns-clause-read : goal.returns-clause-read
returns-clause-read c =
    subst (λ kinds. IfOk c.read.result (IsRead c.args.problem.now kinds c.args.answer.now)) (c.as_slice.ensures ∙ c.rows.ensures.kinds) c.read.ensures.read

pub returns-clause-right : goal.returns-clause-right
returns-clause-right c =
    let p = c.args.problem.now in
    let s = setting_of p c.args.setting.now in
    let q = c.args.reduced.now.program in
    let a = c.args.answer.now in
    let known = known_of q c.rows.result.now.kinds c.rows.result.now.rows c.rows.result.now.objective c.rows.ensures.kinds c.rows.ensures.rows c.rows.ensures.objective c.rows.result.now.rows_known
    c.rows.result.now.objective_known in
    IfOk-weaker c.read.result (IsRead p c.as_slice.result.now a) (IsRightFor p s)
    (λ x read. read_right p s q a known c.requires.answered x
    (subst (λ kinds. IsRead p kinds a x) (c.as_slice.ensures ∙ c.rows.ensures.kinds) read))
    c.read.ensures.read
