-- One more node is formed, or it is the first that isn't.
use Rattle.std.proofs.Common.{sym, ◌∙◌, arith}
use Rattle.std.proofs.lemmas.Result.{err_from_is_err_and}
use Rattle.dcx_cert_values.proofs.Keeping.{args_kept, only_more, first_unformed, all_formed}
use Rattle.dcx_cert_values.proofs.table.Values.form_marked.Goals as goal

pub form_node-requires-clause-args : goal.form_node-requires-clause-args
form_node-requires-clause-args c =
    args_kept c.args.problem.now c.args.setting.now c.args.point.now c.args.marks.now c.args.self.now c.requires.closed c.loop-i.i c.loop-i.self c.loop-i.invariant
    (sym c.is_marked.ensures ∙ c.if-is_marked.true)

pub returns-in_err-form_node-clause-checked : goal.returns-in_err-form_node-clause-checked
returns-in_err-form_node-clause-checked c =
    let r = err_from_is_err_and c.from_residual.result c.from_residual.ensures.1 in
    rw (r.1, r.2)
    (first_unformed c.args.problem.now c.args.setting.now c.args.point.now c.args.marks.now c.args.self.now c.loop-i.i c.loop-i.self _ c.loop-i.invariant
    (omega (arith, c.requires.most, c.loop-i-test.true))
    (sym c.is_marked.ensures ∙ c.if-is_marked.true) c.in_err-form_node.ensures.fault)

pub returns-clause-checked : goal.returns-clause-checked
returns-clause-checked c =
    all_formed c.args.problem.now c.args.setting.now c.args.point.now c.args.marks.now c.args.self.now c.loop-i.i c.loop-i.self c.loop-i.invariant
    (λ k m. let b = (c.requires.within k m).1 in omega (arith, b, c.loop-i-test.false))

pub returns-in_err-form_node-clause-only : goal.returns-in_err-form_node-clause-only
returns-in_err-form_node-clause-only c =
    only_more c.args.marks.now c.args.self.now c.loop-i.self c.form_node.new.self c.loop-i.i (sym c.is_marked.ensures ∙ c.if-is_marked.true) c.loop-i.invariant.only c.form_node.ensures.only
