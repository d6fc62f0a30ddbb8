-- The weights are tested first, then their sum.
use Rattle.std.proofs.Common.{sym, ◌∙◌, map}
use Rattle.std.proofs.lemmas.Result.{err_from_is_err_and}
use Rattle.dcx_frac.specs.Frac.{value}
use Rattle.dcx_atom.proofs.Totals.{total-stopped, total-summed}
use Rattle.dcx_atom.proofs.bounding.check_total.Goals as goal

pub returns-in_err-check_weights : goal.returns-in_err-check_weights
returns-in_err-check_weights c =
    let p = err_from_is_err_and c.from_residual.result c.from_residual.ensures.1 in
    rw (p.1, p.2) (sym (total-stopped c.args.entry c.args.kind (value c.args.coefficient) (map value c.args.weights.now) _ (sym c.in_err-check_weights.ensures)))

pub returns : goal.returns
returns c = c.check_sum.ensures ∙ sym (total-summed c.args.entry c.args.kind (value c.args.coefficient) (map value c.args.weights.now) (sym c.in_ok-check_weights.ensures))
