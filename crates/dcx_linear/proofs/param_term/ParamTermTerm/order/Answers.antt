-- Positions and then entries are ordered as their keys are.
use Rattle.std.proofs.Common.{◌∙◌, ap₂, arith}
use Rattle.std.specs.Ordering.{ordering_then}
use Rattle.dcx_linear.proofs.Keys.{pair_order}
use Rattle.dcx_linear.proofs.param_term.ParamTermTerm.order.Goals as goal

pub returns : goal.returns
returns c =
    let s = c.args.self.now in
    let o = c.args.other.now in
    c.then.ensures ∙ ap₂ ordering_then c.cmp.ensures c.cmp-2.ensures ∙ pair_order s.position s.entry o.position o.entry (omega arith) (omega arith)
