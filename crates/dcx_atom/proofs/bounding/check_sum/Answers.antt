-- The sum is formed and compared.
use Rattle.std.proofs.Common.{sym, ◌∙◌}
use Rattle.dcx_atom.specs.declared.graph.AuxKind.TheVariants.{Free, Nonneg}
use Rattle.dcx_atom.proofs.Totals.{sum-passed, sum-compared}
use Rattle.dcx_atom.proofs.bounding.check_sum.Goals as goal

pub returns-in-Err : goal.returns-in-Err
returns-in-Err c = sym (sum-passed c.args.entry c.args.kind c.args.coefficient c.args.weights.now _ (sym c.in-Err.ensures))

pub returns-in-Nonneg : goal.returns-in-Nonneg
returns-in-Nonneg c = rw c.in-Nonneg.is (c.check_at_most.ensures ∙ sym (sum-compared c.args.entry Nonneg c.args.coefficient c.args.weights.now c.in-Ok.sum (sym c.in-Ok.ensures)))

pub returns-in-Free : goal.returns-in-Free
returns-in-Free c = rw c.in-Free.is (c.check_equal.ensures ∙ sym (sum-compared c.args.entry Free c.args.coefficient c.args.weights.now c.in-Ok.sum (sym c.in-Ok.ensures)))
