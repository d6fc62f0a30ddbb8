-- The negative that the code takes is that of the definition.
use Rattle.std.proofs.Common.{sym, ap, ap₂, ◌∙◌}
use Rattle.dcx_atom.specs.Formed.{frac_at}
use Rattle.dcx_atom.proofs.FormedSums.{frac_at-value}
use Rattle.dcx_lp_answer.specs.Multipliers.{turned as turned_of}
use Rattle.dcx_lp_answer.proofs.forming.turned.Goals as goal

pub returns-then-negated : goal.returns-then-negated
returns-then-negated c =
    sym (frac_at-value c.neg.result) ∙ ap frac_at c.neg.ensures ∙ sym (ap₂ (λ k n. turned_of k n c.args.number) c.in-Equal.is c.if-negated.true)
