-- The number 1 that the code takes is that of the definition.
use Rattle.std.proofs.Common.{sym, ap, ap₂, ◌∙◌}
use Rattle.dcx_frac.specs.Results.{difference_of}
use Rattle.dcx_atom.specs.Formed.{frac_at}
use Rattle.dcx_atom.proofs.FormedSums.{frac_at-value}
use Rattle.dcx_lp_answer.specs.Multipliers.{shifted as shifted_of}
use Rattle.dcx_lp_answer.proofs.forming.shifted.Goals as goal

pub returns-in-Equal : goal.returns-in-Equal
returns-in-Equal c =
    let x = c.args.reduced_cost in
    c.sub.ensures.answer ∙ ap (difference_of x) (sym (frac_at-value c.one.result) ∙ ap frac_at c.one.ensures)
    ∙ sym (ap₂ (λ s k. shifted_of s k x) c.in-Infeasible.is c.in-Equal.is)
