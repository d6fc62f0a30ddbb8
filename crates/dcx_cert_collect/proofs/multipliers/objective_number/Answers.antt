-- 1 and -1 as fractions.
use Rattle.std.proofs.Common.{◌∙◌, sym, ap}
use Rattle.dcx_atom.specs.Formed.{frac_at}
use Rattle.dcx_atom.proofs.FormedSums.{frac_at-value}
use Rattle.dcx_cert_collect.specs.Multipliers.{objective_number}
use Rattle.dcx_cert_collect.proofs.multipliers.objective_number.Goals as goal

pub returns-in-Minimize : goal.returns-in-Minimize
returns-in-Minimize c = sym (frac_at-value c.one.result) ∙ ap frac_at c.one.ensures ∙ ap objective_number (sym c.in-Minimize.is)

pub returns-in-Maximize : goal.returns-in-Maximize
returns-in-Maximize c = sym (frac_at-value c.minus_one.result) ∙ ap frac_at c.minus_one.ensures ∙ ap objective_number (sym c.in-Maximize.is)
