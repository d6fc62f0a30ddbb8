-- The opposites of the coefficients stand before the constant and the one fraction that is 1.
use Rattle.std.proofs.Common.{◌≡◌, [], ◌∷◌, ◌++◌, map, sym, ap, ◌∙◌, subst}
use Rattle.dcx_atom.specs.Formed.{one_frac, frac_at}
use Rattle.dcx_atom.proofs.FormedSums.{frac_at-value}
use Rattle.dcx_linear.specs.declared.row.RowKind.TheVariants.{Equal}
use Rattle.dcx_linear.specs.Stops.{Gives}
use Rattle.dcx_std.specs.WholeRows.{coefficients, opposite, whole_row_of}
use Rattle.dcx_std.proofs.whole.whole_cost.Goals as goal

pub returns-clause-made : goal.returns-clause-made
returns-clause-made c =
    let cost = c.args.cost.now in
    let cs = coefficients c.args.count cost in
    let one : c.one.result ≡ one_frac = sym (frac_at-value c.one.result) ∙ ap frac_at c.one.ensures in
    subst (λ x. Gives c.whole_numbers.result (λ r. r ≡ whole_row_of Equal cost (map opposite cs ++ cost.constant ∷ x ∷ []))) one c.whole_numbers.ensures.made
