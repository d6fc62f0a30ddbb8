-- The coefficients of a row stand as they are, and behind them the opposite of its constant.
use Rattle.std.proofs.Common.{◌≡◌, [], ◌∷◌, ◌++◌, ap, ap₂, subst}
use Rattle.dcx_linear.specs.Stops.{Gives}
use Rattle.dcx_std.specs.WholeRows.{coefficients, whole_row_of}
use Rattle.dcx_std.proofs.Products.{none_turned}
use Rattle.dcx_std.proofs.whole.whole_row.Goals as goal

pub returns-clause-made : goal.returns-clause-made
returns-clause-made c =
    let row = c.args.row.now in
    let cs = coefficients c.args.count row.form in
    subst (λ ns. Gives c.whole_numbers.result (λ r. r ≡ whole_row_of row.kind row.form ns)) (ap₂ ◌++◌ (none_turned cs) (ap (λ x. x ∷ []) c.negative-right.ensures)) c.whole_numbers.ensures.made
