-- An unknown's coefficient is a number, and so it lists no parameter.
use Rattle.dcx_linear.proofs.Coefficients.{unknown_has}
use Rattle.dcx_linear.proofs.sum_laws.names_of_unknowns.Goals as goal

pub returns : goal.returns
returns g c =
    let t = g.C.Coef in
    λ names unknown f h. unknown_has t.number_of (t.is_named_by names) t.of_number (g.met.C.Coef.number_named names) f h
