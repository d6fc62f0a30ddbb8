-- A coefficient times a form has the names of the coefficient.
use Rattle.dcx_linear.proofs.Coefficients.{multiple_keeps}
use Rattle.dcx_linear.proofs.sum_laws.names_of_multiples.Goals as goal

pub returns : goal.returns
returns g c =
    let t = g.C.Coef in
    let m = g.met.C.Coef in
    λ names c f h s a. multiple_keeps t.number_of (t.is_named_by names) t.change_gives (m.change_named names) c f h s a
