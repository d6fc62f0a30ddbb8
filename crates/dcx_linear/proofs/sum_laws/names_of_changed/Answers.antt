-- A form that is multiplied or divided keeps the names.
use Rattle.dcx_linear.proofs.Coefficients.{change_keeps}
use Rattle.dcx_linear.proofs.sum_laws.names_of_changed.Goals as goal

pub returns : goal.returns
returns g c =
    let t = g.C.Coef in
    let m = g.met.C.Coef in
    λ names change f h s a. change_keeps t.number_of (t.is_named_by names) t.change_gives (m.change_named names) change f h s a
