-- A sum of forms keeps the names.
use Rattle.dcx_linear.proofs.Coefficients.{sum_keeps}
use Rattle.dcx_linear.proofs.sum_laws.names_of_sums.Goals as goal

pub returns : goal.returns
returns g c =
    let t = g.C.Coef in
    let m = g.met.C.Coef in
    λ names f h k s a b. sum_keeps t.number_of (t.is_named_by names) t.sum_gives (m.sum_named names) f h k s a b
