-- A sum of parts keeps the names.
use Rattle.dcx_linear.proofs.PartSums.{parts_keep}
use Rattle.dcx_linear.proofs.sum_laws.names_of_parts.Goals as goal

pub returns : goal.returns
returns g c =
    let t = g.C.Coef in
    let m = g.met.C.Coef in
    λ names ps f h s a b. parts_keep t.number_of t.sum_gives t.change_gives (t.is_named_by names) (m.sum_named names) (m.change_named names) ps f h s a b
