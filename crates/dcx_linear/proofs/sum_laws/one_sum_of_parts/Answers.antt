-- Adding parts has one answer.
use Rattle.dcx_linear.proofs.PartSums.{one_parts}
use Rattle.dcx_linear.proofs.sum_laws.one_sum_of_parts.Goals as goal

pub returns : goal.returns
returns g c =
    let t = g.C.Coef in
    let m = g.met.C.Coef in
    λ ps f r s h k. one_parts t.number_of t.sum_gives t.change_gives m.one_sum m.one_change ps f r s h k
