-- A sum of parts is no wider than they are.
use Rattle.dcx_linear.proofs.PartSums.{parts_sum_width}
use Rattle.dcx_linear.proofs.sum_laws.widths_of_parts.Goals as goal

pub returns : goal.returns
returns g c =
    let t = g.C.Coef in
    λ n ps f h s a b. parts_sum_width t.number_of t.sum_gives t.change_gives n ps f h s a b
