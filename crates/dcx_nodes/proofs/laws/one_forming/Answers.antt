-- Nodes are formed in one way.
use Rattle.dcx_nodes.proofs.OneForming.{one_forming}
use Rattle.dcx_nodes.proofs.laws.one_forming.Goals as goal

pub returns : goal.returns
returns g c =
    let t = g.C.Coef in
    let m = g.met.C.Coef in
    λ one_read rules p setting k within r s h i. one_forming t.of_number t.number_of t.sum_gives t.change_gives t.parameter_gives m.one_sum m.one_change one_read rules p setting k within r s h i
