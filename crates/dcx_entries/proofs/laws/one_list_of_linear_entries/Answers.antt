-- A linear call's entries have one list of forms, or one stop.
use Rattle.dcx_entries.proofs.OneAnswer.{one_linear_entries}
use Rattle.dcx_entries.proofs.laws.one_list_of_linear_entries.Goals as goal

pub returns : goal.returns
returns g c =
    let t = g.C.Coef in
    let m = g.met.C.Coef in
    λ parts n r s h k. one_linear_entries t.of_number t.number_of t.sum_gives t.change_gives m.one_sum m.one_change parts n r s h k
