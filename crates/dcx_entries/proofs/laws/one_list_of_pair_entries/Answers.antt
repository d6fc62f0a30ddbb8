-- The entries of a product or a quotient have one list of forms, or one stop.
use Rattle.dcx_entries.proofs.OneAnswer.{one_pair_entries}
use Rattle.dcx_entries.proofs.laws.one_list_of_pair_entries.Goals as goal

pub returns : goal.returns
returns g c =
    let t = g.C.Coef in
    let m = g.met.C.Coef in
    λ scaling args pairs n r s h k. one_pair_entries t.of_number t.number_of t.sum_gives t.change_gives m.one_sum m.one_change scaling args pairs n r s h k
