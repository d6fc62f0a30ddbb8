-- At the setting the rows and the objective still speak of unknowns with a kind alone.
use Rattle.dcx_linear.proofs.SettingRows.{known_rows, known_form}
use Rattle.dcx_linear.proofs.rows_at.Rows+ParamForm.at.Goals as goal

pub invariant_of-result : goal.invariant_of-result
invariant_of-result c =
    let s = c.args.setting.now in
    let rows = c.args.self.now in
    let kinds = c.in_ok-copy_kinds.field-0 in
    record {
      rows_known = known_rows s rows.rows c.as_slice-rows.result.now c.in_ok-numbers.numbers.items c.from_vec.result rows.kinds kinds
          (c.in_ok-numbers.ensures {u = tt}) c.as_slice-rows.ensures c.from_vec.ensures (c.in_ok-copy_kinds.ensures {u = tt}) rows.rows_known;
      objective_known = known_form s _ rows.objective c.in_ok-objective.objective rows.kinds kinds (c.in_ok-objective.ensures {u = tt}) (c.in_ok-copy_kinds.ensures {u = tt}) rows.objective_known;
    }
