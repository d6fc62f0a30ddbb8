-- The rows are made whole and then the objective row, and the first of them that stops is the stop.
use Rattle.std.proofs.Common.{◌≡◌, ◌≤◌, length, map, sym, ap, ap₂, ◌∙◌, subst, arith}
use Rattle.std.specs.List.{All}
use Rattle.std.proofs.lemmas.Result.{err_from_is_err_and}
use Rattle.dcx_frac.specs.declared.fraction.Frac.{Frac}
use Rattle.dcx_linear.specs.declared.row.Row.{Row}
use Rattle.dcx_linear.specs.Stops.{Gives}
use Rattle.dcx_linear.specs.Widths.{rows_width}
use Rattle.dcx_std.specs.WholeRows.{row_made, cost_made, IsSparseForm}
use Rattle.dcx_std.specs.GivenRows.{given}
use Rattle.dcx_std.specs.IntegerRows.{passing_from, result_at, StopsAt}
use Rattle.dcx_std.proofs.Making.{gives_so}
use Rattle.dcx_std.proofs.Stopping.{rows_stop, cost_stop}
use Rattle.dcx_std.proofs.program.whole_program.Goals as goal

pub made_rows-requires-clause-known : goal.made_rows-requires-clause-known
made_rows-requires-clause-known c =
    let rows = c.args.rows.now in
    let l : rows_width c.as_slice-list.result.now ≤ length rows.kinds = subst (λ rs. rows_width rs ≤ length rows.kinds) (sym c.as_slice-list.ensures) rows.rows_known in
    let k : length c.as_slice-kinds.result.now ≡ length rows.kinds = ap length c.as_slice-kinds.ensures in
    omega (arith, l, k)

pub whole_cost-requires : goal.whole_cost-requires
whole_cost-requires c =
    let rows = c.args.rows.now in
    let l = rows.objective_known in
    let k : length c.as_slice-kinds.result.now ≡ length rows.kinds = ap length c.as_slice-kinds.ensures in
    omega (arith, l, k)

pub returns-in_err-made-clause-stops : goal.returns-in_err-made-clause-stops
returns-in_err-made-clause-stops c =
    let p = err_from_is_err_and c.from_residual.result c.from_residual.ensures.1 in
    let rows = c.args.rows.now in
    let k : length c.as_slice-kinds.result.now ≡ length rows.kinds = ap length c.as_slice-kinds.ensures in
    let same : passing_from 0 (map (row_made (length c.as_slice-kinds.result.now)) c.as_slice-list.result.now) ≡ passing_from 0 (map (row_made (length rows.kinds)) rows.rows) =
    ap₂ (λ n rs. passing_from 0 (map (row_made n) rs)) k c.as_slice-list.ensures in
    rw (p.1, p.2)
    (rows_stop (given rows.kinds rows.rows rows.objective) c.requires c.in_err-made.field-0.0 (subst (StopsAt c.in_err-made.field-0.0) same c.in_err-made.ensures.stops))

pub returns-in_err-cost-clause-stops : goal.returns-in_err-cost-clause-stops
returns-in_err-cost-clause-stops c =
    let p = err_from_is_err_and c.from_residual-in_err-cost.result c.from_residual-in_err-cost.ensures.1 in
    let rows = c.args.rows.now in
    let k : length c.as_slice-kinds.result.now ≡ length rows.kinds = ap length c.as_slice-kinds.ensures in
    rw (p.1, p.2)
    (cost_stop (given rows.kinds rows.rows rows.objective) c.requires c.in_ok-made.made.items c.whole_cost.result _
    (c.in_ok-made.ensures.rows ∙ ap₂ (λ n rs. map (row_made n) rs) k c.as_slice-list.ensures)
    (ap (λ l. result_at l c.whole_cost.result) (sym (ap length c.as_slice-list.ensures)) ∙ sym c.at_row.ensures ∙ c.in_err-cost.was)
    (subst (λ n. Gives c.whole_cost.result (λ a. a ≡ cost_made n rows.objective)) k c.whole_cost.ensures.made))

pub returns-clause-whole : goal.returns-clause-whole
returns-clause-whole c =
    let rows = c.args.rows.now in
    let k : length c.as_slice-kinds.result.now ≡ length rows.kinds = ap length c.as_slice-kinds.ensures in
    record {
      sparse = subst (All (λ (r : Row Frac). IsSparseForm r.form)) c.as_slice-list.ensures c.in_ok-made.ensures.sparse;
      sparse_cost = c.whole_cost.ensures.sparse;
      are = sym (c.in_ok-made.ensures.rows ∙ ap₂ (λ n rs. map (row_made n) rs) k c.as_slice-list.ensures);
      cost = ap (λ n. cost_made n rows.objective) (sym k) ∙ gives_so _ c.whole_cost.result c.in_ok-cost.cost (cost_made (length c.as_slice-kinds.result.now) rows.objective)
          (sym c.at_row.ensures ∙ c.in_ok-cost.was) c.whole_cost.ensures.made;
    }
