-- The cells, read as rows, are those of the first tableau.
use Rattle.std.proofs.Common.{arith, ap, length, ◌+◌, ◌*◌, ◌≡◌, sym, ◌∙◌, subst}
use Rattle.dcx_tab.specs.Rows.{AllSmall}
use Rattle.dcx_tab.specs.Cells.{row_of, table_rows}
use Rattle.dcx_tab.specs.Program.{plain_count}
use Rattle.dcx_tab.proofs.Programs.{few_in_all, length_basis, plain_count_le, cells_length, cells_rows, cells_small, same_table}
use Rattle.dcx_tab.proofs.dense.Dense.build.Goals as goal

pub overflow_cast-result-2 : goal.overflow_cast-result-2
overflow_cast-result-2 c =
    let p = c.args.program.now in
    let few = few_in_all p.rows p.columns p.objective p.phase p.form in
    record { fits = omega (arith, few, ap length c.as_slice-kinds.ensures) }

pub invariant_of-result : goal.invariant_of-result
invariant_of-result c =
    let p = c.args.program.now in
    let few = few_in_all p.rows p.columns p.objective p.phase p.form in
    let cells = c.in_ok-cells.cells.items in
    let kinds = ap length c.as_slice-kinds.ensures in
    let rows = ap length c.as_slice.ensures in
    let same : (length p.rows + 2) * (length p.columns + 3) ≡ (length c.as_slice.result.now + 2) * (length c.as_slice-kinds.result.now + 3) = ap
    (λ n. (n + 2) * (length p.columns + 3)) (sym rows) ∙ ap (λ n. (length c.as_slice.result.now + 2) * (n + 3)) (sym kinds) in
    record {
      size = cells_length p.rows p.columns p.objective p.phase p.form cells c.in_ok-cells.ensures ∙ same;
      scratch_size = (let s = c.in_ok-scratch.scratch.ok in let e = c.in_ok-scratch.ensures.len in omega (arith, s, e));
      basis_size = ap length c.in_ok-basis.ensures ∙ length_basis p.rows p.columns p.objective p.phase p.form ∙ ap (λ n. n + 2) (sym rows);
      row_count = omega (arith, rows, p.form.few_rows);
      column_count = omega (arith, kinds, few);
      plain_below = (let l = plain_count_le p.columns in let e = c.plain_of.ensures ∙ ap plain_count c.as_slice-kinds.ensures in omega (arith, l, e, kinds));
      small = λ i h. subst (λ n. AllSmall (row_of (n + 3) cells i)) (sym kinds) (cells_small p.rows p.columns p.objective p.phase p.form cells c.in_ok-cells.ensures i (omega (arith, h, rows)));
    }

pub returns : goal.returns
returns c =
    let p = c.args.program.now in
    let cells = c.in_ok-cells.cells.items in
    let kinds = ap length c.as_slice-kinds.ensures in
    let rows = ap length c.as_slice.ensures in
    same_table _ _
    (ap (λ n. table_rows (n + 3) (length c.as_slice.result.now + 2) cells) kinds ∙ ap (λ n. table_rows (length p.columns + 3) (n + 2) cells) rows
    ∙ cells_rows p.rows p.columns p.objective p.phase p.form cells c.in_ok-cells.ensures)
    c.in_ok-basis.ensures kinds (c.plain_of.ensures ∙ ap plain_count c.as_slice-kinds.ensures)
