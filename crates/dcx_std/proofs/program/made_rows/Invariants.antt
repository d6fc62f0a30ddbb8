-- The rows so far are made whole, and their forms are sparse.
use Rattle.std.proofs.Common.{◌≡◌, map, take, Ok}
use Rattle.std.specs.List.{All}
use Rattle.dcx_std.specs.WholeRows.{row_made, IsSparseForm}
use Rattle.dcx_std.proofs.program.made_rows.Given as goal

abbrev pub invariant-rows : goal.invariant-rows
invariant-rows l = record {
  made : map Ok l.made.items ≡ map (row_made l.count) (take l.index l.rows);
  sparse : All (λ r. IsSparseForm r.form) (take l.index l.rows);
}
