-- The row of the cells is that of the tableau.
use Rattle.std.proofs.Common.{arith, ◌≡◌, ℕ, ◌<◌, ◌≤ℤ◌, ◌<ℤ◌, pos, Option, Some, None, IfSome, IfNone, sym, subst}
use Rattle.dcx_tab.specs.Rows.{Row, entry, row_at}
use Rattle.dcx_tab.specs.Table.{Table, IsFirstPositive, NonePositive}
use Rattle.dcx_links.specs.Matrix.{row_of}
use Rattle.dcx_chained.specs.Tables.{table_of}
use Rattle.dcx_chained.proofs.RowReads.{length-rows_of, row_at-rows_of}
use Rattle.dcx_chained.proofs.chained.ChainedTableau.first_positive.Goals as goal

module _ (t : Table) (r : ℕ) (row : Row) (is : row_at t.rows r ≡ row) where
  first_of : (found : Option ℕ) → IfSome found (λ c. c < t.plain) → IfSome found (λ c. pos 0 <ℤ entry row c) → IfSome found (λ c. (k : ℕ) → k < c → entry row k ≤ℤ pos 0)
      → IfSome found (λ c. IsFirstPositive t r c)
  first_of None below positive first = tt
  first_of (Some c) below positive first = record {
    column = below;
    eligible = subst (λ w. pos 0 <ℤ entry w c) (sym is) positive;
    least = λ k lt. subst (λ w. entry w k ≤ℤ pos 0) (sym is) (first k lt);
  }

  none_of : (found : Option ℕ) → IfNone found ((k : ℕ) → k < t.plain → entry row k ≤ℤ pos 0) → IfNone found (NonePositive t r)
  none_of None none = λ k lt. subst (λ w. entry w k ≤ℤ pos 0) (sym is) (none k lt)
  none_of (Some c) none = tt

pub first_positive-requires-clause-row : goal.first_positive-requires-clause-row
first_positive-requires-clause-row c = let l = length-rows_of c.args.self.now.links in let r = c.requires in omega (arith, l, r)

pub returns-clause-found : goal.returns-clause-found
returns-clause-found c =
    let m = c.args.self.now.links in
    let l = length-rows_of m in
    let r = c.requires in
    let is = row_at-rows_of m c.args.row (omega (arith, l, r)) in
    let f = c.first_positive.ensures in
    first_of (table_of c.args.self.now) c.args.row (row_of m c.args.row) is c.first_positive.result f.below f.positive f.first

pub returns-clause-none : goal.returns-clause-none
returns-clause-none c =
    let m = c.args.self.now.links in
    let l = length-rows_of m in
    let r = c.requires in
    let is = row_at-rows_of m c.args.row (omega (arith, l, r)) in
    none_of (table_of c.args.self.now) c.args.row (row_of m c.args.row) is c.first_positive.result c.first_positive.ensures.none
