-- Where the making of a program stops, and what it has made in the end.
use Rattle.std.proofs.Common.{◌≡◌, suc, ◌+◌, List, [], ◌∷◌, ◌++◌, length, map, Result, Ok, Err, Some, refl, sym, ap, ap₂, ◌∙◌, arith, inl, inr}
use Rattle.dcx_std.specs.GivenRows.{GivenRows}
use Rattle.dcx_answer.specs.declared.site.Site.TheVariants as sites
use Rattle.dcx_linear.specs.declared.stop.CoefStop.{CoefStop}
use Rattle.dcx_linear.specs.Stops.{Gives}
use Rattle.dcx_tab.specs.declared.rows.ColumnKind.{ColumnKind}
use Rattle.dcx_tab.specs.declared.rows.IntRow.{IntRow}
use Rattle.dcx_tab.specs.declared.rows.CostRow.{CostRow}
use Rattle.dcx_tab.specs.Program.{plain_count}
use Rattle.dcx_std.specs.declared.stop.RowStop.{RowStop}
use Rattle.dcx_std.specs.declared.stop.RowStop.TheVariants as stops
use Rattle.dcx_std.specs.declared.whole.WholeRow.{WholeRow}
use Rattle.dcx_std.specs.WholeRows.{row_made, cost_made}
use Rattle.dcx_std.specs.Columns.{columns_of}
use Rattle.dcx_std.specs.IntegerRows.{start_of, AreMadeOf, phase_made, passing_from, result_at, StopsAt, IsFitting, IsStopOf}
use Rattle.dcx_std.proofs.ProgramForm.{wholes_count}
use Rattle.dcx_std.proofs.Making.{passing_here, passing_none, passing_front, stops_so}

module _ (rows : GivenRows) (fits : IsFitting rows) where
  -- a row passes
  pub rows_stop : (e : RowStop) → StopsAt e (passing_from 0 (map (row_made (length rows.kinds)) rows.rows)) → IsStopOf rows e
  rows_stop (stops.Wide site) h = (fits, inl (passing_front 0 (map (row_made (length rows.kinds)) rows.rows) (cost_made (length rows.kinds) rows.objective ∷ []) site h))
  rows_stop (stops.TooLarge r c) h = absurd h
  rows_stop stops.Memory h = fits

  -- the objective row passes
  pub cost_stop : (ws : List WholeRow) (r : Result WholeRow CoefStop) (e : RowStop) → map Ok ws ≡ map (row_made (length rows.kinds)) rows.rows → result_at (length rows.rows) r ≡ Err e
      → Gives r (λ a. a ≡ cost_made (length rows.kinds) rows.objective) → IsStopOf rows e
  cost_stop ws r e made h g =
      stops_so (length rows.rows) r e (IsStopOf rows) (cost_made (length rows.kinds) rows.objective) h g fits
      (λ passes f.
      let count : 0 + length ws ≡ length rows.rows = omega (arith, wholes_count (length rows.kinds) rows.rows ws (sym made)) in
      (fits, inl (ap₂ (λ a b. passing_from 0 (a ++ b ∷ [])) (sym made) f ∙ passing_here 0 ws passes [] ∙ ap (λ k. Some (sites.Row k passes)) count)))

  -- the phase 1 row passes
  pub phase_stop : (ws : List WholeRow) (w : WholeRow) (columns : List ColumnKind) (ints : List IntRow) (r : Result CostRow CoefStop) (e : RowStop)
      → map Ok ws ≡ map (row_made (length rows.kinds)) rows.rows → cost_made (length rows.kinds) rows.objective ≡ Ok w
      → columns ≡ columns_of rows.kinds (map (start_of (length rows.kinds)) ws) → AreMadeOf columns (length rows.kinds) 0 ws ints → result_at (suc (length rows.rows)) r ≡ Err e
      → Gives r (λ a. a ≡ phase_made (plain_count columns) (length columns) ints) → IsStopOf rows e
  phase_stop ws w columns ints r e made cost are int h g =
      stops_so (suc (length rows.rows)) r e (IsStopOf rows) (phase_made (plain_count columns) (length columns) ints) h g fits
      (λ passes f. (
        fits,
        inr (record {
          before = ap₂ (λ a b. passing_from 0 (a ++ b ∷ [])) (sym made) cost ∙ passing_none 0 ws w;
          columns = columns;
          ints = ints;
          integer = record { made = ws; are = sym made; has_columns = are; ints_are = int };
          passes = passes;
          here = f;
          at = refl;
        }),
      ))
