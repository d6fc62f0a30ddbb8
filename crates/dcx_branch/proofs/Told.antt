-- What the answer of a node's rows has: notes of its rows, and numbers of columns that tell those of the unknowns.
use Rattle.std.proofs.Common.{◌≡◌, ℕ, ◌+◌, ◌≤◌, arith, List, length, map, ap, ◌∙◌, length-append}
use Rattle.std.specs.Prelude.{sum_by}
use Rattle.std.proofs.lemmas.List.{length-map}
use Rattle.dcx_frac.specs.declared.fraction.Frac.{Frac}
use Rattle.dcx_frac.specs.Frac.{value}
use Rattle.dcx_tree.specs.declared.problem.Problem.{Problem}
use Rattle.dcx_chained.specs.Tables.{table_of}
use Rattle.dcx_std.proofs.ScaledProgram.{scaled_program}
use Rattle.dcx_std.proofs.RightAnswers.{one_sided}
use Rattle.dcx_lp_solve.specs.declared.solving.Solved.{Solved}
use Rattle.dcx_lp_solve.specs.Solved.{IsSolved}
use Rattle.dcx_lp_solve.proofs.Counts.{HasCounts, counts_of}
use Rattle.dcx_lp_solve.proofs.Right.{answers_are_right}
use Rattle.dcx_unknowns.specs.Layout.{constraint_rows}
use Rattle.dcx_postsolve.proofs.ColumnParts.{columns_tell}
use Rattle.dcx_graph.specs.Program.{Program}
use Rattle.dcx_branch.specs.declared.bound.BoundAt.{BoundAt}
use Rattle.dcx_branch.specs.Rows.{bound_rows, node_rows}
use Rattle.dcx_branch.specs.Taken.{HasNotes, TellsUnknowns}
use Rattle.dcx_branch.proofs.Shown.{rows_counted}

module _ (q : Program Frac) (limit : ℕ) (bs : List BoundAt) (s : Solved) (is : IsSolved limit (node_rows q bs) s) where
  counts : HasCounts s.program s.answer
  counts = counts_of s.program (table_of s.tableau) is.solved.end s.answer is.solved.read

  pub notes_count : length s.answer.rows ≡ length q.rows + length bs
  notes_count =
      let count = (scaled_program (node_rows q bs) s.program is.made).count in
      counts.rows ∙ count ∙ length-append q.rows (bound_rows bs) ∙ ap (λ n. length q.rows + n) (rows_counted bs)

  pub has_notes : (p : Problem) → sum_by constraint_rows p.constraints ≤ length q.rows → HasNotes p s.answer (length q.rows) bs
  has_notes p enough =
      let count = notes_count in
      let few = is.made.fits.0 in
      let same = length-append q.rows (bound_rows bs) ∙ ap (λ n. length q.rows + n) (rows_counted bs) in
      record { constraints = omega (arith, count, enough); rows = omega (arith, count); few = omega (arith, count, few, same) }

  pub tells : TellsUnknowns q.kinds s.program s.answer
  tells =
      let t = columns_tell (node_rows q bs) s.program (map value s.answer.columns) is.made (length-map s.answer.columns value ∙ counts.columns) in
      record {
        columns = record { there = t.there; one_sided = t.one_sided (one_sided s.answer.status s.program s.answer (answers_are_right limit (node_rows q bs) s is)) };
        same = t.same;
      }
