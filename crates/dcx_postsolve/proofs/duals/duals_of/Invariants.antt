-- The arrays so far, with any that the rest have, are those of all; where the rest passes first, all pass first; and the rows of
-- the rest are there.
use Rattle.std.proofs.Common.{◌≡◌, ◌+◌, ◌≤◌, ◌++◌, List, length, drop}
use Rattle.std.specs.Prelude.{sum_by}
use Rattle.dcx_atom.specs.declared.array.Array.{Array}
use Rattle.dcx_lp_answer.specs.Multipliers.{passing_from}
use Rattle.dcx_unknowns.specs.Layout.{constraint_rows}
use Rattle.dcx_postsolve.specs.Duals.{all_multipliers, AreDuals}
use Rattle.dcx_postsolve.proofs.duals.duals_of.Given as goal

abbrev pub invariant-constraints : goal.invariant-constraints
invariant-constraints l = record {
  made : (es : List Array) → AreDuals l.answer.status (drop l.constraint-index l.constraints) (drop l.next l.answer.rows) es
      → AreDuals l.answer.status l.constraints l.answer.rows (l.duals.items ++ es);
  passing : passing_from l.next (all_multipliers l.answer.status (drop l.constraint-index l.constraints) (drop l.next l.answer.rows))
      ≡ passing_from 0 (all_multipliers l.answer.status l.constraints l.answer.rows);
  rows : l.next + sum_by constraint_rows (drop l.constraint-index l.constraints) ≤ length l.answer.rows;
}
