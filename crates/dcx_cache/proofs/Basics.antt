-- The columns that are kept.
use Rattle.std.proofs.Common.{◌≡◌, ℕ, ◌+◌, ◌-◌, ◌<◌, ◌≤◌, List, length, get_or, take, Option, Some, None, arith, refl, sym, ap, subst, ◌∙◌}
use Rattle.std.proofs.lemmas.List.{get_or-take, length-take}
use Rattle.std.proofs.Math.Nat.{min-le_left}
use Rattle.dcx_tree.specs.declared.problem.Problem.{Problem}
use Rattle.dcx_answer.specs.declared.answer.Answer.{Answer}
use Rattle.dcx_answer.specs.declared.answer.Answer.TheVariants.{Optimal, Infeasible, Unbounded}
use Rattle.dcx_tab.specs.declared.program.Program as tab
use Rattle.dcx_tab.specs.Table.{Table}
use Rattle.dcx_chained.specs.Tables.{table_of}
use Rattle.dcx_lp_answer.specs.declared.answer.LpAnswer.{LpAnswer}
use Rattle.dcx_simplex.specs.declared.run.LpEnd.{LpEnd}
use Rattle.dcx_simplex.specs.declared.run.LpEnd.TheVariants as ends
use Rattle.dcx_simplex.specs.Readable.{IsReadable}
use Rattle.dcx_simplex.specs.Reading.{IsRead}
use Rattle.dcx_simplex.specs.Whole.{RunEnds}
use Rattle.dcx_simplex.proofs.Ended.{shown_optimal, shown_infeasible, shown_unbounded}
use Rattle.dcx_tab.specs.First.{first_tableau}
use Rattle.dcx_graph.specs.Answers.{IsSameAnswer}
use Rattle.dcx_lp_solve.specs.declared.solving.Solved.{Solved}
use Rattle.dcx_lp_solve.specs.Solved.{IsRunSolved}
use Rattle.dcx_warm.specs.Install.{AreApart}
use Rattle.dcx_cache.specs.Columns.{basic_columns, columns_after, kept_or, HoldsApart}

-- ---- none stands twice
at_most : (n : ℕ) (columns : List ℕ) → length (take n columns) ≤ n
at_most n columns = subst (λ k. k ≤ n) (sym (length-take n columns)) (min-le_left n (length columns))

module _ (t : Table) (readable : IsReadable t) where
  there : (i : ℕ) → i < length (basic_columns t) → i + 2 < length t.rows
  there i h = let l = at_most (length t.rows - 2) t.basis in omega (arith, h, l)

  at : (i : ℕ) → i < length (basic_columns t) → get_or (basic_columns t) i 0 ≡ get_or t.basis i 0
  at i h = let l = there i h in get_or-take (length t.rows - 2) t.basis i 0 (omega (arith, l))

  pub apart : AreApart (basic_columns t)
  apart i k h l e = readable.apart i k (there i h) (there k l) (sym (at i h) ∙ e ∙ at k l)

-- what is kept holds none twice
holds_after : (before : Option (List ℕ)) (a : Answer) (t : Table) → HoldsApart before → AreApart (basic_columns t) → HoldsApart (columns_after before a t)
holds_after before (Optimal v x m) t h k = k
holds_after before (Infeasible m g) t h k = h
holds_after before (Unbounded x d b e) t h k = h

pub still_apart : (before after : Option (List ℕ)) (a : Answer) (t : Table) → IsReadable t → after ≡ columns_after before a t → HoldsApart before → HoldsApart after
still_apart before after a t readable e h = subst HoldsApart (sym e) (holds_after before a t h (apart t readable))

-- what is kept is the columns of this answer, or those from before
kept_is : (before : Option (List ℕ)) (a : Answer) (t : Table) → kept_or (columns_after None a t) before ≡ columns_after before a t
kept_is before (Optimal v x m) t = refl
kept_is before (Infeasible m g) t = refl
kept_is before (Unbounded x d b e) t = refl

pub renewed : (before anew after : Option (List ℕ)) (a : Answer) (t : Table) → after ≡ kept_or anew before → anew ≡ columns_after None a t → after ≡ columns_after before a t
renewed before anew after a t e f = e ∙ ap (λ c. kept_or c before) f ∙ kept_is before a t

-- ---- the tableau of an answer can be read
readable_at : (limit : ℕ) (p : tab.Program) (t : Table) (e : LpEnd) (a : LpAnswer) → RunEnds limit (first_tableau p) t e → IsRead p.rows p.columns t e a → IsReadable t
readable_at limit p t (ends.Optimal n) a run read = (shown_optimal p t limit n run).readable
readable_at limit p t (ends.Infeasible n) a run read = (shown_infeasible p t limit n run).readable
readable_at limit p t (ends.Unbounded n c) a run read = (shown_unbounded p t limit n c run).readable
readable_at limit p t (ends.Wide n r c) a run read = absurd read
readable_at limit p t (ends.PivotLimit n) a run read = absurd read

pub solved_readable : (limit : ℕ) (s : Solved) → IsRunSolved limit s.program s → IsReadable (table_of s.tableau)
solved_readable limit s h = readable_at limit s.program (table_of s.tableau) h.end s.answer h.run h.read

-- ---- one list
-- answers that are the same, read at one tableau, leave the same columns
pub one_after : (p : Problem) (before : Option (List ℕ)) (a b : Answer) (t u : Table) → IsSameAnswer p a b → t ≡ u → columns_after before a t ≡ columns_after before b u
one_after p before (Optimal v x m) (Optimal w y n) t u same e = ap (λ z. Some (basic_columns z)) e
one_after p before (Optimal v x m) (Infeasible n g) t u same e = absurd same
one_after p before (Optimal v x m) (Unbounded y d b f) t u same e = absurd same
one_after p before (Infeasible m g) (Optimal w y n) t u same e = absurd same
one_after p before (Infeasible m g) (Infeasible n h) t u same e = refl
one_after p before (Infeasible m g) (Unbounded y d b f) t u same e = absurd same
one_after p before (Unbounded x d b f) (Optimal w y n) t u same e = absurd same
one_after p before (Unbounded x d b f) (Infeasible n g) t u same e = absurd same
one_after p before (Unbounded x d b f) (Unbounded y c a g) t u same e = refl
