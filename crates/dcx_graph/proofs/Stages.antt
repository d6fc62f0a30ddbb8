-- What the stages of a reduction answer is what the reduction answers.
use Rattle.std.proofs.Common.{ℕ, ◌<◌, ◌^◌, arith, List, length, Option, Result, Ok, Err, sym, subst, inl, inr}
use Rattle.dcx_frac.specs.declared.fraction.Frac.{Frac}
use Rattle.dcx_frac.specs.declared.fraction.Passes.{Passes}
use Rattle.dcx_point.specs.Pairs.{Pairs}
use Rattle.dcx_answer.specs.declared.site.Site.TheVariants as sites
use Rattle.dcx_convex.specs.Rules.{Rules}
use Rattle.dcx_tree.specs.declared.problem.Problem.{Problem}
use Rattle.dcx_linear.specs.declared.change.Change.{Change}
use Rattle.dcx_std.proofs.Making.{kinds_few}
use Rattle.dcx_unknowns.specs.declared.stop.LayoutStop.{LayoutStop}
use Rattle.dcx_unknowns.specs.declared.stop.LayoutStop.TheVariants as layouts
use Rattle.dcx_unknowns.specs.Layout.{kinds_with, rows_with, columns_with, row_count, column_count, AreFew, IsLayoutStop}
use Rattle.dcx_entries.specs.declared.stop.FormStop.{FormStop}
use Rattle.dcx_entries.specs.declared.stop.FormStop.TheVariants as forms
use Rattle.dcx_entries.specs.Nodes.{Table, AreFormed}
use Rattle.dcx_entries.specs.Kept.{IsStop}
use Rattle.dcx_graph.specs.declared.stop.ReduceStop.{ReduceStop}
use Rattle.dcx_graph.specs.Program.{GivesProgram}
use Rattle.dcx_graph.specs.Reduced.{Reduction}
use Rattle.dcx_graph.specs.Stops.{IsWideAt, TellsBy}
use Rattle.dcx_graph.specs.Reducing.{layout_stop, form_stop, Reduces, OrMemory}

pub unknowns_few : (p : Problem) (reduced : ℕ → _) → AreFew (rows_with p reduced) (columns_with p reduced) → length (kinds_with p reduced) < 2 ^ 32
unknowns_few p reduced few = let a = kinds_few (kinds_with p reduced) in let b = few.few_columns in omega (arith, a, b)

module _ {C : Type 0} (of_number : Frac → C) (number_of : C → Option Frac) (Sums : C → C → Result C Passes → Type 0) (Changes : Change → C → Result C Passes → Type 0)
    (Reads : ℕ → List ℕ → ℕ → Pairs → C → Type 0) (rules : Rules) (p : Problem) (setting : Pairs) where
  -- the answer of the reduction
  abbrev pub Answers : Result (Reduction C) ReduceStop → Type 0
  Answers r = OrMemory r (λ q. q.program) (Reduces of_number number_of Sums Changes Reads rules p setting)

  pub layout_answers : (e : LayoutStop) → IsLayoutStop rules p e → Answers (Err (layout_stop e))
  layout_answers (layouts.TooLarge rows columns) h = h
  layout_answers layouts.Memory h = tt

  module _ (few : AreFew (row_count rules p) (column_count rules p)) where
    pub form_answers : (e : FormStop) → IsStop of_number number_of Sums Changes Reads rules p setting e → Answers (Err (form_stop e))
    form_answers (forms.Passes node entry passes) h = record { few = few; first = h }
    form_answers (forms.ZeroDivisor node entry) h = record { few = few; first = h }
    form_answers forms.Memory h = tt

    module _ (table : Table C) (formed : AreFormed of_number number_of Sums Changes Reads rules p setting (length p.tree) table) where
      row_answers : (e : ReduceStop) → IsWideAt (λ row passes. sites.Row row passes) (λ s. GivesProgram of_number number_of Sums Changes rules p table (Err s)) e → Answers (Err e)
      row_answers e (inl (s, is, stop)) = subst (λ d. Answers (Err d)) (sym is) (record { nodes = record { few = few; table = table; formed = formed }; stop = stop })
      row_answers e (inr is) = subst (λ d. Answers (Err d)) (sym is) tt

      pub program_answers : (r : Result (Reduction C) ReduceStop) → TellsBy (λ row passes. sites.Row row passes) r (λ q. q.program) (GivesProgram of_number number_of Sums Changes rules p table)
          → Answers r
      program_answers (Ok q) h = record { nodes = record { few = few; table = table; formed = formed }; program = h }
      program_answers (Err e) h = row_answers e h
