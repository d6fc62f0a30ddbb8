-- A problem is reduced in one way: to one program, or to one stop.
use Rattle.std.proofs.Common.{◌≡◌, ◌⊎◌, ℕ, length, List, Option, Result, Ok, Err, inl, inr, refl, sym, ap, ap₂, ◌∙◌, subst}
use Rattle.dcx_frac.specs.declared.fraction.Frac.{Frac}
use Rattle.dcx_frac.specs.declared.fraction.Passes.{Passes}
use Rattle.dcx_atom.specs.declared.stops.ValueStop.{ValueStop}
use Rattle.dcx_atom.specs.declared.stops.ValueStop.TheVariants as values
use Rattle.dcx_point.specs.Pairs.{Pairs}
use Rattle.dcx_convex.specs.Rules.{Rules}
use Rattle.dcx_tree.specs.declared.problem.Problem.{Problem}
use Rattle.dcx_answer.specs.declared.site.Site.TheVariants as sites
use Rattle.dcx_linear.specs.declared.change.Change.{Change}
use Rattle.dcx_linear.specs.Size.{capped}
use Rattle.dcx_unknowns.specs.Layout.{row_count, column_count, AreFew}
use Rattle.dcx_entries.specs.Nodes.{Table, NodeStop, NodesGive}
use Rattle.dcx_graph.specs.declared.stop.ReduceStop.{ReduceStop}
use Rattle.dcx_graph.specs.declared.stop.ReduceStop.TheVariants as stops
use Rattle.dcx_graph.specs.Program.{Program, GivesProgram}
use Rattle.dcx_graph.specs.Reducing.{Reduces}

module _ {C : Type 0} (of_number : Frac → C) (number_of : C → Option Frac) (Sums : C → C → Result C Passes → Type 0) (Changes : Change → C → Result C Passes → Type 0)
    (Reads : ℕ → List ℕ → ℕ → Pairs → C → Type 0) (rules : Rules) (p : Problem) (setting : Pairs)
    (one_forming : (r s : Result (Table C) NodeStop) → NodesGive of_number number_of Sums Changes Reads rules p setting (length p.tree) r
    → NodesGive of_number number_of Sums Changes Reads rules p setting (length p.tree) s → r ≡ s)
    (one_program : (table : Table C) (r s : Result (Program C) (ℕ × Passes)) → GivesProgram of_number number_of Sums Changes rules p table r
    → GivesProgram of_number number_of Sums Changes rules p table s → r ≡ s) where
  -- what is told where a node stops, and of what its rows answer
  abbrev at_node : ℕ → ValueStop → ReduceStop
  at_node node (values.Passes entry passes) = stops.Wide (sites.Node (record { 0 = node }) entry passes)
  at_node node (values.ZeroDivisor entry) = stops.ZeroDivisor (record { 0 = node }) entry
  at_node node values.Memory = stops.Memory

  abbrev at_row : Result (Program C) (ℕ × Passes) → Result (Program C) ReduceStop
  at_row (Ok q) = Ok q
  at_row (Err stop) = Err (stops.Wide (sites.Row stop.0 stop.1))

  -- what follows the nodes
  abbrev Follows : Result (Table C) NodeStop → Result (Program C) ReduceStop → Type 0
  Follows (Ok table) r = (q : Result (Program C) (ℕ × Passes)) × GivesProgram of_number number_of Sums Changes rules p table q × (r ≡ at_row q)
  Follows (Err e) r = r ≡ Err (at_node e.node e.stop)

  one_follows : (nodes : Result (Table C) NodeStop) (r s : Result (Program C) ReduceStop) → Follows nodes r → Follows nodes s → r ≡ s
  one_follows (Ok table) r s (q, gives, is) (k, also, are) = is ∙ ap at_row (one_program table q k gives also) ∙ sym are
  one_follows (Err e) r s is are = is ∙ sym are

  -- too many rows or columns, or what the nodes answer
  abbrev Stage : Result (Program C) ReduceStop → Type 0
  Stage r =
      (¬ AreFew (row_count rules p) (column_count rules p) × (r ≡ Err (stops.TooLarge (capped (row_count rules p)) (capped (column_count rules p)))))
      ⊎ (AreFew (row_count rules p) (column_count rules p) × (nodes : Result (Table C) NodeStop) × NodesGive of_number number_of Sums Changes Reads rules p setting (length p.tree) nodes
      × Follows nodes r)

  staged : (r : Result (Program C) ReduceStop) → Reduces of_number number_of Sums Changes Reads rules p setting r → Stage r
  staged (Ok q) h = inr (h.nodes.few, Ok h.nodes.table, h.nodes.formed, (Ok q, h.program, refl))
  staged (Err (stops.TooLarge rows columns)) h = inl (h.many, ap₂ (λ a b. Err (stops.TooLarge a b)) h.rows_told h.columns_told)
  staged (Err (stops.ZeroDivisor node entry)) h = inr (h.few, Err (record { node = node.0; stop = values.ZeroDivisor entry }), h.first, refl)
  staged (Err (stops.Wide (sites.Node node entry passes))) h = inr (h.few, Err (record { node = node.0; stop = values.Passes entry passes }), h.first, refl)
  staged (Err (stops.Wide (sites.Row row passes))) h = inr (h.nodes.few, Ok h.nodes.table, h.nodes.formed, (Err (row, passes), h.stop, refl))
  staged (Err (stops.Wide (sites.Map row passes))) h = absurd h
  staged (Err (stops.Wide (sites.Pivot pivots row column))) h = absurd h
  staged (Err (stops.Wide (sites.Answer row passes))) h = absurd h
  staged (Err stops.Memory) h = absurd h

  one_stage : (r s : Result (Program C) ReduceStop) → Stage r → Stage s → r ≡ s
  one_stage r s (inl (many, is)) (inl (also, are)) = is ∙ sym are
  one_stage r s (inl (many, is)) (inr h) = absurd (many h.0)
  one_stage r s (inr h) (inl (many, is)) = absurd (many h.0)
  one_stage r s (inr (few, nodes, gives, is)) (inr (again, others, also, are)) =
      one_follows others r s (subst (λ n. Follows n r) (one_forming nodes others gives also) is) are

  pub one_reduction : (r s : Result (Program C) ReduceStop) → Reduces of_number number_of Sums Changes Reads rules p setting r → Reduces of_number number_of Sums Changes Reads rules p setting s
      → r ≡ s
  one_reduction r s h k = one_stage r s (staged r h) (staged s k)
