-- What is kept of the nodes of a problem once all are formed.
use Rattle.std.specs.Prelude.{◌≡◌, ℕ, List, [], length, Option, Result, slice_index_or}
use Rattle.std.specs.List.{All}
use Rattle.dcx_frac.specs.declared.fraction.Frac.{Frac}
use Rattle.dcx_frac.specs.declared.fraction.Passes.{Passes}
use Rattle.dcx_atom.specs.Arrays.{list_below, joined_below}
use Rattle.dcx_point.specs.Pairs.{Pairs}
use Rattle.dcx_unknowns.specs.Rules.{Rules}
use Rattle.dcx_unknowns.specs.problem.Problem.{Problem}
use Rattle.dcx_unknowns.specs.Problems.{roots_of}
use Rattle.dcx_linear.specs.declared.change.Change.{Change}
use Rattle.dcx_entries.specs.declared.entries.EntryForms.{EntryForms}
use Rattle.dcx_entries.specs.declared.stop.FormStop.{FormStop}
use Rattle.dcx_entries.specs.declared.stop.FormStop.TheVariants as stops
use Rattle.dcx_atom.specs.declared.stops.ValueStop.TheVariants as values
use Rattle.dcx_entries.specs.declared.formed.FormedRow.{FormedRow}
use Rattle.dcx_entries.specs.declared.formed.Formed.{Formed}
use Rattle.dcx_entries.specs.Parts.{zero_form}
use Rattle.dcx_entries.specs.Entries.{alone}
use Rattle.dcx_entries.specs.Standing.{all_forms}
use Rattle.dcx_entries.specs.Nodes.{Table, table_forms, AreFormed, IsFirstStop}

module _ {C : Type 0} (of_number : Frac → C) where
  -- the rows of entry j of node i, in order
  abbrev pub entry_rows : ℕ → ℕ → EntryForms C → List (FormedRow C)
  entry_rows i j e = list_below (length e.rows) (λ k. record { node = record { 0 = i }; entry = j; row = k; form = slice_index_or e.rows k (zero_form of_number) })

  -- those of node i, by entry
  abbrev pub node_rows : ℕ → List (EntryForms C) → List (FormedRow C)
  node_rows i es = joined_below (length es) (λ j. entry_rows i j (slice_index_or es j (alone (zero_form of_number))))

  -- those of all nodes, by node
  abbrev pub graph_rows : Table C → List (FormedRow C)
  graph_rows table = joined_below (length table) (λ i. node_rows i (slice_index_or table i []))

module _ {C : Type 0} (of_number : Frac → C) (number_of : C → Option Frac) (Sums : C → C → Result C Passes → Type 0) (Changes : Change → C → Result C Passes → Type 0)
    (Reads : ℕ → List ℕ → ℕ → Pairs → C → Type 0) (rules : Rules) (p : Problem) (setting : Pairs) where
  -- all nodes are formed: the forms of those with which the problem begins are kept, and all rows
  pub record IsKept (f : Formed C) : Type 0 where
    pub table : Table C
    pub formed : AreFormed of_number number_of Sums Changes Reads rules p setting (length p.tree) table
    pub roots : All (λ a. slice_index_or (all_forms of_number f.standing) a [] ≡ slice_index_or (table_forms table) a []) (roots_of p.objective p.constraints)
    pub rows : f.rows ≡ graph_rows of_number table

  -- why they aren't: the first node and entry that stops, or want of memory
  abbrev pub IsStop : FormStop → Type 0
  IsStop (stops.Passes node entry passes) = IsFirstStop of_number number_of Sums Changes Reads rules p setting (length p.tree) (record { node = node.0; stop = values.Passes entry passes })
  IsStop (stops.ZeroDivisor node entry) = IsFirstStop of_number number_of Sums Changes Reads rules p setting (length p.tree) (record { node = node.0; stop = values.ZeroDivisor entry })
  IsStop stops.Memory = Unit {0}
