-- What is formed so far, and what stops it.
use Rattle.std.specs.Prelude.{◌≡◌, ℕ, ◌<◌, Bool, List, [], length, Option, Some, Result, slice_get, slice_index_or}
use Rattle.dcx_frac.specs.declared.fraction.Frac.{Frac}
use Rattle.dcx_frac.specs.declared.fraction.Passes.{Passes}
use Rattle.dcx_atom.specs.declared.stops.ValueStop.{ValueStop}
use Rattle.dcx_atom.specs.declared.stops.ValueStop.TheVariants as values
use Rattle.dcx_point.specs.Pairs.{Pairs}
use Rattle.dcx_arena.specs.declared.node.NodeId.{NodeId}
use Rattle.dcx_arena.specs.Nodes.{sides_at}
use Rattle.dcx_convex.specs.Rules.{Rules}
use Rattle.dcx_tree.specs.declared.problem.Problem.{Problem}
use Rattle.dcx_linear.specs.declared.change.Change.{Change}
use Rattle.dcx_entries.specs.declared.formed.Formed.{Formed}
use Rattle.dcx_entries.specs.declared.standing.Standing.{Standing}
use Rattle.dcx_entries.specs.declared.standing.Standing.TheVariants.{Forms}
use Rattle.dcx_entries.specs.declared.stop.FormStop.{FormStop}
use Rattle.dcx_entries.specs.declared.stop.FormStop.TheVariants as stops
use Rattle.dcx_entries.specs.Standing.{all_forms}
use Rattle.dcx_entries.specs.Nodes.{Table, table_forms, AreFormed, IsFirstStop}
use Rattle.dcx_entries.specs.Kept.{graph_rows, IsKept, IsStop}
use Rattle.dcx_nodes.specs.declared.forming.Forming.{Forming}
use Rattle.dcx_nodes.specs.Marks.{AreMarks}
use Rattle.dcx_nodes.specs.Given.{first_marked}
use Rattle.dcx_nodes.specs.Formed.{IsOfSides}
use Rattle.dcx_nodes.specs.Uses.{IsUse, IsUsedFrom}

-- what stops a node, with the node
abbrev pub stop_of : NodeId → ValueStop → FormStop
stop_of node (values.Passes entry passes) = stops.Passes node entry passes
stop_of node (values.ZeroDivisor entry) = stops.ZeroDivisor node entry
stop_of node values.Memory = stops.Memory

module _ {C : Type 0} (of_number : Frac → C) (number_of : C → Option Frac) (Sums : C → C → Result C Passes → Type 0) (Changes : Change → C → Result C Passes → Type 0)
    (Reads : ℕ → List ℕ → ℕ → Pairs → C → Type 0) (p : Problem) (setting : Pairs) (reduced fixed : List Bool) where
  -- the first k nodes are formed, by all rules whose marks these are, and their rows are kept. The forms of a node stand for it
  -- while it is still asked for; behind its last use they are given back
  pub record AreFormedTo (k : ℕ) (f : Forming C) : Type 0 where
    pub table : Table C
    pub formed : (rules : Rules) → AreMarks rules p reduced fixed → AreFormed of_number number_of Sums Changes Reads rules p setting k table
    pub forms : (a : ℕ) → a < k → IsUsedFrom p k a → slice_index_or (all_forms of_number f.standing.items) a [] ≡ slice_index_or (table_forms table) a []
    pub sides : (a : ℕ) (s : Standing C) → IsUsedFrom p k a → slice_get f.standing.items a ≡ Some s → IsOfSides (sides_at p.tree a) s
    pub given_back : (a i : ℕ) → IsUse p a i → ¬ IsUsedFrom p k a → slice_get f.standing.items a ≡ Some (Forms [])
    pub rows : f.rows.items ≡ graph_rows of_number table
    pub table_count : length table ≡ k
    pub count : length f.standing.items ≡ k
    pub next : f.next ≡ first_marked p reduced k

  -- node i is the first that isn't formed
  abbrev pub StopsAt : ℕ → ValueStop → Type 0
  StopsAt i stop = (rules : Rules) → AreMarks rules p reduced fixed → IsFirstStop of_number number_of Sums Changes Reads rules p setting (length p.tree) (record { node = i; stop = stop })

  -- all nodes are formed, and what is kept of them
  abbrev pub IsMarkedKept : Formed C → Type 0
  IsMarkedKept f = (rules : Rules) → AreMarks rules p reduced fixed → IsKept of_number number_of Sums Changes Reads rules p setting f

  -- why the nodes aren't formed
  abbrev pub IsMarkedStop : FormStop → Type 0
  IsMarkedStop e = (rules : Rules) → AreMarks rules p reduced fixed → IsStop of_number number_of Sums Changes Reads rules p setting e
