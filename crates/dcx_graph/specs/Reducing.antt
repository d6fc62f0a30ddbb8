-- The reduced program of a problem at a setting, or the first thing that stops it: too many rows or columns, then the first node
-- and entry that can't be formed, then the first row that can't.
use Rattle.std.specs.Prelude.{ℕ, ◌<◌, List, length, Option, Result, Ok, Err}
use Rattle.dcx_frac.specs.declared.fraction.Frac.{Frac}
use Rattle.dcx_frac.specs.declared.fraction.Passes.{Passes}
use Rattle.dcx_shape.specs.Shape.{sides_of}
use Rattle.dcx_shape.specs.Sides.{entries_of}
use Rattle.dcx_atom.specs.declared.stops.ValueStop.{ValueStop}
use Rattle.dcx_atom.specs.declared.stops.ValueStop.TheVariants as values
use Rattle.dcx_point.specs.Pairs.{Pairs}
use Rattle.dcx_arena.specs.Nodes.{IsNode}
use Rattle.dcx_call.specs.declared.call.Call.{Call}
use Rattle.dcx_call.specs.declared.call.Call.TheVariants as calls
use Rattle.dcx_call.specs.Values.{HasArray}
use Rattle.dcx_convex.specs.Rules.{Rules, Plain, Parametrized}
use Rattle.dcx_tree.specs.declared.problem.Problem.{Problem}
use Rattle.dcx_tree.specs.Nodes.{Node}
use Rattle.dcx_answer.specs.declared.site.Site.{Site}
use Rattle.dcx_answer.specs.declared.site.Site.TheVariants as sites
use Rattle.dcx_linear.specs.declared.change.Change.{Change}
use Rattle.dcx_unknowns.specs.declared.stop.LayoutStop.{LayoutStop}
use Rattle.dcx_unknowns.specs.declared.stop.LayoutStop.TheVariants as layouts
use Rattle.dcx_unknowns.specs.Layout.{is_reduced, row_count, column_count, AreFew, IsTooLarge}
use Rattle.dcx_entries.specs.declared.stop.FormStop.{FormStop}
use Rattle.dcx_entries.specs.declared.stop.FormStop.TheVariants as forms
use Rattle.dcx_entries.specs.Nodes.{Table, AreFormed, IsFirstStop}
use Rattle.dcx_graph.specs.declared.stop.ReduceStop.{ReduceStop}
use Rattle.dcx_graph.specs.declared.stop.ReduceStop.TheVariants as stops
use Rattle.dcx_graph.specs.Program.{Program, IsProgram, GivesProgram}

-- ---- what must be given
-- a parameter has an array of its shape where it is a number, and its entries may be asked for where it is affine
abbrev pub IsGivenFor : Rules → (Pairs → List ℕ → ℕ → Type 0) → Pairs → Call → Type 0
IsGivenFor rules can_read setting (calls.Variable v) = Unit {0}
IsGivenFor Plain can_read setting (calls.Parameter q) = HasArray setting q.name (sides_of q.shape)
IsGivenFor Parametrized can_read setting (calls.Parameter q) = (j : ℕ) → j < entries_of (sides_of q.shape) → can_read setting q.name j
IsGivenFor rules can_read setting (calls.Constant x) = Unit {0}
IsGivenFor rules can_read setting (calls.Atom m) = Unit {0}
IsGivenFor rules can_read setting (calls.Linear l) = Unit {0}
IsGivenFor rules can_read setting (calls.Pairing q) = Unit {0}

-- each parameter of the problem
abbrev pub ParametersAreGiven : Rules → (Pairs → List ℕ → ℕ → Type 0) → Problem → Pairs → Type 0
ParametersAreGiven rules can_read p setting = (i : ℕ) (n : Node) → IsNode p.tree i n → IsGivenFor rules can_read setting n.call

-- ---- stops of the parts
abbrev pub layout_stop : LayoutStop → ReduceStop
layout_stop (layouts.TooLarge rows columns) = stops.TooLarge rows columns
layout_stop layouts.Memory = stops.Memory

abbrev pub form_stop : FormStop → ReduceStop
form_stop (forms.Passes node entry passes) = stops.Wide (sites.Node node entry passes)
form_stop (forms.ZeroDivisor node entry) = stops.ZeroDivisor node entry
form_stop forms.Memory = stops.Memory

-- ---- the program, or the first stop
module _ {C : Type 0} (of_number : Frac → C) (number_of : C → Option Frac) (Sums : C → C → Result C Passes → Type 0) (Changes : Change → C → Result C Passes → Type 0)
    (Reads : ℕ → List ℕ → ℕ → Pairs → C → Type 0) (rules : Rules) (p : Problem) (setting : Pairs) where
  -- there are few rows and columns, and all nodes are formed
  pub record HasNodes : Type 0 where
    pub few : AreFew (row_count rules p) (column_count rules p)
    pub table : Table C
    pub formed : AreFormed of_number number_of Sums Changes Reads rules p setting (length p.tree) table

  -- the program is theirs
  pub record IsReducedTo (q : Program C) : Type 0 where
    pub nodes : HasNodes
    pub program : IsProgram of_number number_of Sums Changes rules p nodes.table q

  -- the first operation that passes at a row
  pub record StopsAtRow (row : ℕ) (passes : Passes) : Type 0 where
    pub nodes : HasNodes
    pub stop : GivesProgram of_number number_of Sums Changes rules p nodes.table (Err (row, passes))

  -- the first thing that stops at a node
  pub record StopsAtNode (node : ℕ) (stop : ValueStop) : Type 0 where
    pub few : AreFew (row_count rules p) (column_count rules p)
    pub first : IsFirstStop of_number number_of Sums Changes Reads rules p setting (length p.tree) (record { node = node; stop = stop })

  abbrev pub StopsAtSite : Site → Type 0
  StopsAtSite (sites.Node node entry passes) = StopsAtNode node.0 (values.Passes entry passes)
  StopsAtSite (sites.Row row passes) = StopsAtRow row passes
  StopsAtSite (sites.Map row passes) = ⊥
  StopsAtSite (sites.Pivot pivots row column) = ⊥
  StopsAtSite (sites.Answer row passes) = ⊥

  -- what reducing answers
  abbrev pub Reduces : Result (Program C) ReduceStop → Type 0
  Reduces (Ok q) = IsReducedTo q
  Reduces (Err (stops.TooLarge rows columns)) = IsTooLarge p (is_reduced rules p) rows columns
  Reduces (Err (stops.ZeroDivisor node entry)) = StopsAtNode node.0 (values.ZeroDivisor entry)
  Reduces (Err (stops.Wide site)) = StopsAtSite site
  Reduces (Err stops.Memory) = ⊥

-- the answer is one that reducing has, seen through a view, or memory ran out
abbrev pub OrMemory : {A B : Type 0} → Result A ReduceStop → (A → B) → (Result B ReduceStop → Type 0) → Type 0
OrMemory (Ok x) view P = P (Ok (view x))
OrMemory (Err (stops.TooLarge rows columns)) view P = P (Err (stops.TooLarge rows columns))
OrMemory (Err (stops.ZeroDivisor node entry)) view P = P (Err (stops.ZeroDivisor node entry))
OrMemory (Err (stops.Wide site)) view P = P (Err (stops.Wide site))
OrMemory (Err stops.Memory) view P = Unit {0}
