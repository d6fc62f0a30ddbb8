-- What is formed of one node.
use Rattle.std.specs.Prelude.{◌≡◌, ℕ, Bool, List, map, length, Option, Some, Result, Ok, Err, slice_get}
use Rattle.std.specs.List.{All}
use Rattle.dcx_frac.specs.declared.fraction.Frac.{Frac}
use Rattle.dcx_frac.specs.declared.fraction.Passes.{Passes}
use Rattle.dcx_shape.specs.declared.shape.Sides.{Sides}
use Rattle.dcx_shape.specs.Shape.{sides_of}
use Rattle.dcx_shape.specs.Sides.{entries_of}
use Rattle.dcx_atom.specs.declared.array.Array.{Array}
use Rattle.dcx_atom.specs.declared.stops.ValueStop.{ValueStop}
use Rattle.dcx_point.specs.Pairs.{Pairs}
use Rattle.dcx_arena.specs.Nodes.{IsNode, sides_at}
use Rattle.dcx_convex.specs.Rules.{Rules}
use Rattle.dcx_tree.specs.declared.problem.Problem.{Problem}
use Rattle.dcx_tree.specs.Nodes.{Node, arg_sides}
use Rattle.dcx_linear.specs.declared.change.Change.{Change}
use Rattle.dcx_linear.specs.declared.form.Form.{Form}
use Rattle.dcx_linear.specs.Forms.{is_constant}
use Rattle.dcx_entries.specs.declared.entries.EntryForms.{EntryForms}
use Rattle.dcx_entries.specs.declared.standing.Standing.{Standing}
use Rattle.dcx_entries.specs.declared.standing.Standing.TheVariants.{Numbers, Forms}
use Rattle.dcx_entries.specs.Forming.{FormsEach, OnStop}
use Rattle.dcx_entries.specs.Entries.{alone}
use Rattle.dcx_entries.specs.Standing.{args_among}
use Rattle.dcx_entries.specs.Nodes.{NumberEntry, ReducedEntry, NodeEntry}
use Rattle.dcx_nodes.specs.Marks.{AreMarks}

-- the entries of a value: numbers, without rows
abbrev pub value_entries : {C : Type 0} → (Frac → C) → Array → List (EntryForms C)
value_entries of_number x = map (λ n. alone (is_constant (of_number n))) x.entries

-- the entries of what stands for a node
abbrev pub entries_in : {C : Type 0} → (Frac → C) → Standing C → List (EntryForms C)
entries_in of_number (Numbers x) = value_entries of_number x
entries_in of_number (Forms es) = es

-- it has the sides of the node, or as many entries
abbrev pub IsOfSides : {C : Type 0} → Sides → Standing C → Type 0
IsOfSides sides (Numbers x) = sides_of x.shape ≡ sides
IsOfSides sides (Forms es) = length es ≡ entries_of sides

-- what stands for each of these nodes has
abbrev pub AreOfSides : {C : Type 0} → List Node → List (Standing C) → List ℕ → Type 0
AreOfSides nodes standing ids = All (λ a. (s : Standing _) → slice_get standing a ≡ Some s → IsOfSides (sides_at nodes a) s) ids

-- what stands for a node, as what is formed of its entries
abbrev pub StandingBy : {C : Type 0} → (Frac → C) → Result (Standing C) ValueStop → (Result (List (EntryForms C)) ValueStop → Type 0) → Type 0
StandingBy of_number (Ok s) P = P (Ok (entries_in of_number s))
StandingBy of_number (Err stop) P = OnStop stop (λ e. P (Err e))

-- the same of a value
abbrev pub ValueBy : {C : Type 0} → (Frac → C) → Result Array ValueStop → (Result (List (EntryForms C)) ValueStop → Type 0) → Type 0
ValueBy of_number (Ok x) P = P (Ok (value_entries of_number x))
ValueBy of_number (Err stop) P = OnStop stop (λ e. P (Err e))

-- entries, or a value, that stand for a node
abbrev pub as_forms : {C : Type 0} → Result (List (EntryForms C)) ValueStop → Result (Standing C) ValueStop
as_forms (Ok es) = Ok (Forms es)
as_forms (Err stop) = Err stop

abbrev pub as_value : {C : Type 0} → Result Array ValueStop → Result (Standing C) ValueStop
as_value (Ok x) = Ok (Numbers x)
as_value (Err stop) = Err stop

module _ {C : Type 0} (of_number : Frac → C) (number_of : C → Option Frac) (Sums : C → C → Result C Passes → Type 0) (Changes : Change → C → Result C Passes → Type 0)
    (Reads : ℕ → List ℕ → ℕ → Pairs → C → Type 0) (p : Problem) (setting : Pairs) where
  -- node i as a number, where these forms stand for the nodes before it
  abbrev pub ValueGives : List (List (Form C)) → ℕ → Result (List (EntryForms C)) ValueStop → Type 0
  ValueGives forms i r = (rules : Rules) (n : Node) → IsNode p.tree i n →
      FormsEach (NumberEntry of_number number_of Sums Changes Reads rules p setting n.call (arg_sides p.tree n) (args_among of_number forms n.args)) (entries_of n.sides) r

  -- node i where it is reduced, by all rules whose marks these are
  abbrev pub ReducedGives : List Bool → List Bool → List (List (Form C)) → ℕ → Result (List (EntryForms C)) ValueStop → Type 0
  ReducedGives reduced fixed forms i r = (rules : Rules) → AreMarks rules p reduced fixed → (n : Node) → IsNode p.tree i n →
      FormsEach (ReducedEntry of_number number_of Sums Changes Reads rules p setting forms i n.args n.call (arg_sides p.tree n)) (entries_of n.sides) r

  -- node i
  abbrev pub MarkedGives : List Bool → List Bool → List (List (Form C)) → ℕ → Result (List (EntryForms C)) ValueStop → Type 0
  MarkedGives reduced fixed forms i r = (rules : Rules) → AreMarks rules p reduced fixed → (n : Node) → IsNode p.tree i n →
      FormsEach (NodeEntry of_number number_of Sums Changes Reads rules p setting forms i n) (entries_of n.sides) r
