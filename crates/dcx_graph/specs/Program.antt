-- The program of a problem whose nodes are formed: its rows, what is to be small, the kinds of its unknowns, and where each row
-- comes from.
use Rattle.std.specs.Prelude.{◌≡◌, ◌⊎◌, ℕ, suc, ◌+◌, List, [], ◌∷◌, ◌++◌, length, map, Option, Some, Result, Ok, Err, slice_get, slice_index_or, negsuc}
use Rattle.dcx_math.specs.Rational.{whole}
use Rattle.dcx_frac.specs.declared.fraction.Frac.{Frac}
use Rattle.dcx_frac.specs.declared.fraction.Passes.{Passes}
use Rattle.dcx_atom.specs.Arrays.{list_below}
use Rattle.dcx_atom.specs.Formed.{frac_at}
use Rattle.dcx_convex.specs.Rules.{Rules}
use Rattle.dcx_tree.specs.declared.constraint.Constraint.{Constraint}
use Rattle.dcx_tree.specs.declared.constraint.Sense.{Sense}
use Rattle.dcx_tree.specs.declared.constraint.Sense.TheVariants.{Minimize, Maximize}
use Rattle.dcx_tree.specs.declared.problem.Problem.{Problem}
use Rattle.dcx_linear.specs.declared.change.Change.{Change}
use Rattle.dcx_linear.specs.declared.change.Change.TheVariants.{Scale}
use Rattle.dcx_linear.specs.declared.form.Form.{Form}
use Rattle.dcx_linear.specs.declared.row.Row.{Row}
use Rattle.dcx_linear.specs.declared.row.RowKind.{RowKind}
use Rattle.dcx_linear.specs.declared.row.RowKind.TheVariants as rows
use Rattle.dcx_linear.specs.declared.row.UnknownKind.{UnknownKind}
use Rattle.dcx_linear.specs.Forms.{change_gives_linear}
use Rattle.dcx_linear.specs.Parts.{adds_part}
use Rattle.dcx_unknowns.specs.Layout.{constraint_rows, unknown_kinds}
use Rattle.dcx_entries.specs.declared.formed.FormedRow.{FormedRow}
use Rattle.dcx_entries.specs.Forming.{FormsEach}
use Rattle.dcx_entries.specs.Parts.{zero_form}
use Rattle.dcx_entries.specs.Nodes.{Table, table_forms}
use Rattle.dcx_entries.specs.Kept.{graph_rows}
use Rattle.dcx_postsolve.specs.Duals.{row_kind}
use Rattle.dcx_graph.specs.declared.constraint.ConstraintEntry.{ConstraintEntry}
use Rattle.dcx_graph.specs.declared.origin.Origin.{Origin}
use Rattle.dcx_graph.specs.declared.origin.Origin.TheVariants as origins

-- a program, and where each of its rows comes from
pub record Program (C : Type 0) : Type 0 where
  pub rows : List (Row C)
  pub objective : Form C
  pub kinds : List UnknownKind
  pub origins : List Origin

-- the fraction -1
abbrev pub minus_one : Frac
minus_one = frac_at (whole (negsuc 0))

-- ---- the entries of constraints
-- the entries of constraint k
abbrev pub entries_in : ℕ → Constraint → List ConstraintEntry
entries_in k c = list_below (constraint_rows c) (λ e. record { constraint = k; entry = e; kind = row_kind c.kind; left = c.left; right = c.right })

-- those of these constraints, which are counted from k, in row-major order
abbrev pub entries_from : ℕ → List Constraint → List ConstraintEntry
entries_from k [] = []
entries_from k (c ∷ cs) = entries_in k c ++ entries_from (suc k) cs

-- those of the constraints of a problem
abbrev pub constraint_entries : Problem → List ConstraintEntry
constraint_entries p = entries_from 0 p.constraints

-- ---- where rows come from
abbrev pub entry_origin : ConstraintEntry → Origin
entry_origin x = origins.Constraint x.constraint x.entry

abbrev pub graph_origin : {C : Type 0} → FormedRow C → Origin
graph_origin r = origins.Graph r.node r.entry r.row

-- first the rows of the constraints, and then those of the graphs
abbrev pub origins_of : {C : Type 0} → List ConstraintEntry → List (FormedRow C) → List Origin
origins_of xs graph = map entry_origin xs ++ map graph_origin graph

-- ---- forms
-- the form of entry e of node a, and 0 past its end
abbrev pub form_at : {C : Type 0} → (Frac → C) → List (List (Form C)) → ℕ → ℕ → Form C
form_at of_number forms a e = slice_index_or (slice_index_or forms a []) e (zero_form of_number)

-- what is to be small, where the form of the objective is f: what is to be large is scaled by -1
abbrev pub Least : {C : Type 0} → (C → Option Frac) → (Change → C → Result C Passes → Type 0) → Sense → Form C → Result (Form C) Passes → Type 0
Least number_of Changes Minimize f r = r ≡ Ok f
Least number_of Changes Maximize f r = change_gives_linear number_of Changes (Scale minus_one) f r

-- ---- rows
-- the row of a graph
abbrev pub graph_row : {C : Type 0} → FormedRow C → Row C
graph_row r = record { kind = rows.AtMost; form = r.form }

-- what passes, passes at row n
abbrev pub AtRow : {A : Type 0} → ℕ → (Result A Passes → Type 0) → Result A (ℕ × Passes) → Type 0
AtRow n F (Ok x) = F (Ok x)
AtRow n F (Err stop) = (stop.0 ≡ n) × F (Err stop.1)

-- a row of this kind, where F says what forming its form answers
abbrev pub OfKind : {C : Type 0} → RowKind → (Result (Form C) Passes → Type 0) → Result (Row C) Passes → Type 0
OfKind kind F (Ok r) = (r.kind ≡ kind) × F (Ok r.form)
OfKind kind F (Err passes) = F (Err passes)

module _ {C : Type 0} (of_number : Frac → C) (number_of : C → Option Frac) (Sums : C → C → Result C Passes → Type 0) (Changes : Change → C → Result C Passes → Type 0) where
  -- what forming the row of an entry of a constraint answers: left minus right, which is scaled by -1 and added
  abbrev pub EntryRow : List (List (Form C)) → ConstraintEntry → Result (Row C) Passes → Type 0
  EntryRow forms x r = OfKind x.kind (adds_part number_of Sums Changes (form_at of_number forms x.left.0 x.entry) (Scale minus_one) (form_at of_number forms x.right.0 x.entry)) r

  -- the same of row n, which is that of one of these entries
  abbrev pub RowOf : List (List (Form C)) → List ConstraintEntry → ℕ → Result (Row C) (ℕ × Passes) → Type 0
  RowOf forms xs n r = (x : ConstraintEntry) × (slice_get xs n ≡ Some x) × AtRow n (EntryRow forms x) r

  -- the rows of these entries in order, up to the first that passes
  abbrev pub EntryRows : List (List (Form C)) → List ConstraintEntry → Result (List (Row C)) (ℕ × Passes) → Type 0
  EntryRows forms xs r = FormsEach (RowOf forms xs) (length xs) r

  -- what is to be small
  abbrev pub Objective : Problem → List (List (Form C)) → Result (Form C) Passes → Type 0
  Objective p forms r = Least number_of Changes p.sense (form_at of_number forms p.objective.0 0) r

  -- ---- where the forms of the nodes, the rows of their graphs and the kinds of the unknowns are these
  module _ (p : Problem) (forms : List (List (Form C))) (graph : List (FormedRow C)) where
    -- the rows of the constraints, and then those of the graphs
    pub record IsProgramWith (kinds : List UnknownKind) (q : Program C) : Type 0 where
      pub constraints : List (Row C)
      pub constraints_are : EntryRows forms (constraint_entries p) (Ok constraints)
      pub rows_are : q.rows ≡ constraints ++ map graph_row graph
      pub objective_is : Objective p forms (Ok q.objective)
      pub kinds_are : q.kinds ≡ kinds
      pub origins_are : q.origins ≡ origins_of (constraint_entries p) graph

    -- the objective counts as the row behind all others
    abbrev pub objective_row : ℕ
    objective_row = length (constraint_entries p) + length graph

    -- the first operation that passes, with its row: at a row of a constraint, or else at the objective
    abbrev pub IsRowStopWith : ℕ × Passes → Type 0
    IsRowStopWith stop =
        EntryRows forms (constraint_entries p) (Err stop)
        ⊎ (((constraints : List (Row C)) × EntryRows forms (constraint_entries p) (Ok constraints)) × AtRow objective_row (Objective p forms) (Err stop))

    -- the program, or the first operation that passes
    abbrev pub GivesProgramWith : List UnknownKind → Result (Program C) (ℕ × Passes) → Type 0
    GivesProgramWith kinds (Ok q) = IsProgramWith kinds q
    GivesProgramWith kinds (Err stop) = IsRowStopWith stop

  -- ---- by the rules
  -- the program of a problem whose nodes are formed
  abbrev pub IsProgram : Rules → Problem → Table C → Program C → Type 0
  IsProgram rules p table q = IsProgramWith p (table_forms table) (graph_rows of_number table) (unknown_kinds rules p) q

  -- it, or the first operation that passes, with its row
  abbrev pub GivesProgram : Rules → Problem → Table C → Result (Program C) (ℕ × Passes) → Type 0
  GivesProgram rules p table r = GivesProgramWith p (table_forms table) (graph_rows of_number table) (unknown_kinds rules p) r
