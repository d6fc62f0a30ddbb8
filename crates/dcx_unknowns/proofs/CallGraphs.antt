-- The auxiliary unknowns and the rows of a call: where they hold, its graph does, and its filling makes them hold.
use Rattle.std.proofs.Common.{◌≡◌, ℕ, suc, List, [], ◌∷◌, length, map, Some, refl, sym, ◌∙◌, pos}
use Rattle.dcx_math.specs.Rational.{whole, ◌≤ℚ◌}
use Rattle.dcx_shape.specs.declared.shape.Sides.{Sides}
use Rattle.dcx_shape.specs.Sides.{entries_of}
use Rattle.dcx_atom.specs.Arrays.{Entries}
use Rattle.dcx_atom.specs.Rows.{Filling, Row, row_at, form_at, RowsHold, KindsHold}
use Rattle.dcx_atom.specs.Graph.{PlacedRow}
use Rattle.dcx_atom.specs.Bounding.{free_kinds}
use Rattle.dcx_convex.specs.Nodes.{Numbers, Point, Setting, zeros, first_of, arguments, value_by}
use Rattle.dcx_call.specs.declared.call.Call.{Call}
use Rattle.dcx_call.specs.declared.call.Call.TheVariants as calls
use Rattle.dcx_call.specs.Atoms.{atom_meaning, atom_lawful}
use Rattle.dcx_call.specs.Calls.{shape_of}
use Rattle.dcx_tree.specs.Nodes.{Names, Node, head_of, arg_sides}
use Rattle.dcx_unknowns.specs.Layout.{call_aux, call_rows}
use Rattle.dcx_unknowns.specs.Equations.{call_entry}
use Rattle.dcx_unknowns.proofs.Lists.{Each, each_nil, each_cons, each_joined, joined_part, each_map, each_unmap}
use Rattle.dcx_atom.proofs.OwnTerms.{Agree, rows_same, form_same}
use Rattle.dcx_unknowns.proofs.CallEntries.{CallHolds, first_same, direct_value}

-- a row is at most 0
abbrev pub RowHolds : Entries → Filling → PlacedRow → Type 0
RowHolds a t r = row_at r.row a t ≤ℚ whole (pos 0)

rows_hold : (rows : List Row) (a : Entries) (t : Filling) → Each (λ row. row_at row a t ≤ℚ whole (pos 0)) rows → RowsHold rows a t
rows_hold [] a t h = tt
rows_hold (row ∷ rows) a t h = (h 0 row refl, rows_hold rows a t (λ k. h (suc k)))

each_holds : (rows : List Row) (a : Entries) (t : Filling) → RowsHold rows a t → Each (λ row. row_at row a t ≤ℚ whole (pos 0)) rows
each_holds [] a t h = each_nil (λ row. row_at row a t ≤ℚ whole (pos 0))
each_holds (row ∷ rows) a t h = each_cons (λ row. row_at row a t ≤ℚ whole (pos 0)) row rows h.0 (each_holds rows a t h.1)

-- auxiliary unknowns under which the results of an atom are its value
abbrev pub call_filling : Call → List Sides → Entries → Filling
call_filling (calls.Variable v) args a = zeros
call_filling (calls.Parameter q) args a = zeros
call_filling (calls.Constant c) args a = zeros
call_filling (calls.Atom m) args a = (atom_meaning m).filling args a
call_filling (calls.Linear l) args a = zeros
call_filling (calls.Pairing q) args a = zeros

-- a call that isn't a number by the rules
abbrev pub IsReducible : Call → Type 0
IsReducible (calls.Variable v) = Unit {0}
IsReducible (calls.Parameter q) = Unit {0}
IsReducible (calls.Constant c) = ⊥
IsReducible (calls.Atom m) = Unit {0}
IsReducible (calls.Linear l) = Unit {0}
IsReducible (calls.Pairing q) = Unit {0}

module _ (nodes : List Node) (n : Node) where
  abbrev args : List Sides
  args = arg_sides nodes n

  -- where unknowns are of their kinds and rows hold, the graph holds
  pub graph_holds : (call : Call) (a : Entries) (t : Filling) → KindsHold (call_aux nodes n call) t → Each (RowHolds a t) (call_rows nodes n call) → CallHolds call args (entries_of n.sides) a t
  graph_holds (calls.Variable v) a t kinds rows = tt
  graph_holds (calls.Parameter q) a t kinds rows = tt
  graph_holds (calls.Constant c) a t kinds rows = tt
  graph_holds (calls.Atom m) a t kinds rows = record {
    kinds = kinds;
    rows = λ j b. rows_hold ((atom_meaning m).rows args j) a t
        (each_unmap (RowHolds a t) (λ row. record { entry = j; row = row }) ((atom_meaning m).rows args j)
        (joined_part (RowHolds a t) (entries_of n.sides) (λ j. map (λ row. record { entry = j; row = row }) ((atom_meaning m).rows args j)) rows j b));
  }
  graph_holds (calls.Linear l) a t kinds rows = tt
  graph_holds (calls.Pairing q) a t kinds rows = tt

  module _ (a : Entries) where
    -- the filling is of its kinds
    pub filled_kinds : (call : Call) → shape_of call args ≡ Some n.sides → KindsHold (call_aux nodes n call) (call_filling call args a)
    filled_kinds (calls.Variable v) e = λ k z. absurd (free_kinds 0 k z)
    filled_kinds (calls.Parameter q) e = λ k z. absurd (free_kinds 0 k z)
    filled_kinds (calls.Constant c) e = λ k z. absurd (free_kinds 0 k z)
    filled_kinds (calls.Atom m) e = ((atom_lawful m).tightness args n.sides e a).holds.kinds
    filled_kinds (calls.Linear l) e = λ k z. absurd (free_kinds 0 k z)
    filled_kinds (calls.Pairing q) e = λ k z. absurd (free_kinds 0 k z)

    module _ (t : Filling) where
      -- the rows hold at unknowns that are those of the filling
      pub filled_rows : (call : Call) → shape_of call args ≡ Some n.sides → Agree (length (call_aux nodes n call)) (call_filling call args a) t → Each (RowHolds a t) (call_rows nodes n call)
      filled_rows (calls.Variable v) e same = each_nil (RowHolds a t)
      filled_rows (calls.Parameter q) e same = each_nil (RowHolds a t)
      filled_rows (calls.Constant c) e same = each_nil (RowHolds a t)
      filled_rows (calls.Atom m) e same =
          each_joined (RowHolds a t) (entries_of n.sides) (λ j. map (λ row. record { entry = j; row = row }) ((atom_meaning m).rows args j))
          (λ j b. each_map (RowHolds a t) (λ row. record { entry = j; row = row }) ((atom_meaning m).rows args j)
          (each_holds ((atom_meaning m).rows args j) a t
          (rows_same (length ((atom_meaning m).kinds args)) ((atom_meaning m).rows args j) a ((atom_meaning m).filling args a) t (((atom_lawful m).own_unknowns args n.sides e).rows j b) same
          (((atom_lawful m).tightness args n.sides e a).holds.rows j b))))
      filled_rows (calls.Linear l) e same = each_nil (RowHolds a t)
      filled_rows (calls.Pairing q) e same = each_nil (RowHolds a t)

  -- and there each entry is that of the value
  pub filled_value : (names : Names) (s : Setting) (x : Point) (call : Call) → IsReducible call → (fs : List Numbers) (t : Filling) → shape_of call args ≡ Some n.sides →
      Agree (length (call_aux nodes n call)) (call_filling call args (arguments fs)) t → (j : ℕ) →
      first_of (entries_of n.sides) (call_entry names s x call args (arguments fs) t) j ≡ value_by s x (head_of names call args n.sides) fs j
  filled_value names s x (calls.Variable v) r fs t e same j = direct_value names s x (calls.Variable v) tt args n.sides fs t e j
  filled_value names s x (calls.Parameter q) r fs t e same j = direct_value names s x (calls.Parameter q) tt args n.sides fs t e j
  filled_value names s x (calls.Constant c) r fs t e same j = absurd r
  filled_value names s x (calls.Atom m) r fs t e same j =
      let a = arguments fs in
      first_same (entries_of n.sides) (λ k. form_at ((atom_meaning m).result args k) t) ((atom_meaning m).value args a) j
      (λ b. sym (form_same (length ((atom_meaning m).kinds args)) ((atom_meaning m).result args j) ((atom_meaning m).filling args a) t (((atom_lawful m).own_unknowns args n.sides e).results j b) same)
      ∙ ((atom_lawful m).tightness args n.sides e a).reaches j b)
  filled_value names s x (calls.Linear l) r fs t e same j = direct_value names s x (calls.Linear l) tt args n.sides fs t e j
  filled_value names s x (calls.Pairing q) r fs t e same j = direct_value names s x (calls.Pairing q) tt args n.sides fs t e j
