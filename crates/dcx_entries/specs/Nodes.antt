-- The forms of the nodes of a problem, one node after the other, as they are formed in 128 bits from those of their arguments:
-- up to the first entry with an operation that passes, or with a divisor that is 0.
use Rattle.std.specs.Prelude.{◌≡◌, ℕ, ◌<◌, Bool, true, false, not, ◌&&◌, if◌then◌else◌, List, [], length, map, Option, Some, None, Result, Ok, Err, slice_get, slice_index_or}
use Rattle.std.specs.List.{list_all}
use Rattle.dcx_frac.specs.declared.fraction.Frac.{Frac}
use Rattle.dcx_frac.specs.declared.fraction.Passes.{Passes}
use Rattle.dcx_frac.specs.Frac.{value}
use Rattle.dcx_shape.specs.declared.shape.Sides.{Sides}
use Rattle.dcx_shape.specs.Sides.{entries_of}
use Rattle.dcx_atom.specs.declared.stops.ValueStop.{ValueStop}
use Rattle.dcx_atom.specs.Arrays.{Entries, sides_at}
use Rattle.dcx_affine.specs.declared.pairing.Pairing.{Pairing}
use Rattle.dcx_affine.specs.declared.pairing.Pairing.TheVariants.{Times, MatTimes, Over}
use Rattle.dcx_affine.specs.Pairing.{pairs_at}
use Rattle.dcx_point.specs.Pairs.{Pairs}
use Rattle.dcx_arena.specs.Nodes.{IsNode}
use Rattle.dcx_unknowns.specs.call.Call.{Call}
use Rattle.dcx_unknowns.specs.call.Call.TheVariants as calls
use Rattle.dcx_unknowns.specs.Atoms.{atom_meaning}
use Rattle.dcx_unknowns.specs.Linears.{linear_meaning}
use Rattle.dcx_unknowns.specs.Values.{given_by, entry_formed}
use Rattle.dcx_unknowns.specs.Rules.{Rules, Plain, judgement_at}
use Rattle.dcx_unknowns.specs.problem.Problem.{Problem}
use Rattle.dcx_unknowns.specs.Nodes.{Node, number_in as number_of_name, arg_sides}
use Rattle.dcx_unknowns.specs.Meaning.{names_in, convex_problem}
use Rattle.dcx_unknowns.specs.Unknowns.{first_unknown, unknown_from}
use Rattle.dcx_unknowns.specs.Layout.{is_reduced, first_aux}
use Rattle.dcx_linear.specs.declared.change.Change.{Change}
use Rattle.dcx_linear.specs.declared.form.FormTerm.{FormTerm}
use Rattle.dcx_linear.specs.declared.form.Form.{Form}
use Rattle.dcx_linear.specs.Forms.{is_constant}
use Rattle.dcx_entries.specs.declared.entries.EntryForms.{EntryForms}
use Rattle.dcx_entries.specs.declared.scaling.Side.{Side}
use Rattle.dcx_entries.specs.declared.scaling.Scaling.{Scaling}
use Rattle.dcx_entries.specs.declared.scaling.Scaling.TheVariants.{LeftNumber, RightNumber, LeftAffine, RightAffine, Divisor}
use Rattle.dcx_entries.specs.Forming.{FormsEach, AtEntry}
use Rattle.dcx_entries.specs.Parts.{Arguments, form_of_unknown, term_part, aux_part, row_part, number_in}
use Rattle.dcx_entries.specs.Entries.{alone, entry_forms, ParameterEntry, LinearEntry, AtomEntry, PairEntry}
use Rattle.dcx_entries.specs.Standing.{args_among}

-- ---- which side of a product scales the other
-- the number is told
abbrev pub is_told : Option Frac → Bool
is_told None = false
is_told (Some x) = true

-- the constant and each coefficient is a number
abbrev pub has_numbers : {C : Type 0} → (C → Option Frac) → Form C → Bool
has_numbers number_of f = is_told (number_of f.constant) && list_all (λ (t : FormTerm _). is_told (number_of t.coefficient)) f.terms

-- a side that is a number scales the other one. Where there is none, a side that reaches no variable is an affine number, which
-- is multiplied by each number of the other side
abbrev pub product_scaling : Side → Side → Scaling
product_scaling l r =
    if l.number then LeftNumber else
    (if r.number then RightNumber else
    (if l.fixed && r.numbers then LeftAffine else
    (if r.fixed && l.numbers then RightAffine else LeftNumber)))

-- a quotient is divided by the numbers of its right side
abbrev pub pairing_scaling : Pairing → Side → Side → Scaling
pairing_scaling Times l r = product_scaling l r
pairing_scaling MatTimes l r = product_scaling l r
pairing_scaling Over l r = Divisor

-- ---- the nodes so far
-- the entries of the nodes so far, in order
abbrev pub Table : Type 0 → Type 0
Table C = List (List (EntryForms C))

-- their forms
abbrev pub table_forms : {C : Type 0} → Table C → List (List (Form C))
table_forms table = map entry_forms table

-- the numbers that the entries of arguments are
abbrev pub numbers_in : {C : Type 0} → (C → Option Frac) → Arguments C → Entries
numbers_in number_of args k e = value (number_in number_of (args k e))

-- a node that isn't formed, and what stops it
pub record NodeStop : Type 0 where
  pub node : ℕ
  pub stop : ValueStop

module _ {C : Type 0} (of_number : Frac → C) (number_of : C → Option Frac) (Sums : C → C → Result C Passes → Type 0) (Changes : Change → C → Result C Passes → Type 0)
    (Reads : ℕ → List ℕ → ℕ → Pairs → C → Type 0) (rules : Rules) (p : Problem) (setting : Pairs) where
  -- a number without rows, or what stops it
  abbrev pub number_entry : Result Frac ValueStop → Result (EntryForms C) ValueStop
  number_entry (Ok x) = Ok (alone (is_constant (of_number x)))
  number_entry (Err stop) = Err stop

  -- entry j of a node that is a number by the rules: its value, as it is formed from those of its arguments
  abbrev pub NumberEntry : Call → List Sides → Arguments C → ℕ → Result (EntryForms C) ValueStop → Type 0
  NumberEntry call sides args j r = r ≡ number_entry (entry_formed call (given_by setting) (given_by []) sides (numbers_in number_of args) j)

  -- what is known of argument k of a node, which stands at `a` and has these forms
  abbrev pub side_of : List (List (Form C)) → ℕ → Side
  side_of forms a = record {
    number = not (is_reduced rules p a);
    fixed = (judgement_at Plain (convex_problem p).nodes a).fixed;
    numbers = list_all (has_numbers number_of) (slice_index_or forms a []);
  }

  -- how the pairs of a node are formed
  abbrev pub scaling_of : Pairing → List (List (Form C)) → List ℕ → Scaling
  scaling_of q forms args = pairing_scaling q (side_of forms (slice_index_or args 0 0)) (side_of forms (slice_index_or args 1 0))

  -- entry j of node i, which is reduced, where the forms of the nodes so far are these
  abbrev pub ReducedEntry : List (List (Form C)) → ℕ → List ℕ → Call → List Sides → ℕ → Result (EntryForms C) ValueStop → Type 0
  ReducedEntry forms i args (calls.Variable v) sides j r =
      r ≡ Ok (alone (form_of_unknown of_number (unknown_from (first_unknown p.variables (number_of_name (names_in p).variables v.name)) v j)))
  ReducedEntry forms i args (calls.Parameter q) sides j r = ParameterEntry Reads (number_of_name (names_in p).parameters q.name) q.name setting j r
  ReducedEntry forms i args (calls.Constant x) sides j r = NumberEntry (calls.Constant x) sides (args_among of_number forms args) j r
  ReducedEntry forms i args (calls.Atom m) sides j r =
      AtEntry j
      (AtomEntry of_number number_of Sums Changes (map (aux_part of_number (first_aux rules p i)) ((atom_meaning m).result sides j))
      (map (λ row. map (row_part of_number (args_among of_number forms args) (first_aux rules p i)) row) ((atom_meaning m).rows sides j))) r
  ReducedEntry forms i args (calls.Linear l) sides j r =
      AtEntry j (LinearEntry of_number number_of Sums Changes (map (term_part (args_among of_number forms args)) ((linear_meaning l).terms sides j))) r
  ReducedEntry forms i args (calls.Pairing q) sides j r =
      PairEntry of_number number_of Sums Changes (scaling_of q forms args) (args_among of_number forms args) (pairs_at q (sides_at sides 0) (sides_at sides 1) j) j r

  abbrev pub NodeEntryBy : Bool → List (List (Form C)) → ℕ → Node → ℕ → Result (EntryForms C) ValueStop → Type 0
  NodeEntryBy true forms i n j r = ReducedEntry forms i n.args n.call (arg_sides p.tree n) j r
  NodeEntryBy false forms i n j r = NumberEntry n.call (arg_sides p.tree n) (args_among of_number forms n.args) j r

  -- entry j of node i
  abbrev pub NodeEntry : List (List (Form C)) → ℕ → Node → ℕ → Result (EntryForms C) ValueStop → Type 0
  NodeEntry forms i n j r = NodeEntryBy (is_reduced rules p i) forms i n j r

  -- the entries of node i, up to the first that stops
  abbrev pub NodeGives : Table C → ℕ → Node → Result (List (EntryForms C)) ValueStop → Type 0
  NodeGives table i n r = FormsEach (NodeEntry (table_forms table) i n) (entries_of n.sides) r

  -- the entries of the first k nodes
  pub record AreFormed (k : ℕ) (table : Table C) : Type 0 where
    pub count : length table ≡ k
    pub each : (i : ℕ) (n : Node) (es : List (EntryForms C)) → i < k → IsNode p.tree i n → slice_get table i ≡ Some es → NodeGives table i n (Ok es)

  -- the first of the first k nodes that isn't formed
  pub record IsFirstStop (k : ℕ) (e : NodeStop) : Type 0 where
    pub within : e.node < k
    pub table : Table C
    pub before : AreFormed e.node table
    pub here : (n : Node) → IsNode p.tree e.node n → NodeGives table e.node n (Err e.stop)

  -- the first k nodes are formed, or forming stops at the first that isn't
  abbrev pub NodesGive : ℕ → Result (Table C) NodeStop → Type 0
  NodesGive k (Ok table) = AreFormed k table
  NodesGive k (Err e) = IsFirstStop k e
