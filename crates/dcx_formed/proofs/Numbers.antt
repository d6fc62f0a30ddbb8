-- Nodes that are numbers by the rules: their forms are numbers, which are their values.
use Rattle.std.proofs.Common.{◌≡◌, ℕ, zero, suc, ◌<◌, ◌≤◌, arith, Bool, true, false, not, IsTrue, List, [], ◌∷◌}
use Rattle.std.proofs.Common.{length, map, All, Option, unwrap_or, Result, Ok, Err, refl, sym, ap, ◌∙◌, subst, pos}
use Rattle.std.specs.Prelude.{nat_lt}
use Rattle.std.specs.List.{list_all}
use Rattle.std.proofs.Math.Path.{fun_ext}
use Rattle.std.proofs.lemmas.Bool.{ltb-true, ltb-false, and_parts}
use Rattle.std.proofs.lemmas.List.Elements.{All-head, All-tail, All-cons, All-nil}
use Rattle.std.proofs.lemmas.Option.{slice_get_within}
use Rattle.dcx_math.specs.Rational.{ℚ, whole}
use Rattle.dcx_frac.specs.declared.fraction.Frac.{Frac}
use Rattle.dcx_frac.specs.declared.fraction.Passes.{Passes}
use Rattle.dcx_frac.specs.Frac.{value}
use Rattle.dcx_frac.proofs.Parts.{value_representable}
use Rattle.dcx_shape.specs.Sides.{entries_of}
use Rattle.dcx_atom.specs.declared.stops.ValueStop.{ValueStop}
use Rattle.dcx_atom.specs.Arrays.{Entries}
use Rattle.dcx_atom.specs.Formed.{zero_frac}
use Rattle.dcx_atom.proofs.FormedSums.{value-zero_frac}
use Rattle.dcx_point.specs.Pairs.{Pairs}
use Rattle.dcx_arena.specs.Nodes.{IsNode}
use Rattle.dcx_convex.specs.Nodes as convex
use Rattle.dcx_convex.specs.Nodes.{Numbers, arguments}
use Rattle.dcx_convex.proofs.SideInduction.{both_constant}
use Rattle.dcx_convex.specs.Rules.{Rules, Plain, Parametrized, Judgement, is_constant, judgement_by, judgement_at}
use Rattle.dcx_convex.specs.Calls as convex_calls
use Rattle.dcx_convex.specs.Atoms.{atom_call, linear_call}
use Rattle.dcx_convex.proofs.Told.{judgement_tells}
use Rattle.dcx_call.specs.declared.call.Call.{Call}
use Rattle.dcx_call.specs.declared.call.Call.TheVariants as calls
use Rattle.dcx_call.specs.Atoms.{atom_meaning}
use Rattle.dcx_call.specs.Linears.{linear_meaning}
use Rattle.dcx_call.specs.Values.{given_by, call_value, entry_formed}
use Rattle.dcx_tree.specs.declared.problem.Problem.{Problem}
use Rattle.dcx_tree.specs.Nodes.{Node, pairing_call, head_of, arg_sides, convex_node, source_value}
use Rattle.dcx_tree.specs.Meaning.{names_in}
use Rattle.dcx_tree.proofs.NodeValues.{node_told, first_alike}
use Rattle.dcx_tree.proofs.AllReached.{convex_at}
use Rattle.dcx_linear.specs.declared.change.Change.{Change}
use Rattle.dcx_linear.specs.declared.form.Form.{Form}
use Rattle.dcx_linear.specs.FormTerms.{Unknowns}
use Rattle.dcx_linear.specs.Forms.{linear_value, is_constant as constant_form}
use Rattle.dcx_linear.specs.Parameters.{Parameters}
use Rattle.dcx_unknowns.specs.Layout.{is_reduced}
use Rattle.dcx_unknowns.proofs.NodeForms.{nodes_of, nodes_ordered, node_at, not_reduced}
use Rattle.dcx_entries.specs.declared.entries.EntryForms.{EntryForms}
use Rattle.dcx_entries.specs.Parts.{zero_form, number_in}
use Rattle.dcx_entries.specs.Entries.{alone}
use Rattle.dcx_entries.specs.Standing.{args_among}
use Rattle.dcx_entries.specs.Nodes.{Table, table_forms, number_entry, numbers_in, NodeEntryBy, AreFormed}
use Rattle.dcx_formed.proofs.Coefs.{AreCoefs}
use Rattle.dcx_call.proofs.Exact.{forms_exactly}
use Rattle.dcx_formed.proofs.Few.{few_args}
use Rattle.dcx_formed.proofs.Named.{where_named}
use Rattle.dcx_formed.proofs.PartValues.{number_is}
use Rattle.dcx_formed.proofs.Tables.{form_in, args_are, entry_there, entry_past}

-- ---- a constant call has constant arguments
pub args_constant : (rules : Rules) (c : convex_calls.Call) (args : List Judgement) → IsTrue (is_constant rules (judgement_by rules (convex.Apply c) args)) → IsTrue (list_all (is_constant rules) args)
args_constant Plain c args t = t
args_constant Parametrized c args t = both_constant args t

pub each_constant : (test : Judgement → Bool) (judged : ℕ → Judgement) (ids : List ℕ) → IsTrue (list_all test (map judged ids)) → All (λ a. IsTrue (test (judged a))) ids
each_constant test judged [] t = All-nil (λ a. IsTrue (test (judged a)))
each_constant test judged (a ∷ ids) t =
    let b = and_parts (test (judged a)) (list_all test (map judged ids)) t in
    All-cons (λ a. IsTrue (test (judged a))) a ids b.0 (each_constant test judged ids b.1)

pub all_both : (P Q : ℕ → Type 0) (ids : List ℕ) → All P ids → All Q ids → All (λ a. P a × Q a) ids
all_both P Q [] h k = All-nil (λ a. P a × Q a)
all_both P Q (a ∷ ids) h k = All-cons (λ a. P a × Q a) a ids (All-head P a ids h, All-head Q a ids k) (all_both P Q ids (All-tail P a ids h) (All-tail Q a ids k))

module _ {C : Type 0} (value_at : C → Parameters → ℚ) (of_number : Frac → C) (number_of : C → Option Frac) (Sums : C → C → Result C Passes → Type 0) (Changes : Change → C → Result C Passes → Type 0)
    (Reads : ℕ → List ℕ → ℕ → Pairs → C → Type 0) (laws : AreCoefs value_at of_number number_of Sums Changes) (rules : Rules) (p : Problem) (setting : Pairs) (table : Table C)
    (formed : AreFormed of_number number_of Sums Changes Reads rules p setting (length p.tree) table) where
  -- the form is a number
  pub record IsNumber (f : Form C) : Type 0 where
    pub number : Frac
    pub is : f ≡ constant_form (of_number number)

  pub number_is_in : (f : Form C) (h : IsNumber f) → number_in number_of f ≡ h.number
  number_is_in f h = ap (number_in number_of) h.is ∙ ap (λ o. unwrap_or o zero_frac) (laws.number_told h.number)

  -- the form of entry j of node i
  abbrev pub form : ℕ → ℕ → Form C
  form i j = form_in of_number (table_forms table) i j

  -- entry j of node i, whose arguments are these, as it is formed
  abbrev formed_number : Node → ℕ → Result Frac ValueStop
  formed_number n j = entry_formed n.call (given_by setting) (given_by []) (arg_sides p.tree n) (numbers_in number_of (args_among of_number (table_forms table) n.args)) j

  -- what a number is made of
  pub made_number : (r : Result Frac ValueStop) (e : EntryForms C) → (let s : Result (EntryForms C) ValueStop = Ok e in s ≡ number_entry of_number number_of Sums Changes Reads rules p setting r) →
      (x : Frac) × (r ≡ Ok x) × (e.form ≡ constant_form (of_number x))
  made_number (Ok x) e h = (x, refl, ap (λ (z : EntryForms C). z.form) (let d : e ≡ alone (constant_form (of_number x)) = cc in d))
  made_number (Err stop) e h = absurd (cc)

  module _ (i : ℕ) (n : Node) (at : IsNode p.tree i n) (number : is_reduced rules p i ≡ false) where
    number_made : (j : ℕ) → j < entries_of n.sides → (x : Frac) × (formed_number n j ≡ Ok x) × (form i j ≡ constant_form (of_number x))
    number_made j b =
        let w = entry_there of_number number_of Sums Changes Reads rules p setting table formed i n at j b in
        let g = subst (λ r. NodeEntryBy of_number number_of Sums Changes Reads rules p setting r (table_forms table) i n j (Ok w.entry)) number w.gives in
        let (x, e, is) = made_number (formed_number n j) w.entry g in
        (x, e, w.is ∙ is)

    pub number_forms : (j : ℕ) → IsNumber (form i j)
    number_forms j = by (nat_lt j (entries_of n.sides)) refl
      where
        by : (b : Bool) → nat_lt j (entries_of n.sides) ≡ b → IsNumber (form i j)
        by true e = let (x, made, is) = number_made j (ltb-true j (entries_of n.sides) e) in record { number = x; is = is }
        by false e = record { number = zero_frac; is = entry_past of_number number_of Sums Changes Reads rules p setting table formed i n at j (ltb-false j (entries_of n.sides) e) }

  -- ---- the numbers are the values
  -- entry j of node i at the setting; a number reaches no variable
  abbrev pub source : ℕ → Numbers
  source i = source_value p.tree (names_in p) setting [] i

  abbrev judged : ℕ → Judgement
  judged i = judgement_at rules (nodes_of p) i

  -- the number in a form
  abbrev pub number_of_form : Form C → ℚ
  number_of_form f = value (number_in number_of f)

  number_in_zero : number_of_form (zero_form of_number) ≡ whole (pos 0)
  number_in_zero = ap value (number_is_in (zero_form of_number) (record { number = zero_frac; is = refl })) ∙ value-zero_frac

  -- node i, where the numbers before it are their values
  module _ (i : ℕ) (n : Node) (at : IsNode p.tree i n) (number : is_reduced rules p i ≡ false)
      (earlier : (a : ℕ) → a < i → is_reduced rules p a ≡ false → (e : ℕ) → number_of_form (form a e) ≡ source a e) where
    abbrev formed_args : Entries
    formed_args = numbers_in number_of (args_among of_number (table_forms table) n.args)

    constant_args : IsTrue (list_all (is_constant rules) (map judged n.args)) → formed_args ≡ arguments (map source n.args)
    constant_args t =
        let known : (a : ℕ) → (a < i) × IsTrue (is_constant rules (judged a)) → (e : ℕ) → number_of_form (form a e) ≡ source a e = λ a q e. earlier a q.0 (ap not q.1) e in
        let all = all_both (λ a. a < i) (λ a. IsTrue (is_constant rules (judged a))) n.args (p.nodes.earlier i n at) (each_constant (is_constant rules) judged n.args t) in
        fun_ext (λ k. fun_ext (λ e. args_are of_number (table_forms table) (λ a. (a < i) × IsTrue (is_constant rules (judged a))) number_of_form number_in_zero source known n.args all k e))

    -- a call that is a number has the value that it has at the values of its arguments
    same_value : (call : Call) → IsTrue (is_constant rules (judgement_by rules (head_of (names_in p) call (arg_sides p.tree n) n.sides) (map judged n.args))) → (j : ℕ) →
        call_value call (given_by setting) (given_by []) (arg_sides p.tree n) formed_args j ≡ call_value call (given_by setting) (given_by []) (arg_sides p.tree n) (arguments (map source n.args)) j
    same_value (calls.Variable v) t j = refl
    same_value (calls.Parameter q) t j = refl
    same_value (calls.Constant x) t j = refl
    same_value (calls.Atom m) t j =
        ap (λ (a : Entries). (atom_meaning m).value (arg_sides p.tree n) a j) (constant_args (args_constant rules (atom_call (atom_meaning m) (arg_sides p.tree n) n.sides) (map judged n.args) t))
    same_value (calls.Linear l) t j =
        ap (λ (a : Entries). (linear_meaning l).value (arg_sides p.tree n) a j)
        (constant_args (args_constant rules (linear_call (linear_meaning l) (arg_sides p.tree n) n.sides) (map judged n.args) t))
    same_value (calls.Pairing q) t j =
        ap (λ (a : Entries). call_value (calls.Pairing q) (given_by setting) (given_by []) (arg_sides p.tree n) a j)
        (constant_args (args_constant rules (pairing_call q (arg_sides p.tree n) n.sides) (map judged n.args) t))

    value_below : (j : ℕ) → j < entries_of n.sides → number_of_form (form i j) ≡ call_value n.call (given_by setting) (given_by []) (arg_sides p.tree n) (arguments (map source n.args)) j
    value_below j b =
        let (x, made, is) = number_made i n at number j b in
        let told = subst (λ (g : Judgement). IsTrue (is_constant rules g)) (judgement_tells rules (nodes_of p) (nodes_ordered p) i (convex_node (names_in p) p.tree n) (convex_at p i n at))
        (not_reduced (is_constant rules (judged i)) number) in
        ap value (number_is_in (form i j) (record { number = x; is = is }))
        ∙ forms_exactly n.call setting [] (arg_sides p.tree n) n.sides formed_args (p.nodes.shaped i n at) (few_args p.tree p.nodes n)
        (λ k e. value_representable (number_in number_of (args_among of_number (table_forms table) n.args k e))) j b x made
        ∙ same_value n.call told j

    value_past : (j : ℕ) → entries_of n.sides ≤ j → number_of_form (form i j) ≡ whole (pos 0)
    value_past j b = ap number_of_form (entry_past of_number number_of Sums Changes Reads rules p setting table formed i n at j b) ∙ number_in_zero

    node_value : (j : ℕ) → number_of_form (form i j) ≡ source i j
    node_value j = where_named p i n at (number_of_form (form i j)) (source i j) (λ named.
        first_alike (entries_of n.sides) (call_value n.call (given_by setting) (given_by []) (arg_sides p.tree n) (arguments (map source n.args))) (number_of_form (form i j)) j (value_below j)
        (value_past j)
        ∙ sym (node_told p.tree p.nodes setting [] (names_in p) i n at named j))

  values_within : (d i : ℕ) → i < d → i < length p.tree → is_reduced rules p i ≡ false → (j : ℕ) → number_of_form (form i j) ≡ source i j
  values_within zero i l b number j = absurd (omega arith)
  values_within (suc d) i l b number j =
      let (n, at) = node_at p i b in
      node_value i n at number (λ a k r e. values_within d a (omega arith) (omega arith) r e) j

  -- the form of a number is its value, at all unknowns
  pub number_value : (i : ℕ) (n : Node) → IsNode p.tree i n → is_reduced rules p i ≡ false → (u : Unknowns) (params : Parameters) (j : ℕ) → linear_value value_at (form i j) u params ≡ source i j
  number_value i n at number u params j =
      let h = number_forms i n at number j in
      ap (λ (f : Form C). linear_value value_at f u params) h.is
      ∙ number_is value_at of_number number_of Sums Changes laws u params h.number
      ∙ ap value (sym (number_is_in (form i j) h))
      ∙ values_within (suc i) i (omega arith) (slice_get_within p.tree i n at) number j

  -- and so is the number in it
  pub number_read : (i : ℕ) (n : Node) → IsNode p.tree i n → is_reduced rules p i ≡ false → (u : Unknowns) (params : Parameters) (j : ℕ)
      → number_of_form (form i j) ≡ linear_value value_at (form i j) u params
  number_read i n at number u params j =
      let h = number_forms i n at number j in
      ap value (number_is_in (form i j) h) ∙ sym (ap (λ (f : Form C). linear_value value_at f u params) h.is ∙ number_is value_at of_number number_of Sums Changes laws u params h.number)
