-- The forms of a node that reaches no parameter have numbers.
use Rattle.std.proofs.Common.{◌≡◌, ℕ, zero, suc, ◌<◌, arith, Bool, true, false, IsTrue, IsSome, List, [], length, map, Option, Some, None, Result, Ok, refl, sym, subst}
use Rattle.std.specs.Prelude.{nat_lt, ◌+◌}
use Rattle.dcx_math.specs.Rational.{ℚ}
use Rattle.dcx_atom.specs.declared.stops.ValueStop.{ValueStop}
use Rattle.std.specs.List.{list_all}
use Rattle.std.proofs.lemmas.Bool.{ltb-true, ltb-false, false≢true}
use Rattle.std.proofs.lemmas.List.Elements.{All-cons, All-nil}
use Rattle.dcx_frac.specs.declared.fraction.Frac.{Frac}
use Rattle.dcx_frac.specs.declared.fraction.Passes.{Passes}
use Rattle.dcx_shape.specs.Sides.{entries_of}
use Rattle.dcx_atom.specs.Arrays.{sides_at}
use Rattle.dcx_atom.specs.Formed.{zero_frac, one_frac}
use Rattle.dcx_affine.specs.Pairing.{pairs_at}
use Rattle.dcx_point.specs.Pairs.{Pairs}
use Rattle.dcx_arena.specs.Nodes.{IsNode}
use Rattle.dcx_convex.specs.Rules.{Rules, Judgement, judgement_by, judgement_at}
use Rattle.dcx_convex.proofs.Told.{judgement_tells}
use Rattle.dcx_call.specs.declared.call.Call.{Call}
use Rattle.dcx_call.specs.declared.call.Call.TheVariants as calls
use Rattle.dcx_call.specs.Atoms.{atom_meaning, atom_lawful}
use Rattle.dcx_call.specs.Linears.{linear_meaning}
use Rattle.dcx_call.specs.Calls.{shape_of}
use Rattle.dcx_call.specs.Values.{given_by, entry_formed}
use Rattle.dcx_tree.specs.declared.problem.Problem.{Problem}
use Rattle.dcx_tree.specs.Nodes.{Node, head_of, arg_sides, convex_node}
use Rattle.dcx_tree.specs.Meaning.{names_in}
use Rattle.dcx_tree.proofs.AllReached.{convex_at}
use Rattle.dcx_linear.specs.declared.change.Change.{Change}
use Rattle.dcx_linear.specs.declared.form.FormTerm.{FormTerm}
use Rattle.dcx_linear.specs.declared.form.Form.{Form}
use Rattle.dcx_linear.specs.Forms.{is_constant as constant_form}
use Rattle.dcx_linear.specs.Multiples.{HasNumbers}
use Rattle.dcx_linear.specs.Parameters.{Parameters}
use Rattle.dcx_linear.proofs.Coefficients.{sum_keeps, change_keeps, multiple_keeps}
use Rattle.dcx_unknowns.specs.Layout.{is_reduced, first_aux}
use Rattle.dcx_unknowns.proofs.NodeForms.{nodes_of, nodes_ordered, node_at}
use Rattle.dcx_entries.specs.declared.entries.EntryForms.{EntryForms}
use Rattle.dcx_entries.specs.Parts.{Arguments, unknown_form, form_of_unknown}
use Rattle.dcx_entries.specs.Standing.{args_among}
use Rattle.dcx_entries.specs.Nodes.{Table, table_forms, numbers_in, scaling_of, ReducedEntry, NodeEntryBy, AreFormed}
use Rattle.dcx_formed.proofs.Entries.{IsKept, linear_keeps, atom_keeps, terms_have, result_has, rows_have, pair_sum_keeps}
use Rattle.dcx_formed.proofs.Coefs.{AreCoefs}
use Rattle.dcx_formed.proofs.Tables.{form_in, args_have, entry_there, entry_past}
use Rattle.dcx_formed.proofs.Made.{entry_is, pair_summed}
use Rattle.dcx_formed.proofs.Numbers.{each_constant, all_both, number_forms, made_number}

module _ {C : Type 0} (value_at : C → Parameters → ℚ) (of_number : Frac → C) (number_of : C → Option Frac) (Sums : C → C → Result C Passes → Type 0) (Changes : Change → C → Result C Passes → Type 0)
    (Reads : ℕ → List ℕ → ℕ → Pairs → C → Type 0) (laws : AreCoefs value_at of_number number_of Sums Changes) (rules : Rules) (p : Problem) (setting : Pairs) (table : Table C)
    (formed : AreFormed of_number number_of Sums Changes Reads rules p setting (length p.tree) table) where
  abbrev IsNumberCoef : C → Type 0
  IsNumberCoef c = IsSome (number_of c)

  abbrev Has : Form C → Type 0
  Has f = HasNumbers number_of f

  told : (x : Frac) → IsNumberCoef (of_number x)
  told x = subst IsSome (sym (laws.number_told x)) refl

  constant_has : (x : Frac) → Has (constant_form (of_number x))
  constant_has x = (told x, All-nil (λ (t : FormTerm C). IsNumberCoef t.coefficient))

  unknown_has : (n : ℕ) → Has (unknown_form of_number n)
  unknown_has n = (told zero_frac, All-cons (λ (t : FormTerm C). IsNumberCoef t.coefficient) _ [] (told one_frac) (All-nil (λ (t : FormTerm C). IsNumberCoef t.coefficient)))

  unknown_or_zero_has : (o : Option ℕ) → Has (form_of_unknown of_number o)
  unknown_or_zero_has None = constant_has zero_frac
  unknown_or_zero_has (Some n) = unknown_has n

  -- forms that have numbers, of any unknowns
  kept : (count : ℕ) → IsKept of_number number_of Sums Changes Has count
  kept count = record {
    numbers = constant_has;
    unknowns = λ n b. unknown_has n;
    sums = λ f g h s a b. sum_keeps number_of IsNumberCoef Sums laws.sum_number f g h s a b;
    changes = λ change f h s a. change_keeps number_of IsNumberCoef Changes laws.change_number change f h s a;
    multiples = λ g f h s a b. multiple_keeps number_of IsNumberCoef Changes laws.change_number g.constant f h s a.0;
  }

  abbrev judged : ℕ → Judgement
  judged i = judgement_at rules (nodes_of p) i

  abbrev form : ℕ → ℕ → Form C
  form i j = form_in of_number (table_forms table) i j

  -- node i, where the nodes before it that reach no parameter have numbers
  module _ (i : ℕ) (n : Node) (at : IsNode p.tree i n) (settled : IsTrue (judged i).unparametrized)
      (earlier : (a : ℕ) → a < i → IsTrue (judged a).unparametrized → (e : ℕ) → Has (form a e)) where
    abbrev args : Arguments C
    args = args_among of_number (table_forms table) n.args

    args_settled : IsTrue (list_all (λ g. g.unparametrized) (map judged n.args)) → (k e : ℕ) → Has (args k e)
    args_settled t k e =
        args_have of_number (table_forms table) (λ a. (a < i) × IsTrue (judged a).unparametrized) Has (constant_has zero_frac) (λ a q e. earlier a q.0 q.1 e) n.args
        (all_both (λ a. a < i) (λ a. IsTrue (judged a).unparametrized) n.args (p.nodes.earlier i n at) (each_constant (λ g. g.unparametrized) judged n.args t)) k e

    reduced_has : (call : Call) → IsTrue (judgement_by rules (head_of (names_in p) call (arg_sides p.tree n) n.sides) (map judged n.args)).unparametrized
        → shape_of call (arg_sides p.tree n) ≡ Some n.sides → (j : ℕ) → j < entries_of n.sides → (entry : EntryForms C)
        → ReducedEntry of_number number_of Sums Changes Reads rules p setting (table_forms table) i n.args call (arg_sides p.tree n) j (Ok entry) → Has entry.form
    reduced_has (calls.Variable v) t shape j b entry h = subst (λ (z : EntryForms C). Has z.form) (sym (entry_is {E = ValueStop} entry _ h)) (unknown_or_zero_has _)
    reduced_has (calls.Parameter q) t shape j b entry h = absurd (false≢true t)
    reduced_has (calls.Constant c) t shape j b entry h =
        let (x, made, is) = made_number value_at of_number number_of Sums Changes Reads laws rules p setting table formed
        (entry_formed (calls.Constant c) (given_by setting) (given_by []) (arg_sides p.tree n) (numbers_in number_of args) j) entry h in
        subst Has (sym is) (constant_has x)
    reduced_has (calls.Atom m) t shape j b entry h =
        let own = (atom_lawful m).own_unknowns (arg_sides p.tree n) n.sides shape in
        let first = first_aux rules p i in
        let many = length ((atom_meaning m).kinds (arg_sides p.tree n)) in
        let few : (k : ℕ) → k < many → first + k < first + many = λ k l. omega arith in
        (atom_keeps of_number number_of Sums Changes Has (first + many) (kept (first + many)) _ _ entry h
        (result_has of_number number_of Sums Changes Has (first + many) (kept (first + many)) first many few ((atom_meaning m).result (arg_sides p.tree n) j) (own.results j b))
        (rows_have of_number number_of Sums Changes Has (first + many) (kept (first + many)) first many few args (args_settled t) ((atom_meaning m).rows (arg_sides p.tree n) j) (own.rows j b))).form
    reduced_has (calls.Linear l) t shape j b entry h =
        (linear_keeps of_number number_of Sums Changes Has 0 (kept 0) _ entry h
        (terms_have of_number number_of Sums Changes Has 0 (kept 0) args (args_settled t) ((linear_meaning l).terms (arg_sides p.tree n) j))).form
    reduced_has (calls.Pairing q) t shape j b entry h =
        (pair_sum_keeps of_number number_of Sums Changes Has 0 (kept 0) args (args_settled t) (scaling_of of_number number_of Sums Changes Reads rules p setting q (table_forms table) n.args)
        (pairs_at q (sides_at (arg_sides p.tree n) 0) (sides_at (arg_sides p.tree n) 1) j) entry
        (pair_summed of_number number_of Sums Changes (scaling_of of_number number_of Sums Changes Reads rules p setting q (table_forms table) n.args) args
        (pairs_at q (sides_at (arg_sides p.tree n) 0) (sides_at (arg_sides p.tree n) 1) j) j entry h).1).form

    by_rules : (r : Bool) → is_reduced rules p i ≡ r → (j : ℕ) → j < entries_of n.sides → Has (form i j)
    by_rules false e j b = let h = number_forms value_at of_number number_of Sums Changes Reads laws rules p setting table formed i n at e j in subst Has (sym h.is) (constant_has h.number)
    by_rules true e j b =
        let w = entry_there of_number number_of Sums Changes Reads rules p setting table formed i n at j b in
        let g = subst (λ r. NodeEntryBy of_number number_of Sums Changes Reads rules p setting r (table_forms table) i n j (Ok w.entry)) e w.gives in
        let t = subst (λ (k : Judgement). IsTrue k.unparametrized) (judgement_tells rules (nodes_of p) (nodes_ordered p) i (convex_node (names_in p) p.tree n) (convex_at p i n at)) settled in
        subst Has (sym w.is) (reduced_has n.call t (p.nodes.shaped i n at) j b w.entry g)

    node_has : (j : ℕ) → Has (form i j)
    node_has j = by (nat_lt j (entries_of n.sides)) refl
      where
        by : (b : Bool) → nat_lt j (entries_of n.sides) ≡ b → Has (form i j)
        by true e = by_rules (is_reduced rules p i) refl j (ltb-true j (entries_of n.sides) e)
        by false e = subst Has (sym (entry_past of_number number_of Sums Changes Reads rules p setting table formed i n at j (ltb-false j (entries_of n.sides) e))) (constant_has zero_frac)

  numbers_within : (d i : ℕ) → i < d → i < length p.tree → IsTrue (judged i).unparametrized → (j : ℕ) → Has (form i j)
  numbers_within zero i l b settled j = absurd (omega arith)
  numbers_within (suc d) i l b settled j =
      let (n, at) = node_at p i b in
      node_has i n at settled (λ a k t e. numbers_within d a (omega arith) (omega arith) t e) j

  -- the forms have numbers
  pub have_numbers : (i : ℕ) → i < length p.tree → IsTrue (judged i).unparametrized → (j : ℕ) → HasNumbers number_of (form_in of_number (table_forms table) i j)
  have_numbers i b settled j = numbers_within (suc i) i (omega arith) b settled j
