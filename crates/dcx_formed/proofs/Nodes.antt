-- One formed node meets its equation, where those before it meet theirs.
use Rattle.std.proofs.Common.{◌≡◌, inl, inr, ℕ, suc, ◌<◌, arith, Bool, true, false, not, IsTrue, IsSome, if◌then◌else◌, List, [], ◌∷◌, length}
use Rattle.std.proofs.Common.{map, All, Option, Some, None, Result, Ok, slice_index_or, refl, sym, ap, ap₂, ◌∙◌, subst, pos}
use Rattle.std.specs.Prelude.{◌||◌}
use Rattle.std.specs.List.{list_all}
use Rattle.std.proofs.lemmas.Bool.{and_from}
use Rattle.std.proofs.lemmas.List.Elements.{All-head, All-tail, recursion_from_All}
use Rattle.std.proofs.lemmas.Option.{slice_get_within}
use Rattle.dcx_math.specs.Rational.{ℚ, whole, ◌+ℚ◌}
use Rattle.dcx_math.specs.Sums.{rat_sum_by}
use Rattle.dcx_math.proofs.Orders.{+ℚ_idl, +ℚ_idr, *ℚ-zero}
use Rattle.dcx_frac.specs.declared.fraction.Frac.{Frac}
use Rattle.dcx_frac.specs.declared.fraction.Passes.{Passes}
use Rattle.dcx_frac.specs.Frac.{value}
use Rattle.dcx_shape.specs.declared.shape.Sides.{Sides}
use Rattle.dcx_shape.specs.Sides.{entries_of}
use Rattle.dcx_atom.specs.declared.flags.Bend.{Bend}
use Rattle.dcx_atom.specs.declared.flags.Bend.TheVariants.{Convex, Concave}
use Rattle.dcx_atom.specs.declared.stops.ValueStop.{ValueStop}
use Rattle.dcx_atom.specs.Arrays.{Entries, sides_at}
use Rattle.dcx_atom.specs.Linear.{terms_at}
use Rattle.dcx_affine.specs.declared.pairing.Pairing.{Pairing}
use Rattle.dcx_affine.specs.declared.pairing.Pairing.TheVariants.{Times, MatTimes, Over}
use Rattle.dcx_affine.specs.declared.pairing.Pair.{Pair}
use Rattle.dcx_affine.specs.Pairing.{pairs_at}
use Rattle.dcx_point.specs.Pairs.{Pairs}
use Rattle.dcx_arena.specs.Nodes as arena
use Rattle.dcx_arena.specs.Nodes.{IsNode}
use Rattle.dcx_convex.specs.Calls as convex_calls
use Rattle.dcx_convex.specs.Nodes.{Numbers, Point, Setting, first_of, arguments}
use Rattle.dcx_convex.specs.Rules.{Rules, Judgement, is_constant, is_affine, argument, scales, bends, judgement_by, judgement_at}
use Rattle.dcx_convex.specs.Problems.{accepted_by}
use Rattle.dcx_convex.specs.Reductions.{Unknowns}
use Rattle.dcx_convex.proofs.Told.{judgement_tells}
use Rattle.dcx_convex.proofs.Signs.{first_in}
use Rattle.dcx_call.specs.declared.attribute.Variable.{Variable}
use Rattle.dcx_call.specs.declared.attribute.Parameter.{Parameter}
use Rattle.dcx_call.specs.declared.call.Call.{Call}
use Rattle.dcx_call.specs.declared.call.Call.TheVariants as calls
use Rattle.dcx_call.specs.Atoms.{atom_meaning, atom_lawful}
use Rattle.dcx_call.specs.Linears.{linear_meaning}
use Rattle.dcx_call.specs.Calls.{own_sides, sides_of_two, shape_of}
use Rattle.dcx_call.specs.Values.{pairing_value}
use Rattle.dcx_call.proofs.CallLaws.{own_is}
use Rattle.dcx_tree.specs.declared.problem.Problem.{Problem}
use Rattle.dcx_tree.specs.Nodes.{Node, number_in as number_of_name, pairing_call, head_of, arg_sides, convex_node}
use Rattle.dcx_tree.specs.Meaning.{names_in, convex_problem, value_at as problem_value}
use Rattle.dcx_tree.proofs.AllReached.{convex_at}
use Rattle.dcx_linear.specs.declared.change.Change.{Change}
use Rattle.dcx_linear.specs.declared.form.FormTerm.{FormTerm}
use Rattle.dcx_linear.specs.declared.form.Form.{Form}
use Rattle.dcx_linear.specs.Parameters.{Parameters}
use Rattle.dcx_linear.specs.FormTerms.{unknown_value}
use Rattle.dcx_linear.specs.Forms.{linear_value, is_constant as constant_form}
use Rattle.dcx_linear.specs.Multiples.{HasNumbers}
use Rattle.dcx_unknowns.specs.Unknowns.{sides_in, first_unknown, unknown_from, number_at, array_from, point_at}
use Rattle.dcx_unknowns.specs.Layout.{is_reduced, first_aux}
use Rattle.dcx_unknowns.specs.Equations.{Forms, call_entry, filling_of, entry_by, Stands}
use Rattle.dcx_unknowns.proofs.Constants.{call_constant}
use Rattle.dcx_unknowns.proofs.CallGraphs.{IsReducible}
use Rattle.dcx_unknowns.proofs.NodeForms.{nodes_of, nodes_ordered, node_at, not_constant, reducible}
use Rattle.dcx_entries.specs.declared.entries.EntryForms.{EntryForms}
use Rattle.dcx_entries.specs.declared.scaling.Scaling.{Scaling}
use Rattle.dcx_entries.specs.declared.scaling.Scaling.TheVariants.{Divisor}
use Rattle.dcx_entries.specs.Parts.{Arguments, zero_form, form_of_unknown, term_part, aux_part, number_in}
use Rattle.dcx_entries.specs.Entries.{alone, PairEntry}
use Rattle.dcx_entries.specs.Standing.{args_among}
use Rattle.dcx_entries.specs.Nodes.{is_told, has_numbers, Table, table_forms, side_of, scaling_of, ReducedEntry, NodeEntryBy, AreFormed}
use Rattle.dcx_call.proofs.Coefficients.{FitsIn, coefficients_fit}
use Rattle.dcx_formed.specs.Forms.{forms_at}
use Rattle.dcx_formed.proofs.Settled.{fixed_alike}
use Rattle.dcx_formed.proofs.Reached.{node_bent}
use Rattle.dcx_formed.proofs.Steady.{bent_parts}
use Rattle.dcx_formed.proofs.Coefs.{AreCoefs}
use Rattle.dcx_formed.proofs.Few.{few_args}
use Rattle.dcx_formed.proofs.PartValues.{constant_is, zero_is, unknown_or_zero, parts_are, terms_are, result_is}
use Rattle.dcx_formed.proofs.Named.{where_declared}
use Rattle.dcx_formed.proofs.Tables.{form_in, entry_there, entry_past}
use Rattle.dcx_formed.proofs.Stood.{args_match}
use Rattle.dcx_formed.proofs.Numbers.{source, number_value, number_read}
use Rattle.dcx_formed.proofs.Made.{entry_is, linear_made, atom_made, pair_made}
use Rattle.dcx_formed.proofs.HaveNumbers.{have_numbers}
use Rattle.dcx_formed.proofs.Sides.{scaling_may}
use Rattle.dcx_formed.proofs.Pairs.{IsRead, MayScale, products_are, quotients_are}
use Rattle.dcx_tree.proofs.NodeValues.{first_alike}

-- ---- lists and numbers
twice : (b : Bool) → not (not b) ≡ b
twice true = refl
twice false = refl

module _ {C : Type 0} (number_of : C → Option Frac) where
  some_told : (o : Option Frac) → IsSome o → IsTrue (is_told o)
  some_told None h = cc
  some_told (Some x) h = refl

  terms_told : (ts : List (FormTerm C)) → All (λ t. IsSome (number_of t.coefficient)) ts → IsTrue (list_all (λ t. is_told (number_of t.coefficient)) ts)
  terms_told [] h = refl
  terms_told (t ∷ ts) h =
      and_from (is_told (number_of t.coefficient)) (list_all (λ t. is_told (number_of t.coefficient)) ts)
      (some_told (number_of t.coefficient) (All-head (λ (t : FormTerm C). IsSome (number_of t.coefficient)) t ts h))
      (terms_told ts (All-tail (λ (t : FormTerm C). IsSome (number_of t.coefficient)) t ts h))

  -- forms that have numbers are told to have them
  forms_told : (none : Form C) (fs : List (Form C)) → ((j : ℕ) → HasNumbers number_of (slice_index_or fs j none)) → IsTrue (list_all (has_numbers number_of) fs)
  forms_told none [] h = refl
  forms_told none (f ∷ fs) h =
      let here = h 0 in
      and_from (has_numbers number_of f) (list_all (has_numbers number_of) fs)
      (and_from (is_told (number_of f.constant)) (list_all (λ t. is_told (number_of t.coefficient)) f.terms) (some_told (number_of f.constant) here.0) (terms_told f.terms here.1))
      (forms_told none fs (λ j. h (suc j)))

-- a form where all unknowns are 0
still : {C : Type 0} (value_at : C → Parameters → ℚ) (f : Form C) (params : Parameters) → linear_value value_at f (λ k. whole (pos 0)) params ≡ value_at f.constant params
still {C} value_at f params = ap (λ y. value_at f.constant params +ℚ y) (terms f.terms) ∙ +ℚ_idr (value_at f.constant params)
  where
    terms : (ts : List (FormTerm C)) → rat_sum_by (unknown_value value_at (λ k. whole (pos 0)) params) ts ≡ whole (pos 0)
    terms [] = refl
    terms (t ∷ ts) = ap₂ ◌+ℚ◌ (*ℚ-zero (value_at t.coefficient params)) (terms ts) ∙ +ℚ_idl (whole (pos 0))

-- ---- what an accepted product or quotient asks of its sides
abbrev Taken : Rules → Pairing → List Judgement → Type 0
Taken rules Times args = IsTrue (scales rules (argument args 0) (argument args 1) || scales rules (argument args 1) (argument args 0))
Taken rules MatTimes args = IsTrue (scales rules (argument args 0) (argument args 1) || scales rules (argument args 1) (argument args 0))
Taken rules Over args = IsTrue (is_constant rules (argument args 1))

taken_by : (rules : Rules) (q : Pairing) (sides : List Sides) (to : Sides) (bend : Bend) (args : List Judgement) → IsTrue (bends rules (pairing_call q sides to).kind bend args) → Taken rules q args
taken_by rules Times sides to bend args t = t
taken_by rules MatTimes sides to bend args t = t
taken_by rules Over sides to bend args t = t

module _ {C : Type 0} (value_at : C → Parameters → ℚ) (of_number : Frac → C) (number_of : C → Option Frac) (Sums : C → C → Result C Passes → Type 0) (Changes : Change → C → Result C Passes → Type 0)
    (Reads : ℕ → List ℕ → ℕ → Pairs → C → Type 0) (laws : AreCoefs value_at of_number number_of Sums Changes) (rules : Rules) (p : Problem) (setting : Pairs) (table : Table C)
    (formed : AreFormed of_number number_of Sums Changes Reads rules p setting (length p.tree) table) (params : Parameters) (s : Setting)
    (told : (i : ℕ) → i < length p.tree → is_reduced rules p i ≡ false → (x : Point) (j : ℕ)
    → problem_value p s x i j ≡ source value_at of_number number_of Sums Changes Reads laws rules p setting table formed i j)
    (read : (i : ℕ) (n : Node) (q : Parameter) → IsNode p.tree i n → n.call ≡ calls.Parameter q → is_reduced rules p i ≡ true → (j : ℕ) (c : C) →
    Reads (number_of_name (names_in p).parameters q.name) q.name j setting c → value_at c params ≡ s (number_of_name (names_in p).parameters q.name) j)
    (ok : IsTrue (accepted_by rules (convex_problem p))) where
  abbrev F : Forms
  F = forms_at value_at of_number params table

  abbrev forms : List (List (Form C))
  forms = table_forms table

  abbrev form : ℕ → ℕ → Form C
  form i j = form_in of_number (table_forms table) i j

  abbrev judged : ℕ → Judgement
  judged i = judgement_at rules (nodes_of p) i

  -- ---- a number
  pub number_stands : (i : ℕ) (n : Node) → IsNode p.tree i n → is_reduced rules p i ≡ false → Stands rules p s F i n false
  number_stands i n at number u x j =
      number_value value_at of_number number_of Sums Changes Reads laws rules p setting table formed i n at number u params j
      ∙ sym (told i (slice_get_within p.tree i n at) number x j)

  -- ---- a node that is reduced, where what is affine and reaches no variable before it stands still
  module _ (i : ℕ) (n : Node) (at : IsNode p.tree i n) (reduced : is_reduced rules p i ≡ true)
      (steady : (u w : Unknowns) (a : ℕ) → a < i → a < length p.tree → ¬ IsTrue (is_constant rules (judged a)) → IsTrue (judged a).fixed → IsTrue (is_affine (judged a)) → F u a ≡ F w a)
      (u : Unknowns) where
    within : i < length p.tree
    within = slice_get_within p.tree i n at

    -- a side that is a number
    side_read : (a : ℕ) → a < i → IsTrue (is_constant rules (judged a)) → (e : ℕ) → value (number_in number_of (form a e)) ≡ linear_value value_at (form a e) u params
    side_read a l t e =
        let w = within in
        let (m, there) = node_at p a (omega (arith, l, w)) in
        number_read value_at of_number number_of Sums Changes Reads laws rules p setting table formed a m there (ap not t) u params e

    -- a side that stands still
    side_still : (a : ℕ) → a < i → ¬ IsTrue (is_constant rules (judged a)) → IsTrue (judged a).fixed → IsTrue (is_affine (judged a)) → (e : ℕ)
        → value_at (form a e).constant params ≡ linear_value value_at (form a e) u params
    side_still a l not_constant fixed affine e =
        let w = within in
        sym (still value_at (form a e) params) ∙ ap (λ (f : Numbers). f e) (steady (λ k. whole (pos 0)) u a l (omega (arith, l, w)) not_constant fixed affine)

    side_numbers : (a : ℕ) → a < i → IsTrue (judged a).unparametrized → IsTrue (list_all (has_numbers number_of) (slice_index_or forms a []))
    side_numbers a l settled =
        let w = within in
        forms_told number_of (zero_form of_number) (slice_index_or forms a [])
        (have_numbers value_at of_number number_of Sums Changes Reads laws rules p setting table formed a (omega (arith, l, w)) settled)

    -- the sides of a pairing are what they are taken for
    abbrev MayPair : Pairing → List ℕ → Type 0
    MayPair Times ids = MayScale value_at of_number number_of Sums Changes laws u params (args_among of_number forms ids)
        (scaling_of of_number number_of Sums Changes Reads rules p setting Times forms ids)
    MayPair MatTimes ids =
        MayScale value_at of_number number_of Sums Changes laws u params (args_among of_number forms ids) (scaling_of of_number number_of Sums Changes Reads rules p setting MatTimes forms ids)
    MayPair Over ids = IsRead value_at of_number number_of Sums Changes laws u params (args_among of_number forms ids) 1

    product_may : (a b : ℕ) → a < i → b < i → IsTrue (scales rules (judged a) (judged b) || scales rules (judged b) (judged a)) → MayPair Times (a ∷ b ∷ [])
    product_may a b la lb t =
        scaling_may rules (judged a) (judged b) (side_of of_number number_of Sums Changes Reads rules p setting forms a) (side_of of_number number_of Sums Changes Reads rules p setting forms b)
        (twice (is_constant rules (judged a))) (twice (is_constant rules (judged b))) (sym (fixed_alike rules (nodes_of p) a)) (sym (fixed_alike rules (nodes_of p) b)) (side_numbers a la)
        (side_numbers b lb) t
        (MayScale value_at of_number number_of Sums Changes laws u params (args_among of_number forms (a ∷ b ∷ [])))
        (side_read a la) (side_read b lb) (λ not_constant k. side_still a la not_constant k.fixed k.affine) (λ not_constant k. side_still b lb not_constant k.fixed k.affine)

    pair_may : (q : Pairing) (ids : List ℕ) (sides : ℕ → Sides) (to : Sides) → sides_of_two q (map sides ids) ≡ Some to → All (λ a. a < i) ids → Taken rules q (map judged ids) → MayPair q ids
    pair_may q [] sides to is all t = cc
    pair_may q (a ∷ []) sides to is all t = cc
    pair_may q (a ∷ b ∷ c ∷ ids) sides to is all t = cc
    pair_may q (a ∷ b ∷ []) sides to is all t =
        by q t (All-head (λ a. a < i) a (b ∷ []) all) (All-head (λ a. a < i) b [] (All-tail (λ a. a < i) a (b ∷ []) all))
      where
        by : (q : Pairing) → Taken rules q (map judged (a ∷ b ∷ [])) → a < i → b < i → MayPair q (a ∷ b ∷ [])
        by Times t la lb = product_may a b la lb t
        by MatTimes t la lb = product_may a b la lb t
        by Over t la lb = side_read b lb t

    -- since the problem is accepted
    pair_taken : (q : Pairing) → n.call ≡ calls.Pairing q → Taken rules q (map judged n.args)
    pair_taken q is =
        let c : convex_calls.Call = pairing_call q (arg_sides p.tree n) n.sides in
        let none : ¬ IsTrue (is_constant rules (judgement_by rules (head_of (names_in p) (calls.Pairing q) (arg_sides p.tree n) n.sides) (map judged n.args))) =
        subst (λ (k : Call). ¬ IsTrue (is_constant rules (judgement_by rules (head_of (names_in p) k (arg_sides p.tree n) n.sides) (map judged n.args)))) is (not_constant p rules i n at reduced) in
        let some : ¬ IsTrue (list_all (is_constant rules) (map judged n.args)) = λ all. none (call_constant rules c (map judged n.args) all) in
        let g : judged i ≡ judgement_by rules (head_of (names_in p) (calls.Pairing q) (arg_sides p.tree n) n.sides) (map judged n.args) =
        judgement_tells rules (nodes_of p) (nodes_ordered p) i (convex_node (names_in p) p.tree n) (convex_at p i n at)
        ∙ ap (λ (k : Call). judgement_by rules (head_of (names_in p) k (arg_sides p.tree n) n.sides) (map judged n.args)) is in
        elim (node_bent p rules ok i within) [
          | inl convex ↦ taken_by rules q (arg_sides p.tree n) n.sides Convex (map judged n.args)
              (bent_parts rules c Convex (map judged n.args) (subst (λ (k : Judgement). IsTrue k.convex) g convex) some).0
          | inr concave ↦ taken_by rules q (arg_sides p.tree n) n.sides Concave (map judged n.args)
              (bent_parts rules c Concave (map judged n.args) (subst (λ (k : Judgement). IsTrue k.concave) g concave) some).0
        ]

    -- ---- the entries of each call
    abbrev args : Arguments C
    args = args_among of_number forms n.args

    product_sum : (scaling : Scaling) → MayScale value_at of_number number_of Sums Changes laws u params args scaling → (pairs : List Pair) (j : ℕ) (entry : EntryForms C) →
        PairEntry of_number number_of Sums Changes scaling args pairs j (Ok entry) →
        linear_value value_at entry.form u params ≡ pairing_value Times pairs (λ e. linear_value value_at (args 0 e) u params) (λ e. linear_value value_at (args 1 e) u params)
    product_sum scaling may pairs j entry h =
        products_are value_at of_number number_of Sums Changes laws u params args scaling may pairs entry.form (pair_made of_number number_of Sums Changes scaling args pairs j entry h).sums

    pair_sum : (q : Pairing) → MayPair q n.args → (j : ℕ) (entry : EntryForms C)
        → ReducedEntry of_number number_of Sums Changes Reads rules p setting forms i n.args (calls.Pairing q) (arg_sides p.tree n) j (Ok entry)
        → linear_value value_at entry.form u params
        ≡ pairing_value q (pairs_at q (sides_at (arg_sides p.tree n) 0) (sides_at (arg_sides p.tree n) 1) j) (λ e. linear_value value_at (args 0 e) u params)
        (λ e. linear_value value_at (args 1 e) u params)
    pair_sum Times may j entry h =
        product_sum (scaling_of of_number number_of Sums Changes Reads rules p setting Times forms n.args) may
        (pairs_at Times (sides_at (arg_sides p.tree n) 0) (sides_at (arg_sides p.tree n) 1) j) j entry h
    pair_sum MatTimes may j entry h =
        product_sum (scaling_of of_number number_of Sums Changes Reads rules p setting MatTimes forms n.args) may
        (pairs_at MatTimes (sides_at (arg_sides p.tree n) 0) (sides_at (arg_sides p.tree n) 1) j) j entry h
    pair_sum Over may j entry h =
        let pairs = pairs_at Over (sides_at (arg_sides p.tree n) 0) (sides_at (arg_sides p.tree n) 1) j in
        quotients_are value_at of_number number_of Sums Changes laws u params args may pairs entry.form (pair_made of_number number_of Sums Changes Divisor args pairs j entry h).sums

    variable_entry : (v : Variable) → n.call ≡ calls.Variable v → own_sides (sides_in v) (arg_sides p.tree n) ≡ Some n.sides → (j : ℕ) → j < entries_of n.sides →
        number_at u (unknown_from (first_unknown p.variables (number_of_name (names_in p).variables v.name)) v j) ≡ point_at p.variables u (number_of_name (names_in p).variables v.name) j
    variable_entry v is shape j b =
        let k = number_of_name (names_in p).variables v.name in
        let first = first_unknown p.variables k in
        where_declared p i n v at is (number_at u (unknown_from first v j)) (point_at p.variables u k j) (λ there.
        sym (first_in (entries_of (sides_in v)) (λ j. number_at u (unknown_from first v j)) j
        (subst (λ (r : Sides). j < entries_of r) (sym (own_is (sides_in v) (arg_sides p.tree n) n.sides shape)) b))
        ∙ sym (ap (λ o. array_from u first o j) there))

    call_value : (call : Call) → n.call ≡ call → shape_of call (arg_sides p.tree n) ≡ Some n.sides → (j : ℕ) → j < entries_of n.sides → (entry : EntryForms C) →
        ReducedEntry of_number number_of Sums Changes Reads rules p setting forms i n.args call (arg_sides p.tree n) j (Ok entry) →
        linear_value value_at entry.form u params ≡ call_entry (names_in p) s (point_at p.variables u) call (arg_sides p.tree n) (arguments (map (F u) n.args)) (filling_of rules p i u) j
    call_value (calls.Variable v) is shape j b entry h =
        let o = unknown_from (first_unknown p.variables (number_of_name (names_in p).variables v.name)) v j in
        ap (λ (z : EntryForms C). linear_value value_at z.form u params) (entry_is {E = ValueStop} entry (alone (form_of_unknown of_number o)) h)
        ∙ unknown_or_zero value_at of_number number_of Sums Changes laws u params o
        ∙ variable_entry v is shape j b
    call_value (calls.Parameter q) is shape j b entry h =
        ap (λ (z : EntryForms C). linear_value value_at z.form u params) (entry_is {E = ValueStop} entry (alone (constant_form h.0)) h.2)
        ∙ constant_is value_at of_number number_of Sums Changes laws u params h.0
        ∙ read i n q at is reduced j h.0 h.1
    call_value (calls.Constant c) is shape j b entry h = absurd (subst IsReducible is (reducible p rules i n at reduced))
    call_value (calls.Atom m) is shape j b entry h =
        let result = (atom_meaning m).result (arg_sides p.tree n) j in
        let made = atom_made of_number number_of Sums Changes (map (aux_part of_number (first_aux rules p i)) result) _ entry h in
        parts_are value_at of_number number_of Sums Changes laws u params (map (aux_part of_number (first_aux rules p i)) result) entry.form made.sums
        ∙ result_is value_at of_number number_of Sums Changes laws u params (first_aux rules p i) result ((atom_lawful m).fraction_coefficients.results
        (arg_sides p.tree n) n.sides j shape (few_args p.tree p.nodes n))
    call_value (calls.Linear l) is shape j b entry h =
        let terms = (linear_meaning l).terms (arg_sides p.tree n) j in
        parts_are value_at of_number number_of Sums Changes laws u params (map (term_part args) terms) entry.form
        (linear_made of_number number_of Sums Changes (map (term_part args) terms) entry h).sums
        ∙ terms_are value_at of_number number_of Sums Changes laws u params args terms
        (recursion_from_All FitsIn terms (coefficients_fit l (arg_sides p.tree n) n.sides j shape b (few_args p.tree p.nodes n)))
        ∙ ap (λ (a : Entries). terms_at terms a) (args_match value_at of_number number_of Sums Changes laws table params u n.args)
    call_value (calls.Pairing q) is shape j b entry h =
        pair_sum q (pair_may q n.args (arena.sides_at p.tree) n.sides shape (p.nodes.earlier i n at) (pair_taken q is)) j entry h
        ∙ ap (λ (a : Entries). pairing_value q (pairs_at q (sides_at (arg_sides p.tree n) 0) (sides_at (arg_sides p.tree n) 1) j) (a 0) (a 1))
        (args_match value_at of_number number_of Sums Changes laws table params u n.args)

    entry_stands : (j : ℕ) → j < entries_of n.sides → F u i j ≡ entry_by rules p s F i n u j
    entry_stands j b =
        let w = entry_there of_number number_of Sums Changes Reads rules p setting table formed i n at j b in
        let g = subst (λ r. NodeEntryBy of_number number_of Sums Changes Reads rules p setting r forms i n j (Ok w.entry)) reduced w.gives in
        ap (λ (f : Form C). linear_value value_at f u params) w.is
        ∙ call_value n.call refl (p.nodes.shaped i n at) j b w.entry g

    pub reduced_stands : (j : ℕ) → F u i j ≡ first_of (entries_of n.sides) (entry_by rules p s F i n u) j
    reduced_stands j =
        first_alike (entries_of n.sides) (entry_by rules p s F i n u) (F u i j) j (entry_stands j)
        (λ past. ap (λ (f : Form C). linear_value value_at f u params) (entry_past of_number number_of Sums Changes Reads rules p setting table formed i n at j past)
        ∙ zero_is value_at of_number number_of Sums Changes laws u params)
