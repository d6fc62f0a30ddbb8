-- Variables and parameters are among those that are listed, and their entries are formed of their own.
use Rattle.std.proofs.Common.{◌≡◌, ℕ, suc, ◌+◌, ◌<◌, ◌≤◌, ◌^◌, arith, Bool, true, false, if◌then◌else◌, List, [], ◌∷◌, length}
use Rattle.std.proofs.Common.{length-append, map, get_or, Option, Some, refl, sym, ap, ◌∙◌, subst, zero-add, Result, Ok}
use Rattle.std.specs.Prelude.{slice_get}
use Rattle.std.proofs.Props.{props}
use Rattle.std.proofs.Math.Logic.{∥∥₁_elim}
use Rattle.std.proofs.lemmas.List.{length-map}
use Rattle.std.proofs.lemmas.List.FromFn.{length-range_with_len, get_or-range_with_len}
use Rattle.std.proofs.lemmas.Option.{slice_get_within, get_or_from_slice_get}
use Rattle.dcx_math.proofs.Lists.{mapped}
use Rattle.dcx_frac.specs.declared.fraction.Frac.{Frac}
use Rattle.dcx_frac.specs.declared.fraction.Passes.{Passes}
use Rattle.dcx_shape.specs.Shape.{sides_of}
use Rattle.dcx_shape.specs.Sides.{entries_of}
use Rattle.dcx_shape.specs.Places.{places_below}
use Rattle.dcx_atom.specs.declared.stops.ValueStop.{ValueStop}
use Rattle.dcx_point.specs.Pairs.{Pairs, same_name}
use Rattle.dcx_arena.specs.Nodes.{IsNode, call_at, sides_at}
use Rattle.dcx_call.specs.declared.attribute.Variable.{Variable}
use Rattle.dcx_call.specs.declared.attribute.Parameter.{Parameter}
use Rattle.dcx_call.specs.declared.call.Call.TheVariants as calls
use Rattle.dcx_tree.specs.declared.problem.Problem.{Problem}
use Rattle.dcx_tree.specs.Nodes.{Node, arg_sides, number_in}
use Rattle.dcx_tree.specs.Kept.{IsSquareFor-prop}
use Rattle.dcx_tree.specs.Problems.{IsListed}
use Rattle.dcx_tree.specs.Meaning.{names_in}
use Rattle.dcx_tree.proofs.Names.{found_in}
use Rattle.dcx_tree.proofs.NodeValues.{sides_are}
use Rattle.dcx_tree.proofs.Sublists.{contains_at}
use Rattle.dcx_tree.proofs.Few.{few_parameters}
use Rattle.dcx_unknowns.specs.Own.{own_count}
use Rattle.dcx_unknowns.specs.Unknowns.{demanded, sides_in, variable_unknowns, variable_kinds, first_unknown, unknown_from}
use Rattle.dcx_call.specs.Attributes.{IsSquare}
use Rattle.dcx_call.proofs.CallLaws.{own_is}
use Rattle.dcx_unknowns.specs.Layout.{marked, aux_kind, aux_below}
use Rattle.dcx_unknowns.proofs.Domains.{number_is}
use Rattle.dcx_unknowns.proofs.Owners.{are_numbered, first_fits}
use Rattle.dcx_linear.specs.declared.change.Change.{Change}
use Rattle.dcx_linear.specs.declared.form.Form.{Form}
use Rattle.dcx_entries.specs.declared.entries.EntryForms.{EntryForms}
use Rattle.dcx_entries.specs.Forming.{FormsEach}
use Rattle.dcx_entries.specs.Parts.{form_of_unknown}
use Rattle.dcx_entries.specs.Entries.{alone, ParameterEntry}
use Rattle.dcx_entries.specs.Nodes.{ReducedEntry}
use Rattle.dcx_nodes.specs.Given.{HasFewUnknowns}
use Rattle.dcx_nodes.specs.Formed.{ReducedGives}
use Rattle.dcx_nodes.proofs.AtNode.{call_is, shape_given}

-- ---- few unknowns
pub few_variable_unknowns : (p : Problem) (reduced : List Bool) → HasFewUnknowns p reduced → variable_unknowns p.variables < 2 ^ 32
few_variable_unknowns p reduced few =
    let rest = map aux_kind (aux_below p.tree (marked reduced) (length p.tree)) in
    omega (arith, few, length-append (variable_kinds p.variables) rest, (are_numbered p.variables).kinds)

-- ---- a variable is listed
module _ (p : Problem) (i : ℕ) (v : Variable) (c : call_at p.tree i ≡ Some (calls.Variable v)) where
  abbrev pub place : ℕ
  place = number_in (names_in p).variables v.name

  listed : (P : Type 0) → IsProp P → (slice_get p.variables place ≡ Some v → P) → P
  listed P prop f =
      let (n, at, is) = found_in (slice_get p.tree i) (calls.Variable v) c in
      ∥∥₁_elim p.declared prop (λ d.
      let (k, there) = contains_at p.variables v (subst (IsListed p.variables p.parameters) is (d.listed i n at)) in
      f (ap (slice_get p.variables) (number_is p d k v there) ∙ there))

  pub place_there : place < length p.variables
  place_there = listed (place < length p.variables) (hlevel props) (λ there. slice_get_within p.variables place v there)

  pub is_square : IsSquare v
  is_square = listed (IsSquare v) (IsSquareFor-prop (demanded v) (sides_in v)) (λ there.
      subst IsSquare (get_or_from_slice_get p.variables place v v there) (p.squares place v (slice_get_within p.variables place v there)))

  pub unknowns_within : first_unknown p.variables place + own_count (demanded v) (sides_in v) ≤ variable_unknowns p.variables
  unknowns_within = listed (first_unknown p.variables place + own_count (demanded v) (sides_in v) ≤ variable_unknowns p.variables) (hlevel props) (λ there.
      first_fits p.variables place (first_unknown p.variables place) v (slice_get_within p.variables place v there) (sym (get_or_from_slice_get p.variables place v v there)) refl)

-- ---- a parameter goes by a small number
number_in-le : (names : List (List ℕ)) (name : List ℕ) → number_in names name ≤ length names
number_in-le [] name = omega arith
number_in-le (n ∷ names) name = by (same_name n name) (number_in-le names name)
  where
    by : (b : Bool) → number_in names name ≤ length names → (if b then 0 else suc (number_in names name)) ≤ suc (length names)
    by true h = omega arith
    by false h = omega (arith, h)

pub parameter_small : (p : Problem) (name : List ℕ) → number_in (names_in p).parameters name ≤ 20000
parameter_small p name = omega (arith, few_parameters p, number_in-le (names_in p).parameters name, length-map p.parameters (λ (q : Parameter). q.name))

-- ---- entries
place_at : (n k e : ℕ) → slice_get (places_below n) k ≡ Some e → k ≡ e
place_at n k e at =
    let there : k < length (places_below n) = slice_get_within (places_below n) k e at in
    let lt : k < n = omega (arith, there, length-range_with_len 0 n) in
    sym (get_or-range_with_len 0 n k 0 lt ∙ zero-add k) ∙ get_or_from_slice_get (places_below n) k e 0 at

module _ {C : Type 0} (of_number : Frac → C) (number_of : C → Option Frac) (Sums : C → C → Result C Passes → Type 0) (Changes : Change → C → Result C Passes → Type 0)
    (Reads : ℕ → List ℕ → ℕ → Pairs → C → Type 0) (p : Problem) (setting : Pairs) (reduced fixed : List Bool) (forms : List (List (Form C))) (i : ℕ) where
  module _ (v : Variable) (c : call_at p.tree i ≡ Some (calls.Variable v)) (first : ℕ) (es : List (EntryForms C)) (unknowns : List (Option ℕ))
      (es_are : es ≡ map (λ u. alone (form_of_unknown of_number u)) unknowns)
      (unknowns_are : unknowns ≡ map (unknown_from first v) (places_below (entries_of (sides_in v)))) where
    counted : length es ≡ entries_of (sides_in v)
    counted = ap length es_are ∙ length-map unknowns (λ u. alone (form_of_unknown of_number u)) ∙ ap length unknowns_are ∙ length-map (places_below (entries_of (sides_in v))) (unknown_from first v)
        ∙ length-range_with_len 0 (entries_of (sides_in v))

    pub variable_counted : (n : Node) → IsNode p.tree i n → length es ≡ entries_of (sides_at p.tree i)
    variable_counted n at = counted ∙ ap entries_of (own_is (sides_of v.shape) (arg_sides p.tree n) n.sides (shape_given p i (calls.Variable v) c n at) ∙ sym (sides_are p.tree i n at))

    each : first ≡ first_unknown p.variables (number_in (names_in p).variables v.name) → (j : ℕ) (e : EntryForms C) → slice_get es j ≡ Some e →
        ◌≡◌ {A = Result (EntryForms C) ValueStop} (Ok e) (Ok (alone (form_of_unknown of_number (unknown_from (first_unknown p.variables (number_in (names_in p).variables v.name)) v j))))
    each is j e there =
        let (u, here, made) = mapped (λ u. alone (form_of_unknown of_number u)) unknowns j e (ap (λ xs. slice_get xs j) (sym es_are) ∙ there) in
        let (k, place, own) = mapped (unknown_from first v) (places_below (entries_of (sides_in v))) j u (ap (λ xs. slice_get xs j) (sym unknowns_are) ∙ here) in
        ap Ok (sym made ∙ ap (λ u. alone (form_of_unknown of_number u)) (sym own ∙ ap (unknown_from first v) (sym (place_at (entries_of (sides_in v)) j k place)) ∙ ap (λ f. unknown_from f v j) is))

    pub variable_gives : first ≡ first_unknown p.variables (number_in (names_in p).variables v.name) → ReducedGives of_number number_of Sums Changes Reads p setting reduced fixed forms i (Ok es)
    variable_gives is rules marks n at =
        subst (λ call. FormsEach (ReducedEntry of_number number_of Sums Changes Reads rules p setting forms i n.args call (arg_sides p.tree n)) (entries_of n.sides) (Ok es))
        (sym (call_is p i (calls.Variable v) c n at))
        (counted ∙ ap entries_of (own_is (sides_of v.shape) (arg_sides p.tree n) n.sides (shape_given p i (calls.Variable v) c n at)), each is)

  module _ (q : Parameter) (c : call_at p.tree i ≡ Some (calls.Parameter q)) (position size : ℕ) (es : List (EntryForms C)) (size_is : size ≡ entries_of (sides_of q.shape))
      (h : FormsEach (ParameterEntry Reads position q.name setting) size (Ok es)) where
    pub parameter_counted : (n : Node) → IsNode p.tree i n → length es ≡ entries_of (sides_at p.tree i)
    parameter_counted n at = h.0 ∙ size_is ∙ ap entries_of (own_is (sides_of q.shape) (arg_sides p.tree n) n.sides (shape_given p i (calls.Parameter q) c n at) ∙ sym (sides_are p.tree i n at))

    pub parameter_gives : position ≡ number_in (names_in p).parameters q.name → ReducedGives of_number number_of Sums Changes Reads p setting reduced fixed forms i (Ok es)
    parameter_gives is rules marks n at =
        subst (λ call. FormsEach (ReducedEntry of_number number_of Sums Changes Reads rules p setting forms i n.args call (arg_sides p.tree n)) (entries_of n.sides) (Ok es))
        (sym (call_is p i (calls.Parameter q) c n at))
        (subst (λ m. FormsEach (ParameterEntry Reads (number_in (names_in p).parameters q.name) q.name setting) m (Ok es))
        (size_is ∙ ap entries_of (own_is (sides_of q.shape) (arg_sides p.tree n) n.sides (shape_given p i (calls.Parameter q) c n at)))
        (subst (λ k. FormsEach (ParameterEntry Reads k q.name setting) size (Ok es)) is h))
