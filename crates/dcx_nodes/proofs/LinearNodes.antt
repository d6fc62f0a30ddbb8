-- The terms of a linear call, as they are listed, are those of its meaning.
use Rattle.std.proofs.Common.{◌≡◌, ℕ, ◌<◌, Bool, List, [], length, map, slice_index_or, Option, Some, IfSome, IsSome, refl, sym, ap, ◌∙◌, subst, Result}
use Rattle.std.proofs.lemmas.List.{length-map}
use Rattle.std.proofs.lemmas.Option.{same_Some}
use Rattle.dcx_math.proofs.Lists.{map-get_or}
use Rattle.dcx_frac.specs.declared.fraction.Frac.{Frac}
use Rattle.dcx_frac.specs.declared.fraction.Passes.{Passes}
use Rattle.dcx_shape.specs.declared.shape.Shape.{Shape}
use Rattle.dcx_shape.specs.Shape.{sides_of}
use Rattle.dcx_shape.specs.Sides.{entries_of}
use Rattle.dcx_atom.specs.declared.stops.ValueStop.{ValueStop}
use Rattle.dcx_atom.specs.declared.terms.Triple.{Triple}
use Rattle.dcx_atom.specs.Arrays.{sides_list, list_below}
use Rattle.dcx_atom.specs.Linear.{linear_term, AreTermsOf}
use Rattle.dcx_atom.proofs.BoundRows.{length-list_below}
use Rattle.dcx_atom.proofs.Lists.{get_or-list_below}
use Rattle.dcx_point.specs.Pairs.{Pairs}
use Rattle.dcx_arena.specs.Nodes.{IsNode, call_at, args_at, sides_at}
use Rattle.dcx_call.specs.declared.linears.LinearCall.{LinearCall}
use Rattle.dcx_call.specs.declared.call.Call.TheVariants as calls
use Rattle.dcx_call.specs.Linears.{linear_meaning}
use Rattle.dcx_call.proofs.Entries.{some_fact}
use Rattle.dcx_tree.specs.declared.problem.Problem.{Problem}
use Rattle.dcx_tree.specs.Nodes.{Node, arg_sides}
use Rattle.dcx_tree.proofs.NodeValues.{args_are, sides_are}
use Rattle.dcx_linear.specs.declared.change.Change.{Change}
use Rattle.dcx_linear.specs.declared.form.Form.{Form}
use Rattle.dcx_entries.specs.declared.entries.EntryForms.{EntryForms}
use Rattle.dcx_entries.specs.Forming.{FormsEach, AtEntry}
use Rattle.dcx_entries.specs.Parts.{term_part}
use Rattle.dcx_entries.specs.Entries.{LinearEntry}
use Rattle.dcx_entries.specs.Standing.{args_among}
use Rattle.dcx_nodes.specs.Formed.{ReducedGives}
use Rattle.dcx_nodes.proofs.AtNode.{shape_given}
use Rattle.dcx_nodes.proofs.Gives.{each_alike, reduced_by}

module _ (p : Problem) (i : ℕ) (l : LinearCall) (c : call_at p.tree i ≡ Some (calls.Linear l)) (n : Node) (at : IsNode p.tree i n) (shapes : List Shape)
    (shapes_are : map sides_of shapes ≡ arg_sides p.tree n) where
  shape_is : (linear_meaning l).shape (sides_list shapes) ≡ Some n.sides
  shape_is = ap (linear_meaning l).shape shapes_are ∙ shape_given p i (calls.Linear l) c n at

  pub linear_shape : IsSome ((linear_meaning l).shape (sides_list shapes))
  linear_shape = subst IsSome (sym shape_is) refl

  module _ (terms : List (List Triple)) (h : IfSome ((linear_meaning l).shape (sides_list shapes)) (λ s. AreTermsOf (linear_meaning l) (sides_list shapes) (entries_of s) terms)) where
    terms_are : map (map linear_term) terms ≡ list_below (entries_of n.sides) ((linear_meaning l).terms (arg_sides p.tree n))
    terms_are =
        some_fact (λ s. AreTermsOf (linear_meaning l) (sides_list shapes) (entries_of s) terms) ((linear_meaning l).shape (sides_list shapes)) n.sides shape_is h
        ∙ ap (λ ss. list_below (entries_of n.sides) ((linear_meaning l).terms ss)) shapes_are

    pub terms_counted : length terms ≡ entries_of n.sides
    terms_counted = sym (length-map terms (map linear_term)) ∙ ap length terms_are ∙ length-list_below (entries_of n.sides) ((linear_meaning l).terms (arg_sides p.tree n))

    terms_at : (j : ℕ) → j < entries_of n.sides → map linear_term (slice_index_or terms j []) ≡ (linear_meaning l).terms (arg_sides p.tree n) j
    terms_at j b =
        map-get_or (map linear_term) refl terms j ∙ ap (λ ts. slice_index_or ts j []) terms_are ∙ get_or-list_below (entries_of n.sides) ((linear_meaning l).terms (arg_sides p.tree n)) j [] b

    module _ {C : Type 0} (of_number : Frac → C) (number_of : C → Option Frac) (Sums : C → C → Result C Passes → Type 0) (Changes : Change → C → Result C Passes → Type 0)
        (Reads : ℕ → List ℕ → ℕ → Pairs → C → Type 0) (setting : Pairs) (reduced fixed : List Bool) (forms : List (List (Form C))) (ids : List ℕ) (ids_are : ids ≡ args_at p.tree i) where
      abbrev Listed : ℕ → Result (EntryForms C) ValueStop → Type 0
      Listed j r = AtEntry j (LinearEntry of_number number_of Sums Changes (map (term_part (args_among of_number forms ids)) (map linear_term (slice_index_or terms j [])))) r

      abbrev Told : List ℕ → ℕ → Result (EntryForms C) ValueStop → Type 0
      Told args j r = AtEntry j (LinearEntry of_number number_of Sums Changes (map (term_part (args_among of_number forms args)) ((linear_meaning l).terms (arg_sides p.tree n) j))) r

      entries_alike : (args : List ℕ) → ids ≡ args → (j : ℕ) → j < entries_of n.sides → (r : Result (EntryForms C) ValueStop) → Listed j r → Told args j r
      entries_alike args e j b r h =
          subst (λ zs. AtEntry j (LinearEntry of_number number_of Sums Changes (map (term_part (args_among of_number forms zs)) ((linear_meaning l).terms (arg_sides p.tree n) j))) r) e
          (subst (λ ts. AtEntry j (LinearEntry of_number number_of Sums Changes (map (term_part (args_among of_number forms ids)) ts)) r) (terms_at j b) h)

      pub linear_gives : (size : ℕ) (r : Result (List (EntryForms C)) ValueStop) → size ≡ entries_of (sides_at p.tree i) → FormsEach Listed size r →
          ReducedGives of_number number_of Sums Changes Reads p setting reduced fixed forms i r
      linear_gives size r size_is h =
          let here : size ≡ entries_of n.sides = size_is ∙ ap entries_of (sides_are p.tree i n at) in
          reduced_by of_number number_of Sums Changes Reads p setting reduced fixed forms i (calls.Linear l) c size size_is r
          (λ rules marks m there.
          let same : n ≡ m = same_Some n m (sym at ∙ there) in
          subst (λ (z : Node). FormsEach
          (λ j s. AtEntry j (LinearEntry of_number number_of Sums Changes (map (term_part (args_among of_number forms z.args)) ((linear_meaning l).terms (arg_sides p.tree z) j))) s) size r) same
          (each_alike Listed (Told n.args) size r (λ j b s k. entries_alike n.args (ids_are ∙ args_are p.tree i n at) j (subst (λ z. j < z) here b) s k) h))
