-- What stands for a node, from what its call forms.
use Rattle.std.proofs.Common.{◌≡◌, ℕ, ◌+◌, ◌<◌, Bool, true, false, List, [], length, Option, Some, sym, ◌∙◌, subst, Result, Ok, Err, IfOk, OnOk}
use Rattle.dcx_frac.specs.declared.fraction.Frac.{Frac}
use Rattle.dcx_frac.specs.declared.fraction.Passes.{Passes}
use Rattle.dcx_shape.specs.declared.shape.Sides.{Sides}
use Rattle.dcx_shape.specs.Shape.{sides_of}
use Rattle.dcx_shape.specs.Sides.{entries_of}
use Rattle.dcx_atom.specs.declared.array.Array.{Array}
use Rattle.dcx_atom.specs.declared.stops.ValueStop.{ValueStop}
use Rattle.dcx_point.specs.Pairs.{Pairs}
use Rattle.dcx_arena.specs.Nodes.{IsNode, call_at}
use Rattle.dcx_arena.proofs.Results.{on_ok}
use Rattle.dcx_call.specs.declared.call.Call.{Call}
use Rattle.dcx_call.specs.declared.call.Call.TheVariants as calls
use Rattle.dcx_call.specs.Values.{IsGiven}
use Rattle.dcx_tree.specs.declared.problem.Problem.{Problem}
use Rattle.dcx_tree.specs.Nodes.{Node, arg_sides}
use Rattle.dcx_unknowns.specs.Layout.{marked, call_aux}
use Rattle.dcx_linear.specs.declared.change.Change.{Change}
use Rattle.dcx_linear.specs.declared.form.Form.{Form}
use Rattle.dcx_entries.specs.declared.entries.EntryForms.{EntryForms}
use Rattle.dcx_entries.specs.declared.standing.Standing.{Standing}
use Rattle.dcx_entries.specs.Forming.{FormsEach, IsFormed}
use Rattle.dcx_entries.specs.Standing.{args_among}
use Rattle.dcx_entries.specs.Nodes.{NumberEntry, ReducedEntry, NodeEntryBy}
use Rattle.dcx_entries.proofs.Each.{OnStop-weaker}
use Rattle.dcx_nodes.specs.Formed.{IsOfSides, StandingBy, ValueBy, as_forms, as_value, entries_in, ValueGives, ReducedGives, MarkedGives}
use Rattle.dcx_nodes.specs.Given.{first_marked}
use Rattle.dcx_nodes.proofs.AtNode.{call_is}
use Rattle.dcx_nodes.proofs.Auxiliaries.{next_without}

module _ {C : Type 0} (of_number : Frac → C) where
  -- ---- entries
  module _ (r : Result (List (EntryForms C)) ValueStop) (s : Result (Standing C) ValueStop) (e : s ≡ as_forms r) where
    pub forms_sides : (sides : Sides) → IfOk r (λ es. length es ≡ entries_of sides) → IfOk s (IsOfSides sides)
    forms_sides sides h = subst (λ z. IfOk z (IsOfSides sides)) (sym e) (by r h)
      where
        by : (r : Result (List (EntryForms C)) ValueStop) → IfOk r (λ es. length es ≡ entries_of sides) → IfOk (as_forms r) (IsOfSides sides)
        by (Ok es) h = h
        by (Err stop) h = tt

    pub forms_by : (P : Result (List (EntryForms C)) ValueStop → Type 0) → IsFormed r P → StandingBy of_number s P
    forms_by P h = subst (λ z. StandingBy of_number z P) (sym e) (by r h)
      where
        by : (r : Result (List (EntryForms C)) ValueStop) → IsFormed r P → StandingBy of_number (as_forms r) P
        by (Ok es) h = h
        by (Err stop) h = h

    pub forms_on : (X : Type 0) → OnOk r X → OnOk s X
    forms_on X h = subst (λ z. OnOk z X) (sym e) (by r h)
      where
        by : (r : Result (List (EntryForms C)) ValueStop) → OnOk r X → OnOk (as_forms r) X
        by (Ok es) h = h
        by (Err stop) h = tt

  -- ---- values
  module _ (r : Result Array ValueStop) (s : Result (Standing C) ValueStop) (e : s ≡ as_value r) where
    pub value_sides : (sides : Sides) → IfOk r (λ x. sides_of x.shape ≡ sides) → IfOk s (IsOfSides sides)
    value_sides sides h = subst (λ z. IfOk z (IsOfSides sides)) (sym e) (by r h)
      where
        by : (r : Result Array ValueStop) → IfOk r (λ x. sides_of x.shape ≡ sides) → IfOk (as_value {C = C} r) (IsOfSides sides)
        by (Ok x) h = h
        by (Err stop) h = tt

    pub value_by : (P : Result (List (EntryForms C)) ValueStop → Type 0) → ValueBy of_number r P → StandingBy of_number s P
    value_by P h = subst (λ z. StandingBy of_number z P) (sym e) (by r h)
      where
        by : (r : Result Array ValueStop) → ValueBy of_number r P → StandingBy of_number (as_value r) P
        by (Ok x) h = h
        by (Err stop) h = h

  -- what follows
  pub standing_weaker : (s : Result (Standing C) ValueStop) (P Q : Result (List (EntryForms C)) ValueStop → Type 0) → ((r : Result (List (EntryForms C)) ValueStop) → P r → Q r)
      → StandingBy of_number s P → StandingBy of_number s Q
  standing_weaker (Ok x) P Q f h = f (Ok (entries_in of_number x)) h
  standing_weaker (Err stop) P Q f h = OnStop-weaker stop (λ e. P (Err e)) (λ e. Q (Err e)) (λ e. f (Err e)) h

-- a call without a graph takes no auxiliary unknowns
pub next_stays : {A E : Type 0} (p : Problem) (reduced : List Bool) (i : ℕ) (next : ℕ) → next ≡ first_marked p reduced i → marked reduced i ≡ true → (call : Call) → call_at p.tree i ≡ Some call →
    ((n : Node) → call_aux p.tree n call ≡ []) → (r : Result A E) → OnOk r (next ≡ first_marked p reduced (i + 1))
next_stays p reduced i next is e call c none r = on_ok r (is ∙ sym (next_without p reduced i call c none e))

-- a constant takes nothing
pub constant_given : (p : Problem) (i : ℕ) (x : Array) (setting : Pairs) → call_at p.tree i ≡ Some (calls.Constant x) → (n : Node) → IsNode p.tree i n → IsGiven n.call setting []
constant_given p i x setting c n at = subst (λ z. IsGiven z setting []) (sym (call_is p i (calls.Constant x) c n at)) tt

module _ {C : Type 0} (of_number : Frac → C) (number_of : C → Option Frac) (Sums : C → C → Result C Passes → Type 0) (Changes : Change → C → Result C Passes → Type 0)
    (Reads : ℕ → List ℕ → ℕ → Pairs → C → Type 0) (p : Problem) (setting : Pairs) (reduced fixed : List Bool) (forms : List (List (Form C))) (i : ℕ) (r : Result (List (EntryForms C)) ValueStop) where
  -- a constant is its value
  pub constant_gives : (x : Array) → call_at p.tree i ≡ Some (calls.Constant x) → ValueGives of_number number_of Sums Changes Reads p setting forms i r
      → ReducedGives of_number number_of Sums Changes Reads p setting reduced fixed forms i r
  constant_gives x c h rules marks n at =
      subst (λ call. FormsEach (ReducedEntry of_number number_of Sums Changes Reads rules p setting forms i n.args call (arg_sides p.tree n)) (entries_of n.sides) r)
      (sym (call_is p i (calls.Constant x) c n at))
      (subst (λ call. FormsEach (NumberEntry of_number number_of Sums Changes Reads rules p setting call (arg_sides p.tree n) (args_among of_number forms n.args)) (entries_of n.sides) r)
      (call_is p i (calls.Constant x) c n at)
      (h rules n at))

  -- a node that is reduced, and one that isn't
  pub marked_reduced : i < length p.tree → marked reduced i ≡ true → ReducedGives of_number number_of Sums Changes Reads p setting reduced fixed forms i r
      → MarkedGives of_number number_of Sums Changes Reads p setting reduced fixed forms i r
  marked_reduced lt e h rules marks n at =
      subst (λ b. FormsEach (NodeEntryBy of_number number_of Sums Changes Reads rules p setting b forms i n) (entries_of n.sides) r) (sym e ∙ marks.reduces i lt) (h rules marks n at)

  pub marked_number : i < length p.tree → marked reduced i ≡ false → ValueGives of_number number_of Sums Changes Reads p setting forms i r
      → MarkedGives of_number number_of Sums Changes Reads p setting reduced fixed forms i r
  marked_number lt e h rules marks n at =
      subst (λ b. FormsEach (NodeEntryBy of_number number_of Sums Changes Reads rules p setting b forms i n) (entries_of n.sides) r) (sym e ∙ marks.reduces i lt) (h rules n at)
