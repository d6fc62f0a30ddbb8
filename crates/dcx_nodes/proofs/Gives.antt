-- From what is formed by a call to what is formed of its node.
use Rattle.std.proofs.Common.{◌≡◌, ℕ, ◌<◌, arith, Bool, List, length, Option, Some, sym, ap, ◌∙◌, subst, Result, Ok, Err, IfOk}
use Rattle.std.proofs.lemmas.Option.{slice_get_within}
use Rattle.dcx_frac.specs.declared.fraction.Frac.{Frac}
use Rattle.dcx_frac.specs.declared.fraction.Passes.{Passes}
use Rattle.dcx_shape.specs.Sides.{entries_of}
use Rattle.dcx_atom.specs.declared.stops.ValueStop.{ValueStop}
use Rattle.dcx_point.specs.Pairs.{Pairs}
use Rattle.dcx_arena.specs.Nodes.{IsNode, call_at, sides_at}
use Rattle.dcx_call.specs.declared.call.Call.{Call}
use Rattle.dcx_convex.specs.Rules.{Rules}
use Rattle.dcx_tree.specs.declared.problem.Problem.{Problem}
use Rattle.dcx_tree.specs.Nodes.{Node, arg_sides}
use Rattle.dcx_tree.proofs.NodeValues.{sides_are}
use Rattle.dcx_linear.specs.declared.change.Change.{Change}
use Rattle.dcx_linear.specs.declared.form.Form.{Form}
use Rattle.dcx_entries.specs.declared.entries.EntryForms.{EntryForms}
use Rattle.dcx_entries.specs.Forming.{FormsEach, IsFormed}
use Rattle.dcx_entries.specs.Nodes.{ReducedEntry}
use Rattle.dcx_entries.proofs.Each.{OnStop-weaker}
use Rattle.dcx_nodes.specs.Marks.{AreMarks}
use Rattle.dcx_nodes.specs.Formed.{ReducedGives}
use Rattle.dcx_nodes.proofs.AtNode.{call_is}

-- entries below n that are formed in two ways which are one
pub each_alike : {A E : Type 0} (F G : ℕ → Result A E → Type 0) (n : ℕ) (r : Result (List A) E) → ((j : ℕ) → j < n → (s : Result A E) → F j s → G j s) → FormsEach F n r → FormsEach G n r
each_alike F G n (Ok xs) f h = (h.0, λ j x e. let lt = slice_get_within xs j x e in f j (omega (arith, lt, h.0)) (Ok x) (h.1 j x e))
each_alike F G n (Err e) f (k, lt, here, before) = (k, lt, f k lt (Err e) here, λ j b. let s = before j b in (s.0, f j (omega (arith, b, lt)) (Ok s.0) s.1))

-- what is formed says more
pub formed_weaker : {A : Type 0} (r : Result A ValueStop) (P Q : Result A ValueStop → Type 0) → ((s : Result A ValueStop) → P s → Q s) → IsFormed r P → IsFormed r Q
formed_weaker (Ok x) P Q f h = f (Ok x) h
formed_weaker (Err stop) P Q f h = OnStop-weaker stop (λ e. P (Err e)) (λ e. Q (Err e)) (λ e. f (Err e)) h

-- how many are formed
pub formed_count : {A : Type 0} (F : ℕ → Result A ValueStop → Type 0) (n m : ℕ) (r : Result (List A) ValueStop) → n ≡ m → IsFormed r (FormsEach F n) → IfOk r (λ xs. length xs ≡ m)
formed_count F n m (Ok xs) e h = h.0 ∙ e
formed_count F n m (Err stop) e h = tt

module _ {C : Type 0} (of_number : Frac → C) (number_of : C → Option Frac) (Sums : C → C → Result C Passes → Type 0) (Changes : Change → C → Result C Passes → Type 0)
    (Reads : ℕ → List ℕ → ℕ → Pairs → C → Type 0) (p : Problem) (setting : Pairs) (reduced fixed : List Bool) (forms : List (List (Form C))) (i : ℕ) (call : Call) (c : call_at p.tree i ≡ Some call)
    (size : ℕ) (size_is : size ≡ entries_of (sides_at p.tree i)) where
  pub reduced_by : (r : Result (List (EntryForms C)) ValueStop) →
      ((rules : Rules) → AreMarks rules p reduced fixed → (n : Node) → IsNode p.tree i n
      → FormsEach (ReducedEntry of_number number_of Sums Changes Reads rules p setting forms i n.args call (arg_sides p.tree n)) size r)
      → ReducedGives of_number number_of Sums Changes Reads p setting reduced fixed forms i r
  reduced_by r h rules marks n at =
      subst (λ z. FormsEach (ReducedEntry of_number number_of Sums Changes Reads rules p setting forms i n.args z (arg_sides p.tree n)) (entries_of n.sides) r) (sym (call_is p i call c n at))
      (subst (λ m. FormsEach (ReducedEntry of_number number_of Sums Changes Reads rules p setting forms i n.args call (arg_sides p.tree n)) m r) (size_is ∙ ap entries_of (sides_are p.tree i n at))
      (h rules marks n at))
