-- A difference is the sum with the negative.
use Rattle.std.proofs.Common.{◌≡◌, ℕ, ◌<◌, true≢false, List, [], ◌∷◌, ◌++◌, length, map, Option, Some, None, Result, Ok, Err, inl, inr, refl, sym, ap, ap₂, ◌∙◌, option_map}
use Rattle.std.specs.Option.{unwrap_or}
use Rattle.std.proofs.lemmas.Option.{same_Some}
use Rattle.dcx_shape.specs.declared.shape.Sides.TheVariants.{Scalar}
use Rattle.dcx_shape.specs.declared.shape.Shape.{Shape}
use Rattle.dcx_shape.specs.declared.place.Place.{Place}
use Rattle.dcx_atom.specs.declared.array.Array.{Array}
use Rattle.dcx_arena.specs.Nodes.{Node, sides_at}
use Rattle.dcx_arena.proofs.Nodes.{in_front, at_end}
use Rattle.dcx_call.specs.declared.call.Call.{Call}
use Rattle.dcx_call.specs.Calls.{shape_of}
use Rattle.dcx_array.specs.declared.fault.ArrayFault.{ArrayFault}
use Rattle.dcx_array.specs.declared.fault.ArrayFault.TheVariants as array_faults
use Rattle.dcx_array.specs.Operators.{added, negated}
use Rattle.dcx_syntax.specs.declared.tree.Sign.TheVariants.{Plus, Minus}
use Rattle.dcx_syntax.specs.declared.tree.Comparison.TheVariants.{AtMost, AtLeast}
use Rattle.dcx_script_values.specs.declared.fault.ElabFault.{ElabFault}
use Rattle.dcx_script_values.specs.declared.fault.ElabFault.TheVariants.{ShapeClash}
use Rattle.dcx_script_values.specs.Values.{Value, plain, list, expression, State, Act, and_then, ◌>>=◌, done, or_fault, or_array_fault}
use Rattle.dcx_script_values.specs.Nodes.{push, all_promoted, standing}
use Rattle.dcx_script_values.specs.Kinds.{Reading, reading, operand, nested, empty, unfit}
use Rattle.dcx_script_values.specs.Operands.{as_plain, as_constraint}
use Rattle.dcx_script_values.specs.View.{HasNoNode}
use Rattle.dcx_operators.specs.Operators.{add_values, compare_values, both, operands_compared}
use Rattle.dcx_script_laws.specs.Trees.{HasTree}
use Rattle.dcx_script_laws.specs.Differences.{of_difference, told_as_difference, plus_negative, SameUnless, HoldsForDifferences}
use Rattle.dcx_script_laws.proofs.Negatives.{subtracted-is}
use Rattle.dcx_script_laws.proofs.Summed.{minus_call, plus_call, shared}
use Rattle.dcx_script_laws.proofs.Pushed.{Pushed, found, added as one_more, node, pushed, push-grows}

-- ---- values that are no nodes
told_at : (place : Place) (r : Result Array ArrayFault) (s : State) → as_plain (or_array_fault place (of_difference r)) s ≡ told_as_difference (as_plain (or_array_fault place r) s)
told_at place (Ok a) s = refl
told_at place (Err array_faults.Clash) s = refl
told_at place (Err array_faults.ZeroDivisor) s = refl
told_at place (Err (array_faults.TooMany n)) s = refl
told_at place (Err (array_faults.Wide passes)) s = refl
told_at place (Err array_faults.Range) s = refl
told_at place (Err array_faults.Empty) s = refl
told_at place (Err array_faults.Memory) s = refl

no-node : (place : Place) (v w : Value) → HasNoNode v → HasNoNode w → (s : State) → add_values Minus place v w s ≡ told_as_difference (plus_negative place v w s)
no-node place (plain a) (plain b) left right s = ap (λ r. as_plain (or_array_fault place r) s) (subtracted-is a b) ∙ told_at place (added a (negated b)) s
no-node place (expression i) w left right s = absurd (true≢false left)
no-node place v (expression j) left right s = absurd (true≢false right)
no-node place v w left right s = refl

-- ---- nodes
-- a node that is there keeps its sides
kept-sides : (s t : State) (place : Place) (call : Call) (args : List ℕ) (m i : ℕ) → push place call args s ≡ Ok (m, t) → i < length s.nodes → sides_at t.nodes i ≡ sides_at s.nodes i
kept-sides s t place call args m i e there =
    let g = push-grows s t place call args m e in
    ap (λ (ns : List (Node Call)). sides_at ns i) g.1 ∙ ap (λ (o : Option (Node Call)). unwrap_or (option_map (λ n. n.sides) o) Scalar) (in_front s.nodes g.0 i there)

-- the negative has the sides of its argument
minus-sides : (s t : State) (place : Place) (j m : ℕ) → push place minus_call (j ∷ []) s ≡ Ok (m, t) → HasTree s → sides_at t.nodes m ≡ sides_at s.nodes j
minus-sides s t place j m e are = by (pushed s place minus_call (j ∷ []) m t e)
  where
    by : Pushed s place minus_call (j ∷ []) m t → sides_at t.nodes m ≡ sides_at s.nodes j
    by (found (n, at, of) same) =
        let shaped : shape_of minus_call (map (sides_at s.nodes) (j ∷ [])) ≡ Some n.sides =
        ap₂ (λ c (xs : List ℕ). shape_of c (map (sides_at s.nodes) xs)) (sym of.same_call) (sym of.same_args) ∙ are.shaped m n at in
        ap (λ (u : State). sides_at u.nodes m) (sym same) ∙ ap (λ (o : Option (Node Call)). unwrap_or (option_map (λ n. n.sides) o) Scalar) at ∙ sym (same_Some (sides_at s.nodes j) n.sides shaped)
    by (one_more sides there shaped new room last same) =
        ap (λ (u : State). sides_at u.nodes m) (sym same)
        ∙ ap (λ k. sides_at (s.nodes ++ node s place minus_call (j ∷ []) sides ∷ []) k) (sym last)
        ∙ ap (λ (o : Option (Node Call)). unwrap_or (option_map (λ n. n.sides) o) Scalar) (at_end s.nodes (node s place minus_call (j ∷ []) sides))
        ∙ sym (same_Some (sides_at s.nodes j) sides shaped)

module _ (place : Place) (i j : ℕ) (s : State) (are : HasTree s) (there : i < length s.nodes) where
  abbrev wrapped : Result (ℕ × State) ElabFault → Result (Value × State) ElabFault
  wrapped r = and_then r (λ x. done (expression x))

  -- the promotions and the sum
  abbrev rest : Shape → ℕ → Act ℕ
  rest shape m = all_promoted place shape (i ∷ m ∷ []) >>= λ js. push place plus_call js

  abbrev difference : Option Shape → Result (Value × State) ElabFault
  difference o = wrapped (and_then (or_fault (ShapeClash place) o s) (λ shape. push place minus_call (j ∷ []) >>= λ m. rest shape m))

  abbrev sum_with : ℕ → State → Option Shape → Result (Value × State) ElabFault
  sum_with m t o = wrapped (and_then (or_fault (ShapeClash place) o t) (λ shape. rest shape m))

  sum-shape : (m : ℕ) (t : State) → push place minus_call (j ∷ []) s ≡ Ok (m, t) → shared (sides_at t.nodes i) (sides_at t.nodes m) ≡ shared (sides_at s.nodes i) (sides_at s.nodes j)
  sum-shape m t e = ap₂ shared (kept-sides s t place minus_call (j ∷ []) m i e there) (minus-sides s t place j m e are)

  by_cases : (r : Result (ℕ × State) ElabFault) → push place minus_call (j ∷ []) s ≡ r → (o : Option Shape) → shared (sides_at s.nodes i) (sides_at s.nodes j) ≡ o
      → SameUnless (ShapeClash place) (difference o) (and_then (wrapped r) (λ u. add_values Plus place (expression i) u))
  by_cases (Ok (m, t)) e None none = inl (ap (sum_with m t) (sym (sum-shape m t e ∙ none)))
  by_cases (Ok (m, t)) e (Some shape) some = inl (ap (λ r. wrapped (and_then r (λ k. rest shape k))) e ∙ ap (sum_with m t) (sym (sum-shape m t e ∙ some)))
  by_cases (Err f) e None none = inr (refl, refl)
  by_cases (Err f) e (Some shape) some = inl (ap (λ r. wrapped (and_then r (λ k. rest shape k))) e)

  of-nodes : SameUnless (ShapeClash place) (add_values Minus place (expression i) (expression j) s) (plus_negative place (expression i) (expression j) s)
  of-nodes = by_cases (push place minus_call (j ∷ []) s) refl (shared (sides_at s.nodes i) (sides_at s.nodes j)) refl

-- ---- comparisons
-- a node beside what is read, in either order
turned_left : (place : Place) (i : ℕ) (r : Reading) (s : State) →
    as_constraint (both place (operands_compared AtLeast place) (operand (standing i)) r) s ≡ as_constraint (both place (operands_compared AtMost place) r (operand (standing i))) s
turned_left place i (operand x) s = refl
turned_left place i nested s = refl
turned_left place i empty s = refl
turned_left place i unfit s = refl

turned_right : (place : Place) (i : ℕ) (r : Reading) (s : State) →
    as_constraint (both place (operands_compared AtLeast place) r (operand (standing i))) s ≡ as_constraint (both place (operands_compared AtMost place) (operand (standing i)) r) s
turned_right place i (operand x) s = refl
turned_right place i nested s = refl
turned_right place i empty s = refl
turned_right place i unfit s = refl

at_least-is : (place : Place) (v w : Value) (s : State) → compare_values AtLeast place v w s ≡ compare_values AtMost place w v s
at_least-is place (plain a) (plain b) s = refl
at_least-is place (list vs) (list ws) s = refl
at_least-is place (expression i) (expression j) s = refl
at_least-is place (expression i) w s = turned_left place i (reading w) s
at_least-is place v (expression j) s = turned_right place j (reading v) s
at_least-is place v w s = refl

pub differences_hold : HoldsForDifferences
differences_hold = record { arrays = subtracted-is; plain = no-node; nodes = of-nodes; at_least = at_least-is }
