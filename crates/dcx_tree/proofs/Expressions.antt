-- A node has the value of the expression for which it stands.
use Rattle.std.proofs.Common.{◌≡◌, ℕ, true, List, [], ◌∷◌, map, Some, refl, sym, ap, ap₂, ◌∙◌, subst}
use Rattle.std.proofs.Math.Path.{fun_ext}
use Rattle.dcx_shape.specs.declared.shape.Sides.{Sides}
use Rattle.dcx_shape.specs.Sides.{entries_of}
use Rattle.dcx_point.specs.Pairs.{Pairs}
use Rattle.dcx_arena.specs.Nodes.{IsNode, AreNodes, sides_at}
use Rattle.dcx_arena.specs.Gather.{has}
use Rattle.dcx_arena.specs.Unfold.{Expressions, none, one, Unfold}
use Rattle.dcx_arena.proofs.Orders.{has_one, one_is, tail_has}
use Rattle.dcx_convex.specs.Nodes.{Numbers, first_of, arguments}
use Rattle.dcx_call.specs.declared.call.Call.{Call}
use Rattle.dcx_call.specs.Calls.{shape_of}
use Rattle.dcx_call.specs.Values.{Given, given_by, call_value}
use Rattle.dcx_tree.specs.Nodes.{Names, Node, arg_sides, source_value}
use Rattle.dcx_tree.specs.Values.{AreNamed}
use Rattle.dcx_tree.specs.Expressions.{Value, value_from, value_of, values_of}
use Rattle.dcx_tree.specs.Laws.{ValuesUnfold}
use Rattle.dcx_tree.proofs.NodeValues.{args_are, sides_are, node_told}
use Rattle.dcx_tree.proofs.Marks.{reached_self, reached_arg, reached_through}

-- a call at values of these sides and numbers
value_is : (call : Call) (setting point : Given) (args : List Value) (sides : List Sides) (numbers : List Numbers) (own : Sides) →
    map (λ (v : Value). v.sides) args ≡ sides → map (λ (v : Value). v.numbers) args ≡ numbers → shape_of call sides ≡ Some own →
    value_of call setting point args ≡ record { sides = own; numbers = first_of (entries_of own) (call_value call setting point sides (arguments numbers)) }
value_is call setting point args sides numbers own e f g =
    ap₂ (λ (ss : List Sides) (ns : List Numbers). value_from call setting point ss ns (shape_of call ss)) e f ∙ ap (value_from call setting point sides numbers) g

module _ (nodes : List Node) (names : Names) (are : AreNodes shape_of nodes) (setting point : Pairs) where
  abbrev node_value : ℕ → Value
  node_value i = record { sides = sides_at nodes i; numbers = source_value nodes names setting point i }

  sides_in : (is : List ℕ) → map (λ (v : Value). v.sides) (map node_value is) ≡ map (sides_at nodes) is
  sides_in [] = refl
  sides_in (i ∷ is) = ap (λ (ss : List Sides). sides_at nodes i ∷ ss) (sides_in is)

  numbers_in : (is : List ℕ) → map (λ (v : Value). v.numbers) (map node_value is) ≡ map (source_value nodes names setting point) is
  numbers_in [] = refl
  numbers_in (i ∷ is) = ap (λ (fs : List Numbers). source_value nodes names setting point i ∷ fs) (numbers_in is)

  -- the value of a node from those of its arguments
  told_value : (i : ℕ) (n : Node) → IsNode nodes i n → AreNamed nodes names i → value_of n.call (given_by setting) (given_by point) (map node_value n.args) ≡ node_value i
  told_value i n at named =
      let told : first_of (entries_of n.sides) (call_value n.call (given_by setting) (given_by point) (arg_sides nodes n)
      (arguments (map (source_value nodes names setting point) n.args))) ≡ source_value nodes names setting point i =
      fun_ext (λ j. sym (node_told nodes are setting point names i n at (named i n (reached_self nodes i) at) j)) in
      value_is n.call (given_by setting) (given_by point) (map node_value n.args) (arg_sides nodes n) (map (source_value nodes names setting point) n.args) n.sides
      (sides_in n.args) (numbers_in n.args) (are.shaped i n at)
      ∙ ap₂ (λ (s : Sides) (f : Numbers). record { sides = s; numbers = f }) (sym (sides_are nodes i n at)) told

  -- what an argument reaches is named
  named_arg : (i : ℕ) (n : Node) → IsNode nodes i n → AreNamed nodes names i → (a : ℕ) → has n.args a ≡ true → AreNamed nodes names a
  named_arg i n at named a of k m r there =
      named k m (reached_through nodes i a k (reached_arg nodes i a (subst (λ xs. has xs a ≡ true) (sym (args_are nodes i n at)) of)) r) there

  unfold_values : (is : List ℕ) (t : Expressions Call) → Unfold nodes is t → ((i : ℕ) → has is i ≡ true → AreNamed nodes names i) →
      values_of (given_by setting) (given_by point) t ≡ map node_value is
  unfold_values [] none h named = refl
  unfold_values [] (one call args others) h named = absurd h
  unfold_values (i ∷ rest) none h named = absurd h
  unfold_values (i ∷ rest) (one call args others) (n, at, same, us, os) named =
      let here = named i (has_one i rest) in
      let inner = unfold_values n.args args us (named_arg i n at here) in
      let first = ap (value_of call (given_by setting) (given_by point)) inner
      ∙ ap (λ (c : Call). value_of c (given_by setting) (given_by point) (map node_value n.args)) (sym same) ∙ told_value i n at here in
      ap₂ (λ (v : Value) (vs : List Value). v ∷ vs) first (unfold_values rest others os (λ k of. named k (tail_has i k rest of)))

pub values_unfold : ValuesUnfold
values_unfold nodes names are setting point i named t u =
    unfold_values nodes names are setting point (i ∷ []) t u (λ k of. subst (AreNamed nodes names) (one_is i k of) named)
