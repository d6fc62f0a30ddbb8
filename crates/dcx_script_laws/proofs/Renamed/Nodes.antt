-- What doesn't change of nodes when variables and parameters have other names.
use Rattle.std.proofs.Common.{◌≡◌, ℕ, zero, suc, ◌+◌, cond, List, [], ◌∷◌, ◌++◌, map, Option, Some, None, option_map, refl, ap, ap₂, ◌∙◌}
use Rattle.std.specs.Prelude.{◌&&◌, nat_eq, fold}
use Rattle.std.specs.Option.{unwrap_or}
use Rattle.std.specs.List.{position_from, flat_map}
use Rattle.std.specs.Cmp.Lexicographic.{pointwise}
use Rattle.std.proofs.lemmas.Option.{slice_get-map}
use Rattle.dcx_shape.specs.declared.shape.Sides.{Sides}
use Rattle.dcx_shape.specs.declared.shape.Sides.TheVariants.{Scalar}
use Rattle.dcx_shape.specs.Sides.{entries_of}
use Rattle.dcx_arena.specs.Nodes.{Node, sides_at, args_at, call_at, entries_in}
use Rattle.dcx_arena.specs.Gather.{postorder_below, postorder, firsts, order_of}
use Rattle.dcx_call.specs.declared.call.Call.{Call}
use Rattle.dcx_call.specs.declared.call.Call.TheVariants as calls
use Rattle.dcx_call.specs.Calls.{shape_of}
use Rattle.dcx_script_values.specs.Same.{same_shape, same_attribute, same_whole, same_call}
use Rattle.dcx_script_values.specs.Nodes.{is_of, Operand, standing, constant, operand_sides}
use Rattle.dcx_script_laws.specs.Renamed.{call_renamed, node_renamed}
use Rattle.dcx_script_laws.specs.Names.{IsRenaming}
use Rattle.dcx_script_laws.proofs.Renamed.Entries.{same_renamed}
use Rattle.std.specs.List.{slice_get}

-- functions that agree are the same
pub same_function : {A B : Type 0} {f g : A → B} → ((x : A) → f x ≡ g x) → f ≡ g
same_function h = λ i x. h x i

-- a call has the sides that it had
pub shape_kept : (rename : List ℕ → List ℕ) (call : Call) (args : List Sides) → shape_of (call_renamed rename call) args ≡ shape_of call args
shape_kept rename (calls.Variable v) args = refl
shape_kept rename (calls.Parameter p) args = refl
shape_kept rename (calls.Constant a) args = refl
shape_kept rename (calls.Atom a) args = refl
shape_kept rename (calls.Linear l) args = refl
shape_kept rename (calls.Pairing p) args = refl

-- a part of a node that isn't its call
part_kept : {X : Type 0} (rename : List ℕ → List ℕ) (part : Node Call → X) → ((n : Node Call) → part (node_renamed rename n) ≡ part n) → (o : Option (Node Call)) →
    option_map part (option_map (node_renamed rename) o) ≡ option_map part o
part_kept rename part h None = refl
part_kept rename part h (Some n) = ap Some (h n)

module _ (rename : List ℕ → List ℕ) (nodes : List (Node Call)) where
  side_kept : (i : ℕ) → sides_at (map (node_renamed rename) nodes) i ≡ sides_at nodes i
  side_kept i = ap (λ o. unwrap_or (option_map (λ n. n.sides) o) Scalar) (slice_get-map (node_renamed rename) nodes i)
      ∙ ap (λ o. unwrap_or o Scalar) (part_kept rename (λ n. n.sides) (λ n. refl) (slice_get nodes i))

  pub sides_kept : sides_at (map (node_renamed rename) nodes) ≡ sides_at nodes
  sides_kept = same_function side_kept

  arg_kept : (i : ℕ) → args_at (map (node_renamed rename) nodes) i ≡ args_at nodes i
  arg_kept i = ap (λ o. unwrap_or (option_map (λ n. n.args) o) []) (slice_get-map (node_renamed rename) nodes i)
      ∙ ap (λ o. unwrap_or o []) (part_kept rename (λ n. n.args) (λ n. refl) (slice_get nodes i))

  operand_kept : (x : Operand) → operand_sides (map (node_renamed rename) nodes) x ≡ operand_sides nodes x
  operand_kept (standing i) = side_kept i
  operand_kept (constant a) = refl

  pub operands_kept : operand_sides (map (node_renamed rename) nodes) ≡ operand_sides nodes
  operands_kept = same_function operand_kept

  -- the call of a node
  pub call_renamed_at : (i : ℕ) → call_at (map (node_renamed rename) nodes) i ≡ option_map (call_renamed rename) (call_at nodes i)
  call_renamed_at i = ap (option_map (λ n. n.call)) (slice_get-map (node_renamed rename) nodes i) ∙ by (slice_get nodes i)
    where
      by : (o : Option (Node Call)) → option_map (λ n. n.call) (option_map (node_renamed rename) o) ≡ option_map (call_renamed rename) (option_map (λ n. n.call) o)
      by None = refl
      by (Some n) = refl

  -- what roots reach
  below_kept : (n : ℕ) → postorder_below n (map (node_renamed rename) nodes) ≡ postorder_below n nodes
  below_kept zero = refl
  below_kept (suc n) = same_function (λ i. ap₂ (λ f xs. flat_map f xs ++ i ∷ []) (below_kept n) (arg_kept i))

  postorder_kept : (i : ℕ) → postorder (map (node_renamed rename) nodes) i ≡ postorder nodes i
  unfolding postorder
  postorder_kept i = ap (λ f. f i) (below_kept (suc i))

  pub order_kept : (roots : List ℕ) → order_of (map (node_renamed rename) nodes) roots ≡ order_of nodes roots
  order_kept roots = ap (λ f. firsts (flat_map f roots)) (same_function postorder_kept)

-- the entries of all nodes
pub entries_kept : (rename : List ℕ → List ℕ) (nodes : List (Node Call)) → entries_in (map (node_renamed rename) nodes) ≡ entries_in nodes
entries_kept rename nodes = by nodes 0
  where
    by : (ns : List (Node Call)) (z : ℕ) → fold (λ a n. a + entries_of n.sides) z (map (node_renamed rename) ns) ≡ fold (λ a n. a + entries_of n.sides) z ns
    by [] z = refl
    by (n ∷ ns) z = by ns (z + entries_of n.sides)

-- ---- where a node stands
module _ {rename : List ℕ → List ℕ} (is : IsRenaming rename) where
  same_kept : (a b : Call) → same_call (call_renamed rename a) (call_renamed rename b) ≡ same_call a b
  same_kept (calls.Variable a) (calls.Variable b) =
      ap (λ t. t && (same_shape a.shape b.shape && (same_attribute a.attribute b.attribute && same_whole a.whole b.whole))) (same_renamed is a.name b.name)
  same_kept (calls.Parameter a) (calls.Parameter b) = ap (λ t. t && (same_shape a.shape b.shape && same_attribute a.attribute b.attribute)) (same_renamed is a.name b.name)
  same_kept (calls.Constant a) (calls.Constant b) = refl
  same_kept (calls.Atom a) (calls.Atom b) = refl
  same_kept (calls.Linear a) (calls.Linear b) = refl
  same_kept (calls.Pairing a) (calls.Pairing b) = refl
  same_kept a b = refl

  pub position_kept : (call : Call) (args : List ℕ) (k : ℕ) (nodes : List (Node Call)) →
      position_from (is_of (call_renamed rename call) args) k (map (node_renamed rename) nodes) ≡ position_from (is_of call args) k nodes
  position_kept call args k [] = refl
  position_kept call args k (n ∷ ns) = ap₂ (λ t r. cond (t && pointwise nat_eq n.args args) (Some k) r) (same_kept n.call call) (position_kept call args (k + 1) ns)
