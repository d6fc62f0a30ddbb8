-- How nodes come to the tree under other names.
use Rattle.std.proofs.Common.{◌≡◌, ℕ, ◌+◌, Bool, List, [], ◌∷◌, ◌++◌, map, length, Option, Some, None, Ok, sym, ap, ap₂, ◌∙◌}
use Rattle.std.specs.Prelude.{nat_le, nat_lt, not, option_and_then}
use Rattle.std.specs.List.{list_all, list_any, position_from}
use Rattle.std.proofs.lemmas.List.{length-map, map-append}
use Rattle.dcx_shape.specs.declared.shape.Sides.{Sides}
use Rattle.dcx_shape.specs.declared.shape.Shape.{Shape}
use Rattle.dcx_shape.specs.declared.place.Place.{Place}
use Rattle.dcx_shape.specs.Shape.{sides_of}
use Rattle.dcx_shape.specs.Sides.{entries_of}
use Rattle.dcx_atom.specs.declared.array.Array.{Array}
use Rattle.dcx_affine.specs.Places.{same_sides}
use Rattle.dcx_arena.specs.declared.fault.Count.TheVariants.{Nodes, Entries}
use Rattle.dcx_arena.specs.Nodes.{Node, most, sides_at, entries_in}
use Rattle.dcx_array.specs.Shapes.{shape_with, common_of}
use Rattle.dcx_call.specs.declared.call.Call.{Call}
use Rattle.dcx_call.specs.declared.call.Call.TheVariants as calls
use Rattle.dcx_call.specs.declared.linears.LinearCall.TheVariants as linears
use Rattle.dcx_call.specs.Calls.{shape_of}
use Rattle.dcx_script_values.specs.declared.fault.ElabFault.TheVariants.{BadArgument, NotOffered, ShapeClash, EmptyResult}
use Rattle.dcx_script_values.specs.Values.{plain, expression, constraint, Act, ◌>>=◌, ◌>>◌, done, unless, or_fault, write, too_many}
use Rattle.dcx_script_values.specs.Nodes.{is_of, add, found_or_added, sides_of_node, given_sides, are_there, push, Operand, standing, constant, operand_sides}
use Rattle.dcx_script_values.specs.Nodes.{all_sides, pushed, all_pushed, promoted, all_promoted, common_shape, called, broadcast_called, subtracted, constrained}
use Rattle.dcx_script_values.specs.Kinds.{Reading, operand, nested, empty, unfit, is_nested, is_empty}
use Rattle.dcx_script_values.specs.Operands.{operand_read, each_read, operands_read, numbers_read, as_plain, as_expression, as_constraint}
use Rattle.dcx_tree.specs.declared.constraint.Kind.{Kind}
use Rattle.dcx_tree.specs.declared.constraint.Constraint.{Constraint}
use Rattle.dcx_script_laws.specs.Renamed.{call_renamed, node_renamed, state_renamed}
use Rattle.dcx_script_laws.specs.Names.{IsRenaming, Follows}
use Rattle.dcx_script_laws.proofs.Renamed.Nodes.{shape_kept, sides_kept, operands_kept, entries_kept, position_kept}
use Rattle.dcx_script_laws.proofs.Renamed.Acts.{chain, next, reads, instead, done_follows, fault_follows, unless_follows, or_fault_follows, if_follows}

-- ---- one node more, by what is read of the nodes before
abbrev node_added : Place → Node Call → List (Node Call) → (count entries : ℕ) → Act ℕ
node_added place n nodes count entries = do
  unless (too_many place Nodes (count + 1)) (nat_le (count + 1) most)
  unless (too_many place Entries (entries + entries_of n.sides)) (nat_le (entries + entries_of n.sides) most)
  write (λ s. record s { nodes = nodes ++ n ∷ [] })
  done count

abbrev node_pushed : Place → Call → List ℕ → Bool → Option Sides → Option ℕ → Act ℕ
node_pushed place call args there shape at = do
  unless (BadArgument place) there
  sides ← or_fault (ShapeClash place) shape
  found_or_added place (record { call = call; args = args; sides = sides; place = place }) at

-- ---- what is read of nodes
module _ {rename : List ℕ → List ℕ} where
  pub sides_follow : (i : ℕ) → Follows rename (sides_of_node i) (sides_of_node i)
  sides_follow i = reads (λ s. sides_at s.nodes i) (λ s. sides_at s.nodes i) (λ s. ap (λ f. f i) (sides_kept rename s.nodes)) done_follows

  pub all_sides_follow : (xs : List Operand) → Follows rename (all_sides xs) (all_sides xs)
  all_sides_follow xs = reads (λ s. map (operand_sides s.nodes) xs) (λ s. map (operand_sides s.nodes) xs) (λ s. ap (λ f. map f xs) (operands_kept rename s.nodes)) done_follows

  pub given_sides_follow : (place : Place) (call : Call) (args : List Sides) → Follows rename (given_sides place call args) (given_sides place (call_renamed rename call) args)
  given_sides_follow place call args = instead (ap (or_fault (ShapeClash place)) (shape_kept rename call args)) (or_fault_follows (ShapeClash place) (shape_of call args))

  pub common_follows : (place : Place) (xs : List Operand) → Follows rename (common_shape place xs) (common_shape place xs)
  common_follows place xs = chain (all_sides_follow xs) (λ sides. or_fault_follows (ShapeClash place) (option_and_then shape_with (common_of sides)))

  -- ---- operands that are read
  pub operand_follows : (place : Place) (r : Reading) → Follows rename (operand_read place r) (operand_read place r)
  operand_follows place (operand x) = done_follows x
  operand_follows place nested = fault_follows (NotOffered place)
  operand_follows place empty = fault_follows (EmptyResult place)
  operand_follows place unfit = fault_follows (BadArgument place)

  each_follows : (place : Place) (rs : List Reading) → Follows rename (each_read place rs) (each_read place rs)
  each_follows place [] = done_follows []
  each_follows place (r ∷ rs) = chain (operand_follows place r) (λ x. chain (each_follows place rs) (λ xs. done_follows (x ∷ xs)))

  pub operands_follow : (place : Place) (rs : List Reading) → Follows rename (operands_read place rs) (operands_read place rs)
  operands_follow place rs = next (unless_follows (NotOffered place) (not (list_any is_nested rs))) (next (unless_follows (EmptyResult place) (not (list_any is_empty rs))) (each_follows place rs))

  pub numbers_follow : (place : Place) (r : Reading) → Follows rename (numbers_read place r) (numbers_read place r)
  numbers_follow place (operand (constant a)) = done_follows a
  numbers_follow place (operand (standing i)) = fault_follows (BadArgument place)
  numbers_follow place nested = fault_follows (BadArgument place)
  numbers_follow place empty = fault_follows (EmptyResult place)
  numbers_follow place unfit = fault_follows (BadArgument place)

  pub plain_follows : {m n : Act Array} → Follows rename m n → Follows rename (as_plain m) (as_plain n)
  plain_follows h = chain h (λ a. done_follows (plain a))

  pub expression_follows : {m n : Act ℕ} → Follows rename m n → Follows rename (as_expression m) (as_expression n)
  expression_follows h = chain h (λ i. done_follows (expression i))

  pub constraint_follows : {m n : Act Constraint} → Follows rename m n → Follows rename (as_constraint m) (as_constraint n)
  constraint_follows h = chain h (λ c. done_follows (constraint c))

  -- ---- one node more
  node_added_follows : (place : Place) (n : Node Call) (nodes : List (Node Call)) (count entries : ℕ) →
      Follows rename (node_added place n nodes count entries) (node_added place (node_renamed rename n) (map (node_renamed rename) nodes) count entries)
  node_added_follows place n nodes count entries =
      next (unless_follows (too_many place Nodes (count + 1)) (nat_le (count + 1) most))
      (next (unless_follows (too_many place Entries (entries + entries_of n.sides)) (nat_le (entries + entries_of n.sides) most))
      (record { along = λ s. ap (λ ns. Ok (count, record (state_renamed rename s) { nodes = ns })) (sym (map-append (node_renamed rename) nodes (n ∷ []))) }))

  pub add_follows : (place : Place) (n : Node Call) → Follows rename (add place n) (add place (node_renamed rename n))
  add_follows place n = record {
    along = λ s.
        ap₂ (λ c e. node_added place (node_renamed rename n) (map (node_renamed rename) s.nodes) c e (state_renamed rename s)) (length-map s.nodes (node_renamed rename)) (entries_kept rename s.nodes)
        ∙ (node_added_follows place n s.nodes (length s.nodes) (entries_in s.nodes)).along s;
  }

-- ---- the node of a call
module _ {rename : List ℕ → List ℕ} (is : IsRenaming rename) where
  found_follows : (place : Place) (n : Node Call) (at : Option ℕ) → Follows rename (found_or_added place n at) (found_or_added place (node_renamed rename n) at)
  found_follows place n (Some i) = done_follows i
  found_follows place n None = add_follows place n

  node_pushed_follows : (place : Place) (call : Call) (args : List ℕ) (there : Bool) (shape : Option Sides) (at : Option ℕ) →
      Follows rename (node_pushed place call args there shape at) (node_pushed place (call_renamed rename call) args there shape at)
  node_pushed_follows place call args there shape at =
      next (unless_follows (BadArgument place) there)
      (chain (or_fault_follows (ShapeClash place) shape) (λ sides. found_follows place (record { call = call; args = args; sides = sides; place = place }) at))

  there_kept : (nodes : List (Node Call)) (args : List ℕ) → are_there (map (node_renamed rename) nodes) args ≡ are_there nodes args
  there_kept nodes args = ap (λ n. list_all (λ a. nat_lt a n) args) (length-map nodes (node_renamed rename))

  given_kept : (nodes : List (Node Call)) (call : Call) (args : List ℕ)
      → shape_of (call_renamed rename call) (map (sides_at (map (node_renamed rename) nodes)) args) ≡ shape_of call (map (sides_at nodes) args)
  given_kept nodes call args = ap (λ f. shape_of (call_renamed rename call) (map f args)) (sides_kept rename nodes) ∙ shape_kept rename call (map (sides_at nodes) args)

  pub push_follows : (place : Place) (call : Call) (args : List ℕ) → Follows rename (push place call args) (push place (call_renamed rename call) args)
  push_follows place call args = record {
    along = λ s.
        ap (λ t. node_pushed place (call_renamed rename call) args t (shape_of (call_renamed rename call) (map (sides_at (map (node_renamed rename) s.nodes)) args))
        (position_from (is_of (call_renamed rename call) args) 0 (map (node_renamed rename) s.nodes)) (state_renamed rename s)) (there_kept s.nodes args)
        ∙ ap₂ (λ o k. node_pushed place (call_renamed rename call) args (are_there s.nodes args) o k (state_renamed rename s)) (given_kept s.nodes call args) (position_kept is call args 0 s.nodes)
        ∙ (node_pushed_follows place call args (are_there s.nodes args) (shape_of call (map (sides_at s.nodes) args)) (position_from (is_of call args) 0 s.nodes)).along s;
  }

  -- ---- operands
  pub pushed_follows : (place : Place) (x : Operand) → Follows rename (pushed place x) (pushed place x)
  pushed_follows place (standing i) = done_follows i
  pushed_follows place (constant a) = push_follows place (calls.Constant a) []

  pub all_pushed_follow : (place : Place) (xs : List Operand) → Follows rename (all_pushed place xs) (all_pushed place xs)
  all_pushed_follow place [] = done_follows []
  all_pushed_follow place (x ∷ xs) = chain (pushed_follows place x) (λ i. chain (all_pushed_follow place xs) (λ is. done_follows (i ∷ is)))

  pub promoted_follows : (place : Place) (to : Shape) (i : ℕ) → Follows rename (promoted place to i) (promoted place to i)
  promoted_follows place to i = chain (sides_follow i)
      (λ sides. if_follows (same_sides sides (sides_of to)) (done_follows i) (push_follows place (calls.Linear (linears.Promote (record { to = to }))) (i ∷ [])))

  pub all_promoted_follow : (place : Place) (to : Shape) (xs : List ℕ) → Follows rename (all_promoted place to xs) (all_promoted place to xs)
  all_promoted_follow place to [] = done_follows []
  all_promoted_follow place to (i ∷ xs) = chain (promoted_follows place to i) (λ j. chain (all_promoted_follow place to xs) (λ js. done_follows (j ∷ js)))

  -- ---- calls
  pub called_follows : (place : Place) (call : Call) (xs : List Operand) → Follows rename (called place call xs) (called place (call_renamed rename call) xs)
  called_follows place call xs =
      chain (all_sides_follow xs) (λ sides. chain (given_sides_follow place call sides) (λ _. chain (all_pushed_follow place xs) (λ at. push_follows place call at)))

  pub broadcast_follows : (place : Place) (call : Call) (xs : List Operand) → Follows rename (broadcast_called place call xs) (broadcast_called place (call_renamed rename call) xs)
  broadcast_follows place call xs =
      chain (common_follows place xs) (λ shape. chain (all_pushed_follow place xs) (λ at. chain (all_promoted_follow place shape at) (λ js. push_follows place call js)))

  pub subtracted_follows : (place : Place) (a b : Operand) → Follows rename (subtracted place a b) (subtracted place a b)
  subtracted_follows place a b =
      chain (common_follows place (a ∷ b ∷ [])) (λ shape. chain (pushed_follows place a) (λ i. chain (pushed_follows place b) (λ j.
      chain (push_follows place (calls.Linear (linears.Minus (record {}))) (j ∷ [])) (λ m. chain (all_promoted_follow place shape (i ∷ m ∷ []))
      (λ js. push_follows place (calls.Linear (linears.Plus (record {}))) js)))))

  pub constrained_follows : (place : Place) (kind : Kind) (a b : Operand) → Follows rename (constrained place kind a b) (constrained place kind a b)
  constrained_follows place kind a b =
      chain (common_follows place (a ∷ b ∷ [])) (λ shape. chain (pushed_follows place a) (λ i. chain (pushed_follows place b) (λ j.
      chain (promoted_follows place shape i) (λ left. chain (promoted_follows place shape j)
      (λ right. done_follows (record { kind = kind; left = record { 0 = left }; right = record { 0 = right }; shape = shape; place = place }))))))
