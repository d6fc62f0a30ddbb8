-- What an act comes to: a step, an assignment, a call, and the calls that make nodes.
use Rattle.std.proofs.Common.{◌≡◌, ℕ, ◌+◌, ◌≤◌, true, false, if◌then◌else◌, Bool, not, ◌&&◌, nat_le, nat_lt, List, [], ◌∷◌, ◌++◌, length, map, Option, Some, None, Result, Ok, ap, ◌∙◌}
use Rattle.std.specs.List.{position_from}
use Rattle.std.specs.Map.{lookup}
use Rattle.std.specs.Prelude.{option_and_then}
use Rattle.std.proofs.lemmas.Bool.{le-leb}
use Rattle.dcx_shape.specs.declared.shape.Shape.{Shape}
use Rattle.dcx_shape.specs.declared.shape.Sides.{Sides}
use Rattle.dcx_shape.specs.declared.place.Place.{Place}
use Rattle.dcx_shape.specs.Shape.{sides_of}
use Rattle.dcx_shape.specs.Sides.{entries_of}
use Rattle.dcx_array.specs.Shapes.{shape_with, common_of}
use Rattle.dcx_array.proofs.AllowedShapes.{shape_with-sides}
use Rattle.dcx_affine.specs.Places.{same_sides}
use Rattle.dcx_point.specs.Pairs.{same_name}
use Rattle.dcx_arena.specs.declared.fault.Count.TheVariants.{Nodes, Entries, Steps}
use Rattle.dcx_arena.specs.Nodes.{Node, most, sides_at, entries_in}
use Rattle.dcx_call.specs.declared.call.Call.{Call}
use Rattle.dcx_call.specs.Calls.{shape_of}
use Rattle.dcx_syntax.specs.declared.tree.Module.{Module}
use Rattle.dcx_syntax.specs.declared.tree.Named.{Named}
use Rattle.dcx_syntax.specs.Expressions.{Expr, no_comparison, no_addition, no_scaling, no_power, Postfix, Trailers, args_end, no_trailer, attribute, call as call_trailer}
use Rattle.dcx_syntax.specs.Statements.{assign}
use Rattle.dcx_script_values.specs.declared.fault.ElabFault.{ElabFault}
use Rattle.dcx_script_values.specs.declared.fault.ElabFault.TheVariants.{BadArgument, NotOffered, ShapeClash, UnknownName, UnknownCall}
use Rattle.dcx_script_values.specs.Values.{Value, library, State, Act, and_then, ◌>>=◌, ◌>>◌, done, bind, write, unless, or_fault, step, most_steps, too_many}
use Rattle.dcx_script_values.specs.Nodes.{Operand, operand_sides, is_of, are_there, found_or_added, push, pushed, promoted, all_pushed, all_promoted, common_shape, broadcast_called, subtracted}
use Rattle.dcx_script_values.specs.Kinds.{is_list}
use Rattle.dcx_signature.specs.declared.table.Function.{Function}
use Rattle.dcx_signature.specs.Table.{function_named}
use Rattle.dcx_signature.specs.Firsts.{expr_place}
use Rattle.dcx_signature.specs.Arguments.{Given}
use Rattle.dcx_functions.specs.Calls.{function_called}
use Rattle.dcx_elab.specs.Expressions.{expr_means, factor_means, compared_means, added_means, scaled_means, raised_means}
use Rattle.dcx_elab.specs.Expressions.{signed, postfix_means, trailers_mean, more_args_mean, method_called}
use Rattle.dcx_elab.specs.Statements.{line_means, assigned, only_postfix, is_just_name}
use Rattle.dcx_trial_laws.specs.Tree.{place_at, named_at, called_at, factor_of, expr_of, one_arg}
use Rattle.dcx_trial_laws.proofs.Calls.{given_of, stepped, with_name}
use Rattle.dcx_trial_laws.proofs.Grades.{plus, minus, promote}

-- ---- acts one after the other
pub then-does : {A B : Type 0} (r : Result (A × State) ElabFault) (x : A) (t : State) (f : A → Act B) (q : Result (B × State) ElabFault) → r ≡ Ok (x, t) → f x t ≡ q → and_then r f ≡ q
then-does r x t f q h k = ap (λ y. and_then y f) h ∙ k

-- ---- expressions that are one postfix
pub factor_of-does : (x : Postfix) (s : State) (r : Result (Value × State) ElabFault) → postfix_means None x s ≡ r
    → factor_means (factor_of x) s ≡ and_then (and_then r (raised_means no_power)) (signed [])
factor_of-does x s r h = ap (λ y. and_then (and_then y (raised_means no_power)) (signed [])) h

pub expr_of-does : (x : Postfix) (s t : State) (v : Value) → postfix_means None x s ≡ Ok (v, t) → expr_means (expr_of x) s ≡ Ok (v, t)
expr_of-does x s t v h =
    ap (λ y. and_then (and_then (and_then (and_then (and_then y (raised_means no_power)) (signed [])) (scaled_means no_scaling)) (added_means no_addition)) (compared_means no_comparison)) h

-- ---- `m.f(x)`
module _ (target : Option (List ℕ)) (m f : List ℕ) (line column bracket : ℕ) (x : Expr) (s t u : State) (v w : Value) (which : Module) (function : Function) where
  abbrev here : Place
  here = place_at line column

  abbrev behind : Trailers
  behind = attribute (named_at f line (column + 3)) (call_trailer (place_at line bracket) (one_arg x) no_trailer)

  abbrev finished : Result (Value × State) ElabFault → Result (Value × State) ElabFault
  finished r = and_then r (λ y. trailers_mean target here no_trailer y)

  abbrev answered : List Given → Act Value
  answered gs = method_called target here (library which) (named_at f line (column + 3)) gs >>= λ y. trailers_mean target here no_trailer y

  pub one_call-does : lookup (same_name m) s.names ≡ Some (library which) → function_named which f ≡ Some function → expr_means x s ≡ Ok (v, t)
      → function_called target here function (given_of x v ∷ []) t ≡ Ok (w, u) → postfix_means target (called_at m f line column bracket (one_arg x)) s ≡ Ok (w, u)
  one_call-does bound named given called =
      ap (λ o. and_then (or_fault (UnknownName here) o s) (λ y. trailers_mean target here behind y)) bound
      ∙ ap (λ r. and_then (and_then (and_then r (λ y. done (given_of x y))) (λ g. more_args_mean false args_end >>= λ gs. done (g ∷ gs))) answered) given
      ∙ ap (λ o. finished (and_then (or_fault (UnknownCall here) o t) (λ c. function_called target here c (given_of x v ∷ [])))) named
      ∙ ap finished called

-- ---- lines
pub step-does : (place : Place) (s : State) → nat_lt s.steps most_steps ≡ true → step place s ≡ Ok (tt, stepped s)
step-does place s early = ap (λ b. and_then (unless (too_many place Steps (s.steps + 1)) b s) (λ _. write stepped)) early

-- `NAME = ..`, where a postfix is the whole right side
pub assign-does : (n : Named) (x : Postfix) (s t : State) (v : Value) → nat_lt s.steps most_steps ≡ true → postfix_means (Some n.name) x (stepped s) ≡ Ok (v, t)
    → not (is_just_name (only_postfix (expr_of x)) && is_list v) ≡ true → line_means (assign n (expr_of x)) s ≡ Ok (tt, with_name n.name v t)
assign-does n x s t v early given plain =
    ap (λ r. and_then r (λ _. assigned n.name (expr_of x) >>= λ y. bind n.name y)) (step-does n.place s early)
    ∙ ap (λ r. and_then (and_then r (λ y. unless (NotOffered (expr_place (expr_of x))) (not (is_just_name (only_postfix (expr_of x)) && is_list y)) >> done y)) (λ y. bind n.name y)) given
    ∙ ap (λ b. and_then (and_then (unless (NotOffered (expr_place (expr_of x))) b t) (λ _. done v)) (λ y. bind n.name y)) plain

-- ---- nodes
-- the state with these nodes
abbrev pub holding : State → List (Node Call) → State
holding s nodes = record s { nodes = nodes }

abbrev pub node_of : Place → Call → List ℕ → Sides → Node Call
node_of place call args sides = record { call = call; args = args; sides = sides; place = place }

module _ (place : Place) (call : Call) (args : List ℕ) (sides : Sides) (s : State) where
  abbrev pushed_by : Bool → Option Sides → Option ℕ → Result (ℕ × State) ElabFault
  pushed_by b o f =
      and_then (unless (BadArgument place) b s) (λ _ t. and_then (or_fault (ShapeClash place) o t) (λ given. found_or_added place (node_of place call args given) f))

  abbrev added_by : Bool → Bool → Result (ℕ × State) ElabFault
  added_by b c =
      and_then (unless (too_many place Nodes (length s.nodes + 1)) b s) (λ _ t. and_then (unless (too_many place Entries (entries_in s.nodes + entries_of sides)) c t)
      (λ _ u. Ok (length s.nodes, record u { nodes = s.nodes ++ node_of place call args sides ∷ [] })))

  -- a call that is new becomes the last node
  pub push-does : are_there s.nodes args ≡ true → shape_of call (map (sides_at s.nodes) args) ≡ Some sides → position_from (is_of call args) 0 s.nodes ≡ None
      → nat_le (length s.nodes + 1) most ≡ true → entries_in s.nodes + entries_of sides ≤ most
      → push place call args s ≡ Ok (length s.nodes, holding s (s.nodes ++ node_of place call args sides ∷ []))
  push-does there shaped new few room =
      ap (λ b. pushed_by b (shape_of call (map (sides_at s.nodes) args)) (position_from (is_of call args) 0 s.nodes)) there
      ∙ ap (λ o. pushed_by true o (position_from (is_of call args) 0 s.nodes)) shaped
      ∙ ap (λ f. pushed_by true (Some sides) f) new
      ∙ ap (λ b. added_by b (nat_le (entries_in s.nodes + entries_of sides) most)) few
      ∙ ap (λ c. added_by true c) (le-leb (entries_in s.nodes + entries_of sides) most room)

-- the shape that operands share
pub common-does : (place : Place) (xs : List Operand) (s : State) (shape : Shape) → common_of (map (operand_sides s.nodes) xs) ≡ Some (sides_of shape) → common_shape place xs s ≡ Ok (shape, s)
common-does place xs s shape common =
    ap (λ o. or_fault (ShapeClash place) (option_and_then shape_with o) s) common ∙ ap (λ o. or_fault (ShapeClash place) o s) (shape_with-sides shape)

-- two numbers, one after the other
two-do : (f h : Act ℕ) (i j : ℕ) (s t u : State) → f s ≡ Ok (i, t) → h t ≡ Ok (j, u)
    → and_then (f s) (λ a y. and_then (and_then (h y) (λ b. done (b ∷ []))) (λ bs. done (a ∷ bs))) ≡ Ok (i ∷ j ∷ [], u)
two-do f h i j s t u first second =
    ap (λ r. and_then r (λ a y. and_then (and_then (h y) (λ b. done (b ∷ []))) (λ bs. done (a ∷ bs)))) first
    ∙ ap (λ r. and_then (and_then r (λ b. done (b ∷ []))) (λ bs. done (i ∷ bs))) second

-- a call of two operands that are promoted to the shape that they share
pub broadcast-does : (place : Place) (call : Call) (x y : Operand) (shape : Shape) (i j k l : ℕ) (s t u v w : State) (r : Result (ℕ × State) ElabFault)
    → common_of (map (operand_sides s.nodes) (x ∷ y ∷ [])) ≡ Some (sides_of shape) → pushed place x s ≡ Ok (i, t) → pushed place y t ≡ Ok (j, u)
    → promoted place shape i u ≡ Ok (k, v) → promoted place shape j v ≡ Ok (l, w) → push place call (k ∷ l ∷ []) w ≡ r → broadcast_called place call (x ∷ y ∷ []) s ≡ r
broadcast-does place call x y shape i j k l s t u v w r common first second third fourth last =
    then-does (common_shape place (x ∷ y ∷ []) s) shape s (λ to. all_pushed place (x ∷ y ∷ []) >>= λ is. all_promoted place to is >>= λ js. push place call js) r
    (common-does place (x ∷ y ∷ []) s shape common)
    (then-does (all_pushed place (x ∷ y ∷ []) s) (i ∷ j ∷ []) u (λ is. all_promoted place shape is >>= λ js. push place call js) r
    (two-do (pushed place x) (pushed place y) i j s t u first second)
    (then-does (all_promoted place shape (i ∷ j ∷ []) u) (k ∷ l ∷ []) w (λ js. push place call js) r (two-do (promoted place shape i) (promoted place shape j) k l u v w third fourth) last))

-- a difference of two operands
pub subtracted-does : (place : Place) (x y : Operand) (shape : Shape) (i j k l m : ℕ) (s t u v w z : State) (r : Result (ℕ × State) ElabFault)
    → common_of (map (operand_sides s.nodes) (x ∷ y ∷ [])) ≡ Some (sides_of shape) → pushed place x s ≡ Ok (i, t) → pushed place y t ≡ Ok (j, u)
    → push place minus (j ∷ []) u ≡ Ok (m, v) → promoted place shape i v ≡ Ok (k, w) → promoted place shape m w ≡ Ok (l, z) → push place plus (k ∷ l ∷ []) z ≡ r
    → subtracted place x y s ≡ r
subtracted-does place x y shape i j k l m s t u v w z r common first second negated third fourth last =
    then-does (common_shape place (x ∷ y ∷ []) s) shape s
    (λ to. pushed place x >>= λ a. pushed place y >>= λ b. push place minus (b ∷ []) >>= λ c. all_promoted place to (a ∷ c ∷ []) >>= λ js. push place plus js) r
    (common-does place (x ∷ y ∷ []) s shape common)
    (then-does (pushed place x s) i t (λ a. pushed place y >>= λ b. push place minus (b ∷ []) >>= λ c. all_promoted place shape (a ∷ c ∷ []) >>= λ js. push place plus js) r first
    (then-does (pushed place y t) j u (λ b. push place minus (b ∷ []) >>= λ c. all_promoted place shape (i ∷ c ∷ []) >>= λ js. push place plus js) r second
    (then-does (push place minus (j ∷ []) u) m v (λ c. all_promoted place shape (i ∷ c ∷ []) >>= λ js. push place plus js) r negated
    (then-does (all_promoted place shape (i ∷ m ∷ []) v) (k ∷ l ∷ []) z (λ js. push place plus js) r (two-do (promoted place shape i) (promoted place shape m) k l v w z third fourth) last))))

-- a node that has the sides of the shape stays, and another is promoted
pub promoted-stays : (place : Place) (shape : Shape) (i : ℕ) (s : State) → same_sides (sides_at s.nodes i) (sides_of shape) ≡ true → promoted place shape i s ≡ Ok (i, s)
promoted-stays place shape i s e = ap (λ b. (if b then done i else push place (promote shape) (i ∷ [])) s) e

pub promoted-new : (place : Place) (shape : Shape) (i : ℕ) (s : State) (r : Result (ℕ × State) ElabFault) → same_sides (sides_at s.nodes i) (sides_of shape) ≡ false
    → push place (promote shape) (i ∷ []) s ≡ r → promoted place shape i s ≡ r
promoted-new place shape i s r e h = ap (λ b. (if b then done i else push place (promote shape) (i ∷ [])) s) e ∙ h
