-- What binds names: lines, and nothing else.
use Rattle.std.specs.Prelude.{◌≡◌, ℕ, Bool, false, ◌||◌, List, ◌++◌, Option, Ok}
use Rattle.std.specs.Map.{keys_of, lookup}
use Rattle.dcx_shape.specs.declared.place.Place.{Place}
use Rattle.dcx_point.specs.Pairs.{same_name}
use Rattle.dcx_syntax.specs.declared.tree.Named.{Named}
use Rattle.dcx_syntax.specs.Expressions.{Expr, Postfix, comprehension}
use Rattle.dcx_syntax.specs.Statements.{Line, importing, assign, add_to, set_value, evaluate, prints, repeats, Lines, no_lines, lines}
use Rattle.dcx_script_values.specs.Values.{Value, State, Act}
use Rattle.dcx_script_state.specs.Declarations.{start}
use Rattle.dcx_elab.specs.Turns.{turn, turns}
use Rattle.dcx_elab.specs.Expressions.{expr_means, postfix_means, primary_means}
use Rattle.dcx_elab.specs.Statements.{bound_name, line_means, lines_mean}
use Rattle.dcx_elab.specs.Laws.{HasDistinctNames, KeepsNamesDistinct}

-- ---- expressions
-- carrying something out leaves each name as it was: bound to the same value, or not bound, and in the same order
abbrev pub LeavesNames : {A : Type 0} → Act A → Type 0
LeavesNames {A} m = (s t : State) (x : A) → m s ≡ Ok (x, t) → t.names ≡ s.names

-- an expression leaves the names as they were, and a call that is the right side of an assignment does so too; so do a whole
-- comprehension, all its turns, and each of them. So none of them binds a name twice
pub record HoldsForExpressions : Type 0 where
  pub expressions : (x : Expr) → LeavesNames (expr_means x)
  pub right_sides : (target : Option (List ℕ)) (x : Postfix) → LeavesNames (postfix_means target x)
  pub comprehensions : (place for_place : Place) (element source : Expr) (n : Named) → LeavesNames (primary_means (comprehension place element for_place n source))
  pub all_turns : (place first : Place) (name : List ℕ) (element : Expr) (xs vs : List Value) → LeavesNames (turns place first name (expr_means element) xs vs)
  pub one_turn : (first : Place) (name : List ℕ) (element : Expr) (v : Value) → LeavesNames (turn first name (expr_means element) v)
  pub distinct : (x : Expr) → KeepsNamesDistinct (expr_means x)
  pub right_sides_distinct : (target : Option (List ℕ)) (x : Postfix) → KeepsNamesDistinct (postfix_means target x)

-- ---- lines
abbrev mutual
  -- a line binds this name, or one of the lines inside it does
  pub binds : List ℕ → Line → Bool
  binds name (importing i) = same_name name (bound_name i i.alias)
  binds name (assign n x) = same_name name n.name
  binds name (add_to n place x) = same_name name n.name
  binds name (set_value n place x) = false
  binds name (evaluate x) = false
  binds name (prints place open_place inner) = false
  binds name (repeats place n x first rest) = same_name name n.name || (binds name first || one_binds name rest)

  -- one of these lines does
  pub one_binds : List ℕ → Lines → Bool
  one_binds name no_lines = false
  one_binds name (lines x rest) = binds name x || one_binds name rest

-- Lines bind no name twice, so that none is bound twice in any state that the lines of a script reach. A line that binds no
-- name leaves the names as they were; a name that lines don't bind is as it was; and what was bound stays bound, in the same
-- order.
pub record HoldsForBindings : Type 0 where
  pub line : (x : Line) → KeepsNamesDistinct (line_means x)
  pub lines : (ls : Lines) → KeepsNamesDistinct (lines_mean ls)
  pub reached : (ls : Lines) (s : State) → lines_mean ls start ≡ Ok (tt, s) → HasDistinctNames s
  pub quiet : (x : Line) → ((name : List ℕ) → binds name x ≡ false) → LeavesNames (line_means x)
  pub others : (ls : Lines) (name : List ℕ) → one_binds name ls ≡ false → (s t : State) → lines_mean ls s ≡ Ok (tt, t) → lookup (same_name name) t.names ≡ lookup (same_name name) s.names
  pub stay : (ls : Lines) (s t : State) → lines_mean ls s ≡ Ok (tt, t) → (more : List (List ℕ)) × (keys_of t.names ≡ keys_of s.names ++ more)
