-- What is carried along has a tree of nodes, which only grows, and values have no other nodes than those in it.
use Rattle.std.specs.Prelude.{◌≡◌, ◌<◌, ℕ, List, ◌++◌, length, Ok}
use Rattle.std.specs.List.{AllByRecursion}
use Rattle.dcx_arena.specs.Nodes.{Node, AreNodes}
use Rattle.dcx_call.specs.declared.call.Call.{Call}
use Rattle.dcx_call.specs.Calls.{shape_of}
use Rattle.dcx_syntax.specs.Expressions.{Expr}
use Rattle.dcx_syntax.specs.Statements.{Lines}
use Rattle.dcx_script_values.specs.Values.{Value, plain, text, truth, nothing, tuple, list, range, library, expression, constraint, objective, problem, result, Values, end, item, State, Act}
use Rattle.dcx_script_state.specs.Declarations.{start}
use Rattle.dcx_elab.specs.Expressions.{expr_means}
use Rattle.dcx_elab.specs.Statements.{lines_mean}

-- the nodes are a tree in which equal expressions are one node: arguments stand before their call, each node has the sides
-- that its call gives, and there aren't too many
abbrev pub HasTree : State → Type 0
HasTree s = AreNodes shape_of s.nodes

-- carrying something out leaves a tree
abbrev pub KeepsTree : {A : Type 0} → Act A → Type 0
KeepsTree {A} m = (s t : State) (x : A) → HasTree s → m s ≡ Ok (x, t) → HasTree t

-- nodes come at the end alone, so that a node keeps its number
abbrev pub OnlyAdds : {A : Type 0} → Act A → Type 0
OnlyAdds {A} m = (s t : State) (x : A) → m s ≡ Ok (x, t) → (more : List (Node Call)) × (t.nodes ≡ s.nodes ++ more)

abbrev mutual
  -- the nodes of a value are among the first n: an expression is one, a constraint has two, and a list or a tuple those of its
  -- items
  pub HasNodesBelow : ℕ → Value → Type 0
  HasNodesBelow n (expression i) = i < n
  HasNodesBelow n (constraint c) = (c.left.0 < n) × (c.right.0 < n)
  HasNodesBelow n (objective sense i place) = i < n
  HasNodesBelow n (tuple vs) = HaveNodesBelow n vs
  HasNodesBelow n (list vs) = HaveNodesBelow n vs
  HasNodesBelow n (plain a) = Unit {0}
  HasNodesBelow n (text t) = Unit {0}
  HasNodesBelow n (truth b) = Unit {0}
  HasNodesBelow n nothing = Unit {0}
  HasNodesBelow n (range first step count) = Unit {0}
  HasNodesBelow n (library m) = Unit {0}
  HasNodesBelow n problem = Unit {0}
  HasNodesBelow n result = Unit {0}

  pub HaveNodesBelow : ℕ → Values → Type 0
  HaveNodesBelow n end = Unit {0}
  HaveNodesBelow n (item v vs) = HasNodesBelow n v × HaveNodesBelow n vs

-- the nodes of a value are there
abbrev pub IsThere : State → Value → Type 0
IsThere s v = HasNodesBelow (length s.nodes) v

-- each name is bound to a value whose nodes are there
abbrev pub AreBoundThere : State → Type 0
AreBoundThere s = AllByRecursion (λ e. IsThere s e.1) s.names

-- where that holds, it does afterwards, and what comes of it is there too
abbrev pub GivesThere : Act Value → Type 0
GivesThere m = (s t : State) (v : Value) → AreBoundThere s → m s ≡ Ok (v, t) → AreBoundThere t × IsThere t v

-- Expressions and lines keep the tree and only add to it, so that each state that the lines of a script reach has one. A script
-- has no other nodes than those that are there: the values of its names haven't, what an expression comes to hasn't, and
-- neither have two operands, once the second is carried out.
pub record HoldsForTrees : Type 0 where
  pub expressions : (x : Expr) → KeepsTree (expr_means x)
  pub lines : (ls : Lines) → KeepsTree (lines_mean ls)
  pub expressions_add : (x : Expr) → OnlyAdds (expr_means x)
  pub lines_add : (ls : Lines) → OnlyAdds (lines_mean ls)
  pub reached : (ls : Lines) (s : State) → lines_mean ls start ≡ Ok (tt, s) → HasTree s
  pub values : (x : Expr) → GivesThere (expr_means x)
  pub bound : (ls : Lines) (s : State) → lines_mean ls start ≡ Ok (tt, s) → AreBoundThere s
  pub operands : (x y : Expr) (r s t : State) (v w : Value) → AreBoundThere r → expr_means x r ≡ Ok (v, s) → expr_means y s ≡ Ok (w, t) → IsThere t v × IsThere t w
