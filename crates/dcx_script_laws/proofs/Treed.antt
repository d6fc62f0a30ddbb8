-- Expressions and lines keep the tree of nodes, and only add to it.
use Rattle.std.proofs.Common.{◌≡◌, ℕ, List, [], Ok, sym, subst, ◌∙◌, lit≤}
use Rattle.std.proofs.lemmas.Option.{none-some}
use Rattle.dcx_shape.specs.declared.place.Place.{Place}
use Rattle.dcx_arena.specs.Nodes.{AreNodes}
use Rattle.dcx_call.specs.declared.call.Call.{Call}
use Rattle.dcx_call.specs.Calls.{shape_of}
use Rattle.dcx_syntax.specs.Statements.{Lines}
use Rattle.dcx_script_values.specs.Values.{State}
use Rattle.dcx_script_values.specs.Nodes.{push}
use Rattle.dcx_script_state.specs.Declarations.{start}
use Rattle.dcx_elab.specs.Statements.{lines_mean}
use Rattle.dcx_script_laws.specs.Trees.{HasTree, HoldsForTrees}
use Rattle.dcx_script_laws.proofs.Carried.{Moves, IsCarried}
use Rattle.dcx_script_laws.proofs.CarriedForms.{expr-moves}
use Rattle.dcx_script_laws.proofs.CarriedLines.{IsCarriedByLines, lines-move}
use Rattle.dcx_script_laws.proofs.Bound.{Any, bind-any}
use Rattle.dcx_script_laws.proofs.ByNodes.{by_pushes, by_lines}
use Rattle.dcx_script_laws.proofs.There.Lines.{expressions_there, lines_there, operands_there}
use Rattle.dcx_script_laws.proofs.Pushed.{Grows, push-tree, push-grows, grows-from, grows-on}

-- ---- the tree
abbrev Treed : State → State → Type 0
Treed s t = HasTree s → HasTree t

treed-pushes : (place : Place) (call : Call) (args : List ℕ) → Moves Treed (push place call args)
treed-pushes place call args s t h = record { at = λ i u e are. push-tree t u place call args i e (h are) }

treed-same : (s t u : State) → Treed s t → u.nodes ≡ t.nodes → Treed s u
treed-same s t u h e are = subst (AreNodes shape_of) (sym e) (h are)

treed_is_carried : IsCarried Treed
treed_is_carried = by_pushes Treed (λ s h. h) treed-same treed-pushes

treed_by_lines : IsCarriedByLines Treed Any
treed_by_lines = by_lines Treed (λ s h. h) treed-same treed-pushes

-- ---- what is added
grows-same : (s t u : State) → Grows s t → u.nodes ≡ t.nodes → Grows s u
grows-same s t u h e = (h.0, e ∙ h.1)

grows-pushes : (place : Place) (call : Call) (args : List ℕ) → Moves Grows (push place call args)
grows-pushes place call args s t h = record { at = λ i u e. grows-on s t u h (push-grows t u place call args i e) }

pub grows_is_carried : IsCarried Grows
grows_is_carried = by_pushes Grows grows-from grows-same grows-pushes

grows_by_lines : IsCarriedByLines Grows Any
grows_by_lines = by_lines Grows grows-from grows-same grows-pushes

-- ---- nothing is a tree
none-treed : AreNodes shape_of []
none-treed = record {
  earlier = λ i n at. absurd (none-some n at);
  distinct = λ i j m n at. absurd (none-some m at);
  shaped = λ i n at. absurd (none-some n at);
  room = record { few_nodes = lit≤ tt; few_entries = lit≤ tt };
}

trees : (ls : Lines) (s t : State) (x : Unit {0}) → HasTree s → lines_mean ls s ≡ Ok (x, t) → HasTree t
trees ls s t x are e = (lines-move Treed Any treed_by_lines ls (bind-any ls) s s (λ h. h)).at x t e are

pub trees_hold : HoldsForTrees
trees_hold = record {
  expressions = λ x s t v are e. (expr-moves Treed treed_is_carried x s s (λ h. h)).at v t e are;
  lines = trees;
  expressions_add = λ x s t v. (expr-moves Grows grows_is_carried x s s (grows-from s)).at v t;
  lines_add = λ ls s t x. (lines-move Grows Any grows_by_lines ls (bind-any ls) s s (grows-from s)).at x t;
  reached = λ ls s e. trees ls start s tt none-treed e;
  values = expressions_there;
  bound = lines_there;
  operands = operands_there;
}
