-- What is kept of a problem that is asked.
use Rattle.std.proofs.Common.{◌≡◌, ℕ, Bool, List, Option, Some, sym, ap, ◌∙◌, subst}
use Rattle.std.specs.List.{list_any, IsDistinct}
use Rattle.std.specs.HashSet.{contains}
use Rattle.std.proofs.lemmas.Option.{same_Some}
use Rattle.dcx_point.specs.Pairs.{same_name}
use Rattle.dcx_arena.specs.Nodes.{Node, IsNode}
use Rattle.dcx_call.specs.declared.attribute.Variable.{Variable}
use Rattle.dcx_call.specs.declared.attribute.Parameter.{Parameter}
use Rattle.dcx_call.specs.declared.call.Call.{Call}
use Rattle.dcx_call.specs.Attributes.{AreSquare}
use Rattle.dcx_tree.specs.declared.problem.Problem.{Problem}
use Rattle.dcx_tree.specs.declared.roots.Roots.{Roots}
use Rattle.dcx_tree.specs.Gather.{AreDeclarations, IsProblemOf}
use Rattle.dcx_tree.specs.Problems.{IsObjective, AreConstraints, IsListed, declared_names, roots_of as begins_at}
use Rattle.dcx_script_values.specs.Values.{Asked, State}
use Rattle.dcx_script_state.specs.declared.state.Asked as code_asked
use Rattle.dcx_script_state.specs.Declarations.{roots_of, is_reached}
use Rattle.dcx_script_state.specs.Ends.{roots_in}
use Rattle.dcx_script_state.specs.Kept.{asked_of, IsAsked, IsKept}
use Rattle.dcx_script_state.proofs.Grown.{AreListed}
use Rattle.dcx_script_state.proofs.Reached.{reached_are}

-- the names of the parameters of a problem are those that it reaches
pub names_reached : (s : State) (a : Asked) (p : Problem) (has : List ℕ → Bool) → AreListed s.variables s.parameters s.nodes → IsProblemOf s.nodes (roots_in s a) p →
    ((name : List ℕ) → has name ≡ list_any (λ x. same_name name x.name) p.parameters) → (name : List ℕ) → has name ≡ is_reached s.nodes a name
names_reached s a p has listed g names name =
    names name
    ∙ ap (list_any (λ x. same_name name x.name)) g.parameters
    ∙ reached_are s.nodes (roots_of a) p.tree (begins_at p.objective p.constraints) g.nodes s.variables s.parameters listed name

pub kept_asked : (s : State) (before : Option code_asked.Asked) (q : code_asked.Asked) → IsKept s.nodes s.variables s.parameters before → IsObjective s.nodes q.objective.node →
    AreConstraints s.nodes q.constraints.items → ((name : List ℕ) → contains same_name q.reached name ≡ is_reached s.nodes (asked_of q) name) → IsKept s.nodes s.variables s.parameters (Some q)
kept_asked s before q k o cs names = record {
  listed = k.listed;
  begins = λ r e. subst (IsAsked s.nodes) (same_Some q r e) (record { objective = o; constraints = cs; reached = names });
}

-- ---- what the problem is gathered from
-- the lists of declarations are copies
pub declarations_are : (nodes : List (Node Call)) (roots : Roots) (vs : List Variable) (ps : List Parameter) → roots.variables ≡ vs → roots.parameters ≡ ps →
    ((i : ℕ) (n : Node Call) → IsNode nodes i n → IsListed vs ps n.call) → IsDistinct same_name (declared_names vs ps) → AreSquare vs → AreDeclarations nodes roots
declarations_are nodes roots vs ps e f listed distinct squares = record {
  reached = λ i n has at. subst (λ ws. IsListed ws roots.parameters n.call) (sym e) (subst (λ qs. IsListed vs qs n.call) (sym f) (listed i n at));
  distinct = subst (λ ws. IsDistinct same_name (declared_names ws roots.parameters)) (sym e) (subst (λ qs. IsDistinct same_name (declared_names vs qs)) (sym f) distinct);
  squares = subst AreSquare (sym e) squares;
}
