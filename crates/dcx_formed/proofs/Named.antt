-- The nodes of a problem name variables and parameters that are declared.
use Rattle.std.proofs.Common.{◌≡◌, ℕ, sym, subst}
use Rattle.std.proofs.Math.Logic.{∥∥₁_elim}
use Rattle.dcx_math.specs.Rational.{ℚ}
use Rattle.dcx_math.proofs.Orders.{≡ℚ_prop}
use Rattle.dcx_arena.specs.Nodes.{IsNode}
use Rattle.dcx_call.specs.declared.attribute.Variable.{Variable}
use Rattle.dcx_call.specs.declared.call.Call.TheVariants as calls
use Rattle.dcx_tree.specs.declared.problem.Problem.{Problem}
use Rattle.dcx_tree.specs.Nodes.{Node, number_in}
use Rattle.dcx_tree.specs.Problems.{IsListed}
use Rattle.dcx_tree.specs.Meaning.{names_in}
use Rattle.dcx_tree.specs.Values.{IsNamed}
use Rattle.dcx_tree.proofs.Sublists.{contains_at}
use Rattle.dcx_tree.proofs.Values.{listed_named}
use Rattle.dcx_unknowns.specs.Laws.{IsVariable}
use Rattle.dcx_unknowns.proofs.Domains.{number_is}

module _ (p : Problem) where
  -- what follows for two numbers where the call of node i is named
  pub where_named : (i : ℕ) (n : Node) → IsNode p.tree i n → (x y : ℚ) → (IsNamed (names_in p) n.call → x ≡ y) → x ≡ y
  where_named i n at x y h = ∥∥₁_elim p.declared (≡ℚ_prop x y) (λ d. h (listed_named p.variables p.parameters n.call (d.listed i n at)))

  -- what follows for two numbers where a variable is declared at the position of its name
  pub where_declared : (i : ℕ) (n : Node) (v : Variable) → IsNode p.tree i n → n.call ≡ calls.Variable v → (x y : ℚ) → (IsVariable p.variables (number_in (names_in p).variables v.name) v → x ≡ y)
      → x ≡ y
  where_declared i n v at is x y h = ∥∥₁_elim p.declared (≡ℚ_prop x y) (λ d.
      let (k, there) = contains_at p.variables v (subst (IsListed p.variables p.parameters) is (d.listed i n at)) in
      h (subst (λ j. IsVariable p.variables j v) (sym (number_is p d k v there)) there))
