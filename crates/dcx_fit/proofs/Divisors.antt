-- Where no entry of a divisor is 0, nothing is divided by 0.
use Rattle.std.proofs.Common.{◌≡◌, ◌≢◌, ℕ, ◌<◌, map, refl, subst, pos}
use Rattle.dcx_math.specs.Rational.{whole}
use Rattle.dcx_math.proofs.Lists.{mapped}
use Rattle.dcx_shape.specs.Sides.{entries_of}
use Rattle.dcx_affine.specs.declared.pairing.Pairing.TheVariants.{Times, MatTimes, Over}
use Rattle.dcx_arena.specs.Nodes.{IsNode}
use Rattle.dcx_convex.specs.Nodes as nodes
use Rattle.dcx_convex.specs.Nodes.{Setting, Point, HasNoZeroDivisor, arguments}
use Rattle.dcx_call.specs.declared.call.Call.{Call}
use Rattle.dcx_call.specs.declared.call.Call.TheVariants as calls
use Rattle.dcx_tree.specs.declared.problem.Problem.{Problem}
use Rattle.dcx_tree.specs.Nodes.{Node, head_of, arg_sides, convex_node}
use Rattle.dcx_tree.specs.Meaning.{names_in, convex_problem, value_at as problem_value}
use Rattle.dcx_fit.specs.Laws.{DividesByNoZero}

module _ (p : Problem) (s : Setting) (nonzero : (x : Point) (i : ℕ) (n : Node) → IsNode p.tree i n → n.call ≡ calls.Pairing Over → (j : ℕ) → j < entries_of n.sides →
    arguments (map (λ a. problem_value p s x a) n.args) 1 j ≢ whole (pos 0)) where
  node_divides : (x : Point) (i : ℕ) (n : Node) → IsNode p.tree i n → (call : Call) → n.call ≡ call →
      HasNoZeroDivisor (head_of (names_in p) call (arg_sides p.tree n) n.sides) (map (λ a. problem_value p s x a) n.args)
  node_divides x i n at (calls.Variable v) is = tt
  node_divides x i n at (calls.Parameter q) is = tt
  node_divides x i n at (calls.Constant c) is = tt
  node_divides x i n at (calls.Atom m) is = tt
  node_divides x i n at (calls.Linear l) is = tt
  node_divides x i n at (calls.Pairing Times) is = tt
  node_divides x i n at (calls.Pairing MatTimes) is = tt
  node_divides x i n at (calls.Pairing Over) is = λ j b. nonzero x i n at is j b

  pub divides : DividesByNoZero p s
  divides x i m there =
      let (n, at, same) = mapped (convex_node (names_in p) p.tree) p.tree i m there in
      subst (λ (m : nodes.Node). HasNoZeroDivisor m.head (map (nodes.value_at (convex_problem p).nodes s x) m.args)) same (node_divides x i n at n.call refl)
