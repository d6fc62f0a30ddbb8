-- What is known of a problem's nodes: their calls as the rules read them, and what a ray gives their variables.
use Rattle.std.proofs.Common.{◌≡◌, ℕ, true, false, List, map, All, Option, Some, None, option_map, slice_get, refl, sym, ap, ◌∙◌, true≢false, [], ◌∷◌, length, arith}
use Rattle.std.specs.Prelude.{IsTrue, IsFalse, ◌&&◌}
use Rattle.std.proofs.Math.Logic.{∥∥₁_elim}
use Rattle.std.proofs.lemmas.Option.{none-some, slice_get-map}
use Rattle.std.specs.Option.{unwrap_or}
use mathlib.Core.Logic.{∥∥₁_map}
use Rattle.dcx_math.proofs.Orders.{≡ℚ_prop}
use Rattle.dcx_shape.specs.declared.shape.Sides.{Sides}
use Rattle.dcx_shape.specs.Shape.{sides_of}
use Rattle.dcx_atom.specs.declared.array.Array.{Array}
use Rattle.dcx_point.specs.Pairs.{Pairs, array_of}
use Rattle.dcx_arena.specs.Nodes.{IsNode, args_at, sides_at}
use Rattle.dcx_arena.specs.Gather.{has}
use Rattle.dcx_convex.specs.Nodes.{zeros}
use Rattle.dcx_convex.specs.Rules.{Plain, Judgement, judgement_at, fixed_by}
use Rattle.dcx_convex.proofs.Told.{judgement_tells}
use Rattle.dcx_convex.proofs.LawsHold.{constants_are_fixed}
use Rattle.dcx_call.specs.Calls.{shape_of}
use Rattle.dcx_call.specs.declared.attribute.Variable.{Variable}
use Rattle.dcx_call.specs.declared.attribute.Parameter.{Parameter}
use Rattle.dcx_call.specs.declared.call.Call.{Call}
use Rattle.dcx_call.specs.declared.call.Call.TheVariants as calls
use Rattle.dcx_call.specs.Values.{given_by, HasArray, IsGiven}
use Rattle.dcx_call.proofs.Given.{one_array}
use Rattle.dcx_tree.specs.declared.problem.Problem.{Problem}
use Rattle.dcx_tree.specs.Nodes.{Node, arg_sides, head_of, convex_node, number_in}
use Rattle.dcx_tree.specs.Problems.{IsListed}
use Rattle.dcx_tree.specs.Values.{array_at}
use Rattle.dcx_tree.specs.Meaning.{names_in, convex_problem, setting_of, point_of}
use Rattle.dcx_tree.proofs.Arguments.{no_args, all_fixed}
use Rattle.dcx_tree.proofs.Lawful.{problem_lawful}
use Rattle.dcx_tree.proofs.Sublists.{contains_at}
use Rattle.dcx_tree.proofs.Values.{taken, listed_named}
use Rattle.dcx_tree.proofs.AllReached.{convex_at}
use Rattle.dcx_right.specs.Fixed.{is_fixed}
use Rattle.dcx_cert_rays.specs.Steepness.{AreFixedValues, IsArgument}
use Rattle.dcx_math.proofs.Lists.{holds_at}

-- a call that has a variable below it, as far as it tells by itself
abbrev pub MayMove : Call → Type 0
MayMove (calls.Variable v) = Unit {0}
MayMove (calls.Parameter q) = ⊥
MayMove (calls.Constant x) = ⊥
MayMove (calls.Atom m) = Unit {0}
MayMove (calls.Linear l) = Unit {0}
MayMove (calls.Pairing q) = Unit {0}

-- the ray gives a variable the numbers of its name
abbrev pub IsTaken : Problem → (ray : Pairs) → Call → Type 0
IsTaken p ray (calls.Variable v) = (j : ℕ) → point_of p ray (number_in (names_in p).variables v.name) j ≡ given_by ray v.name j
IsTaken p ray (calls.Parameter q) = Unit {0}
IsTaken p ray (calls.Constant x) = Unit {0}
IsTaken p ray (calls.Atom m) = Unit {0}
IsTaken p ray (calls.Linear l) = Unit {0}
IsTaken p ray (calls.Pairing q) = Unit {0}

module _ (p : Problem) where
  fixed_call : (i : ℕ) (n : Node) → IsNode p.tree i n → is_fixed p i ≡ fixed_by (head_of (names_in p) n.call (arg_sides p.tree n) n.sides) (map (judgement_at Plain (convex_problem p).nodes) n.args)
  fixed_call i n at = ap (λ g. g.fixed) (judgement_tells Plain (convex_problem p).nodes (problem_lawful p).ordered i (convex_node (names_in p) p.tree n) (convex_at p i n at))

  moves_by : (call : Call) (args : List Sides) (sides : Sides) (gs : List Judgement) → fixed_by (head_of (names_in p) call args sides) gs ≡ false → MayMove call
  moves_by (calls.Variable v) args sides gs e = tt
  moves_by (calls.Parameter q) args sides gs e = true≢false e
  moves_by (calls.Constant x) args sides gs e = true≢false e
  moves_by (calls.Atom m) args sides gs e = tt
  moves_by (calls.Linear l) args sides gs e = tt
  moves_by (calls.Pairing q) args sides gs e = tt

  pub may_move : (i : ℕ) (n : Node) → IsNode p.tree i n → IsFalse (is_fixed p i) → MayMove n.call
  may_move i n at moves = moves_by n.call (arg_sides p.tree n) n.sides (map (judgement_at Plain (convex_problem p).nodes) n.args) (sym (fixed_call i n at) ∙ moves)

  -- ---- arguments of nodes that have no variable below them
  call_fixed : (n : Node) (call : Call) → shape_of call (arg_sides p.tree n) ≡ Some n.sides
      → fixed_by (head_of (names_in p) call (arg_sides p.tree n) n.sides) (map (judgement_at Plain (convex_problem p).nodes) n.args) ≡ true
      → (a : ℕ) → has n.args a ≡ true → IsTrue (is_fixed p a)
  call_fixed n (calls.Variable v) shape t a h = absurd (no_args _ n.sides _ n.args a shape h)
  call_fixed n (calls.Parameter q) shape t a h = absurd (no_args _ n.sides _ n.args a shape h)
  call_fixed n (calls.Constant x) shape t a h = absurd (no_args _ n.sides _ n.args a shape h)
  call_fixed n (calls.Atom m) shape t a h = all_fixed (judgement_at Plain (convex_problem p).nodes) n.args a t h
  call_fixed n (calls.Linear m) shape t a h = all_fixed (judgement_at Plain (convex_problem p).nodes) n.args a t h
  call_fixed n (calls.Pairing m) shape t a h = all_fixed (judgement_at Plain (convex_problem p).nodes) n.args a t h

  pub argument_fixed : (i a : ℕ) → IsTrue (is_fixed p i) → has (args_at p.tree i) a ≡ true → IsTrue (is_fixed p a)
  argument_fixed i a t h = by (slice_get p.tree i) refl h
    where
      by : (o : Option Node) → slice_get p.tree i ≡ o → has (unwrap_or (option_map (λ n. n.args) o) []) a ≡ true → IsTrue (is_fixed p a)
      by None e g = absurd (cc)
      by (Some n) e g = call_fixed n n.call (p.nodes.shaped i n e) (sym (fixed_call i n e) ∙ t) a g

  -- an only argument that has no variable below it
  call_only : (call : Call) (args : List Sides) (sides : Sides) (g : Judgement) → MayMove call → shape_of call args ≡ Some sides → length args ≡ 1 → g.fixed ≡ true
      → fixed_by (head_of (names_in p) call args sides) (g ∷ []) ≡ true
  call_only (calls.Variable v) [] sides g may shape one t = absurd (omega (arith, one))
  call_only (calls.Variable v) (s ∷ args) sides g may shape one t = absurd (none-some sides shape)
  call_only (calls.Parameter q) args sides g may shape one t = absurd may
  call_only (calls.Constant x) args sides g may shape one t = absurd may
  call_only (calls.Atom m) args sides g may shape one t = ap (λ b. b && true) t
  call_only (calls.Linear m) args sides g may shape one t = ap (λ b. b && true) t
  call_only (calls.Pairing m) args sides g may shape one t = ap (λ b. b && true) t

  pub only_moves : (i : ℕ) (n : Node) → IsNode p.tree i n → IsFalse (is_fixed p i) → (a : ℕ) → n.args ≡ a ∷ [] → IsTrue (is_fixed p a) → ⊥
  only_moves i n at moves a own t =
      let count : length (arg_sides p.tree n) ≡ 1 = ap (λ xs. length (map (sides_at p.tree) xs)) own in
      let fixed = call_only n.call (arg_sides p.tree n) n.sides (judgement_at Plain (convex_problem p).nodes a) (may_move i n at moves) (p.nodes.shaped i n at) count t in
      let told = fixed_call i n at ∙ ap (λ xs. fixed_by (head_of (names_in p) n.call (arg_sides p.tree n) n.sides) (map (judgement_at Plain (convex_problem p).nodes) xs)) own ∙ fixed in
      true≢false (sym told ∙ moves)

  -- ---- what a ray gives
  module _ (setting ray : Pairs) (shaped : All (λ (v : Variable). HasArray ray v.name (sides_of v.shape)) p.variables) where
    given_for : (call : Call) → MayMove call → ∥ IsListed p.variables p.parameters call ∥₁ → IsGiven call setting ray
    given_for (calls.Variable v) may l =
        one_array ray v.name (sides_of v.shape) (array_of ray v.name) refl l (λ there.
        let (k, at) = contains_at p.variables v there in holds_at (λ (u : Variable). HasArray ray u.name (sides_of u.shape)) p.variables k v shaped at)
    given_for (calls.Parameter q) may l = absurd may
    given_for (calls.Constant x) may l = tt
    given_for (calls.Atom m) may l = tt
    given_for (calls.Linear m) may l = tt
    given_for (calls.Pairing q) may l = tt

    pub node_given : (i : ℕ) (n : Node) → IsNode p.tree i n → IsFalse (is_fixed p i) → IsGiven n.call setting ray
    node_given i n at moves = given_for n.call (may_move i n at moves) (∥∥₁_map p.declared (λ d. d.listed i n at))

  -- ---- names
  taken_for : (ray : Pairs) (call : Call) → ∥ IsListed p.variables p.parameters call ∥₁ → IsTaken p ray call
  taken_for ray (calls.Variable v) l = λ j. ∥∥₁_elim l (≡ℚ_prop _ _) (λ there.
      let (k, at) = contains_at p.variables v there in
      ap (λ f. f j) (taken (names_in p).variables ray k v.name (slice_get-map (λ (x : Variable). x.name) p.variables k ∙ ap (option_map (λ (x : Variable). x.name)) at)))
  taken_for ray (calls.Parameter q) l = tt
  taken_for ray (calls.Constant x) l = tt
  taken_for ray (calls.Atom m) l = tt
  taken_for ray (calls.Linear m) l = tt
  taken_for ray (calls.Pairing q) l = tt

  pub node_taken : (ray : Pairs) (i : ℕ) (n : Node) → IsNode p.tree i n → IsTaken p ray n.call
  node_taken ray i n at = taken_for ray n.call (∥∥₁_map p.declared (λ d. d.listed i n at))

  -- an array that is kept of a node that has no variable below it is its value
  pub value_argument : (setting ray : Pairs) (arrays : List (Option Array)) → AreFixedValues p setting arrays → (i : ℕ) (v : Array) → IsTrue (is_fixed p i) → array_at arrays i ≡ Some v
      → IsArgument p setting ray true i v
  value_argument setting ray arrays given i v t at =
      let its = given.values i v at in
      record {
        shape = its.shape;
        numbers = λ j. ∥∥₁_elim p.declared (≡ℚ_prop _ _) (λ d.
            its.numbers (names_in p) (λ k n reached there. listed_named p.variables p.parameters n.call (d.listed k n there)) j
            ∙ ap (λ f. f j) (constants_are_fixed Plain (convex_problem p).nodes (setting_of p setting) (point_of p given.point) (λ number. zeros) i t));
      }
