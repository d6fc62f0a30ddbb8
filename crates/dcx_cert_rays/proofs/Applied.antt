-- The call of a node as it is read, at the arrays at which it is taken.
use Rattle.std.proofs.Common.{◌≡◌, ℕ, List, map, All, Option, Some, slice_get, sym, ap, ◌∙◌, subst, zero, suc, [], ◌∷◌, false, if◌then◌else◌, length, get_or, arith, inl, inr, ◌<◌, Bool, IsSome, refl}
use Rattle.std.specs.Prelude.{IsFalse, IfSome, Bool}
use Rattle.std.proofs.lemmas.Option.{same_Some, none-some}
use Rattle.dcx_frac.specs.declared.fraction.Passes.{Passes}
use Rattle.dcx_shape.specs.declared.shape.Sides.{Sides}
use Rattle.dcx_shape.specs.Shape.{sides_of}
use Rattle.dcx_shape.specs.Sides.{entries_of}
use Rattle.dcx_atom.specs.declared.array.Array.{Array}
use Rattle.dcx_atom.specs.declared.stops.ValueStop.{ValueStop}
use Rattle.dcx_atom.specs.declared.stops.ValueStop.TheVariants as stops
use Rattle.dcx_atom.specs.Arrays.{array_sides}
use Rattle.dcx_point.specs.Pairs.{Pairs}
use Rattle.dcx_arena.specs.Nodes.{IsNode, call_at, args_at, sides_at}
use Rattle.dcx_convex.specs.Rules.{Plain, argument, judgement_at}
use Rattle.dcx_call.specs.declared.attribute.Variable.{Variable}
use Rattle.dcx_call.specs.declared.call.Call.{Call}
use Rattle.dcx_call.specs.declared.call.Call.TheVariants as calls
use Rattle.dcx_call.specs.Calls.{shape_of}
use Rattle.dcx_call.specs.Values as call_values
use Rattle.dcx_call.specs.Values.{HasArray, IsGiven, IsValue}
use Rattle.dcx_call.proofs.Entries.{some_fact}
use Rattle.dcx_tree.specs.declared.problem.Problem.{Problem}
use Rattle.dcx_tree.specs.Nodes.{Node}
use Rattle.dcx_tree.specs.Meaning.{convex_problem, IsAccepted, IsFitting}
use Rattle.dcx_tree.proofs.Names.{found_in}
use Rattle.dcx_tree.proofs.NodeValues.{args_are, sides_are}
use Rattle.dcx_answer.specs.declared.cert_fault.CertFault.TheVariants.{Wide}
use Rattle.dcx_right.specs.Fixed.{is_fixed}
use Rattle.dcx_cert_rays.specs.Steepness.{value_side, is_first_fixed, IsSteepness, IsUnformed, IsKnown, AreReady}
use Rattle.dcx_cert_rays.specs.Steepness.{AreArguments, TakesArguments, is_side, fixed_value, steepness_at, IsArgument}
use Rattle.dcx_cert_rays.proofs.Known.{node_given, only_moves}
use Rattle.dcx_cert_rays.proofs.Steep.{shape_is, steepness_is, passes_is, divides_first}
use Rattle.dcx_arena.proofs.Unfolds.{node_there}
use Rattle.dcx_tree.specs.Values.{array_at}
use Rattle.dcx_cert_rays.proofs.Ready.{never_divides, ready}

-- ---- an only argument
one_of : (xs : List ℕ) → length xs ≡ 1 → xs ≡ get_or xs 0 0 ∷ []
one_of [] e = absurd (omega (arith, e))
one_of (x ∷ []) e = refl
one_of (x ∷ y ∷ xs) e = absurd (omega (arith, e))

-- no product or quotient has it
no_side : (call : Call) (s sides : Sides) (first : Bool) → shape_of call (s ∷ []) ≡ Some sides → is_side (value_side call first) 0 ≡ false
no_side (calls.Variable v) s sides first e = refl
no_side (calls.Parameter q) s sides first e = refl
no_side (calls.Constant x) s sides first e = refl
no_side (calls.Atom m) s sides first e = refl
no_side (calls.Linear l) s sides first e = refl
no_side (calls.Pairing q) s sides first e = absurd (none-some sides e)

module _ (p : Problem) (setting ray : Pairs) where
  only_argument : (side : Option ℕ) (a : ℕ) (v : Array) → is_side side 0 ≡ false → IsSteepness p setting ray a v → AreArguments p setting ray side (a ∷ []) (v ∷ [])
  only_argument side a v none is = record { count = refl; each = by }
    where
      own : IsArgument p setting ray (is_side side 0) a v
      own = record { shape = is.shape; numbers = λ j. is.numbers j ∙ ap (λ (b : Bool). (if b then fixed_value p setting a else steepness_at p setting ray a) j) (sym none) }

      by : (k b : ℕ) (w : Array) → slice_get (a ∷ []) k ≡ Some b → slice_get (v ∷ []) k ≡ Some w → IsArgument p setting ray (is_side side k) b w
      by zero b w e f = subst (λ z. IsArgument p setting ray (is_side side 0) z w) (same_Some a b e) (subst (IsArgument p setting ray (is_side side 0) a) (same_Some v w f) own)
      by (suc k) b w e f = absurd (none-some b e)

  -- a node is taken at the steepness of its only argument
  pub only_takes : (i : ℕ) (ids : List ℕ) (v : Array) → ids ≡ args_at p.tree i → length ids ≡ 1 → IsSteepness p setting ray (get_or ids 0 0) v → TakesArguments p setting ray i (v ∷ [])
  only_takes i ids v its one is m there =
      let own : m.args ≡ get_or ids 0 0 ∷ [] = sym (its ∙ args_are p.tree i m there) ∙ one_of ids one in
      let none = no_side m.call (sides_at p.tree (get_or ids 0 0)) m.sides (is_first_fixed p m)
      (subst (λ xs. shape_of m.call (map (sides_at p.tree) xs) ≡ Some m.sides) own (p.nodes.shaped i m there)) in
      subst (λ xs. AreArguments p setting ray (value_side m.call (is_first_fixed p m)) xs (v ∷ [])) (sym own) (only_argument (value_side m.call (is_first_fixed p m)) (get_or ids 0 0) v none is)

  -- and it has a variable below it, as the node has
  pub only_kept : (i : ℕ) → i < length p.tree → IsFalse (is_fixed p i) → (arrays : List (Option Array)) (ids : List ℕ) → ids ≡ args_at p.tree i → length ids ≡ 1 → All (IsKnown p arrays) ids →
      IsSome (array_at arrays (get_or ids 0 0))
  only_kept i below moves arrays ids its one known = by (known 0 0 (omega (arith, one)))
    where
      by : IsKnown p arrays (get_or ids 0 0) → IsSome (array_at arrays (get_or ids 0 0))
      by (inl t) = let (n, at) = node_there p.tree i below in absurd (only_moves p i n at moves (get_or ids 0 0) (sym (its ∙ args_are p.tree i n at) ∙ one_of ids one) t)
      by (inr some) = some

module _ (p : Problem) (setting ray : Pairs) (i : ℕ) (call : Call) (read : call_at p.tree i ≡ Some call) (moves : IsFalse (is_fixed p i)) where
  pub applied_given : All (λ (v : Variable). HasArray ray v.name (sides_of v.shape)) p.variables → IsGiven call setting ray
  applied_given shaped =
      let (n, at, is) = found_in (slice_get p.tree i) call read in
      subst (λ c. IsGiven c setting ray) is (node_given p setting ray shaped i n at moves)

  module _ (args : List Array) (h : TakesArguments p setting ray i args) where
    pub applied_shape : shape_of call (array_sides args) ≡ Some (sides_at p.tree i)
    applied_shape =
        let (n, at, is) = found_in (slice_get p.tree i) call read in
        subst (λ c. shape_of c (array_sides args) ≡ Some (sides_at p.tree i)) is (shape_is p setting ray i n at moves args (h n at) ∙ ap Some (sym (sides_are p.tree i n at)))

    pub applied_value : (v : Array) → IsValue call setting ray args v → IsSteepness p setting ray i v
    applied_value v its =
        let (n, at, is) = found_in (slice_get p.tree i) call read in
        steepness_is p setting ray i n at moves args (h n at) v (subst (λ c. IsValue c setting ray args v) (sym is) its)

    stopped : (n : Node) → IsNode p.tree i n → n.call ≡ call → (stop : ValueStop) → IfSome (shape_of call (array_sides args)) (λ s. call_values.IsValueStop call setting ray args (entries_of s) stop) →
        call_values.IsValueStop n.call setting ray args (entries_of n.sides) stop
    stopped n at is stop why =
        let here = some_fact (λ s. call_values.IsValueStop call setting ray args (entries_of s) stop) (shape_of call (array_sides args)) (sides_at p.tree i) applied_shape why in
        subst (λ (s : Sides). call_values.IsValueStop n.call setting ray args (entries_of s) stop) (sides_are p.tree i n at)
        (subst (λ c. call_values.IsValueStop c setting ray args (entries_of (sides_at p.tree i)) stop) (sym is) here)

    pub applied_passes : (entry : ℕ) (passes : Passes) (stop : ValueStop) → stop ≡ stops.Passes entry passes
        → IfSome (shape_of call (array_sides args)) (λ s. call_values.IsValueStop call setting ray args (entries_of s) stop)
        → IsUnformed p setting ray i (Wide passes)
    applied_passes entry passes stop e why =
        let (n, at, is) = found_in (slice_get p.tree i) call read in
        passes_is p setting ray i n at moves args (h n at) entry passes (subst (call_values.IsValueStop n.call setting ray args (entries_of n.sides)) e (stopped n at is stop why))

    pub applied_divides : IsFitting p setting → (entry : ℕ) (stop : ValueStop) → stop ≡ stops.ZeroDivisor entry
        → IfSome (shape_of call (array_sides args)) (λ s. call_values.IsValueStop call setting ray args (entries_of s) stop) → ⊥
    applied_divides fitting entry stop e why =
        let (n, at, is) = found_in (slice_get p.tree i) call read in
        never_divides p setting ray fitting i n at entry
        (divides_first p setting ray i n at moves args (h n at) entry (subst (call_values.IsValueStop n.call setting ray args (entries_of n.sides)) e (stopped n at is stop why)))

  -- what the arguments need
  pub applied_ready : IsAccepted p → (arrays : List (Option Array)) → All (IsKnown p arrays) (args_at p.tree i) → (first : Bool) (side : Option ℕ) (ids : List ℕ) → ids ≡ args_at p.tree i →
      first ≡ (argument (map (judgement_at Plain (convex_problem p).nodes) ids) 0).fixed → side ≡ value_side call first → AreReady p side ids arrays
  applied_ready accepted arrays known first side ids its e is_side =
      let (n, at, is) = found_in (slice_get p.tree i) call read in
      let own : args_at p.tree i ≡ n.args = args_are p.tree i n at in
      let same : side ≡ value_side n.call (is_first_fixed p n) = is_side
      ∙ ap (λ c. value_side c first) (sym is) ∙ ap (value_side n.call) (e ∙ ap (λ xs. (argument (map (judgement_at Plain (convex_problem p).nodes) xs) 0).fixed) (its ∙ own)) in
      subst (λ s. AreReady p s ids arrays) (sym same)
      (subst (λ xs. AreReady p (value_side n.call (is_first_fixed p n)) xs arrays) (sym (its ∙ own))
      (ready p setting ray accepted i n at moves arrays (subst (All (IsKnown p arrays)) own known)))

  pub applied_takes : (first : Bool) (side : Option ℕ) (ids : List ℕ) (args : List Array) → ids ≡ args_at p.tree i →
      first ≡ (argument (map (judgement_at Plain (convex_problem p).nodes) ids) 0).fixed → side ≡ value_side call first → AreArguments p setting ray side ids args → TakesArguments p setting ray i args
  applied_takes first side ids args its e is_side h m there =
      let (n, at, is) = found_in (slice_get p.tree i) call read in
      let z : m ≡ n = same_Some m n (sym there ∙ at) in
      let own : ids ≡ m.args = its ∙ args_are p.tree i m there in
      let same : side ≡ value_side m.call (is_first_fixed p m) = is_side
      ∙ ap (λ c. value_side c first) (sym is ∙ ap (λ (x : Node). x.call) (sym z))
      ∙ ap (value_side m.call) (e ∙ ap (λ xs. (argument (map (judgement_at Plain (convex_problem p).nodes) xs) 0).fixed) own) in
      subst (λ s. AreArguments p setting ray s m.args args) same (subst (λ xs. AreArguments p setting ray side xs args) own h)
