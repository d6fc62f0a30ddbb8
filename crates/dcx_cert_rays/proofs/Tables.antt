-- Tables of steepness: what is read of them, and one more array.
use Rattle.std.proofs.Common.{◌≡◌, inl, inr, ℕ, zero, suc, ◌+◌, ◌<◌, ◌≤◌, Bool, true, false, List, [], ◌∷◌, ◌++◌, length, map, get_or, set}
use Rattle.std.proofs.Common.{replicate, All, Option, Some, None, IsSome, slice_get, Ok, IsOk, refl, sym, ap, ◌∙◌, subst, arith}
use Rattle.std.specs.Prelude.{IsTrue, if◌then◌else◌}
use Rattle.std.proofs.lemmas.Bool.{cases_eq}
use Rattle.std.proofs.lemmas.List.{length-set, get_or-set_same, get_or-set_other, get_or_default}
use Rattle.std.proofs.lemmas.Option.{same_Some}
use Rattle.dcx_atom.specs.declared.array.Array.{Array}
use Rattle.dcx_atom.specs.Formed.{zero_frac}
use Rattle.dcx_point.specs.Pairs.{Pairs}
use Rattle.dcx_arena.proofs.Positions.{length-positions, position_at}
use Rattle.dcx_arena.proofs.Orders.{all_has}
use Rattle.dcx_arena.specs.Unfold.{Leads}
use Rattle.dcx_arena.specs.Gather.{has}
use Rattle.dcx_arena.specs.declared.node.NodeId.{NodeId}
use Rattle.dcx_arena.specs.Nodes.{positions, args_at}
use Rattle.dcx_arena.proofs.Nodes.{push_each}
use Rattle.dcx_convex.specs.Rules.{Plain, argument, judgement_at}
use Rattle.dcx_call.specs.Values.{given_by, entry_formed}
use Rattle.dcx_tree.specs.declared.problem.Problem.{Problem}
use Rattle.dcx_tree.specs.Nodes.{arg_sides}
use Rattle.dcx_tree.specs.Values.{array_at}
use Rattle.dcx_tree.specs.Meaning.{convex_problem}
use Rattle.dcx_tree.proofs.Forming.{some_of}
use Rattle.dcx_right.specs.Fixed.{is_fixed}
use Rattle.dcx_cert_outline.specs.Drawn.{AreFixed}
use Rattle.dcx_cert_rays.proofs.Known.{argument_fixed}
use Rattle.dcx_cert_rays.specs.Steepness.{is_side, node_numbers, IsFormed, IsSteepness, AreKept, IsKnown, StaysKnown, IsArgument, forming}

-- what stands at a place of a list
pub read_at : (arrays : List (Option Array)) (i : ℕ) (o : Option Array) → i < length arrays → o ≡ get_or arrays i o → array_at arrays i ≡ o
read_at arrays i o lt is = sym (is ∙ get_or_default arrays i o None lt)

pub id_at : (ids : List NodeId) (k : ℕ) → k < length ids → slice_get (positions ids) k ≡ Some (get_or ids k (record { 0 = 0 })).0
id_at [] k lt = absurd (omega arith)
id_at (a ∷ ids) zero lt = refl
id_at (a ∷ ids) (suc k) lt = id_at ids k (omega arith)

-- a table without arrays
abbrev no_array : Option Array
no_array = None

pub replicate_more : (n m : ℕ) (now : List (Option Array)) → m ≡ n + 1 → now ≡ replicate n None ++ None ∷ [] → now ≡ replicate m None
replicate_more n m now e is = is ∙ snoc n ∙ ap (λ k. replicate k None) (let z : suc n ≡ m = omega (arith, e) in z)
  where
    snoc : (k : ℕ) → replicate k no_array ++ no_array ∷ [] ≡ replicate (suc k) no_array
    snoc zero = refl
    snoc (suc k) = ap (λ xs. no_array ∷ xs) (snoc k)

-- the first argument is marked where it has no variable below it
pub first_marked : (p : Problem) (marks : List Bool) → AreFixed p marks (length p.tree) → (ids : List NodeId) → All (λ a. a < length p.tree) (positions ids) → 1 ≤ length ids →
    get_or marks (get_or ids 0 (record { 0 = 0 })).0 false ≡ (argument (map (judgement_at Plain (convex_problem p).nodes) (positions ids)) 0).fixed
first_marked p marks fixed [] below some = absurd (omega arith)
first_marked p marks fixed (a ∷ ids) below some = fixed.each a.0 (below 0 0 (omega arith))

module _ (p : Problem) (setting ray : Pairs) where
  formed_fixed : (i : ℕ) → IsTrue (is_fixed p i) → IsFormed p setting ray i
  formed_fixed i t n at j below =
      subst (λ (b : Bool). IsOk (if b then Ok zero_frac else entry_formed n.call (given_by setting) (given_by ray) (arg_sides p.tree n) (node_numbers p setting ray n) j)) (sym t) refl

  pub known_formed : (arrays : List (Option Array)) → AreKept p setting ray arrays → (i : ℕ) → IsKnown p arrays i → IsFormed p setting ray i
  known_formed arrays kept i (inl t) = formed_fixed i t
  known_formed arrays kept i (inr some) = let (v, at) = some_of (array_at arrays i) some in (kept.steep i v at).formed

  -- the arguments of what is known are known
  known_argument : (arrays : List (Option Array)) → AreKept p setting ray arrays → (i a : ℕ) → IsKnown p arrays i → has (args_at p.tree i) a ≡ true → IsKnown p arrays a
  known_argument arrays kept i a (inl t) of = inl (argument_fixed p i a t of)
  known_argument arrays kept i a (inr some) of = kept.closed i a some of

  known_along : (arrays : List (Option Array)) → AreKept p setting ray arrays → (path : List ℕ) (i j : ℕ) → Leads p.tree i path j → IsKnown p arrays i → IsKnown p arrays j
  known_along arrays kept [] i j e k = subst (IsKnown p arrays) e k
  known_along arrays kept (a ∷ path) i j l k = known_along arrays kept path a j l.1 (known_argument arrays kept i a k l.0)

  -- and so is all that they reach
  pub known_below : (arrays : List (Option Array)) → AreKept p setting ray arrays → (roots : List ℕ) → All (IsKnown p arrays) roots → (forming p setting ray roots).passes
  known_below arrays kept roots known = λ i b r. known_formed arrays kept i (known_along arrays kept r.path r.root i r.leads (all_has (IsKnown p arrays) roots r.root known r.is_root))

  -- what is known of each id
  pub all_known : (arrays : List (Option Array)) (ids : List NodeId) (n : ℕ) → length ids ≤ n → ((k : ℕ) → k < n → k < length ids → IsKnown p arrays (get_or ids k (record { 0 = 0 })).0)
      → All (IsKnown p arrays) (positions ids)
  all_known arrays ids n full each = λ k d lt.
      let l = length-positions ids in
      let below : k < length ids = omega (arith, l, lt) in
      subst (IsKnown p arrays) (sym (position_at ids k) ∙ get_or_default (positions ids) k 0 d lt) (each k (omega (arith, below, full)) below)

  -- one more array
  module _ (arrays : List (Option Array)) (kept : AreKept p setting ray arrays) (i : ℕ) (below : i < length p.tree) (v : Array) where
    within : i < length arrays
    within = let e = kept.sized in omega (arith, e, below)

    there : array_at (set arrays i (Some v)) i ≡ Some v
    there = get_or-set_same arrays i (Some v) None within

    pub known_here : IsKnown p (set arrays i (Some v)) i
    known_here = inr (subst IsSome (sym there) refl)

    pub known_still : StaysKnown p arrays (set arrays i (Some v))
    known_still k (inl t) = inl t
    known_still k (inr some) = elim (cases_eq k i) [
      | inl e ↦ subst (IsKnown p (set arrays i (Some v))) (sym e) known_here
      | inr other ↦ inr (subst IsSome (sym (get_or-set_other arrays i k (Some v) None other)) some)
    ]

    pub kept_more : IsSteepness p setting ray i v → All (IsKnown p arrays) (args_at p.tree i) → AreKept p setting ray (set arrays i (Some v))
    kept_more is known = record {
      sized = length-set arrays i (Some v) ∙ kept.sized;
      steep = λ k w at. elim (cases_eq k i) [
        | inl e ↦ let same : v ≡ w = same_Some v w (sym there ∙ subst (λ z. array_at (set arrays i (Some v)) z ≡ Some w) e at) in
            subst (λ z. IsSteepness p setting ray z w) (sym e) (subst (IsSteepness p setting ray i) same is)
        | inr other ↦ kept.steep k w (sym (get_or-set_other arrays i k (Some v) None other) ∙ at)
      ];
      closed = λ k a some of. known_still a (elim (cases_eq k i) [
        | inl e ↦ all_has (IsKnown p arrays) (args_at p.tree i) a known (subst (λ z. has (args_at p.tree z) a ≡ true) e of)
        | inr other ↦ kept.closed k a (subst IsSome (get_or-set_other arrays i k (Some v) None other) some) of
      ]);
    }

  -- one more argument
  pub arguments_more : (side : Option ℕ) (ids : List ℕ) (args now : List Array) (v : Array) (n : ℕ) (a : ℕ) → n ≡ length args → slice_get ids n ≡ Some a → IsArgument p setting ray (is_side side n) a v
      → now ≡ args ++ v ∷ [] → ((k b : ℕ) (w : Array) → slice_get ids k ≡ Some b → slice_get args k ≡ Some w → IsArgument p setting ray (is_side side k) b w) →
      (k b : ℕ) (w : Array) → slice_get ids k ≡ Some b → slice_get now k ≡ Some w → IsArgument p setting ray (is_side side k) b w
  arguments_more side ids args now v n a e at is added each k b w there has =
      push_each (λ k' w'. (b' : ℕ) → slice_get ids k' ≡ Some b' → IsArgument p setting ray (is_side side k') b' w') args v (λ k' w' has' b' there'. each k' b' w' there' has')
      (subst (λ m. (b' : ℕ) → slice_get ids m ≡ Some b' → IsArgument p setting ray (is_side side m) b' v) e
      (λ b' there'. subst (λ z. IsArgument p setting ray (is_side side n) z v) (same_Some a b' (sym at ∙ there')) is))
      k w (subst (λ (xs : List Array). slice_get xs k ≡ Some w) added has) b there
