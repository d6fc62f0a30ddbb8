-- Nodes that are formed one by one, and the first that isn't.
use Rattle.std.proofs.Common.{◌≡◌, inl, inr, ℕ, zero, suc, ◌+◌, ◌<◌, true, List, [], ◌∷◌, ◌++◌, length, map, take}
use Rattle.std.proofs.Common.{get_or, All, Option, Some, None, IsSome, refl, sym, ap, subst, ◌∙◌, arith, length-append}
use Rattle.std.specs.List.{slice_get}
use Rattle.std.proofs.lemmas.List.{take_more, map-append, get_or_default}
use Rattle.std.proofs.lemmas.Bool.{cases_eq}
use Rattle.std.proofs.lemmas.Option.{none-some, same_Some, slice_get-get_or}
use Rattle.dcx_atom.specs.declared.array.Array.{Array}
use Rattle.dcx_atom.specs.declared.stops.ValueStop.{ValueStop}
use Rattle.dcx_atom.specs.declared.stops.ValueStop.TheVariants as stops
use Rattle.dcx_point.specs.Pairs.{Pairs}
use Rattle.dcx_arena.specs.declared.node.NodeId.{NodeId}
use Rattle.dcx_arena.specs.Nodes.{IsNode, AreNodes, call_at, args_at, positions}
use Rattle.dcx_arena.specs.Gather.{has}
use Rattle.dcx_arena.specs.Unfold.{IsReached}
use Rattle.dcx_arena.proofs.Orders.{has_from, arg_below}
use Rattle.dcx_arena.proofs.Positions.{length-positions, position_at}
use Rattle.dcx_arena.proofs.Unfolds.{node_there}
use Rattle.dcx_call.specs.declared.call.Call.{Call}
use Rattle.dcx_call.specs.Calls.{shape_of}
use Rattle.dcx_tree.specs.Nodes.{Node}
use Rattle.dcx_tree.specs.Values.{IsValueOf, IsValueStop, array_at, AreValues, AreArguments, IsNodeStop}
use Rattle.dcx_tree.proofs.Names.{found_in}
use Rattle.dcx_tree.proofs.Marks.{reached_self, reached_arg, reached_through}

-- ---- arrays that are kept
pub some_of : {A : Type 0} (o : Option A) → IsSome o → (x : A) × (o ≡ Some x)
some_of None h = absurd (cc)
some_of (Some x) h = (x, refl)

pub some_within : (arrays : List (Option Array)) (a : ℕ) → IsSome (array_at arrays a) → a < length arrays
some_within [] a h = absurd (cc)
some_within (x ∷ xs) zero h = omega arith
some_within (x ∷ xs) (suc a) h = let b = some_within xs a h in omega (arith, b)

-- what is so of each, and of one more
put_each : (P : ℕ → Array → Type 0) (xs : List (Option Array)) (o : Option Array) → ((i : ℕ) (v : Array) → array_at xs i ≡ Some v → P i v) → ((v : Array) → o ≡ Some v → P (length xs) v) →
    (i : ℕ) (v : Array) → array_at (xs ++ o ∷ []) i ≡ Some v → P i v
put_each P [] o h last zero v e = last v e
put_each P [] o h last (suc i) v e = absurd (none-some v e)
put_each P (x ∷ xs) o h last zero v e = h zero v e
put_each P (x ∷ xs) o h last (suc i) v e = put_each (λ j. P (suc j)) xs o (λ j. h (suc j)) last i v e

pub some_more : (Q : ℕ → Type 0) (xs : List (Option Array)) (o : Option Array) → ((i : ℕ) → i < length xs → Q i → IsSome (array_at xs i)) → (Q (length xs) → IsSome o) →
    (i : ℕ) → i < length xs + 1 → Q i → IsSome (array_at (xs ++ o ∷ []) i)
some_more Q [] o h last zero b q = last q
some_more Q [] o h last (suc i) b q = absurd (omega arith)
some_more Q (x ∷ xs) o h last zero b q = h zero (omega arith) q
some_more Q (x ∷ xs) o h last (suc i) b q = some_more (λ j. Q (suc j)) xs o (λ j c. h (suc j) (omega arith)) last i (omega arith) q

-- one more argument is there
pub args_more : (arrays : List (Option Array)) (args now : List Array) (ids : List ℕ) (k : ℕ) (v : Array) → k < length ids → map Some args ≡ map (array_at arrays) (take k ids) →
    array_at arrays (get_or ids k 0) ≡ Some v → now ≡ args ++ v ∷ [] → map Some now ≡ map (array_at arrays) (take (k + 1) ids)
args_more arrays args now ids k v lt so_far here added =
    ap (map Some) added ∙ map-append Some args (v ∷ []) ∙ ap (λ xs. xs ++ Some v ∷ []) so_far ∙ ap (λ o. map (array_at arrays) (take k ids) ++ o ∷ []) (sym here)
    ∙ sym (map-append (array_at arrays) (take k ids) (get_or ids k 0 ∷ [])) ∙ ap (map (array_at arrays)) (sym (take_more ids k 0 lt))

pub All-from_has : (P : ℕ → Type 0) (xs : List ℕ) → ((a : ℕ) → has xs a ≡ true → P a) → All P xs
All-from_has P xs h = λ k d lt. h (get_or xs k d) (has_from xs k (get_or xs k d) (slice_get-get_or xs k d lt))

-- the arguments of a node stand before it
pub args_below : (nodes : List Node) → AreNodes shape_of nodes → (i size : ℕ) → i < size → All (λ a. a < size) (args_at nodes i)
args_below nodes are i size lt = All-from_has (λ a. a < size) (args_at nodes i) (λ a of. let less = arg_below shape_of nodes are i a of in omega (arith, less, lt))

-- of the nodes before n, those that the root reaches have their values
pub record HasFormed (nodes : List Node) (setting point : Pairs) (root n : ℕ) (arrays : List (Option Array)) : Type 0 where
  pub count : length arrays ≡ n
  pub some : (k : ℕ) → k < n → IsReached nodes (root ∷ []) k → IsSome (array_at arrays k)
  pub values : AreValues nodes setting point arrays

module _ (nodes : List Node) (are : AreNodes shape_of nodes) (setting point : Pairs) (root : ℕ) where
  pub values_none : AreValues nodes setting point []
  values_none = λ i v e. absurd (none-some v e)

  pub values_more : (arrays : List (Option Array)) (o : Option Array) → AreValues nodes setting point arrays → ((v : Array) → o ≡ Some v → IsValueOf nodes setting point (length arrays) v) →
      AreValues nodes setting point (arrays ++ o ∷ [])
  values_more arrays o h last = put_each (IsValueOf nodes setting point) arrays o h last

  -- what is kept of arguments is their values
  pub arguments_kept : (arrays : List (Option Array)) → AreValues nodes setting point arrays → (ids : List ℕ) (args : List Array) → map Some args ≡ map (array_at arrays) ids
      → AreArguments nodes setting point ids args
  arguments_kept arrays h [] [] e = tt
  arguments_kept arrays h [] (v ∷ args) e = absurd (cc)
  arguments_kept arrays h (a ∷ ids) [] e = absurd (cc)
  arguments_kept arrays h (a ∷ ids) (v ∷ args) e =
      let here : array_at arrays a ≡ Some v = cc in
      let rest : map Some args ≡ map (array_at arrays) ids = cc in
      (h a v here, arguments_kept arrays h ids args rest)

  -- the arguments of a node that is reached are there, where all before it that are reached are
  pub args_there : (arrays : List (Option Array)) (i : ℕ) → IsReached nodes (root ∷ []) i → ((k : ℕ) → k < i → IsReached nodes (root ∷ []) k → IsSome (array_at arrays k)) →
      All (λ a. IsSome (array_at arrays a)) (args_at nodes i)
  args_there arrays i r there =
      All-from_has (λ a. IsSome (array_at arrays a)) (args_at nodes i) (λ a of. there a (arg_below shape_of nodes are i a of) (reached_through nodes root i a r (reached_arg nodes i a of)))

  pub formed_none : HasFormed nodes setting point root 0 []
  formed_none = record { count = refl; some = λ k b r. absurd (omega arith); values = values_none }

  -- one more node: where it is reached, its value
  pub formed_more : (n : ℕ) (arrays : List (Option Array)) (o : Option Array) → HasFormed nodes setting point root n arrays → (IsReached nodes (root ∷ []) n → IsSome o)
      → ((v : Array) → o ≡ Some v → IsValueOf nodes setting point n v) →
      HasFormed nodes setting point root (n + 1) (arrays ++ o ∷ [])
  formed_more n arrays o h some is =
      let at : length arrays ≡ n = h.count in
      record {
        count = simp length-append (omega (arith, at));
        some = λ k b r. some_more (λ k'. IsReached nodes (root ∷ []) k') arrays o (λ k' b' r'. h.some k' (omega (arith, at, b')) r')
            (λ r'. some (subst (λ m. IsReached nodes (root ∷ []) m) at r')) k (omega (arith, at, b)) r;
        values = values_more arrays o h.values (λ v e. subst (λ m. IsValueOf nodes setting point m v) (sym at) (is v e));
      }

  -- the first node that isn't formed
  pub first_stop : (arrays : List (Option Array)) (i : ℕ) (stop : ValueStop) → i < length nodes → IsReached nodes (root ∷ []) i
      → ((k : ℕ) → k < i → IsReached nodes (root ∷ []) k → IsSome (array_at arrays k)) →
      AreValues nodes setting point arrays → IsNodeStop nodes setting point i stop → IsValueStop nodes setting point root stop
  first_stop arrays i (stops.Passes entry passes) lt r there values h = λ names named.
      let (n, at) = node_there nodes i lt in
      record {
        position = i;
        node = n;
        there = at;
        reached = r;
        before = λ k m b s at'. let (v, is) = some_of (array_at arrays k) (there k b s) in
            (values k v is).formed names (λ j q t z. named j q (reached_through nodes root k j s t) z) k m (reached_self nodes k) at';
        here = h names (λ j q t z. named j q (reached_through nodes root i j r t) z) n at;
      }
  first_stop arrays i (stops.ZeroDivisor entry) lt r there values h = λ names named.
      let (n, at) = node_there nodes i lt in
      record {
        position = i;
        node = n;
        there = at;
        reached = r;
        before = λ k m b s at'. let (v, is) = some_of (array_at arrays k) (there k b s) in
            (values k v is).formed names (λ j q t z. named j q (reached_through nodes root k j s t) z) k m (reached_self nodes k) at';
        here = h names (λ j q t z. named j q (reached_through nodes root i j r t) z) n at;
      }
  first_stop arrays i stops.Memory lt r there values h = tt

-- ---- calls
-- what holds of the calls up to the next node, whose call is read
pub call_more : (P : Call → Type 0) (nodes : List Node) (i : ℕ) (call : Call) → call_at nodes i ≡ Some call → P call →
    ((k : ℕ) (n : Node) → k < i → IsNode nodes k n → P n.call) → (k : ℕ) (n : Node) → k < i + 1 → IsNode nodes k n → P n.call
call_more P nodes i call read here so_far k n lt at = elim (cases_eq k i) [
  | inl e ↦
      let (m, there, is) = found_in (slice_get nodes i) call read in
      let same : m ≡ n = same_Some m n (sym there ∙ subst (λ j. IsNode nodes j n) e at) in
      subst P (sym is ∙ ap (λ (x : Node). x.call) same) here
  | inr other ↦ so_far k n (omega (arith, lt, other)) at
]

-- ---- what is read of what is kept
pub kept_at : (arrays : List (Option Array)) (a : ℕ) (o : Option Array) → IsSome (array_at arrays a) → o ≡ get_or arrays a o → o ≡ array_at arrays a
kept_at arrays a o some is = is ∙ get_or_default arrays a o None (some_within arrays a some)

-- what holds of all ids holds of the one at a place
pub each_id : (P : ℕ → Type 0) (ids : List NodeId) (k : ℕ) → All P (positions ids) → k < length ids → P (get_or ids k (record { 0 = 0 })).0
each_id P ids k h lt = subst P (position_at ids k) (h k 0 (omega (arith, length-positions ids, lt)))
