-- What the store keeps when cells and a node are added.
use Rattle.std.proofs.Common.{◌≡◌, ◌≢◌, ℕ, suc, ◌+◌, ◌<◌, ◌≤◌, List, [], ◌∷◌, ◌++◌, length, get_or, map, Option, Some, None, option_map, refl, sym, ap, ap₂}
use Rattle.std.proofs.Common.{subst, ◌∙◌, length-append, arith, IfSome, All}
use Rattle.std.specs.List.{slice_get}
use Rattle.std.proofs.lemmas.Option.{slice_get_within, slice_get_read, get_or_from_slice_get}
use Rattle.std.proofs.lemmas.List.{get_or-set_same, get_or-set_other, map-append, length-map}
use Rattle.std.proofs.Math.ListN.{set}
use native.Mathlib.Decide.{ℕ_discrete}
use Rattle.dcx_shape.specs.Shape.{sides_of}
use Rattle.dcx_shape.specs.Sides.{entries_of}
use Rattle.dcx_shape.specs.declared.shape.Sides.{Sides}
use Rattle.dcx_arena.specs.declared.store.Cell.{Cell}
use Rattle.dcx_arena.specs.declared.store.Stored.{Stored}
use Rattle.dcx_arena.specs.Nodes.{Node, IsNew, IsWithin, sides_at}
use Rattle.dcx_arena.specs.Chains.{IsChain, args_of, node_of, nodes_of, bucket_for, number_of_buckets, IsIn, IsLast, IsKept, AreHeads, IsStore}
use Rattle.dcx_arena.proofs.Cells.{IsChain-kept, chain-kept}
use Rattle.dcx_arena.proofs.Nodes.{push_each, in_front, at_end, entries_more, node_added}

module _ {C : Type 0} where
  nodes_kept : (cells now : List Cell) (stored : List (Stored C)) → ((i : ℕ) (s : Stored C) → slice_get stored i ≡ Some s → args_of now s ≡ args_of cells s) → nodes_of now stored
      ≡ nodes_of cells stored
  nodes_kept cells now [] h = refl
  nodes_kept cells now (s ∷ stored) h =
      ap₂ (λ (names : List ℕ) (ns : List (Node C)). record { call = s.call; args = names; sides = sides_of s.shape; place = s.place } ∷ ns) (h 0 s refl) (nodes_kept cells now stored (λ i. h (suc i)))

  cells_added : (hash : C → ℕ) (cells more : List Cell) (stored : List (Stored C)) → IsKept hash cells stored → IsKept hash (cells ++ more) stored
  cells_added hash cells more stored h = record {
    chained = λ i s e. IsChain-kept cells more s.count s.first (h.chained i s e);
    hashed = λ i s e. rw (chain-kept cells more s.count s.first (h.chained i s e)) (h.hashed i s e);
    linked = h.linked;
  }

  -- a store with more cells, which no node uses
  pub store_with : (gives : C → List Sides → Option Sides) (hash : C → ℕ) (cells now : List Cell) (stored : List (Stored C)) (heads : List (Option ℕ)) (entries : ℕ)
      → (more : List Cell) × (now ≡ cells ++ more)
      → IsStore gives hash cells stored heads entries → IsStore gives hash now stored heads entries × (nodes_of now stored ≡ nodes_of cells stored)
  store_with gives hash cells now stored heads entries (more, e) h =
      let nodes = nodes_kept cells (cells ++ more) stored (λ i s f. chain-kept cells more s.count s.first (h.kept.chained i s f)) in
      rw e (
        record {
          kept = cells_added hash cells more stored h.kept;
          led = h.led;
          counted = rw nodes h.counted;
          nodes = rw nodes h.nodes;
        },
        nodes,
      )

  within_kept : (stored : List (Stored C)) (s : Stored C) (m n b : ℕ) (at : Option ℕ) → m ≤ length stored → m ≤ n → IfSome at (λ i. (i < m) × IsIn stored b i)
      → IfSome at (λ i. (i < n) × IsIn (stored ++ s ∷ []) b i)
  within_kept stored s m n b None le wide h = tt
  within_kept stored s m n b (Some i) le wide h = (omega (arith, h.0), rw (in_front stored (s ∷ []) i (omega (arith, h.0))) h.1)

  still_in : (stored : List (Stored C)) (s : Stored C) (b j : ℕ) → j < length stored → IsIn (stored ++ s ∷ []) b j → IsIn stored b j
  still_in stored s b j lt is = rw (in_front stored (s ∷ []) j lt) at is

  -- a link of one more list
  link_kept : (stored : List (Stored C)) (s : Stored C) (n b : ℕ) (at : Option ℕ) → n ≤ length stored → IsLast stored n b at → IsLast (stored ++ s ∷ []) n b at
  link_kept stored s n b at le h = record {
    within = within_kept stored s n n b at le (omega arith) h.within;
    last = λ j lt is. h.last j lt (still_in stored s b j (omega (arith, lt, le)) is);
  }

  end_in : (stored : List (Stored C)) (s : Stored C) → IsIn (stored ++ s ∷ []) s.bucket (length stored)
  end_in stored s = ap (option_map (λ (x : Stored C). x.bucket)) (at_end stored s)

  -- the head of another bucket
  other_head : (stored : List (Stored C)) (s : Stored C) (n b : ℕ) (at : Option ℕ) → n ≡ length stored + 1 → s.bucket ≢ b → IsLast stored (length stored) b at → IsLast (stored ++ s ∷ []) n b at
  other_head stored s n b at e differs h = record {
    within = within_kept stored s (length stored) n b at (omega arith) (omega arith) h.within;
    last = λ j lt is. elim (ℕ_discrete j (length stored)) [
      | yes same ↦ let k = end_in stored s in let is' : IsIn (stored ++ s ∷ []) b (length stored) = rw same at is in absurd (differs (cc))
      | no other ↦ h.last j (omega arith) (still_in stored s b j (omega arith) is)
    ];
  }

  -- the head of its own bucket
  own_head : (stored : List (Stored C)) (s : Stored C) (n : ℕ) → n ≡ length stored + 1 → IsLast (stored ++ s ∷ []) n s.bucket (Some (length stored))
  own_head stored s n e = record {
    within = (omega arith, end_in stored s);
    last = λ j lt is. omega arith;
  }

  heads_added : (stored : List (Stored C)) (s : Stored C) (heads : List (Option ℕ)) → s.bucket < length heads → AreHeads stored heads
      → AreHeads (stored ++ s ∷ []) (set heads s.bucket (Some (length stored)))
  heads_added stored s heads lt h b below =
      let n = length-append stored (s ∷ []) in
      elim (ℕ_discrete b s.bucket) [
        | yes same ↦ rw (same, get_or-set_same heads s.bucket (Some (length stored)) None lt) (own_head stored s (length (stored ++ s ∷ [])) n)
        | no other ↦ rw (get_or-set_other heads s.bucket b (Some (length stored)) None other) (other_head stored s (length (stored ++ s ∷ [])) b (get_or heads b None) n
            (λ e. other (sym e)) (h b below))
      ]

  pub nodes_more : (cells : List Cell) (stored : List (Stored C)) (s : Stored C) → nodes_of cells (stored ++ s ∷ []) ≡ nodes_of cells stored ++ node_of cells s ∷ []
  nodes_more cells stored s = map-append (node_of cells) stored (s ∷ [])

  pub count_nodes : (cells : List Cell) (stored : List (Stored C)) → length (nodes_of cells stored) ≡ length stored
  count_nodes cells stored = length-map stored (node_of cells)

  -- a store with one more node, whose cells are there already
  pub store_added : (gives : C → List Sides → Option Sides) (hash : C → ℕ) (cells : List Cell) (stored : List (Stored C)) (heads : List (Option ℕ)) (entries : ℕ) (s : Stored C)
      → IsStore gives hash cells stored heads entries
      → IsChain cells s.count s.first → s.bucket ≡ bucket_for hash s.call (args_of cells s) → s.bucket < number_of_buckets → number_of_buckets ≤ length heads → s.next ≡ get_or heads s.bucket None
      → All (λ a. a < length (nodes_of cells stored)) (args_of cells s) → IsNew (nodes_of cells stored) s.call (args_of cells s)
      → gives s.call (map (sides_at (nodes_of cells stored)) (args_of cells s)) ≡ Some (sides_of s.shape)
      → IsWithin (length (nodes_of cells stored) + 1) (entries + entries_of (sides_of s.shape)) → IsStore gives hash cells (stored ++ s ∷ [])
      (set heads s.bucket (Some (length stored))) (entries + entries_of (sides_of s.shape))
  store_added gives hash cells stored heads entries s h there hashed below enough next args new shaped room = record {
    kept = record {
      chained = push_each (λ i x. IsChain cells x.count x.first) stored s h.kept.chained there;
      hashed = push_each (λ i x. x.bucket ≡ bucket_for hash x.call (args_of cells x)) stored s h.kept.hashed hashed;
      linked = push_each (λ i x. IsLast (stored ++ s ∷ []) i x.bucket x.next) stored s
          (λ i x e. let lt = slice_get_within stored i x e in link_kept stored s i x.bucket x.next (omega (arith, lt)) (h.kept.linked i x e))
          (link_kept stored s (length stored) s.bucket s.next (omega arith) (rw next (h.led s.bucket below)));
    };
    led = heads_added stored s heads (omega arith) h.led;
    counted = rw (nodes_more cells stored s, entries_more (nodes_of cells stored) (node_of cells s)) (ap (λ k. k + entries_of (sides_of s.shape)) h.counted);
    nodes = rw (nodes_more cells stored s) (node_added gives (nodes_of cells stored) (node_of cells s) h.nodes args new shaped (rw (← h.counted) room));
  }

  -- the node that is added, in the nodes that there were and the arguments that its cells name
  module _ (cells : List Cell) (stored : List (Stored C)) (s : Stored C) (names : List ℕ) (nodes : List (Node C)) (same : nodes_of cells stored ≡ nodes) (chained : args_of cells s ≡ names) where
    pub store_appended : (gives : C → List Sides → Option Sides) (hash : C → ℕ) (heads : List (Option ℕ)) (entries : ℕ) → IsStore gives hash cells stored heads entries
        → IsChain cells s.count s.first → s.bucket ≡ bucket_for hash s.call names → s.bucket < number_of_buckets → number_of_buckets ≤ length heads → s.next ≡ get_or heads s.bucket None
        → All (λ a. a < length nodes) names → IsNew nodes s.call names → gives s.call (map (sides_at nodes) names) ≡ Some (sides_of s.shape)
        → IsWithin (length nodes + 1) (entries + entries_of (sides_of s.shape)) → IsStore gives hash cells (stored ++ s ∷ []) (set heads s.bucket (Some (length stored)))
        (entries + entries_of (sides_of s.shape))
    store_appended gives hash heads entries h there hashed below enough next args new shaped room =
        store_added gives hash cells stored heads entries s h there (rw chained hashed) below enough next (rw (same, chained) args) (rw (same, chained) new) (rw (same, chained) shaped) (rw same room)

    pub nodes_appended : nodes_of cells (stored ++ s ∷ []) ≡ nodes ++ record { call = s.call; args = names; sides = sides_of s.shape; place = s.place } ∷ []
    nodes_appended = nodes_more cells stored s ∙ rw (same, chained) refl

  -- a store whose heads are the same
  pub store_headed : (gives : C → List Sides → Option Sides) (hash : C → ℕ) (cells : List Cell) (stored : List (Stored C)) (heads now : List (Option ℕ)) (entries : ℕ)
      → ((b : ℕ) → get_or now b None ≡ get_or heads b None) → IsStore gives hash cells stored heads entries → IsStore gives hash cells stored now entries
  store_headed gives hash cells stored heads now entries same h = record {
    kept = h.kept;
    led = λ b lt. subst (IsLast stored (length stored) b) (sym (same b)) (h.led b lt);
    counted = h.counted;
    nodes = h.nodes;
  }

  -- a head that was read
  pub head_read : (stored read : List (Stored C)) (heads now : List (Option ℕ)) (b bucket : ℕ) (at : Option ℕ) → AreHeads stored heads → ((b : ℕ) → get_or now b None ≡ get_or heads b None)
      → number_of_buckets ≤ length now → b ≡ bucket → b < number_of_buckets → at ≡ get_or now b at → read ≡ stored → IsLast read (length read) bucket at
  head_read stored read heads now b bucket at led same room is lt e k =
      let h : at ≡ get_or now b None = sym (get_or_from_slice_get now b at None (slice_get_read now (length now) b at refl (omega (arith, lt, room)) e)) in
      let there : IsLast stored (length stored) b at = subst (IsLast stored (length stored) b) (sym (h ∙ same b)) (led b lt) in
      rw (k, ← is) there

  -- nodes that are there are stored
  pub all_stored : (cells : List Cell) (stored read : List (Stored C)) (ids : List ℕ) → read ≡ stored → All (λ i. i < length (nodes_of cells stored)) ids → All (λ i. i < length read) ids
  all_stored cells stored read ids e h = rw (e, ← count_nodes cells stored) h
