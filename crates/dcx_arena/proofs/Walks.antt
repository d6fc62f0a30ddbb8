-- Walking the chains of the store.
use Rattle.std.proofs.Common.{◌≡◌, ◌≢◌, ℕ, zero, suc, ◌+◌, ◌-◌, ◌<◌, ◌≤◌, List, ◌∷◌, length, get_or, drop, drop-cons, add-one}
use Rattle.std.proofs.Common.{add-zero, Option, Some, None, IfSome, option_map, refl, sym, subst, ap, ap₂, ◌∙◌, ◌↔◌, arith}
use Rattle.std.specs.List.{slice_get}
use Rattle.std.proofs.lemmas.Option.{slice_get-map, slice_get_within}
use Rattle.dcx_arena.specs.declared.store.Cell.{Cell}
use Rattle.dcx_arena.specs.declared.store.Stored.{Stored}
use Rattle.dcx_arena.specs.Nodes.{Node, IsNode, IsOf, Holds}
use Rattle.dcx_arena.specs.Chains.{cell_at, chain, IsChain, bucket_for, node_of, nodes_of, IsIn, IsUpTo, IsLast, IsKept}

-- the number of nodes that a chain may still visit
abbrev pub left_of : Option ℕ → ℕ
left_of None = 0
left_of (Some i) = suc i

pub chain_length : (cells : List Cell) (n at : ℕ) → length (chain cells n at) ≡ n
chain_length cells zero at = refl
chain_length cells (suc n) at = ap suc (chain_length cells n (cell_at cells at).next)

pub too_long : (cells : List Cell) (n at : ℕ) (args : List ℕ) → length args ≢ n → chain cells n at ≢ args
too_long cells n at args h e = h (ap length (sym e) ∙ chain_length cells n at)

-- one more cell that names the right node
pub goes_on : (cells : List Cell) (count i at : ℕ) (whole args : List ℕ) → length args ≡ count → i < length args → (cell_at cells at).node ≡ get_or args i 0
    → IsChain cells (count - i) at → (whole ≡ args) ↔ (chain cells (count - i) at ≡ drop i args)
    → IsChain cells (count - (i + 1)) (cell_at cells at).next × ((whole ≡ args) ↔ (chain cells (count - (i + 1)) (cell_at cells at).next ≡ drop (i + 1) args))
goes_on cells count i at whole args len lt same there rest =
    let k : count - i ≡ suc (count - (i + 1)) = omega arith in
    let d : drop i args ≡ get_or args i 0 ∷ drop (i + 1) args = rw (add-one, drop-cons args i 0) refl in
    let there' = rw k at there in
    let rest' = rw (k, d) at rest in
    (there'.1, (λ e. let both = rest'.0 e in cc, λ e. rest'.1 (ap₂ (λ x xs. x ∷ xs) same e)))

-- a cell that names another node
pub stops : (cells : List Cell) (count i at : ℕ) (whole args : List ℕ) → length args ≡ count → i < length args → (cell_at cells at).node ≢ get_or args i 0
    → (whole ≡ args) ↔ (chain cells (count - i) at ≡ drop i args) → whole ≢ args
stops cells count i at whole args len lt other rest e =
    let k : count - i ≡ suc (count - (i + 1)) = omega arith in
    let d : drop i args ≡ get_or args i 0 ∷ drop (i + 1) args = rw (add-one, drop-cons args i 0) refl in
    let both = (rw (k, d) at rest).0 e in
    other (cc)

-- the next cell of a chain
pub next_cell : (cells : List Cell) (count i at : ℕ) → i < count → IsChain cells (count - i) at
    → (at < length cells) × IsChain cells (count - (i + 1)) (cell_at cells at).next × (chain cells (count - i) at ≡ (cell_at cells at).node ∷ chain cells (count - (i + 1)) (cell_at cells at).next)
next_cell cells count i at lt there =
    let k : count - i ≡ suc (count - (i + 1)) = omega arith in
    let there' = rw k at there in
    (there'.0, there'.1, rw k refl)

-- cell i of a chain, of which `whole` are the nodes
module _ (cells : List Cell) (count i at : ℕ) (whole : List ℕ) (lt : i < count) (there : IsChain cells (count - i) at)
    (rest : (j : ℕ) → slice_get (chain cells (count - i) at) j ≡ slice_get whole (i + j)) where
  pub cell_is : slice_get whole i ≡ Some (cell_at cells at).node
  cell_is = let n = next_cell cells count i at lt there in sym (rw (n.2, add-zero) at (rest 0))

  pub cell_next : (j : ℕ) → slice_get (chain cells (count - (i + 1)) (cell_at cells at).next) j ≡ slice_get whole (i + 1 + j)
  cell_next j =
      let n = next_cell cells count i at lt there in
      let e : i + suc j ≡ i + 1 + j = omega arith in
      rw (n.2, e) at (rest (suc j))

-- the link leads down the chain
pub link_smaller : (at next : Option ℕ) (i : ℕ) (P : ℕ → Type 0) → at ≡ Some i → IfSome next (λ k. (k < i) × P k) → left_of next < left_of at
link_smaller at None i P e h = rw e (omega arith)
link_smaller at (Some k) i P e h = rw e (omega (arith, h.0))

wider : (at : Option ℕ) (m n : ℕ) (P : ℕ → Type 0) → m ≤ n → IfSome at (λ i. (i < m) × P i) → IfSome at (λ i. (i < n) × P i)
wider None m n P le h = tt
wider (Some i) m n P le h = (omega (arith, h.0), h.1)

module _ {C : Type 0} where
  -- a stored node, in the list of nodes
  pub stored_node : (cells : List Cell) (stored : List (Stored C)) (i : ℕ) (s : Stored C) → slice_get stored i ≡ Some s → IsNode (nodes_of cells stored) i (node_of cells s)
  stored_node cells stored i s e = slice_get-map (node_of cells) stored i ∙ ap (option_map (node_of cells)) e

  pub same_node : (cells : List Cell) (stored : List (Stored C)) (i : ℕ) (s : Stored C) (n : Node C) → slice_get stored i ≡ Some s → IsNode (nodes_of cells stored) i n → n ≡ node_of cells s
  same_node cells stored i s n e h = let k = stored_node cells stored i s e in cc

  -- a node of the list, as it is stored
  pub node_stored : (cells : List Cell) (stored : List (Stored C)) (i : ℕ) (n : Node C) → IsNode (nodes_of cells stored) i n → (s : Stored C) × (slice_get stored i ≡ Some s)
  node_stored cells stored i n h =
      let f : (o : Option (Stored C)) → option_map (node_of cells) o ≡ Some n → (s : Stored C) × (o ≡ Some s) = elim [ None ↦ λ e. absurd (cc) | Some s ↦ λ e. (s, refl) ] in
      f (slice_get stored i) (sym (slice_get-map (node_of cells) stored i) ∙ h)

  pub is_in : (stored : List (Stored C)) (i b : ℕ) (s : Stored C) → slice_get stored i ≡ Some s → s.bucket ≡ b → IsIn stored b i
  is_in stored i b s e k = ap (option_map (λ (x : Stored C). x.bucket)) e ∙ ap Some k

  pub bucket_is : (stored : List (Stored C)) (i b : ℕ) (s : Stored C) → slice_get stored i ≡ Some s → IsIn stored b i → s.bucket ≡ b
  bucket_is stored i b s e k = let h = is_in stored i s.bucket s e refl in cc

  -- the node that is looked for isn't above the last one of its bucket
  pub head_up : (hash : C → ℕ) (cells : List Cell) (stored : List (Stored C)) (call : C) (args : List ℕ) (at : Option ℕ) → IsKept hash cells stored
      → IsLast stored (length stored) (bucket_for hash call args) at
      → (j : ℕ) → Holds (nodes_of cells stored) call args j → IsUpTo j at
  head_up hash cells stored call args at kept h j (n, there, of) =
      let (t, f) = node_stored cells stored j n there in
      let same : n ≡ node_of cells t = same_node cells stored j t n f there in
      let of' : IsOf (node_of cells t) call args = rw same at of in
      let b : t.bucket ≡ bucket_for hash call args = kept.hashed j t f ∙ ap₂ (bucket_for hash) of'.same_call of'.same_args in
      h.last j (slice_get_within stored j t f) (is_in stored j (bucket_for hash call args) t f b)

  -- node i of the chain isn't the one that is looked for
  module _ (hash : C → ℕ) (cells : List Cell) (stored : List (Stored C)) (call : C) (args : List ℕ) (i : ℕ) (s : Stored C) (kept : IsKept hash cells stored) (e : slice_get stored i ≡ Some s)
      (inside : IsIn stored (bucket_for hash call args) i) where
    pub walk_within : IfSome s.next (λ k. (k < length stored) × IsIn stored (bucket_for hash call args) k)
    walk_within =
        let l = kept.linked i s e in
        let lt = slice_get_within stored i s e in
        wider s.next i (length stored) (IsIn stored (bucket_for hash call args)) (omega (arith, lt)) (rw (bucket_is stored i (bucket_for hash call args) s e inside) at l.within)

    pub walk_rest : ¬ IsOf (node_of cells s) call args → ((j : ℕ) → Holds (nodes_of cells stored) call args j → j ≤ i) → (j : ℕ) → Holds (nodes_of cells stored) call args j → IsUpTo j s.next
    walk_rest differs up j (n, at, of) =
        let (t, f) = node_stored cells stored j n at in
        let same : n ≡ node_of cells t = same_node cells stored j t n f at in
        let of' : IsOf (node_of cells t) call args = rw same at of in
        let b : t.bucket ≡ bucket_for hash call args = kept.hashed j t f ∙ ap₂ (bucket_for hash) of'.same_call of'.same_args in
        let inside' : IsIn stored s.bucket j = is_in stored j s.bucket t f (b ∙ sym (bucket_is stored i (bucket_for hash call args) s e inside)) in
        let other : j ≢ i = λ k. let g : slice_get stored i ≡ Some t = subst (λ (h : ℕ). slice_get stored h ≡ Some t) k f in let r : t ≡ s = cc in differs (rw r at of') in
        let le = up j (n, at, of) in
        (kept.linked i s e).last j (omega (arith, le, other)) inside'
