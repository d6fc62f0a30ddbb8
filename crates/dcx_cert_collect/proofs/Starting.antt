-- Where the entries of nodes begin in one list of all entries.
use Rattle.std.proofs.Common.{◌≡◌, ℕ, zero, suc, ◌+◌, ◌<◌, ◌≤◌, arith, Bool, true, false, nat_lt, if◌then◌else◌, List, [], ◌∷◌, ◌++◌, length, get_or, refl, sym, ap, ap₂, ◌∙◌, Some, None}
use Rattle.std.proofs.lemmas.Bool.{false≢true, lt-ltb}
use Rattle.std.proofs.Math.Seq.{take-length}
use Rattle.std.proofs.lemmas.List.Sums.{sum_by_more, sum_by-take-le}
use Rattle.dcx_shape.specs.Sides.{entries_of}
use Rattle.dcx_arena.specs.Nodes.{entries_in, sides_at}
use Rattle.dcx_atom.specs.Arrays.{list_below}
use Rattle.dcx_atom.proofs.BoundRows.{length-list_below}
use Rattle.dcx_atom.proofs.Lists.{list_below-next, get_or-list_below}
use Rattle.dcx_tree.specs.Nodes.{Node}
use Rattle.dcx_cert_collect.specs.Starts.{start_of, AreStarts, place_of}

-- the sides of a node that is there
sides_is : (nodes : List Node) (i : ℕ) (d : Node) → i < length nodes → sides_at nodes i ≡ (get_or nodes i d).sides
sides_is [] i d b = absurd (omega arith)
sides_is (n ∷ nodes) zero d b = refl
sides_is (n ∷ nodes) (suc i) d b = sides_is nodes i d (omega arith)

-- some node, where one is there
pub some_node : (nodes : List Node) (i : ℕ) → i < length nodes → Node
some_node [] i b = absurd (omega arith)
some_node (n ∷ nodes) i b = n

-- the next begins where the one before it ends
pub start_next : (nodes : List Node) (i : ℕ) → i < length nodes → start_of nodes (i + 1) ≡ start_of nodes i + entries_of (sides_at nodes i)
start_next nodes i b =
    let d = some_node nodes i b in
    sum_by_more (λ n. entries_of n.sides) nodes i d b ∙ ap (λ s. start_of nodes i + entries_of s) (sym (sides_is nodes i d b))

-- all begin within the entries
pub start_within : (nodes : List Node) (i : ℕ) → start_of nodes i ≤ entries_in nodes
start_within nodes i = sum_by-take-le (λ n. entries_of n.sides) nodes i

-- behind the last is the end of the entries
pub start_all : (nodes : List Node) → start_of nodes (length nodes) ≡ entries_in nodes
start_all nodes = ap entries_in (take-length nodes)

-- ---- the list of starts
pub start_there : (nodes : List Node) (starts : List ℕ) (i : ℕ) → AreStarts nodes starts → i < length nodes → i < length starts
start_there nodes starts i are b = omega (arith, ap length are ∙ length-list_below (length nodes) (start_of nodes), b)

pub start_is : (nodes : List Node) (starts : List ℕ) (i : ℕ) → AreStarts nodes starts → i < length nodes → get_or starts i 0 ≡ start_of nodes i
start_is nodes starts i are b = ap (λ xs. get_or xs i 0) are ∙ get_or-list_below (length nodes) (start_of nodes) i 0 b

-- where an entry stands
pub place_there : (nodes : List Node) (starts : List ℕ) (i e size : ℕ) → AreStarts nodes starts → i < length nodes → size ≡ entries_of (sides_at nodes i) → e < size →
    Some (get_or starts i 0 + e) ≡ place_of nodes (Some i) e
place_there nodes starts i e size are b same within =
    let below : e < entries_of (sides_at nodes i) = omega (arith, within, same) in
    ap (λ k. Some (k + e)) (start_is nodes starts i are b) ∙ by (nat_lt e (entries_of (sides_at nodes i))) (lt-ltb e _ below)
  where
    by : (t : Bool) → t ≡ true → Some (start_of nodes i + e) ≡ (if t then Some (start_of nodes i + e) else None)
    by true h = refl
    by false h = absurd (false≢true h)

-- the starts with the next one
pub start_item : (nodes : List Node) (i : ℕ) (before after : List ℕ) (next : ℕ) → after ≡ before ++ next ∷ [] → before ≡ list_below i (start_of nodes) → next ≡ start_of nodes i →
    after ≡ list_below (i + 1) (start_of nodes)
start_item nodes i before after next pushed so_far is = pushed ∙ ap₂ (λ xs x. xs ++ x ∷ []) so_far is ∙ sym (list_below-next i (start_of nodes))
