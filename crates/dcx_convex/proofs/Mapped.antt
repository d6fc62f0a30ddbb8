-- Lists of nodes that are made of other lists: of any items, and with a node added at the end.
use Rattle.std.proofs.Common.{◌≡◌, ℕ, zero, suc, List, [], ◌∷◌, ◌++◌, map, Some, refl, sym, ap, ◌∙◌}
use Rattle.std.proofs.lemmas.Option.{none-some}
use Rattle.dcx_convex.specs.Nodes.{Node, IsNode, IsOrdered, AreRenumbered}

-- ---- a node added at the end
stays : (nodes : List Node) (n : Node) (i : ℕ) (m : Node) → IsNode nodes i m → IsNode (nodes ++ n ∷ []) i m
stays [] n i m e = absurd (none-some m e)
stays (x ∷ nodes) n zero m e = e
stays (x ∷ nodes) n (suc i) m e = stays nodes n i m e

-- so the nodes before it are ordered where all are
pub ordered_before : (nodes : List Node) (n : Node) → IsOrdered (nodes ++ n ∷ []) → IsOrdered nodes
ordered_before nodes n h = λ i m e. h i m (stays nodes n i m e)

map-id : (args : List ℕ) → map (λ i. i) args ≡ args
map-id [] = refl
map-id (i ∷ args) = ap (λ l. i ∷ l) (map-id args)

pub pushed : (nodes : List Node) (n : Node) → AreRenumbered (nodes ++ n ∷ []) (λ i. i) nodes
pushed nodes n i m e = stays nodes n i m e ∙ ap (λ l. Some (record { head = m.head; args = l })) (sym (map-id m.args))
