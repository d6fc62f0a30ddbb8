-- The positions that ids name, one by one.
use Rattle.std.proofs.Common.{◌≡◌, ℕ, ◌<◌, List, length, get_or, All, arith}
use Rattle.std.proofs.Math.ListN.{get_or-map}
use Rattle.std.proofs.lemmas.List.{length-map}
use Rattle.dcx_arena.specs.declared.node.NodeId.{NodeId}
use Rattle.dcx_arena.specs.Nodes.{positions}

pub length-positions : (ids : List NodeId) → length (positions ids) ≡ length ids
length-positions ids = length-map ids (λ (a : NodeId). a.0)

pub position_at : (ids : List NodeId) (i : ℕ) → get_or (positions ids) i 0 ≡ (get_or ids i (record { 0 = 0 })).0
position_at ids i = get_or-map (λ (a : NodeId). a.0) ids i (record { 0 = 0 })

pub position_below : (ids : List NodeId) (n i : ℕ) → All (λ a. a < n) (positions ids) → i < length ids → (get_or ids i (record { 0 = 0 })).0 < n
position_below ids n i h lt = let e = position_at ids i in let b = h i 0 (omega (arith, length-positions ids)) in omega (arith, e, b)
