-- The sides and the arguments of nodes, as they are read from the store.
use Rattle.std.proofs.Common.{◌≡◌, ℕ, ◌+◌, ◌<◌, List, [], ◌∷◌, ◌++◌, length, get_or, take, map, Option, Some, None, option_map, refl, sym, ap, ap₂, ◌∙◌}
use Rattle.std.specs.List.{slice_get}
use Rattle.std.specs.Option.{unwrap_or}
use Rattle.std.proofs.lemmas.List.{take_more, map-append}
use Rattle.std.proofs.lemmas.Option.{slice_get-map}
use Rattle.dcx_shape.specs.declared.shape.Sides.{Sides}
use Rattle.dcx_shape.specs.declared.shape.Sides.TheVariants.{Scalar}
use Rattle.dcx_shape.specs.declared.shape.Shape.{Shape}
use Rattle.dcx_shape.specs.Shape.{sides_of}
use Rattle.dcx_arena.specs.declared.store.Cell.{Cell}
use Rattle.dcx_arena.specs.declared.store.Stored.{Stored}
use Rattle.dcx_arena.specs.Nodes.{Node, sides_at, args_at}
use Rattle.dcx_arena.specs.Chains.{args_of, node_of, nodes_of, sides_in}
use Rattle.dcx_arena.proofs.Walks.{stored_node}

module _ {C : Type 0} where
  each_same : (cells : List Cell) (o : Option (Stored C)) → option_map (λ s. sides_of s.shape) o ≡ option_map (λ (n : Node C). n.sides) (option_map (node_of cells) o)
  each_same cells None = refl
  each_same cells (Some s) = refl

  sides_same : (cells : List Cell) (stored : List (Stored C)) (i : ℕ) → sides_in stored i ≡ sides_at (nodes_of cells stored) i
  sides_same cells stored i =
      ap (λ (o : Option Sides). unwrap_or o Scalar) (each_same cells (slice_get stored i) ∙ ap (option_map (λ (n : Node C). n.sides)) (sym (slice_get-map (node_of cells) stored i)))

  -- the sides of stored nodes are those of the nodes
  pub sides_are : (cells : List Cell) (stored : List (Stored C)) (args : List ℕ) → map (sides_in stored) args ≡ map (sides_at (nodes_of cells stored)) args
  sides_are cells stored [] = refl
  sides_are cells stored (a ∷ args) = ap₂ (λ x xs. x ∷ xs) (sides_same cells stored a) (sides_are cells stored args)

  pub args_stored : (cells : List Cell) (stored : List (Stored C)) (i : ℕ) (s : Stored C) → slice_get stored i ≡ Some s → args_at (nodes_of cells stored) i ≡ args_of cells s
  args_stored cells stored i s e = ap (λ (o : Option (Node C)). unwrap_or (option_map (λ n. n.args) o) []) (stored_node cells stored i s e)

  pub shapes_more : (stored : List (Stored C)) (shapes now : List Shape) (args : List ℕ) (i a : ℕ) (s : Stored C) → map sides_of shapes ≡ map (sides_in stored) (take i args)
      → i < length args → get_or args i 0 ≡ a → slice_get stored a ≡ Some s → now ≡ shapes ++ s.shape ∷ [] → map sides_of now ≡ map (sides_in stored) (take (i + 1) args)
  shapes_more stored shapes now args i a s so_far lt here e added =
      let read : sides_in stored a ≡ sides_of s.shape = ap (λ (o : Option (Stored C)). unwrap_or (option_map (λ x. sides_of x.shape) o) Scalar) e in
      rw (added, map-append sides_of shapes (s.shape ∷ []), so_far, take_more args i 0 lt, map-append (sides_in stored) (take i args) (get_or args i 0 ∷ []), here, read) refl
