-- The sides of a node's arguments, and where their entries stand: before those of the node.
use Rattle.std.proofs.Common.{◌≡◌, ℕ, ◌+◌, ◌<◌, ◌≤◌, arith, List, [], ◌∷◌, length, All, Some, slice_get, get_or, sym, subst, ◌∙◌}
use Rattle.std.proofs.lemmas.List.{length-map, get_or-map}
use Rattle.dcx_shape.specs.declared.shape.Sides.{Sides}
use Rattle.dcx_shape.specs.Sides.{entries_of}
use Rattle.dcx_affine.specs.declared.pairing.Pairing.{Pairing}
use Rattle.dcx_arena.specs.Nodes.{AreNodes, IsNode, sides_at}
use Rattle.dcx_call.specs.declared.call.Call.TheVariants as calls
use Rattle.dcx_call.specs.Calls.{shape_of, sides_of_two}
use Rattle.dcx_atom.specs.Fractions.{HaveFewEntries}
use Rattle.dcx_tree.specs.Nodes.{Node, arg_sides}
use Rattle.dcx_cert_collect.specs.Starts.{start_of, place_of}
use Rattle.dcx_cert_collect.proofs.Starting.{start_next, start_within}
use Rattle.dcx_cert_collect.proofs.Bound.{IsBefore}
use Rattle.dcx_cert_collect.proofs.Points.{place_before}

-- a product and a quotient have two
two_sides : (p : Pairing) (ss : List Sides) (sides : Sides) → sides_of_two p ss ≡ Some sides → length ss ≡ 2
two_sides p [] sides e = cc
two_sides p (a ∷ []) sides e = cc
two_sides p (a ∷ b ∷ []) sides e = omega arith
two_sides p (a ∷ b ∷ c ∷ rest) sides e = cc

-- as many as there are arguments
pub as_many : (nodes : List Node) (n : Node) → length n.args ≡ length (arg_sides nodes n)
as_many nodes n = sym (length-map n.args (sides_at nodes))

module _ (nodes : List Node) (are : AreNodes shape_of nodes) where
  few : (i : ℕ) → i < length nodes → entries_of (sides_at nodes i) ≤ 20000
  few i b = omega (arith, start_next nodes i b, start_within nodes (i + 1), are.room.few_entries)

  module _ (i : ℕ) (b : i < length nodes) (n : Node) (at : IsNode nodes i n) where
    pub two_args : (p : Pairing) → n.call ≡ calls.Pairing p → length n.args ≡ 2
    two_args p same =
        as_many nodes n ∙ two_sides p (arg_sides nodes n) n.sides (subst (λ c. shape_of c (arg_sides nodes n) ≡ Some n.sides) same (are.shaped i n at))

    pub args_before : (k e : ℕ) → IsBefore (start_of nodes i) (place_of nodes (slice_get n.args k) e)
    args_before = place_before nodes n.args i (omega (arith, b)) (are.earlier i n at)

    pub args_there : All (λ k. k < length nodes) n.args
    args_there = λ k d c. lower (get_or n.args k d) (are.earlier i n at k d c)
      where
        lower : (j : ℕ) → j < i → j < length nodes
        lower j c = omega (arith, b, c)

    pub few_sides : HaveFewEntries (arg_sides nodes n)
    few_sides = λ k d c. subst (λ (r : Sides). entries_of r ≤ 20000) (sym (get_or-map (sides_at nodes) n.args k 0 d (omega (arith, c, as_many nodes n))))
        (few (get_or n.args k 0) (args_there k 0 (omega (arith, c, as_many nodes n))))
