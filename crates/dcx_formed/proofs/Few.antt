-- No argument of a node of a tree has more than 20,000 entries.
use Rattle.std.proofs.Common.{◌≡◌, ℕ, ◌≤◌, List, Option, Some, None, option_map, slice_get, slice_index_or, refl, subst, arith}
use Rattle.std.specs.Option.{unwrap_or}
use Rattle.std.proofs.lemmas.List.Elements.{All-map}
use Rattle.std.proofs.lemmas.List.Sums.{get_or-le-sum_by}
use Rattle.std.proofs.lemmas.Option.{slice_get_within, get_or_from_slice_get}
use Rattle.dcx_shape.specs.declared.shape.Sides.{Sides}
use Rattle.dcx_shape.specs.declared.shape.Sides.TheVariants.{Scalar}
use Rattle.dcx_shape.specs.Sides.{entries_of}
use Rattle.dcx_arena.specs.Nodes.{AreNodes, sides_at, entries_in}
use Rattle.dcx_call.specs.Calls.{shape_of}
use Rattle.dcx_atom.specs.Fractions.{HaveFewEntries}
use Rattle.dcx_tree.specs.Nodes.{Node, arg_sides}

module _ (nodes : List Node) (are : AreNodes shape_of nodes) where
  few_entries : (o : Option Node) (a : ℕ) → slice_get nodes a ≡ o → entries_of (unwrap_or (option_map (λ m. m.sides) o) Scalar) ≤ 20000
  few_entries None a e = omega arith
  few_entries (Some m) a e =
      let most = are.room.few_entries in
      let l = subst (λ (k : Node). entries_of k.sides ≤ entries_in nodes) (get_or_from_slice_get nodes a m m e) (get_or-le-sum_by (λ k. entries_of k.sides) nodes a m (slice_get_within nodes a m e)) in
      omega (arith, l, most)

  pub few_args : (n : Node) → HaveFewEntries (arg_sides nodes n)
  few_args n = All-map (λ (s : Sides). entries_of s ≤ 20000) (sides_at nodes) n.args (λ k d b. few_entries (slice_get nodes (slice_index_or n.args k d)) (slice_index_or n.args k d) refl)
