-- The numbers for which nodes stand, in a list of nodes that grows.
use Rattle.std.proofs.Common.{◌≡◌, ℕ, ◌<◌, List, [], ◌∷◌, ◌++◌, length, map, Option, Some, Ok, option_map, refl, sym, ap, ap₂, subst, ◌∙◌}
use Rattle.std.specs.List.{slice_get}
use Rattle.std.specs.Option.{unwrap_or}
use Rattle.std.proofs.lemmas.Option.{slice_get_within}
use Rattle.dcx_shape.specs.declared.shape.Sides.TheVariants.{Scalar}
use Rattle.dcx_shape.specs.declared.place.Place.{Place}
use Rattle.dcx_arena.specs.Nodes.{Node, AreNodes, sides_at}
use Rattle.dcx_arena.specs.Unfold.{Expressions, none, one, Unfold}
use Rattle.dcx_arena.proofs.Nodes.{in_front, at_end}
use Rattle.dcx_arena.proofs.Unfolds.{one_unfolding, unfold_one}
use Rattle.dcx_call.specs.declared.call.Call.{Call}
use Rattle.dcx_call.specs.Calls.{shape_of}
use Rattle.dcx_call.specs.Values.{Given}
use Rattle.dcx_tree.specs.Expressions.{Value as Numbered, value_of, values_of}
use Rattle.dcx_script_values.specs.Values.{State}
use Rattle.dcx_script_values.specs.Nodes.{push}
use Rattle.dcx_script_laws.proofs.Pushed.{Pushed, found, added, node, pushed, Grows}

-- what unfolds in front of more nodes
pub unfold-more : (nodes more : List (Node Call)) (is : List ℕ) (t : Expressions Call) → Unfold nodes is t → Unfold (nodes ++ more) is t
unfold-more nodes more [] none h = tt
unfold-more nodes more [] (one call args others) h = absurd h
unfold-more nodes more (i ∷ is) none h = absurd h
unfold-more nodes more (i ∷ is) (one call args others) (n, at, same, a, o) =
    (n, in_front nodes more i (slice_get_within nodes i n at) ∙ at, same, unfold-more nodes more n.args args a, unfold-more nodes more is others o)

module _ (setting point : Given) where
  -- these nodes stand for expressions with these values
  pub record Stand (nodes : List (Node Call)) (is : List ℕ) (vs : List Numbered) : Type 0 where
    pub tree : Expressions Call
    pub unfolds : Unfold nodes is tree
    pub values : values_of setting point tree ≡ vs

  pub stand-none : (nodes : List (Node Call)) → Stand nodes [] []
  stand-none nodes = record { tree = none; unfolds = tt; values = refl }

  pub stand-more : (s t : State) (is : List ℕ) (vs : List Numbered) → Grows s t → Stand s.nodes is vs → Stand t.nodes is vs
  stand-more s t is vs grown h =
      record { tree = h.tree; unfolds = subst (λ (ns : List (Node Call)). Unfold ns is h.tree) (sym grown.1) (unfold-more s.nodes grown.0 is h.tree h.unfolds); values = h.values }

  pub stand-both : (nodes : List (Node Call)) (i : ℕ) (is : List ℕ) (v : Numbered) (vs : List Numbered) → Stand nodes (i ∷ []) (v ∷ []) → Stand nodes is vs → Stand nodes (i ∷ is) (v ∷ vs)
  stand-both nodes i is v vs h k = by h.tree h.unfolds h.values
    where
      by : (t : Expressions Call) → Unfold nodes (i ∷ []) t → values_of setting point t ≡ v ∷ [] → Stand nodes (i ∷ is) (v ∷ vs)
      by none u e = absurd u
      by (one call args others) (n, at, same, a, o) e =
          let first : value_of call setting point (values_of setting point args) ≡ v = cc in
          record { tree = one call args k.tree; unfolds = (n, at, same, a, k.unfolds); values = ap₂ (λ w ws. w ∷ ws) first k.values }

  -- a node that is there stands for something
  pub stand-one : (nodes : List (Node Call)) → AreNodes shape_of nodes → (i : ℕ) → i < length nodes → (v : Numbered) × Stand nodes (i ∷ []) (v ∷ [])
  stand-one nodes are i there = let t = unfold_one shape_of nodes are i there in by t.0 t.1
    where
      by : (t : Expressions Call) → Unfold nodes (i ∷ []) t → (v : Numbered) × Stand nodes (i ∷ []) (v ∷ [])
      by none u = absurd u
      by (one call args none) u = (value_of call setting point (values_of setting point args), record { tree = one call args none; unfolds = u; values = refl })
      by (one call args (one c bs others)) (n, at, same, a, o) = absurd o

  pub stand-same : (nodes : List (Node Call)) (is : List ℕ) (vs : List Numbered) (t : Expressions Call) → Stand nodes is vs → Unfold nodes is t → values_of setting point t ≡ vs
  stand-same nodes is vs t h u = ap (values_of setting point) (one_unfolding nodes is t h.tree u h.unfolds) ∙ h.values

  -- what is told of the sides of nodes are those of their values
  unfold-sides : (nodes : List (Node Call)) → AreNodes shape_of nodes → (is : List ℕ) (t : Expressions Call) → Unfold nodes is t
      → map (λ v. v.sides) (values_of setting point t) ≡ map (sides_at nodes) is
  unfold-sides nodes are [] none h = refl
  unfold-sides nodes are [] (one call args others) h = absurd h
  unfold-sides nodes are (i ∷ is) none h = absurd h
  unfold-sides nodes are (i ∷ is) (one call args others) (n, at, same, a, o) =
      let own : shape_of call (map (λ (v : Numbered). v.sides) (values_of setting point args)) ≡ Some n.sides =
      ap₂ shape_of (sym same) (unfold-sides nodes are n.args args a) ∙ are.shaped i n at in
      let here : sides_at nodes i ≡ n.sides = ap (λ (m : Option (Node Call)). unwrap_or (option_map (λ x. x.sides) m) Scalar) at in
      ap₂ (λ x xs. x ∷ xs) (ap (λ m. unwrap_or m Scalar) own ∙ sym here) (unfold-sides nodes are is others o)

  pub stand-sides : (nodes : List (Node Call)) → AreNodes shape_of nodes → (is : List ℕ) (vs : List Numbered) → Stand nodes is vs → map (λ v. v.sides) vs ≡ map (sides_at nodes) is
  stand-sides nodes are is vs h = ap (map (λ (v : Numbered). v.sides)) (sym h.values) ∙ unfold-sides nodes are is h.tree h.unfolds

  -- a call of what stands there
  pub stand-push : (s t : State) (place : Place) (call : Call) (args : List ℕ) (i : ℕ) (vs : List Numbered) → Stand s.nodes args vs → push place call args s ≡ Ok (i, t)
      → Stand t.nodes (i ∷ []) (value_of call setting point vs ∷ [])
  stand-push s t place call args i vs h e = by (pushed s place call args i t e)
    where
      valued : values_of setting point (one call h.tree none) ≡ value_of call setting point vs ∷ []
      valued = ap (λ ws. value_of call setting point ws ∷ []) h.values

      by : Pushed s place call args i t → Stand t.nodes (i ∷ []) (value_of call setting point vs ∷ [])
      by (found (n, at, of) same) =
          subst (λ (u : State). Stand u.nodes (i ∷ []) (value_of call setting point vs ∷ [])) same
          (record { tree = one call h.tree none; unfolds = (n, at, of.same_call, subst (λ xs. Unfold s.nodes xs h.tree) (sym of.same_args) h.unfolds, tt); values = valued })
      by (added sides there shaped new room last same) =
          let n = node s place call args sides in
          subst (λ (u : State). Stand u.nodes (i ∷ []) (value_of call setting point vs ∷ [])) same
          (record {
            tree = one call h.tree none;
            unfolds = (n, ap (slice_get (s.nodes ++ n ∷ [])) (sym last) ∙ at_end s.nodes n, refl, unfold-more s.nodes (n ∷ []) args h.tree h.unfolds, tt);
            values = valued;
          })
