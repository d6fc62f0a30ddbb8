-- A push of the tree is that of the definition, with the same fault.
use Rattle.std.proofs.Common.{◌≡◌, ℕ, ◌+◌, Bool, true, nat_le, nat_eq, List, [], ◌∷◌, ◌++◌, length, map, Option, Some, None, Result, Ok, Err}
use Rattle.std.proofs.Common.{refl, sym, ap, ap₂, ◌∙◌, subst, arith, inl, inr}
use Rattle.std.specs.Bool.{Decides}
use Rattle.std.specs.List.{position_from}
use Rattle.std.specs.Cmp.Lexicographic.{pointwise, bytes_decides}
use Rattle.std.proofs.lemmas.Bool.{le-leb, lt-leb, false_from_ne_true}
use Rattle.dcx_shape.specs.declared.place.Place.{Place}
use Rattle.dcx_shape.specs.declared.shape.Sides.{Sides}
use Rattle.dcx_shape.specs.Sides.{entries_of}
use Rattle.dcx_arena.specs.declared.node.NodeId.{NodeId}
use Rattle.dcx_arena.specs.declared.fault.Count.{Count}
use Rattle.dcx_arena.specs.declared.fault.Count.TheVariants.{Nodes, Entries, Items, Steps, Events}
use Rattle.dcx_arena.specs.declared.fault.TreeFault.{TreeFault}
use Rattle.dcx_arena.specs.declared.fault.TreeFault.TheVariants.{Clash, TooMany, Memory}
use Rattle.dcx_arena.specs.Nodes.{Node, most, sides_at, entries_in, IsOf, AreNodes, Holds, IsNew, IsOver, EndsAt, IsPushed}
use Rattle.dcx_call.specs.declared.call.Call.{Call}
use Rattle.dcx_call.specs.Calls.{shape_of}
use Rattle.dcx_array.specs.Shapes.{told}
use Rattle.dcx_script_values.specs.declared.fault.ElabFault.{ElabFault}
use Rattle.dcx_script_values.specs.declared.fault.ElabFault.TheVariants as faults
use Rattle.dcx_script_values.specs.Faults.{tree_fault_at}
use Rattle.dcx_script_values.specs.Values.{State, and_then, or_fault, unless, too_many}
use Rattle.dcx_script_values.specs.Nodes.{is_of, are_there, found_or_added, push}
use Rattle.dcx_script_values.specs.Same.{same_call}
use Rattle.dcx_script_values.specs.View.{Fails, Gives}
use Rattle.dcx_script_state.proofs.SameCalls.{two, calls_decide}
use Rattle.dcx_script_state.proofs.Found.{position_none, position_some}

-- whether a node is this call of these arguments
pub is_of-decides : (call : Call) (args : List ℕ) (n : Node Call) → Decides (is_of call args n) (IsOf n call args)
is_of-decides call args n =
    two (same_call n.call call) (pointwise nat_eq n.args args) (calls_decide n.call call) (bytes_decides n.args args)
    (λ e f. record { same_call = e; same_args = f }) (λ r. r.same_call) (λ r. r.same_args)

module _ (s : State) (place : Place) (call : Call) (args : List ℕ) (are : AreNodes shape_of s.nodes) (there : are_there s.nodes args ≡ true) where
  -- ---- the node that is there
  found_at : (i : ℕ) → Holds s.nodes call args i → position_from (is_of call args) 0 s.nodes ≡ Some i
  found_at i (n, at, of) =
      position_some (is_of call args) 0 s.nodes i n at ((is_of-decides call args n).1 of)
      (λ j m at' t.
      let of' = (is_of-decides call args m).0 t in
      are.distinct j i m n at' at (record { same_call = of'.same_call ∙ sym of.same_call; same_args = of'.same_args ∙ sym of.same_args }))
      ∙ ap Some (omega arith)

  new_none : IsNew s.nodes call args → position_from (is_of call args) 0 s.nodes ≡ None
  new_none new = position_none (is_of call args) 0 s.nodes (λ i n at. false_from_ne_true (is_of call args n) (λ t. new i (n, at, (is_of-decides call args n).0 t)))

  -- ---- the definition, step by step
  abbrev node : Sides → Node Call
  node sides = record { call = call; args = args; sides = sides; place = place }

  abbrev guarded : Bool → Option Sides → Result (ℕ × State) ElabFault
  guarded b o =
      and_then (unless (faults.BadArgument place) b s)
      (λ _ t. and_then (or_fault (faults.ShapeClash place) o t) (λ sides. found_or_added place (record { call = call; args = args; sides = sides; place = place })
      (position_from (is_of call args) 0 s.nodes)))

  with_shape : (o : Option Sides) → shape_of call (map (sides_at s.nodes) args) ≡ o → push place call args s ≡ guarded true o
  with_shape o e = ap₂ guarded there e

  abbrev limited : Node Call → Bool → Bool → Result (ℕ × State) ElabFault
  limited n b c =
      and_then (unless (too_many place Nodes (length s.nodes + 1)) b s)
      (λ _ t. and_then (unless (too_many place Entries (entries_in s.nodes + entries_of n.sides)) c t)
      (λ _ u. Ok (length s.nodes, record u { nodes = s.nodes ++ n ∷ [] })))

  with_new : (sides : Sides) → shape_of call (map (sides_at s.nodes) args) ≡ Some sides → IsNew s.nodes call args →
      push place call args s ≡ limited (node sides) (nat_le (length s.nodes + 1) most) (nat_le (entries_in s.nodes + entries_of sides) most)
  with_new sides e new = with_shape (Some sides) e ∙ ap (λ p. found_or_added place (record { call = call; args = args; sides = sides; place = place }) p s) (new_none new)

  -- ---- how it ends
  pub pushed_ok : (id : NodeId) (after : List (Node Call)) → IsPushed shape_of s.nodes call args place (Ok id) after → push place call args s ≡ Ok (id.0, record s { nodes = after })
  pushed_ok id after h = by (shape_of call (map (sides_at s.nodes) args)) refl h
    where
      by : (o : Option Sides) → shape_of call (map (sides_at s.nodes) args) ≡ o → EndsAt s.nodes call args place (Ok id) after o → push place call args s ≡ Ok (id.0, record s { nodes = after })
      by None e h = absurd h
      by (Some sides) e (inl found) =
          with_shape (Some sides) e
          ∙ ap (λ p. found_or_added place (record { call = call; args = args; sides = sides; place = place }) p s) (found_at id.0 found.there)
          ∙ ap (λ ns. Ok (id.0, record s { nodes = ns })) (sym found.same)
      by (Some sides) e (inr added) =
          with_new sides e added.new
          ∙ ap₂ (limited (node sides)) (le-leb (length s.nodes + 1) most added.room.few_nodes) (le-leb (entries_in s.nodes + entries_of sides) most added.room.few_entries)
          ∙ ap₂ (λ i ns. Ok (i, record s { nodes = ns })) (sym added.last) (sym added.added)

  refused : (sides : Sides) → shape_of call (map (sides_at s.nodes) args) ≡ Some sides → IsNew s.nodes call args → (what : Count) (count : ℕ) →
      IsOver (length s.nodes + 1) (entries_in s.nodes + entries_of sides) what count → push place call args s ≡ Err (faults.TooMany place what (told count))
  refused sides e new Nodes count over =
      with_new sides e new
      ∙ ap (λ b. limited (node sides) b (nat_le (entries_in s.nodes + entries_of sides) most)) (lt-leb (length s.nodes + 1) most over.0)
      ∙ ap (λ n. Err (faults.TooMany place Nodes (told n))) (sym over.1)
  refused sides e new Entries count over =
      with_new sides e new
      ∙ ap₂ (limited (node sides)) (le-leb (length s.nodes + 1) most over.0) (lt-leb (entries_in s.nodes + entries_of sides) most over.1)
      ∙ ap (λ n. Err (faults.TooMany place Entries (told n))) (sym over.2)
  refused sides e new Items count over = absurd over
  refused sides e new Steps count over = absurd over
  refused sides e new Events count over = absurd over

  pub pushed_err : (f : TreeFault) (after : List (Node Call)) → IsPushed shape_of s.nodes call args place (Err f) after → Fails (tree_fault_at place f) (push place call args s)
  pushed_err f after h = by (shape_of call (map (sides_at s.nodes) args)) refl f h
    where
      by : (o : Option Sides) → shape_of call (map (sides_at s.nodes) args) ≡ o → (g : TreeFault) → EndsAt s.nodes call args place (Err g) after o
          → Fails (tree_fault_at place g) (push place call args s)
      by None e Clash h = with_shape None e
      by None e (TooMany what count) h = absurd h
      by None e Memory h = tt
      by (Some sides) e Clash h = absurd h
      by (Some sides) e (TooMany what count) h = refused sides e h.new what count h.over
      by (Some sides) e Memory h = tt

-- ---- what is returned
abbrev pub seen_at : Place → Result NodeId TreeFault → Result NodeId ElabFault
seen_at place (Ok id) = Ok id
seen_at place (Err f) = Err (tree_fault_at place f)

seen_gives : (s : State) (place : Place) (call : Call) (args : List ℕ) → AreNodes shape_of s.nodes → are_there s.nodes args ≡ true → (r : Result NodeId TreeFault) (after : List (Node Call)) →
    IsPushed shape_of s.nodes call args place r after → Gives (λ (i : NodeId). i.0) (seen_at place r) (record s { nodes = after }) (push place call args s)
seen_gives s place call args are there (Ok id) after h = pushed_ok s place call args are there id after h
seen_gives s place call args are there (Err f) after h = pushed_err s place call args are there f after h

pub pushed_gives : (s t : State) (place : Place) (call : Call) (args : List ℕ) → s ≡ t → AreNodes shape_of s.nodes → are_there s.nodes args ≡ true
    → (r : Result NodeId TreeFault) (out : Result NodeId ElabFault)
    (after : List (Node Call)) → IsPushed shape_of s.nodes call args place r after → out ≡ seen_at place r → Gives (λ (i : NodeId). i.0) out (record s { nodes = after }) (push place call args t)
pushed_gives s t place call args same are there r out after h is =
    subst (λ u. Gives (λ (i : NodeId). i.0) out (record s { nodes = after }) (push place call args u)) same
    (subst (λ o. Gives (λ (i : NodeId). i.0) o (record s { nodes = after }) (push place call args s)) (sym is) (seen_gives s place call args are there r after h))
