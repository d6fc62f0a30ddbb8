-- The parameters of the problem of some roots are those that the roots reach.
use Rattle.std.proofs.Common.{◌≡◌, ℕ, Bool, true, List, Option, Some, None, option_map, refl, sym, ap, ◌∙◌, subst}
use Rattle.std.specs.Cmp.{both_ways}
use Rattle.std.specs.Prelude.{filter}
use Rattle.std.specs.List.{slice_get, list_any}
use Rattle.std.proofs.lemmas.Option.{same_Some}
use Rattle.dcx_point.specs.Pairs.{same_name}
use Rattle.dcx_point.proofs.Puts.{same_name-refl, same_name-true}
use Rattle.dcx_arena.specs.Nodes.{Node, IsNode, call_at}
use Rattle.dcx_arena.specs.Gather.{order_of, IsGathered}
use Rattle.dcx_call.specs.declared.attribute.Variable.{Variable}
use Rattle.dcx_call.specs.declared.attribute.Parameter.{Parameter}
use Rattle.dcx_call.specs.declared.call.Call.{Call}
use Rattle.dcx_call.specs.declared.call.Call.TheVariants as calls
use Rattle.dcx_tree.specs.Problems.{IsListed}
use Rattle.dcx_tree.specs.Gather.{has_parameter}
use Rattle.dcx_tree.specs.Gather as gather
use Rattle.dcx_tree.proofs.Sublists.{contains_at, filter_at, at_filter, any_at, at_any}
use Rattle.dcx_tree.proofs.Parts.{part_node}
use Rattle.dcx_script_state.specs.Declarations.{is_parameter}

-- a parameter of this name
named : (name : List ℕ) (call : Call) → gather.is_parameter name call ≡ true → (p : Parameter) × (call ≡ calls.Parameter p) × (same_name name p.name ≡ true)
named name (calls.Variable v) e = absurd (cc)
named name (calls.Parameter p) e = (p, refl, e)
named name (calls.Constant a) e = absurd (cc)
named name (calls.Atom a) e = absurd (cc)
named name (calls.Linear l) e = absurd (cc)
named name (calls.Pairing p) e = absurd (cc)

there : (nodes : List (Node Call)) (name : List ℕ) (i : ℕ) → is_parameter name (call_at nodes i) ≡ true → (m : Node Call) × IsNode nodes i m × (gather.is_parameter name m.call ≡ true)
there nodes name i e = by (slice_get nodes i) refl e
  where
    by : (o : Option (Node Call)) → slice_get nodes i ≡ o → is_parameter name (option_map (λ n. n.call) o) ≡ true → (m : Node Call) × IsNode nodes i m × (gather.is_parameter name m.call ≡ true)
    by None at e = absurd (cc)
    by (Some m) at e = (m, at, e)

module _ (nodes : List (Node Call)) (roots : List ℕ) (part : List (Node Call)) (ends : List ℕ) (g : IsGathered nodes roots part ends) (vs : List Variable) (ps : List Parameter)
    (listed : (i : ℕ) (n : Node Call) → IsNode nodes i n → IsListed vs ps n.call) (name : List ℕ) where
  abbrev kept : List Parameter
  kept = filter (λ q. has_parameter part q.name) ps

  abbrev is_here : Parameter → Bool
  is_here p = same_name name p.name

  abbrev is_there : ℕ → Bool
  is_there i = is_parameter name (call_at nodes i)

  forth : list_any is_here kept ≡ true → list_any is_there (order_of nodes roots) ≡ true
  forth e =
      let (k, p, at, t) = any_at is_here kept e in
      let (j, at', has) = at_filter (λ q. has_parameter part q.name) ps k p at in
      let (h, n, at_n, u) = any_at (λ (n : Node Call). gather.is_parameter p.name n.call) part has in
      let (i, m, at_i, at_m, ren) = g.renamed h n at_n in
      at_any is_there (order_of nodes roots) h i at_i
      (ap (is_parameter name) (ap (option_map (λ (x : Node Call). x.call)) at_m)
      ∙ ap (gather.is_parameter name) (sym ren.same_call)
      ∙ ap (λ z. gather.is_parameter z n.call) (same_name-true name p.name t)
      ∙ u)

  back : list_any is_there (order_of nodes roots) ≡ true → list_any is_here kept ≡ true
  back e =
      let (k, i, at, t) = any_at is_there (order_of nodes roots) e in
      let (m, at_m, u) = there nodes name i t in
      let (q, is, s) = named name m.call u in
      let (n, m', at_n, at_m', ren) = part_node nodes roots part ends g k i at in
      let same : m' ≡ m = same_Some m' m (sym at_m' ∙ at_m) in
      let call : n.call ≡ calls.Parameter q = ren.same_call ∙ ap (λ (x : Node Call). x.call) same ∙ is in
      let has : has_parameter part q.name ≡ true = at_any (λ (x : Node Call). gather.is_parameter q.name x.call) part k n at_n (ap (gather.is_parameter q.name) call ∙ same_name-refl q.name) in
      let (j, at_j) = contains_at ps q (subst (IsListed vs ps) is (listed i m at_m)) in
      let (h, at_h) = filter_at (λ (x : Parameter). has_parameter part x.name) ps j q at_j has in
      at_any is_here kept h q at_h s

  pub reached_are : list_any is_here kept ≡ list_any is_there (order_of nodes roots)
  reached_are = both_ways (list_any is_here kept) (list_any is_there (order_of nodes roots)) forth back
