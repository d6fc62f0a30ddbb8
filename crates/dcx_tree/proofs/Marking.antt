-- Marks of the nodes that roots reach.
use Rattle.std.proofs.Common.{◌≡◌, ℕ, ◌+◌, ◌≤◌, ◌⊎◌, inl, inr, Bool, true, false, List, [], ◌∷◌, ◌++◌, length, Option, Some, None, option_map, slice_get, refl, sym, subst, ◌↔◌, arith, replicate}
use Rattle.std.specs.Option.{unwrap_or}
use Rattle.std.proofs.lemmas.Bool.{cases_eq}
use Rattle.std.proofs.lemmas.Option.{slice_get_within}
use Rattle.dcx_arena.specs.Nodes.{AreNodes, args_at}
use Rattle.dcx_arena.specs.Gather.{has}
use Rattle.dcx_arena.specs.Unfold.{Leads, IsReached}
use Rattle.dcx_arena.proofs.Orders.{has_one, arg_below}
use Rattle.dcx_call.specs.Calls.{shape_of}
use Rattle.dcx_tree.specs.Nodes as tree
use Rattle.dcx_tree.specs.Values.{IsMarked}
use Rattle.dcx_tree.proofs.Marks.{AreClosed, all_marked, unmarked}

module _ (nodes : List tree.Node) (roots : List ℕ) where
  -- a path, and one argument more
  leads_more : (i : ℕ) (path : List ℕ) (j a : ℕ) → Leads nodes i path j → has (args_at nodes j) a ≡ true → Leads nodes i (path ++ a ∷ []) a
  leads_more i [] j a e h = (subst (λ z. has (args_at nodes z) a ≡ true) (sym e) h, refl)
  leads_more i (b ∷ path) j a l h = (l.0, leads_more b path j a l.1 h)

  pub reached_more : (i a : ℕ) → IsReached nodes roots i → has (args_at nodes i) a ≡ true → IsReached nodes roots a
  reached_more i a r h = record { root = r.root; path = r.path ++ a ∷ []; is_root = r.is_root; leads = leads_more r.root r.path i a r.leads h }

  pub reached_root : (r : ℕ) → has roots r ≡ true → IsReached nodes roots r
  reached_root r h = record { root = r; path = []; is_root = h; leads = refl }

  no_args : (o : Option tree.Node) (i a : ℕ) → slice_get nodes i ≡ o → length nodes ≤ i → has (unwrap_or (option_map (λ n. n.args) o) []) a ≡ true → ⊥
  no_args None i a e past h = cc
  no_args (Some n) i a e past h = let low = slice_get_within nodes i n e in omega (arith, low, past)

  -- marks of nodes that the roots reach, where all arguments of marked nodes from n on are marked
  pub record IsMarking (n : ℕ) (marks : List Bool) : Type 0 where
    pub roots_marked : (r : ℕ) → has roots r ≡ true → IsMarked marks r
    pub sound : (j : ℕ) → IsMarked marks j → IsReached nodes roots j
    pub closed : AreClosed nodes marks n

  pub marking_none : (size : ℕ) (marks : List Bool) → size ≡ length nodes → ((j : ℕ) → IsMarked marks j ↔ (IsMarked (replicate size false) j ⊎ (has roots j ≡ true))) → IsMarking size marks
  marking_none size marks e more = record {
    roots_marked = λ r h. (more r).1 (inr h);
    sound = λ j m. elim ((more j).0 m) [ inl was ↦ absurd (unmarked size j was) | inr h ↦ reached_root j h ];
    closed = λ i a le m h. absurd (no_args (slice_get nodes i) i a refl (omega (arith, e, le)) h);
  }

  pub marking_more : AreNodes shape_of nodes → (i n : ℕ) (marks now : List Bool) → n ≡ i + 1 → IsMarking n marks →
      ((j : ℕ) → IsMarked now j ↔ (IsMarked marks j ⊎ (IsMarked marks i × (has (args_at nodes i) j ≡ true)))) → IsMarking i now
  marking_more are i n marks now e h more = record {
    roots_marked = λ r k. (more r).1 (inl (h.roots_marked r k));
    sound = λ j k. elim ((more j).0 k) [ inl was ↦ h.sound j was | inr q ↦ reached_more i j (h.sound i q.0) q.1 ];
    closed = λ j a le k of. elim ((more j).0 k) [
      | inl was ↦ elim (cases_eq j i) [
        | inl z ↦ (more a).1 (inr (subst (IsMarked marks) z was, subst (λ y. has (args_at nodes y) a ≡ true) z of))
        | inr other ↦ (more a).1 (inl (h.closed j a (omega (arith, le, e, other)) was of))
      ]
      | inr q ↦ let less = arg_below shape_of nodes are i j q.1 in absurd (omega (arith, less, le))
    ];
  }

  pub marking_all : (marks : List Bool) → IsMarking 0 marks → (i : ℕ) → IsMarked marks i ↔ IsReached nodes roots i
  marking_all marks h i = (
    h.sound i,
    λ r. all_marked nodes marks r.root h.closed (h.roots_marked r.root r.is_root) i (record { root = r.root; path = r.path; is_root = has_one r.root []; leads = r.leads }),
  )
