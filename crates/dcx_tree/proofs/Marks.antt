-- The nodes that a node reaches, and marks for them.
use Rattle.std.proofs.Common.{◌≡◌, ℕ, zero, suc, ◌+◌, ◌<◌, ◌≤◌, ◌⊎◌, inl, inr, Bool, true, false, List, [], ◌∷◌, ◌++◌, length, get_or, take, refl, sym, subst, ◌∙◌, ◌↔◌, arith, replicate}
use Rattle.std.proofs.Math.ListN.{set}
use Rattle.std.proofs.lemmas.Bool.{cases_eq}
use Rattle.std.proofs.lemmas.List.{get_or-set_same, get_or-set_other, take_more, get_or_default}
use Rattle.dcx_arena.specs.Nodes.{Node, args_at}
use Rattle.dcx_arena.specs.Gather.{has}
use Rattle.dcx_arena.specs.Unfold.{Leads, IsReached}
use Rattle.dcx_arena.proofs.Orders.{has_one, one_is, has_left, has_right, has_split, not_true}
use Rattle.dcx_tree.specs.Values.{IsMarked}

module _ {C : Type 0} (nodes : List (Node C)) where
  pub reached_self : (i : ℕ) → IsReached nodes (i ∷ []) i
  reached_self i = record { root = i; path = []; is_root = has_one i []; leads = refl }

  -- the path from the only root
  path_to : (i j : ℕ) → IsReached nodes (i ∷ []) j → (path : List ℕ) × Leads nodes i path j
  path_to i j r = (r.path, subst (λ z. Leads nodes z r.path j) (sym (one_is i r.root r.is_root)) r.leads)

  reached_by_path : (i : ℕ) (path : List ℕ) (j : ℕ) → Leads nodes i path j → IsReached nodes (i ∷ []) j
  reached_by_path i path j l = record { root = i; path = path; is_root = has_one i []; leads = l }

  joined : (i : ℕ) (path more : List ℕ) (j k : ℕ) → Leads nodes i path j → Leads nodes j more k → Leads nodes i (path ++ more) k
  joined i [] more j k e m = subst (λ z. Leads nodes z more k) (sym e) m
  joined i (a ∷ path) more j k l m = (l.0, joined a path more j k l.1 m)

  pub reached_through : (i j k : ℕ) → IsReached nodes (i ∷ []) j → IsReached nodes (j ∷ []) k → IsReached nodes (i ∷ []) k
  reached_through i j k r s =
      let (path, l) = path_to i j r in
      let (more, m) = path_to j k s in
      reached_by_path i (path ++ more) k (joined i path more j k l m)

  pub reached_arg : (i a : ℕ) → has (args_at nodes i) a ≡ true → IsReached nodes (i ∷ []) a
  reached_arg i a h = reached_by_path i (a ∷ []) a (h, refl)

  -- what a node reaches is the node, or what one of its arguments reaches
  pub reached_cases : (i j : ℕ) → IsReached nodes (i ∷ []) j → (i ≡ j) ⊎ ((a : ℕ) × (has (args_at nodes i) a ≡ true) × IsReached nodes (a ∷ []) j)
  reached_cases i j r = let (path, l) = path_to i j r in by path l
    where
      by : (path : List ℕ) → Leads nodes i path j → (i ≡ j) ⊎ ((a : ℕ) × (has (args_at nodes i) a ≡ true) × IsReached nodes (a ∷ []) j)
      by [] e = inl e
      by (a ∷ path) l = inr (a, l.0, reached_by_path a path j l.1)

  -- ---- marks
  -- the arguments of each marked node from position n on are marked
  abbrev pub AreClosed : List Bool → ℕ → Type 0
  AreClosed marks n = (i a : ℕ) → n ≤ i → IsMarked marks i → has (args_at nodes i) a ≡ true → IsMarked marks a

  along : (marks : List Bool) → AreClosed marks 0 → (i : ℕ) (path : List ℕ) (j : ℕ) → Leads nodes i path j → IsMarked marks i → IsMarked marks j
  along marks closed i [] j e m = subst (IsMarked marks) e m
  along marks closed i (a ∷ path) j l m = along marks closed a path j l.1 (closed i a (omega arith) m l.0)

  -- where all arguments of marked nodes are marked, all that is reached is
  pub all_marked : (marks : List Bool) (i : ℕ) → AreClosed marks 0 → IsMarked marks i → (j : ℕ) → IsReached nodes (i ∷ []) j → IsMarked marks j
  all_marked marks i closed m j r = let (path, l) = path_to i j r in along marks closed i path j l m

-- one more mark
pub mark_one : (marks : List Bool) (a : ℕ) → a < length marks → (i : ℕ) → IsMarked (set marks a true) i ↔ (IsMarked marks i ⊎ (a ≡ i))
mark_one marks a lt i = (from, to)
  where
    from : IsMarked (set marks a true) i → IsMarked marks i ⊎ (a ≡ i)
    from m = elim (cases_eq i a) [
      | inl e ↦ inr (sym e)
      | inr other ↦ inl (sym (get_or-set_other marks a i true false other) ∙ m)
    ]

    to : IsMarked marks i ⊎ (a ≡ i) → IsMarked (set marks a true) i
    to = elim [
      | inl m ↦ elim (cases_eq i a) [
        | inl e ↦ subst (λ z. IsMarked (set marks a true) z) (sym e) (get_or-set_same marks a true false lt)
        | inr other ↦ get_or-set_other marks a i true false other ∙ m
      ]
      | inr e ↦ subst (λ z. IsMarked (set marks a true) z) e (get_or-set_same marks a true false lt)
    ]

-- the marks of one more of the ids
pub marks_more : (ids : List ℕ) (k : ℕ) (old now : List Bool) → k < length ids → get_or ids k 0 < length now → ((i : ℕ) → IsMarked now i ↔ (IsMarked old i ⊎ (has (take k ids) i ≡ true))) →
    (i : ℕ) → IsMarked (set now (get_or ids k 0) true) i ↔ (IsMarked old i ⊎ (has (take (k + 1) ids) i ≡ true))
marks_more ids k old now lt within so_far i = (from, to)
  where
    more : take (k + 1) ids ≡ take k ids ++ get_or ids k 0 ∷ []
    more = take_more ids k 0 lt

    from : IsMarked (set now (get_or ids k 0) true) i → IsMarked old i ⊎ (has (take (k + 1) ids) i ≡ true)
    from m = elim ((mark_one now (get_or ids k 0) within i).0 m) [
      | inl was ↦ elim ((so_far i).0 was) [
        | inl o ↦ inl o
        | inr t ↦ inr (subst (λ xs. has xs i ≡ true) (sym more) (has_left (take k ids) (get_or ids k 0 ∷ []) i t))
      ]
      | inr e ↦ inr (subst (λ xs. has xs i ≡ true) (sym more) (has_right (take k ids) (get_or ids k 0 ∷ []) i (subst (λ z. has (get_or ids k 0 ∷ []) z ≡ true) e (has_one (get_or ids k 0) []))))
    ]

    to : IsMarked old i ⊎ (has (take (k + 1) ids) i ≡ true) → IsMarked (set now (get_or ids k 0) true) i
    to = elim [
      | inl o ↦ (mark_one now (get_or ids k 0) within i).1 (inl ((so_far i).1 (inl o)))
      | inr t ↦ elim (has_split (take k ids) (get_or ids k 0 ∷ []) i (subst (λ xs. has xs i ≡ true) more t)) [
        | inl p ↦ (mark_one now (get_or ids k 0) within i).1 (inl ((so_far i).1 (inr p)))
        | inr q ↦ (mark_one now (get_or ids k 0) within i).1 (inr (one_is (get_or ids k 0) i q))
      ]
    ]

pub unmarked : (n i : ℕ) → IsMarked (replicate n false) i → ⊥
unmarked zero i m = cc
unmarked (suc n) zero m = cc
unmarked (suc n) (suc i) m = unmarked n i m

-- ---- what is read of marks
pub mark_at : (marks : List Bool) (i : ℕ) (b : Bool) → i < length marks → b ≡ get_or marks i b → get_or marks i false ≡ b
mark_at marks i b lt is = sym (is ∙ get_or_default marks i b false lt)

-- where a node isn't marked, nothing comes to the marks
pub over : (marks : List Bool) (i : ℕ) (P : ℕ → Type 0) → get_or marks i false ≡ false → (j : ℕ) → IsMarked marks j ↔ (IsMarked marks j ⊎ (IsMarked marks i × P j))
over marks i P free j = ((λ m. inl m), elim [ inl m ↦ m | inr p ↦ absurd (not_true (get_or marks i false) free p.0) ])

-- and where it is, its arguments do
pub through : (marks now : List Bool) (i : ℕ) (P : ℕ → Type 0) → IsMarked marks i → ((j : ℕ) → IsMarked now j ↔ (IsMarked marks j ⊎ P j)) → (j : ℕ)
    → IsMarked now j ↔ (IsMarked marks j ⊎ (IsMarked marks i × P j))
through marks now i P m more j = (
  (λ k. elim ((more j).0 k) [ inl was ↦ inl was | inr p ↦ inr (m, p) ]),
  elim [ inl was ↦ (more j).1 (inl was) | inr p ↦ (more j).1 (inr p.1) ],
)
