-- Behind the checks at a point the value of each node is kept.
use Rattle.std.proofs.Common.{◌≡◌, inl, inr, ℕ, suc, ◌<◌, true, List, [], ◌∷◌, length, Option, Some, IsSome, slice_get, refl, sym, subst}
use Rattle.std.specs.List.{range_with_len}
use Rattle.dcx_atom.specs.declared.array.Array.{Array}
use Rattle.dcx_point.specs.Pairs.{Pairs}
use Rattle.dcx_arena.specs.Gather.{has}
use Rattle.dcx_arena.specs.Unfold.{IsReached}
use Rattle.dcx_arena.proofs.Orders.{has_from, has_one, tail_has, head_or}
use Rattle.dcx_arena.proofs.Unfolds.{there_reached}
use Rattle.dcx_call.specs.Calls.{shape_of}
use Rattle.dcx_tree.specs.declared.constraint.Constraint.{Constraint}
use Rattle.dcx_tree.specs.declared.problem.Problem.{Problem}
use Rattle.dcx_tree.specs.Problems.{roots_of, sides_in}
use Rattle.dcx_tree.specs.Values.{array_at}
use Rattle.dcx_tree.proofs.AllReached.{range_at}
use Rattle.dcx_cert_values.specs.Tables.{AreKeptValues, AreKeptBelow}
use Rattle.dcx_cert_rays.specs.Steepness.{AreFixedValues}

-- it is one of two
of_left : (a b : ℕ) → has (a ∷ b ∷ []) a ≡ true
of_left a b = has_one a (b ∷ [])

of_right : (a b : ℕ) → has (a ∷ b ∷ []) b ≡ true
of_right a b = tail_has a b (b ∷ []) (has_one b [])

-- the side of some constraint
side_of : (cs : List Constraint) (r : ℕ) → has (sides_in cs) r ≡ true → (k : ℕ) × (c : Constraint) × (slice_get cs k ≡ Some c) × (has (c.left.0 ∷ c.right.0 ∷ []) r ≡ true)
side_of [] r h = absurd (cc)
side_of (c ∷ cs) r h = elim (head_or c.left.0 r (c.right.0 ∷ sides_in cs) h) [
  | inl e ↦ (0, c, refl, subst (λ z. has (c.left.0 ∷ c.right.0 ∷ []) z ≡ true) e (of_left c.left.0 c.right.0))
  | inr more ↦ elim (head_or c.right.0 r (sides_in cs) more) [
    | inl e ↦ (0, c, refl, subst (λ z. has (c.left.0 ∷ c.right.0 ∷ []) z ≡ true) e (of_right c.left.0 c.right.0))
    | inr rest ↦ let (k, d, at, of) = side_of cs r rest in (suc k, d, at, of)
  ]
]

module _ (p : Problem) (arrays : List (Option Array)) (objective : AreKeptBelow p (p.objective.0 ∷ []) arrays)
    (sides : (k : ℕ) (c : Constraint) → slice_get p.constraints k ≡ Some c → AreKeptBelow p (c.left.0 ∷ c.right.0 ∷ []) arrays) where
  reached_kept : (i : ℕ) → IsReached p.tree (roots_of p.objective p.constraints) i → IsSome (array_at arrays i)
  reached_kept i w = elim (head_or p.objective.0 w.root (sides_in p.constraints) w.is_root) [
    | inl e ↦ objective i (record { root = w.root; path = w.path; is_root = subst (λ z. has (p.objective.0 ∷ []) z ≡ true) e (has_one p.objective.0 []); leads = w.leads })
    | inr rest ↦ let (k, c, at, of) = side_of p.constraints w.root rest in sides k c at i (record { root = w.root; path = w.path; is_root = of; leads = w.leads })
  ]

  -- each node is reached by the objective or a constraint
  pub all_kept : (i : ℕ) → i < length p.tree → IsSome (array_at arrays i)
  all_kept i b =
      reached_kept i (there_reached shape_of p.tree p.nodes (roots_of p.objective p.constraints) i
      (subst (λ xs. has xs i ≡ true) (sym p.numbered) (has_from (range_with_len 0 (length p.tree)) i i (range_at (length p.tree) i b))))

  -- so are those without a variable below them
  pub fixed_kept : (s point : Pairs) → AreKeptValues p s point arrays → AreFixedValues p s arrays
  fixed_kept s point kept = record { point = point; values = kept.values; kept = λ i b t. all_kept i b }
