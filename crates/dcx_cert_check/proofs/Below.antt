-- Values below one constraint after the other are kept.
use Rattle.std.proofs.Common.{◌≡◌, ℕ, ◌+◌, ◌<◌, [], ◌∷◌, List, Option, Some, sym, ap, ◌∙◌, subst, arith}
use Rattle.std.specs.List.{slice_get}
use native.Mathlib.Decide.{dec_lt}
use Rattle.std.proofs.lemmas.Option.{same_Some}
use Rattle.dcx_atom.specs.declared.array.Array.{Array}
use Rattle.dcx_tree.specs.declared.constraint.Constraint.{Constraint}
use Rattle.dcx_tree.specs.declared.problem.Problem.{Problem}
use Rattle.dcx_cert_values.specs.Tables.{AreKeptBelow, StaysKept}
use Rattle.dcx_cert_values.proofs.Keeping.{stays_some}

-- what is kept below roots stays kept
pub below_stays : (p : Problem) (roots : List ℕ) (before after : List (Option Array)) → StaysKept before after → AreKeptBelow p roots before → AreKeptBelow p roots after
below_stays p roots before after stays kept i r = stays_some before after stays i (kept i r)

-- the values below one more constraint are
pub below_more : (p : Problem) (k : ℕ) (x : Constraint) → slice_get p.constraints k ≡ Some x → (before after : List (Option Array)) →
    ((j : ℕ) (c : Constraint) → j < k → slice_get p.constraints j ≡ Some c → AreKeptBelow p (c.left.0 ∷ c.right.0 ∷ []) before) → StaysKept before after
    → AreKeptBelow p (x.left.0 ∷ x.right.0 ∷ []) after
    → (j : ℕ) (c : Constraint) → j < k + 1 → slice_get p.constraints j ≡ Some c → AreKeptBelow p (c.left.0 ∷ c.right.0 ∷ []) after
below_more p k x at before after kept stays here j c lt is = by (dec_lt j k)
  where
    by : Dec (j < k) → AreKeptBelow p (c.left.0 ∷ c.right.0 ∷ []) after
    by (yes below) = below_stays p (c.left.0 ∷ c.right.0 ∷ []) before after stays (kept j c below is)
    by (no n) =
        let same : j ≡ k = omega (arith, lt, n) in
        subst (λ (z : Constraint). AreKeptBelow p (z.left.0 ∷ z.right.0 ∷ []) after) (same_Some x c (sym at ∙ ap (slice_get p.constraints) (sym same) ∙ is)) here
