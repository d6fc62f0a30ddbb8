-- The entries of constraints: how many there are, and what holds of their sides.
use Rattle.std.proofs.Common.{◌≡◌, ℕ, zero, suc, ◌+◌, ◌<◌, ◌≤◌, arith, List, [], ◌∷◌, ◌++◌, length, drop, get_or, refl, sym, ap, ap₂, ◌∙◌, append_assoc, length-append}
use Rattle.std.specs.Prelude.{sum_by}
use Rattle.std.specs.List.{All}
use Rattle.std.proofs.lemmas.List.{append-nil, drop_all}
use Rattle.std.proofs.lemmas.List.Sums.{sum_by-cons}
use Rattle.std.proofs.lemmas.List.Elements.{All-nil, All-head, All-tail, All-append, All-push}
use Rattle.dcx_atom.specs.Arrays.{list_below}
use Rattle.dcx_atom.proofs.BoundRows.{length-list_below}
use Rattle.dcx_tree.specs.declared.constraint.Constraint.{Constraint}
use Rattle.dcx_tree.specs.Problems.{sides_in}
use Rattle.dcx_linear.proofs.Formed.{drop_at}
use Rattle.dcx_unknowns.specs.Layout.{constraint_rows}
use Rattle.dcx_postsolve.specs.Duals.{row_kind}
use Rattle.dcx_graph.specs.declared.constraint.ConstraintEntry.{ConstraintEntry}
use Rattle.dcx_graph.specs.Program.{entries_in, entries_from}

-- there is one for each row
pub entries-length : (k : ℕ) (cs : List Constraint) → length (entries_from k cs) ≡ sum_by constraint_rows cs
entries-length k [] = refl
entries-length k (c ∷ cs) =
    length-append (entries_in k c) (entries_from (suc k) cs)
    ∙ ap₂ ◌+◌ (length-list_below (constraint_rows c) (λ e. record { constraint = k; entry = e; kind = row_kind c.kind; left = c.left; right = c.right })) (entries-length (suc k) cs)
    ∙ sym (sum_by-cons constraint_rows c cs)

-- ---- one constraint after the other
-- with its own entries, those so far and then those of the constraints that are left are all
pub entries_next : (cs : List Constraint) (i : ℕ) (c : Constraint) (so_far more all : List ConstraintEntry) → i < length cs → c ≡ get_or cs i c → so_far ++ entries_from i (drop i cs) ≡ all →
    more ≡ so_far ++ entries_in i c → more ++ entries_from (i + 1) (drop (i + 1) cs) ≡ all
entries_next cs i c so_far more all lt at was added =
    let next : suc i ≡ i + 1 = omega arith in
    let front = ap (entries_from i) (drop_at cs i c lt at) ∙ ap (λ k. entries_in i c ++ entries_from k (drop (i + 1) cs)) next in
    ap (λ xs. xs ++ entries_from (i + 1) (drop (i + 1) cs)) added
    ∙ append_assoc so_far (entries_in i c) (entries_from (i + 1) (drop (i + 1) cs))
    ∙ ap (λ xs. so_far ++ xs) (sym front)
    ∙ was

-- where no constraint is left
pub entries_last : (cs : List Constraint) (i : ℕ) (so_far all : List ConstraintEntry) → length cs ≤ i → so_far ++ entries_from i (drop i cs) ≡ all → so_far ≡ all
entries_last cs i so_far all none was = sym (append-nil so_far) ∙ ap (λ l. so_far ++ entries_from i l) (sym (drop_all i cs none)) ∙ was

-- ---- what holds of the sides of constraints, holds of those of their entries
module _ (P : ℕ → Type 0) where
  pub record HasBoth (x : ConstraintEntry) : Type 0 where
    pub left : P x.left.0
    pub right : P x.right.0

  below : (n : ℕ) (f : ℕ → ConstraintEntry) → ((e : ℕ) → HasBoth (f e)) → All HasBoth (list_below n f)
  below zero f h = All-nil HasBoth
  below (suc n) f h = All-push HasBoth (list_below n f) (f n) (below n f h) (h n)

  pub entries_have : (k : ℕ) (cs : List Constraint) → All P (sides_in cs) → All HasBoth (entries_from k cs)
  entries_have k [] h = All-nil HasBoth
  entries_have k (c ∷ cs) h =
      let first : P c.left.0 = All-head P c.left.0 (c.right.0 ∷ sides_in cs) h in
      let rest : All P (c.right.0 ∷ sides_in cs) = All-tail P c.left.0 (c.right.0 ∷ sides_in cs) h in
      let second : P c.right.0 = All-head P c.right.0 (sides_in cs) rest in
      All-append HasBoth (entries_in k c) (entries_from (suc k) cs)
      (below (constraint_rows c) (λ e. record { constraint = k; entry = e; kind = row_kind c.kind; left = c.left; right = c.right }) (λ e. record { left = first; right = second }))
      (entries_have (suc k) cs (All-tail P c.right.0 (sides_in cs) rest))
