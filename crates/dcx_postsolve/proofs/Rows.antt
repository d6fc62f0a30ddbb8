-- The rows of constraints and those beside them as rows of a linear program: what holds of each, and their sum.
use Rattle.std.proofs.Common.{◌≡◌, ℕ, zero, suc, ◌+◌, ◌<◌, arith, List, [], ◌∷◌, ◌++◌, length, map, Some, slice_get, refl, sym, ap, ap₂, ◌∙◌, subst, ⊎_elim, pos, add-zero}
use Rattle.std.proofs.lemmas.Option.{none-some, same_Some}
use Rattle.dcx_math.specs.Rational.{ℚ, whole, ◌+ℚ◌, ◌*ℚ◌, ◌≤ℚ◌}
use Rattle.dcx_math.specs.Sums.{rat_sum_below}
use Rattle.dcx_math.proofs.Orders.{+ℚ_idl, +ℚ_idr, +ℚ_assoc}
use Rattle.dcx_atom.specs.Arrays.{list_below}
use Rattle.dcx_atom.proofs.BoundRows.{below_or_last, length-list_below}
use Rattle.dcx_convex.specs.Nodes.{Numbers}
use Rattle.dcx_convex.specs.Problems.{Relation, AtMost, Equal, Constraint, gap_of, Holds}
use Rattle.dcx_convex.specs.Answers.{MayMultiply, weighed}
use Rattle.dcx_convex.specs.Reductions.{Unknowns, rows_weighed}
use Rattle.dcx_linear.specs.declared.row.RowKind.TheVariants as kinds
use Rattle.dcx_linear.specs.Rows.{RowAt, StandsTo, combined_from}
use Rattle.dcx_postsolve.specs.Programs.{kind_of, gap_row, gap_rows, bound_row, multipliers_from}

-- ---- what holds of each row, by its number
module _ (P : ℕ → RowAt → Type 0) where
  -- where the first has the number i
  abbrev pub AllFrom : ℕ → List RowAt → Type 0
  AllFrom i rows = (k : ℕ) (r : RowAt) → slice_get rows k ≡ Some r → P (i + k) r

  pub all_left : (i : ℕ) (xs ys : List RowAt) → AllFrom i (xs ++ ys) → AllFrom i xs
  all_left i [] ys h k r e = absurd (none-some r e)
  all_left i (x ∷ xs) ys h zero r e = h zero r e
  all_left i (x ∷ xs) ys h (suc k) r e =
      let q : suc i + k ≡ i + suc k = omega arith in
      subst (λ n. P n r) q (all_left (suc i) xs ys (λ l s d. let w : i + suc l ≡ suc i + l = omega arith in subst (λ n. P n s) w (h (suc l) s d)) k r e)

  pub all_right : (i : ℕ) (xs ys : List RowAt) → AllFrom i (xs ++ ys) → AllFrom (i + length xs) ys
  all_right i [] ys h k r e = subst (λ n. P (n + k) r) (sym (add-zero i)) (h k r e)
  all_right i (x ∷ xs) ys h k r e =
      let q : (suc i + length xs) + k ≡ (i + suc (length xs)) + k = omega arith in
      subst (λ n. P n r) q (all_right (suc i) xs ys (λ l s d. let w : i + suc l ≡ suc i + l = omega arith in subst (λ n. P n s) w (h (suc l) s d)) k r e)

  pub all_below : (i n : ℕ) (f : ℕ → RowAt) → AllFrom i (list_below n f) → (j : ℕ) → j < n → P (i + j) (f j)
  all_below i zero f h j b = absurd (omega arith)
  all_below i (suc n) f h j b =
      ⊎_elim (λ l. all_below i n f (all_left i (list_below n f) (f n ∷ []) h) j l)
      (λ e. subst (λ k. P (i + k) (f k)) (sym e) (subst (λ k. P k (f n)) (add-zero (i + length (list_below n f)) ∙ ap (λ k. i + k) (length-list_below n f))
      (all_right i (list_below n f) (f n ∷ []) h 0 (f n) refl)))
      (below_or_last j n b)

-- ---- of the rows of constraints
holds_as : (relation : Relation) (gap : ℚ) → StandsTo (kind_of relation) gap → Holds relation gap
holds_as AtMost gap h = h
holds_as Equal gap h = h

multiplies_as : (relation : Relation) (m : ℚ) → (kind_of relation ≡ kinds.AtMost → whole (pos 0) ≤ℚ m) → MayMultiply relation m
multiplies_as AtMost m h = h refl
multiplies_as Equal m h = tt

-- the multipliers of inequalities are at least 0
abbrev pub IsSigned : (ℕ → ℚ) → ℕ → RowAt → Type 0
IsSigned m n r = r.kind ≡ kinds.AtMost → whole (pos 0) ≤ℚ m n

module _ (forms : Unknowns → ℕ → Numbers) where
  pub gaps_hold : (u : Unknowns) (i : ℕ) (cs : List Constraint) → AllFrom (λ n r. StandsTo r.kind (r.number u)) i (gap_rows forms cs) →
      (k : ℕ) (c : Constraint) → slice_get cs k ≡ Some c → (j : ℕ) → j < c.size → Holds c.relation (gap_of (forms u) c j)
  gaps_hold u i [] h k c e j b = absurd (none-some c e)
  gaps_hold u i (d ∷ cs) h zero c e j b =
      subst (λ (y : Constraint). j < y.size → Holds y.relation (gap_of (forms u) y j)) (same_Some d c e)
      (λ l. holds_as d.relation (gap_of (forms u) d j) (all_below (λ n r. StandsTo r.kind (r.number u)) i d.size (gap_row forms d)
      (all_left (λ n r. StandsTo r.kind (r.number u)) i (list_below d.size (gap_row forms d)) (gap_rows forms cs) h) j l)) b
  gaps_hold u i (d ∷ cs) h (suc k) c e j b =
      gaps_hold u (i + length (list_below d.size (gap_row forms d))) cs (all_right (λ n r. StandsTo r.kind (r.number u)) i (list_below d.size (gap_row forms d)) (gap_rows forms cs) h) k c e j b

  pub gaps_signed : (m : ℕ → ℚ) (i : ℕ) (cs : List Constraint) → AllFrom (IsSigned m) i (gap_rows forms cs) →
      (k : ℕ) (c : Constraint) → slice_get cs k ≡ Some c → (j : ℕ) → j < c.size → MayMultiply c.relation (multipliers_from i cs m k j)
  gaps_signed m i [] h k c e j b = absurd (none-some c e)
  gaps_signed m i (d ∷ cs) h zero c e j b =
      subst (λ (y : Constraint). j < y.size → MayMultiply y.relation (m (i + j))) (same_Some d c e)
      (λ l. multiplies_as d.relation (m (i + j)) (all_below (IsSigned m) i d.size (gap_row forms d) (all_left (IsSigned m) i (list_below d.size (gap_row forms d)) (gap_rows forms cs) h) j l)) b
  gaps_signed m i (d ∷ cs) h (suc k) c e j b =
      gaps_signed m (i + d.size) cs
      (subst (λ n. AllFrom (IsSigned m) (i + n) (gap_rows forms cs)) (length-list_below d.size (gap_row forms d))
      (all_right (IsSigned m) i (list_below d.size (gap_row forms d)) (gap_rows forms cs) h)) k c e j b

-- ---- sums of multipliers times rows
module _ (m : ℕ → ℚ) (u : Unknowns) where
  pub combined_append : (i : ℕ) (xs ys : List RowAt) → combined_from m i (xs ++ ys) u ≡ combined_from m i xs u +ℚ combined_from m (i + length xs) ys u
  combined_append i [] ys = ap (λ n. combined_from m n ys u) (sym (add-zero i)) ∙ sym (+ℚ_idl (combined_from m (i + 0) ys u))
  combined_append i (x ∷ xs) ys =
      ap (λ q. m i *ℚ x.number u +ℚ q) (combined_append (suc i) xs ys ∙ ap (λ n. combined_from m (suc i) xs u +ℚ combined_from m n ys u) (omega arith))
      ∙ sym (+ℚ_assoc (m i *ℚ x.number u) (combined_from m (suc i) xs u) (combined_from m (i + suc (length xs)) ys u))

  pub combined_below : (i n : ℕ) (f : ℕ → RowAt) → combined_from m i (list_below n f) u ≡ rat_sum_below n (λ j. m (i + j) *ℚ (f j).number u)
  combined_below i zero f = refl
  combined_below i (suc n) f =
      combined_append i (list_below n f) (f n ∷ [])
      ∙ ap₂ ◌+ℚ◌ (combined_below i n f) (+ℚ_idr (m (i + length (list_below n f)) *ℚ (f n).number u) ∙ ap (λ k. m (i + k) *ℚ (f n).number u) (length-list_below n f))

  pub combined_gaps : (forms : Unknowns → ℕ → Numbers) (i : ℕ) (cs : List Constraint) → combined_from m i (gap_rows forms cs) u ≡ weighed (gap_of (forms u)) cs (multipliers_from i cs m)
  combined_gaps forms i [] = refl
  combined_gaps forms i (c ∷ cs) =
      combined_append i (list_below c.size (gap_row forms c)) (gap_rows forms cs)
      ∙ ap₂ ◌+ℚ◌ (combined_below i c.size (gap_row forms c))
      (ap (λ n. combined_from m (i + n) (gap_rows forms cs) u) (length-list_below c.size (gap_row forms c)) ∙ combined_gaps forms (i + c.size) cs)

  pub combined_bounds : (i : ℕ) (rows : List (Unknowns → ℚ)) (w : ℕ → ℚ) → ((k : ℕ) → k < length rows → w k ≡ m (i + k)) → combined_from m i (map bound_row rows) u ≡ rows_weighed rows w u
  combined_bounds i [] w h = refl
  combined_bounds i (row ∷ rows) w h =
      ap₂ ◌+ℚ◌ (ap (λ q. q *ℚ row u) (ap m (sym (add-zero i)) ∙ sym (h 0 (omega arith))))
      (combined_bounds (suc i) rows (λ k. w (suc k)) (λ k b. h (suc k) (omega arith) ∙ ap m (omega arith)))
