-- A right answer of the linear program is right for the reduced program: the law's proof.
use Rattle.std.proofs.Common.{◌≡◌, ℕ, zero, ◌+◌, ◌<◌, Bool, if◌then◌else◌, length, map, Some, option_map, slice_get, refl, sym, ap, ap₂, ◌∙◌, subst, pos, zero-add}
use Rattle.std.specs.Prelude.{nat_lt}
use Rattle.std.proofs.lemmas.Bool.{lt-ltb}
use Rattle.std.proofs.lemmas.Option.{slice_get-map}
use Rattle.dcx_math.specs.Rational.{ℚ, whole, ◌+ℚ◌, ◌-ℚ◌, ◌*ℚ◌, ◌≤ℚ◌}
use Rattle.dcx_math.specs.Sums.{IsNonnegative}
use Rattle.dcx_math.proofs.Orders.{≤ℚ_refl}
use Rattle.dcx_convex.specs.Problems.{Problem}
use Rattle.dcx_convex.specs.Reductions.{Unknowns, Reduced, Solves, further, program_penalty, AreRowMultipliers, IsRightOptimal, IsRightInfeasible, IsRightUnbounded}
use Rattle.dcx_convex.proofs.Signs.{at_test}
use Rattle.dcx_linear.specs.Rows.{RowAt, LinearProgram, IsSolution, StandsTo, HaveSigns, combined, combined_from, IsOptimal, IsInfeasible, IsUnbounded}
use Rattle.dcx_postsolve.specs.Programs.{gap_rows, bound_row, IsProgramOf, multipliers_of}
use Rattle.dcx_postsolve.specs.CarryingLaws.{ProgramsCarryOver}
use Rattle.dcx_postsolve.proofs.Rows.{AllFrom, all_left, all_right, IsSigned, gaps_hold, gaps_signed, combined_append, combined_gaps, combined_bounds}
use Rattle.dcx_math.proofs.Lists.{element_at}

module _ (l : LinearProgram) (p : Problem) (r : Reduced) (is : IsProgramOf l p r) where
  -- what holds of each row of the program holds of those of constraints, and of those beside them
  of_gaps : (P : ℕ → RowAt → Type 0) → ((i : ℕ) (row : RowAt) → slice_get l.rows i ≡ Some row → P i row) → AllFrom P 0 (gap_rows r.forms p.constraints)
  of_gaps P h =
      all_left P 0 (gap_rows r.forms p.constraints) (map bound_row r.rows)
      (λ k row e. subst (λ n. P n row) (sym (zero-add k)) (h k row (ap (λ rows. slice_get rows k) is.rows ∙ e)))

  of_bounds : (P : ℕ → RowAt → Type 0) → ((i : ℕ) (row : RowAt) → slice_get l.rows i ≡ Some row → P i row) → AllFrom P (length (gap_rows r.forms p.constraints)) (map bound_row r.rows)
  of_bounds P h =
      subst (λ n. AllFrom P n (map bound_row r.rows)) (zero-add (length (gap_rows r.forms p.constraints)))
      (all_right P 0 (gap_rows r.forms p.constraints) (map bound_row r.rows)
      (λ k row e. subst (λ n. P n row) (sym (zero-add k)) (h k row (ap (λ rows. slice_get rows k) is.rows ∙ e))))

  -- a solution of the program solves the reduced program
  solves : (u : Unknowns) → IsSolution l u → Solves p r u
  solves u h = record {
    assignment = (is.assignments u).0 h.kinds;
    rows = λ k row e. of_bounds (λ n x. StandsTo x.kind (x.number u)) h.rows k (bound_row row) (slice_get-map bound_row r.rows k ∙ ap (option_map bound_row) e);
    holds = λ k c at j b. gaps_hold r.forms u 0 p.constraints (of_gaps (λ n x. StandsTo x.kind (x.number u)) h.rows) k c at j b;
  }

  -- ---- multipliers
  -- what a row beside the constraints is weighed with: its multiplier, and 0 where there is no such row
  abbrev weight : (ℕ → ℚ) → ℕ → ℚ
  weight m k = if nat_lt k (length r.rows) then m (length (gap_rows r.forms p.constraints) + k) else whole (pos 0)

  weight_is : (m : ℕ → ℚ) (k : ℕ) → k < length r.rows → weight m k ≡ m (length (gap_rows r.forms p.constraints) + k)
  weight_is m k b = ap (λ (t : Bool). if t then m (length (gap_rows r.forms p.constraints) + k) else whole (pos 0)) (lt-ltb k (length r.rows) b)

  -- at least 0
  row_there : (k : ℕ) → k < length r.rows → (row : Unknowns → ℚ) × (slice_get r.rows k ≡ Some row)
  row_there k b = element_at r.rows k b

  weights_signed : (m : ℕ → ℚ) → HaveSigns l m → (k : ℕ) → IsNonnegative (weight m k)
  weights_signed m h k =
      at_test (length r.rows) k (λ t. IsNonnegative (if t then m (length (gap_rows r.forms p.constraints) + k) else whole (pos 0)))
      (λ b. let (row, e) = row_there k b in of_bounds (IsSigned m) h k (bound_row row) (slice_get-map bound_row r.rows k ∙ ap (option_map bound_row) e) refl)
      (≤ℚ_refl (whole (pos 0)))

  are_multipliers : (m : ℕ → ℚ) → HaveSigns l m → AreRowMultipliers p (multipliers_of p m) (weight m)
  are_multipliers m h = record {
    constraints = λ k c at j b. gaps_signed r.forms m 0 p.constraints (of_gaps (IsSigned m) h) k c at j b;
    rows = weights_signed m h;
  }

  -- the rows times their multipliers are the constraints times theirs and the rows beside them times their weights
  combined_is : (m : ℕ → ℚ) (u : Unknowns) → combined l m u ≡ program_penalty p r (multipliers_of p m) (weight m) u
  combined_is m u =
      ap (λ rows. combined_from m 0 rows u) is.rows
      ∙ combined_append m u 0 (gap_rows r.forms p.constraints) (map bound_row r.rows)
      ∙ ap₂ ◌+ℚ◌ (combined_gaps m u r.forms 0 p.constraints)
      (ap (λ n. combined_from m n (map bound_row r.rows) u) (zero-add (length (gap_rows r.forms p.constraints)))
      ∙ combined_bounds m u (length (gap_rows r.forms p.constraints)) r.rows (weight m) (weight_is m))

  -- ---- the three kinds of answers
  optimal : (v : ℚ) (x : Unknowns) (m : ℕ → ℚ) → IsOptimal l v x m → IsRightOptimal p r v x (multipliers_of p m) (weight m)
  optimal v x m h = record {
    solves = solves x h.solution;
    value = sym (is.objective x) ∙ h.attained;
    multipliers = are_multipliers m h.signs;
    bound = λ t a. subst (λ q. v ≤ℚ q) (ap₂ ◌+ℚ◌ (is.objective t) (combined_is m t)) (h.bound t ((is.assignments t).1 a));
  }

  infeasible : (gap : ℚ) (m : ℕ → ℚ) → IsInfeasible l gap m → IsRightInfeasible p r (multipliers_of p m) (weight m) gap
  infeasible gap m h = record {
    positive = h.positive;
    multipliers = are_multipliers m h.signs;
    bound = λ t a. subst (λ q. gap ≤ℚ q) (combined_is m t) (h.bound t ((is.assignments t).1 a));
  }

  unbounded : (x d : Unknowns) (bound slope : ℚ) → IsUnbounded l x d bound slope → IsRightUnbounded p r x d bound slope
  unbounded x d bound slope h = record {
    positive = h.falls;
    solves = λ k b. solves (further x k d) (h.solution k b);
    falls = λ k b. subst (λ q. q ≤ℚ (bound -ℚ k *ℚ slope)) (is.objective (further x k d)) (h.objective k b);
  }

pub answers_carry_over : ProgramsCarryOver
answers_carry_over l p r is = record {
  optimal = λ v x m h. (weight l p r is m, optimal l p r is v x m h);
  infeasible = λ gap m h. (weight l p r is m, infeasible l p r is gap m h);
  unbounded = unbounded l p r is;
}
