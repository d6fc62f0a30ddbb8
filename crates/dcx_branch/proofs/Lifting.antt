-- What an answer of a node's linear program shows of the problem: rows beside those of a reduced program.
use Rattle.std.proofs.Common.{◌≡◌, ℕ, suc, ◌+◌, arith, List, [], ◌∷◌, ◌++◌, length, map, Some, slice_get, refl, sym, ap, ap₂, ◌∙◌, subst, pos, zero-add, add-zero, append_assoc, IsTrue}
use Rattle.std.proofs.lemmas.List.{map-append}
use Rattle.dcx_math.specs.Rational.{ℚ, whole, ◌+ℚ◌, ◌≤ℚ◌}
use Rattle.dcx_math.proofs.Ring.{reads}
use Rattle.dcx_math.proofs.Orders.{≤ℚ_refl, ≤ℚ_trans, ≤ℚ-from_≡, linear, +ℚ-≤ℚ, +ℚ-nonpositive, +ℚ_idr}
use Rattle.dcx_math.proofs.Products.{*ℚ-nonpositive}
use Rattle.dcx_convex.specs.Nodes.{Point, Setting}
use Rattle.dcx_convex.specs.Rules.{Rules}
use Rattle.dcx_convex.specs.Problems as convex
use Rattle.dcx_convex.specs.Problems.{accepted_by, objective_of}
use Rattle.dcx_convex.specs.Answers as answers
use Rattle.dcx_convex.specs.Answers.{Multipliers, penalty_of}
use Rattle.dcx_convex.specs.Reductions.{Unknowns, Reduced, IsLifted, Solves, IsWellFormed}
use Rattle.dcx_convex.proofs.MapBack.{Projects, projects, lifted_penalty, lifted_objective}
use Rattle.dcx_tree.specs.declared.problem.Problem.{Problem}
use Rattle.dcx_tree.specs.Meaning.{convex_problem, Fits, IsInDomain, objective_at, lagrangian}
use Rattle.dcx_tree.proofs.Lawful.{problem_lawful}
use Rattle.dcx_linear.specs.Rows.{RowAt, LinearProgram, HaveSigns, combined, combined_from, IsOptimal, IsInfeasible}
use Rattle.dcx_math.proofs.Lists.{in_left}
use Rattle.dcx_unknowns.proofs.Places.{in_right}
use Rattle.dcx_postsolve.specs.Programs.{gap_rows, bound_row, IsProgramOf, multipliers_of}
use Rattle.dcx_postsolve.proofs.Rows.{AllFrom, all_left, all_right, IsSigned, gaps_signed, combined_append, combined_gaps}
use Rattle.dcx_postsolve.proofs.CarryingLawsHold as program
use Rattle.dcx_graph.specs.AsLinear.{IsReductionAt}

-- ---- rows that are at most 0
-- multipliers of at least 0 times rows that are at most 0
bounds_nonpositive : (m : ℕ → ℚ) (u : Unknowns) (i : ℕ) (rows : List (Unknowns → ℚ)) → AllFrom (IsSigned m) i (map bound_row rows)
    → ((k : ℕ) (row : Unknowns → ℚ) → slice_get rows k ≡ Some row → row u ≤ℚ whole (pos 0))
    → combined_from m i (map bound_row rows) u ≤ℚ whole (pos 0)
bounds_nonpositive m u i [] h k = ≤ℚ_refl _
bounds_nonpositive m u i (row ∷ rows) h k =
    +ℚ-nonpositive (*ℚ-nonpositive (subst (λ n. whole (pos 0) ≤ℚ m n) (add-zero i) (h 0 (bound_row row) refl refl)) (k 0 row refl))
    (bounds_nonpositive m u (suc i) rows (λ l r e s. let q : i + suc l ≡ suc i + l = omega arith in subst (λ n. whole (pos 0) ≤ℚ m n) q (h (suc l) r e s)) (λ l. k (suc l)))

-- an item of the second list is one of both
pub back : {A : Type 0} (xs ys : List A) (k : ℕ) (x : A) → slice_get ys k ≡ Some x → slice_get (xs ++ ys) (length xs + k) ≡ Some x
back xs ys k x e = in_right xs ys k ∙ e

-- the same linear program with further rows that are at most 0
abbrev pub with_rows : LinearProgram → List (Unknowns → ℚ) → LinearProgram
with_rows l extra = record { kinds = l.kinds; rows = l.rows ++ map bound_row extra; objective = l.objective }

abbrev with_bounds : Reduced → List (Unknowns → ℚ) → Reduced
with_bounds r extra = record { nonneg = r.nonneg; nonpos = r.nonpos; point = r.point; forms = r.forms; rows = r.rows ++ extra }

-- what a bound shows with the further rows
over_all : (v o c p e : ℚ) → v ≤ℚ o +ℚ (c +ℚ e) → c ≤ℚ p → v ≤ℚ (o +ℚ p) +ℚ e
over_all v o c p e h k = linear (v ∷ o ∷ c ∷ p ∷ e ∷ []) (+ℚ-≤ℚ h k) (search reads depth 30) tt

module _ (rules : Rules) (p : Problem) (s : Setting) (ok : IsTrue (accepted_by rules (convex_problem p))) (fit : Fits p s) (formed : IsWellFormed (convex_problem p)) (l : LinearProgram)
    (is : IsReductionAt rules p s l) (extra : List (Unknowns → ℚ)) where
  abbrev P : convex.Problem
  P = convex_problem p

  abbrev r : Reduced
  r = is.reduced

  -- the further rows are rows beside those of constraints
  program_of : IsProgramOf (with_rows l extra) P (with_bounds r extra)
  program_of = record {
    assignments = λ u. (
      λ h. let a = (is.program.assignments u).0 h in record { nonneg = a.nonneg; nonpos = a.nonpos },
      λ a. (is.program.assignments u).1 (record { nonneg = a.nonneg; nonpos = a.nonpos }),
    );
    rows =
        ap (λ rows. rows ++ map bound_row extra) is.program.rows
        ∙ append_assoc (gap_rows r.forms P.constraints) (map bound_row r.rows) (map bound_row extra)
        ∙ ap (λ rows. gap_rows r.forms P.constraints ++ rows) (sym (map-append bound_row r.rows extra));
    objective = is.program.objective;
  }

  -- ---- signs
  -- what holds of each row holds of those of constraints, of those beside them, and of the further rows
  of_all : (Q : ℕ → RowAt → Type 0) → ((i : ℕ) (row : RowAt) → slice_get (with_rows l extra).rows i ≡ Some row → Q i row) → AllFrom Q 0 (l.rows ++ map bound_row extra)
  of_all Q h k row e = subst (λ n. Q n row) (sym (zero-add k)) (h k row e)

  of_program : (Q : ℕ → RowAt → Type 0) → AllFrom Q 0 (l.rows ++ map bound_row extra) → AllFrom Q 0 (gap_rows r.forms P.constraints ++ map bound_row r.rows)
  of_program Q h = subst (λ rows. AllFrom Q 0 rows) is.program.rows (all_left Q 0 l.rows (map bound_row extra) h)

  pub signed : (m : ℕ → ℚ) → HaveSigns (with_rows l extra) m → answers.AreMultipliers P (multipliers_of P m)
  signed m h k c at j b =
      gaps_signed r.forms m 0 P.constraints (all_left (IsSigned m) 0 (gap_rows r.forms P.constraints) (map bound_row r.rows) (of_program (IsSigned m) (of_all (IsSigned m) h))) k c at j b

  -- the multipliers of the further rows
  pub extra_signed : (m : ℕ → ℚ) → HaveSigns (with_rows l extra) m → AllFrom (IsSigned m) (length l.rows) (map bound_row extra)
  extra_signed m h = subst (λ n. AllFrom (IsSigned m) n (map bound_row extra)) (zero-add (length l.rows)) (all_right (IsSigned m) 0 l.rows (map bound_row extra) (of_all (IsSigned m) h))

  -- ---- the rows of the program at the unknowns of a point
  same_penalty : (y : Point) (m : Multipliers) (t : Unknowns) → IsLifted r P s y t → penalty_of P m (r.forms t) ≡ answers.penalty P s y m
  same_penalty = lifted_penalty rules P (problem_lawful p).lawful formed ok s fit r is.reduction

  same_objective : (y : Point) (t : Unknowns) → IsLifted r P s y t → objective_of P (r.forms t) ≡ objective_at p s y
  same_objective = lifted_objective rules P (problem_lawful p).lawful formed ok s fit r is.reduction

  program_below : (m : ℕ → ℚ) → HaveSigns (with_rows l extra) m → (y : Point) (t : Unknowns) → IsLifted r P s y t → combined_from m 0 l.rows t ≤ℚ answers.penalty P s y (multipliers_of P m)
  program_below m h y t lifted =
      let gaps = gap_rows r.forms P.constraints in
      let split = ap (λ rows. combined_from m 0 rows t) is.program.rows ∙ combined_append m t 0 gaps (map bound_row r.rows) in
      let first = combined_gaps m t r.forms 0 P.constraints ∙ same_penalty y (multipliers_of P m) t lifted in
      let second = bounds_nonpositive m t (0 + length gaps) r.rows (all_right (IsSigned m) 0 gaps (map bound_row r.rows) (of_program (IsSigned m) (of_all (IsSigned m) h))) lifted.rows in
      ≤ℚ_trans (≤ℚ-from_≡ split) (≤ℚ_trans (+ℚ-≤ℚ (≤ℚ-from_≡ first) second) (≤ℚ-from_≡ (+ℚ_idr (answers.penalty P s y (multipliers_of P m)))))

  -- the further rows with their multipliers, at unknowns
  abbrev pub further_rows : (ℕ → ℚ) → Unknowns → ℚ
  further_rows m t = combined_from m (length l.rows) (map bound_row extra) t

  parted : (m : ℕ → ℚ) (t : Unknowns) → combined (with_rows l extra) m t ≡ combined_from m 0 l.rows t +ℚ further_rows m t
  parted m t = combined_append m t 0 l.rows (map bound_row extra) ∙ ap (λ n. combined_from m 0 l.rows t +ℚ combined_from m n (map bound_row extra) t) (zero-add (length l.rows))

  abbrev lifted_at : (y : Point) → IsInDomain p y → IsLifted r P s y (is.reduction.lift y)
  lifted_at y dom = is.reduction.lifts y dom

  -- ---- what an optimal answer shows
  pub optimal_bound : (v : ℚ) (x : Unknowns) (m : ℕ → ℚ) → IsOptimal (with_rows l extra) v x m → (y : Point) → IsInDomain p y →
      v ≤ℚ lagrangian p s y (multipliers_of P m) +ℚ further_rows m (is.reduction.lift y)
  optimal_bound v x m h y dom =
      let t = is.reduction.lift y in
      let low = lifted_at y dom in
      let here : v ≤ℚ objective_at p s y +ℚ (combined_from m 0 l.rows t +ℚ further_rows m t) =
      ≤ℚ_trans (h.bound t ((is.program.assignments t).1 low.assignment))
      (≤ℚ-from_≡ (ap₂ ◌+ℚ◌ (is.program.objective t ∙ same_objective y t low) (parted m t))) in
      over_all v (objective_at p s y) (combined_from m 0 l.rows t) (answers.penalty P s y (multipliers_of P m)) (further_rows m t) here (program_below m h.signs y t low)

  pub infeasible_bound : (g : ℚ) (m : ℕ → ℚ) → IsInfeasible (with_rows l extra) g m → (y : Point) → IsInDomain p y →
      g ≤ℚ answers.penalty P s y (multipliers_of P m) +ℚ further_rows m (is.reduction.lift y)
  infeasible_bound g m h y dom =
      let t = is.reduction.lift y in
      let low = lifted_at y dom in
      ≤ℚ_trans (h.bound t ((is.program.assignments t).1 low.assignment)) (≤ℚ_trans (≤ℚ-from_≡ (parted m t)) (+ℚ-≤ℚ (program_below m h.signs y t low) (≤ℚ_refl (further_rows m t))))

  -- a solution gives a feasible point whose objective is no greater, and keeps the further rows
  pub record Shows (x : Unknowns) : Type 0 where
    pub projects : Projects rules P (problem_lawful p).lawful formed ok s fit r is.reduction x
    pub kept : (k : ℕ) (row : Unknowns → ℚ) → slice_get extra k ≡ Some row → row x ≤ℚ whole (pos 0)

  pub optimal_shows : (v : ℚ) (x : Unknowns) (m : ℕ → ℚ) → IsOptimal (with_rows l extra) v x m → Shows x
  optimal_shows v x m h =
      let (w, right) = (program.answers_carry_over (with_rows l extra) P (with_bounds r extra) program_of).optimal v x m h in
      let solves : Solves P r x = record {
        assignment = record { nonneg = right.solves.assignment.nonneg; nonpos = right.solves.assignment.nonpos };
        rows = λ k row e. right.solves.rows k row (in_left r.rows extra k row e);
        holds = right.solves.holds;
      } in
      record {
        projects = projects rules P (problem_lawful p).lawful formed ok s fit r is.reduction x solves;
        kept = λ k row e. right.solves.rows (length r.rows + k) row (back r.rows extra k row e);
      }
