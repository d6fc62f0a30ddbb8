-- What the program of a set of constraints tells: solutions are points that keep the set, and multipliers that show that there is none
-- are multipliers of the constraints.
use Rattle.std.proofs.Common.{◌≡◌, ℕ, suc, ◌<◌, Bool, true, false, IsTrue, List, [], ◌∷◌, ◌++◌, length, map, Some, option_map, slice_get, refl, sym, ap, ◌∙◌, subst, zero-add, arith}
use Rattle.std.specs.List.{list_all}
use Rattle.std.proofs.lemmas.Bool.{and_parts, and_from}
use Rattle.std.proofs.lemmas.Option.{slice_get-map}
use Rattle.dcx_math.specs.Rational.{ℚ}
use Rattle.dcx_math.proofs.Lists.{mapped}
use Rattle.dcx_frac.specs.declared.fraction.Frac.{Frac}
use Rattle.dcx_convex.specs.Nodes.{Point, Setting}
use Rattle.dcx_convex.specs.Rules.{Rules, judgement_at}
use Rattle.dcx_convex.specs.Problems as convex
use Rattle.dcx_convex.specs.Problems.{accepted_by, may_be_objective, may_be_sides, objective_of}
use Rattle.dcx_convex.specs.Answers as answers
use Rattle.dcx_convex.specs.Reductions.{Unknowns, IsReduction, IsWellFormed, Solves}
use Rattle.dcx_convex.proofs.LawsHold.{reductions_map_back}
use Rattle.dcx_convex.proofs.MapBack.{projects}
use Rattle.dcx_convex.proofs.OneAnswer.{none_feasible}
use Rattle.dcx_tree.specs.declared.problem.Problem.{Problem}
use Rattle.dcx_tree.specs.Meaning.{convex_problem, convex_constraint}
use Rattle.dcx_tree.proofs.Lawful.{problem_lawful}
use Rattle.dcx_right.specs.ConstraintSets.{ConstraintSet, KeepsSet, IsImpossible}
use Rattle.dcx_linear.specs.Rows.{LinearProgram, StandsTo, IsSolution, IsInfeasible}
use Rattle.dcx_unknowns.specs.Unknowns.{point_at}
use Rattle.dcx_postsolve.specs.Programs.{gap_rows, bound_row, IsProgramOf, multipliers_of}
use Rattle.dcx_postsolve.proofs.Rows.{AllFrom, all_left, all_right, gaps_hold}
use Rattle.dcx_postsolve.proofs.CarryingLawsHold as program
use Rattle.dcx_linear.specs.Forms.{is_constant}
use Rattle.dcx_atom.specs.Formed.{zero_frac}
use Rattle.dcx_std.specs.GivenRows.{given}
use Rattle.dcx_std.specs.Solutions.{row_at, linear_program}
use Rattle.dcx_graph.specs.Program.{Program}
use Rattle.dcx_graph.proofs.Backward.{well_formed}
use Rattle.dcx_iis.specs.Steps.{kept_of, kept_from, rows_from, program_of_set}
use Rattle.dcx_graph.specs.Answers.{IsReducedAt}
use Rattle.dcx_iis.proofs.Kept.{one_if, kept_at, kept_is, map-rows, rows_gaps, rows_same}

-- the problem with the constraints of the set alone
abbrev pub only : Problem → ConstraintSet → convex.Problem
only p set = record {
  nodes = (convex_problem p).nodes;
  sense = (convex_problem p).sense;
  objective = (convex_problem p).objective;
  constraints = map convex_constraint (kept_of set p.constraints);
}

module _ (p : Problem) (set : ConstraintSet) where
  -- each of its constraints is one of the problem, and of the set
  pub only_is : (i : ℕ) (c : convex.Constraint) → convex.IsConstraint (only p set) i c → (k : ℕ) × convex.IsConstraint (convex_problem p) k c × IsTrue (set k)
  only_is i c at =
      let (d, there, is) = mapped convex_constraint (kept_of set p.constraints) i c at in
      let (k, found, t) = kept_is set 0 p.constraints i d there in
      (k, slice_get-map convex_constraint p.constraints k ∙ ap (option_map convex_constraint) found ∙ ap Some is, ap set (sym (zero-add k)) ∙ t)

  pub only_has : (k : ℕ) (c : convex.Constraint) → convex.IsConstraint (convex_problem p) k c → IsTrue (set k) → (i : ℕ) × convex.IsConstraint (only p set) i c
  only_has k c at t =
      let (d, there, is) = mapped convex_constraint p.constraints k c at in
      let (n, found) = kept_at set 0 p.constraints k d there (ap set (zero-add k) ∙ t) in
      (n, slice_get-map convex_constraint (kept_of set p.constraints) n ∙ ap (option_map convex_constraint) found ∙ ap Some is)

  -- a point is feasible in it exactly where it keeps the set
  pub feasible_keeps : (s : Setting) (x : Point) → convex.IsFeasible (only p set) s x → KeepsSet p s set x
  feasible_keeps s x f = record { domain = f.domain; keeps = λ k t c at j l. let (i, has) = only_has k c at t in f.holds i c has j l }

  pub keeps_feasible : (s : Setting) (x : Point) → KeepsSet p s set x → convex.IsFeasible (only p set) s x
  keeps_feasible s x h = record { domain = h.domain; holds = λ i c at j l. let (k, is, t) = only_is i c at in h.keeps k t c is j l }

  only_formed : IsWellFormed (only p set)
  only_formed = let w = well_formed p in record {
    ordered = w.ordered;
    objective = w.objective;
    sides = λ i c at. let (k, is, t) = only_is i c at in w.sides k c is;
  }

-- a test of all items holds of those that are kept
all_kept : {A B : Type 0} (test : B → Bool) (f : A → B) (set : ConstraintSet) (i : ℕ) (xs : List A) → IsTrue (list_all test (map f xs)) → IsTrue (list_all test (map f (kept_from set i xs)))
all_kept test f set i [] h = h
all_kept {A} test f set i (x ∷ xs) h =
    let parts = and_parts (test (f x)) (list_all test (map f xs)) h in
    by (set i) (kept_from set (suc i) xs) (all_kept test f set (suc i) xs parts.1) parts.0
  where
    by : (b : Bool) (rest : List A) → IsTrue (list_all test (map f rest)) → IsTrue (test (f x)) → IsTrue (list_all test (map f (one_if b x rest)))
    by true rest t k = and_from (test (f x)) (list_all test (map f rest)) k t
    by false rest t k = t

module _ (p : Problem) (s : Setting) (q : Program Frac) (is : IsReducedAt p s q) (set : ConstraintSet) where
  abbrev rules : Rules
  rules = is.rules

  abbrev sides_taken : convex.Constraint → Bool
  sides_taken c = may_be_sides c.relation (judgement_at rules (convex_problem p).nodes c.left) (judgement_at rules (convex_problem p).nodes c.right)

  only_accepted : IsTrue (accepted_by rules (only p set))
  only_accepted =
      let objective = may_be_objective (convex_problem p).sense (judgement_at rules (convex_problem p).nodes (convex_problem p).objective) in
      let parts = and_parts objective (list_all sides_taken (convex_problem p).constraints) is.accepted in
      and_from objective (list_all sides_taken (only p set).constraints) parts.0 (all_kept sides_taken convex_constraint set 0 p.constraints parts.1)

  only_reduced : IsReduction rules (only p set) s is.reduction.reduced
  only_reduced = let h = is.reduction.reduction in record {
    domain = h.domain;
    ray = h.ray;
    sound = h.sound;
    lift = h.lift;
    lifts = λ y dom. let l = h.lifts y dom in record { assignment = l.assignment; rows = l.rows; same = l.same };
  }

  -- the rows of the set's program
  pub set_rows : (linear_program (program_of_set p q set)).rows ≡ gap_rows is.reduction.reduced.forms (map convex_constraint (kept_of set p.constraints)) ++ map bound_row is.reduction.reduced.rows
  set_rows =
      map-rows set row_at 0 p.constraints q.rows
      ∙ ap (rows_from set 0 p.constraints) is.reduction.program.rows
      ∙ rows_gaps set is.reduction.reduced.forms 0 p.constraints (map bound_row is.reduction.reduced.rows)

  -- with the objective of the problem they are the linear program of the problem with the constraints of the set
  abbrev with_objective : LinearProgram
  with_objective = record { kinds = q.kinds; rows = (linear_program (program_of_set p q set)).rows; objective = λ u. objective_of (only p set) (is.reduction.reduced.forms u) }

  only_program : IsProgramOf with_objective (only p set) is.reduction.reduced
  only_program = record { assignments = is.reduction.program.assignments; rows = set_rows; objective = λ u. refl }

  -- ---- a solution
  rows_stand : (x : Unknowns) → IsSolution (linear_program (program_of_set p q set)) x →
      AllFrom (λ n row. StandsTo row.kind (row.number x)) 0 (gap_rows is.reduction.reduced.forms (only p set).constraints ++ map bound_row is.reduction.reduced.rows)
  rows_stand x h = λ k row e. h.rows k row (ap (λ rows. slice_get rows k) set_rows ∙ e)

  solves : (x : Unknowns) → IsSolution (linear_program (program_of_set p q set)) x → Solves (only p set) is.reduction.reduced x
  solves x h =
      let gaps = gap_rows is.reduction.reduced.forms (only p set).constraints in
      let bounds = map bound_row is.reduction.reduced.rows in
      let stand = rows_stand x h in
      record {
        assignment = (is.reduction.program.assignments x).0 h.kinds;
        rows = λ k row e. all_right (λ n a. StandsTo a.kind (a.number x)) 0 gaps bounds stand k (bound_row row) (slice_get-map bound_row is.reduction.reduced.rows k ∙ ap (option_map bound_row) e);
        holds = λ k c at j b. gaps_hold is.reduction.reduced.forms x 0 (only p set).constraints (all_left (λ n a. StandsTo a.kind (a.number x)) 0 gaps bounds stand) k c at j b;
      }

  pub solution_keeps : (x : Unknowns) → IsSolution (linear_program (program_of_set p q set)) x → KeepsSet p s set (point_at p.variables x)
  solution_keeps x h =
      let down = projects rules (only p set) (problem_lawful p).lawful (only_formed p set) only_accepted s is.fits is.reduction.reduced only_reduced x (solves x h) in
      subst (λ (y : Point). KeepsSet p s set y) (is.reduction.point x) (feasible_keeps p set s (is.reduction.reduced.point x) down.feasible)

  -- ---- multipliers
  pub infeasible_only : (gap : ℚ) (m : ℕ → ℚ) → IsInfeasible (linear_program (program_of_set p q set)) gap m → answers.IsInfeasible (only p set) s (multipliers_of (only p set) m) gap
  infeasible_only gap m h =
      let over : IsInfeasible with_objective gap m = record { positive = h.positive; signs = h.signs; bound = h.bound } in
      let (w, right) = (program.answers_carry_over with_objective (only p set) is.reduction.reduced only_program).infeasible gap m over in
      let back = reductions_map_back rules (only p set) (problem_lawful p).lawful (only_formed p set) only_accepted s is.fits is.reduction.reduced only_reduced in
      back.infeasible (multipliers_of (only p set) m) w gap right

  pub only_impossible : (m : answers.Multipliers) (gap : ℚ) → answers.IsInfeasible (only p set) s m gap → IsImpossible p s set
  only_impossible m gap h x keeps = none_feasible (only p set) s m gap x h (keeps_feasible p set s x keeps)

-- ---- one program
-- sets that have the same constraints have one program
pub program_same : (p : Problem) (q : Program Frac) (a b : ConstraintSet) → ((k : ℕ) → k < length p.constraints → a k ≡ b k) → program_of_set p q a ≡ program_of_set p q b
program_same p q a b h = ap (λ rows. given q.kinds rows (is_constant zero_frac)) (rows_same a b 0 p.constraints q.rows (λ k l m. h k (omega (arith, m))))
