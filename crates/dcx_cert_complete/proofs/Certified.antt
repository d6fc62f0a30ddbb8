-- A section that is built of an answer of a session is accepted, or an operation passes.
use Rattle.std.proofs.Common.{◌≡◌, inl, inr, ℕ, zero, suc, arith, true, false, List, [], ◌∷◌, length, map, Some, Result, Ok, Err, slice_get, refl, sym, ap, ◌∙◌, subst}
use Rattle.std.specs.Prelude.{drop}
use Rattle.std.proofs.lemmas.Option.{none-some, same_Some}
use Rattle.dcx_math.specs.Rational.{ℚ}
use Rattle.dcx_frac.specs.declared.fraction.Frac.{Frac}
use Rattle.dcx_frac.specs.Frac.{value}
use Rattle.dcx_shape.specs.Shape.{sides_of}
use Rattle.dcx_atom.specs.declared.array.Array.{Array}
use Rattle.dcx_point.specs.Pairs.{Pairs}
use Rattle.dcx_tree.specs.declared.constraint.Constraint.{Constraint}
use Rattle.dcx_tree.specs.declared.problem.Problem.{Problem}
use Rattle.dcx_tree.specs.Meaning.{convex_problem, setting_of, IsAccepted}
use Rattle.dcx_lp_answer.specs.declared.answer.LpStatus.{LpStatus}
use Rattle.dcx_lp_answer.specs.declared.answer.LpStatus.TheVariants as status
use Rattle.dcx_lp_answer.specs.declared.answer.RowNote.{RowNote}
use Rattle.dcx_lp_answer.specs.declared.answer.LpAnswer.{LpAnswer}
use Rattle.dcx_answer.specs.declared.answer.Answer.{Answer}
use Rattle.dcx_answer.specs.declared.answer.Answer.TheVariants as answers
use Rattle.dcx_std.specs.Solutions.{HasKinds, linear_program}
use Rattle.dcx_postsolve.specs.Programs.{bound_row, multipliers_of}
use Rattle.dcx_unknowns.specs.Equations.{graph_numbers}
use Rattle.dcx_postsolve.specs.Duals.{AreDuals}
use Rattle.dcx_right.specs.Answers.{multipliers_in, IsRightFor}
use Rattle.dcx_postsolve.specs.Laws.{AreSameMultipliers}
use Rattle.dcx_postsolve.proofs.DualLaws.{right_multiplier}
use Rattle.dcx_cert_collect.specs.Multipliers as collect
use Rattle.dcx_cert_sections.specs.declared.weights.NodeWeights.{NodeWeights}
use Rattle.dcx_cert_sections.specs.declared.cert.Cert.{Cert}
use Rattle.dcx_cert_sections.specs.declared.cert.Cert.TheVariants.{Optimal, Infeasible, Unbounded}
use Rattle.dcx_answer.specs.declared.cert_fault.CertFault.{CertFault}
use Rattle.dcx_fit.specs.Fit.{FitsParameters}
use Rattle.dcx_graph.specs.Program.{Program}
use Rattle.dcx_graph.specs.Answers.{rows_of, IsAnswered, IsRead}
use Rattle.dcx_graph.proofs.Slacks.{have_slacks, multiplier_is}
use Rattle.dcx_graph.proofs.Mapped.{read_right, right_rows}
use Rattle.dcx_cert_build.specs.Built.{AreWeightsIn, values_in, IsBuilt}
use Rattle.dcx_cert_bound.specs.Weights.{weights_at}
use Rattle.dcx_cert_bound.specs.Checks.{bound_checks}
use Rattle.dcx_cert_sections.specs.Checks.{Check, Checked}
use Rattle.dcx_cert_check.specs.Checks.{checks_of}
use Rattle.dcx_cache.proofs.Answered.{is_answered}
use Rattle.dcx_cache.proofs.WarmRuns.{warm_is_answered}
use Rattle.dcx_cert_complete.specs.Certified.{FailsWide, IsAcceptedOrWide, IsCertified}
use Rattle.dcx_cert_complete.specs.Programs.{HasForms}
use Rattle.dcx_cert_complete.specs.Laws.{IsProgramThere, BuiltIsCertified}
use Rattle.dcx_cert_complete.proofs.Answered.{optimal_bounds, infeasible_bounds}
use Rattle.dcx_cert_complete.proofs.Bounded.{forms_bound_programs}
use Rattle.dcx_cert_complete.proofs.Checked.{bounds_fail_wide}
use Rattle.dcx_cert_complete.proofs.Pointwise.{point_wide, value_wide, signs_never, gap_never}
use Rattle.dcx_cert_complete.proofs.Programs.{programs_there_have_forms}
use Rattle.dcx_cert_complete.proofs.Raywise.{descent_wide}
use Rattle.dcx_cert_complete.proofs.Settings.{setting_wide}
use Rattle.dcx_cert_complete.proofs.Weighed.{m, first_row, are_row_weights}

-- ---- the multipliers of the constraints
duals_count : (t : LpStatus) (cs : List Constraint) (notes : List RowNote) (ds : List Array) → AreDuals t cs notes ds → length ds ≡ length cs
duals_count t [] notes [] h = refl
duals_count t [] notes (x ∷ ds) h = absurd h
duals_count t (c ∷ cs) notes [] h = absurd h
duals_count t (c ∷ cs) notes (x ∷ ds) h = ap suc (duals_count t cs (drop _ notes) ds h.1)

duals_shaped : (t : LpStatus) (cs : List Constraint) (notes : List RowNote) (ds : List Array) → AreDuals t cs notes ds → (k : ℕ) (c : Constraint) (x : Array) → slice_get cs k ≡ Some c
    → slice_get ds k ≡ Some x
    → sides_of x.shape ≡ sides_of c.shape
duals_shaped t [] notes ds h k c x at there = absurd (none-some c at)
duals_shaped t (d ∷ cs) notes [] h k c x at there = absurd h
duals_shaped t (d ∷ cs) notes (y ∷ ds) h zero c x at there =
    ap (λ (z : Array). sides_of z.shape) (sym (same_Some y x there)) ∙ h.0.shape ∙ ap (λ (z : Constraint). sides_of z.shape) (same_Some d c at)
duals_shaped t (d ∷ cs) notes (y ∷ ds) h (suc k) c x at there = duals_shaped t cs (drop _ notes) ds h.1 k c x at there

are_duals : (p : Problem) (t : LpStatus) (notes : List RowNote) (ds : List Array) → AreDuals t p.constraints notes ds → collect.AreDuals p ds
are_duals p t notes ds h = record { count = duals_count t p.constraints notes ds h; shaped = duals_shaped t p.constraints notes ds h }

module _ (p : Problem) (setting : Pairs) (q : Program Frac) (a : LpAnswer) (known : HasKinds (rows_of q)) (own : HasForms p (setting_of p setting) q)
    (is : IsAnswered p (setting_of p setting) q a) where
  abbrev M : ℕ → ℚ
  M = m p setting q a known own is

  -- the multipliers of the constraints are those of their rows
  same_multipliers : (d : List Array) → AreDuals a.status p.constraints a.rows d → AreSameMultipliers p.constraints (multipliers_of (convex_problem p) M) (multipliers_in d)
  same_multipliers d are k c at j b =
      multiplier_is 0 p.constraints M k c at j
      ∙ ap M (omega arith)
      ∙ sym (right_multiplier is.integer.columns a p.constraints d
      (have_slacks (rows_of q) is.integer known is.made own.forms p.constraints (map bound_row (graph_numbers own.rules p (setting_of p setting) own.forms)) own.program.rows)
      are k c at j b)

  module _ (ok : IsAccepted p) (duals : List Array) (are : AreDuals a.status p.constraints a.rows duals) (weights : List NodeWeights) (weighed : AreWeightsIn p q.origins a weights) where
    optimal_bound : a.status ≡ status.Optimal → FailsWide (bound_checks p setting duals weights true a.number)
    optimal_bound e =
        let right = right_rows p (setting_of p setting) q a known is status.Optimal e in
        bounds_fail_wide p setting duals weights true a.number ok is.reduced.fits (are_duals p a.status a.rows duals are)
        (λ values fixed. forms_bound_programs own.rules p setting values own.forms duals (weights_at weights) true (value a.number) M (first_row p setting q a known own is) fixed own.stand
        (are_row_weights p setting q a known own is values fixed right.signs weights weighed)
        (optimal_bounds own.rules p (setting_of p setting) own.forms (linear_program (rows_of q)) own.program M duals (same_multipliers duals are) (value a.number) right.bound))

    infeasible_bound : a.status ≡ status.Infeasible → FailsWide (bound_checks p setting duals weights false a.number)
    infeasible_bound e =
        let right = right_rows p (setting_of p setting) q a known is status.Infeasible e in
        bounds_fail_wide p setting duals weights false a.number ok is.reduced.fits (are_duals p a.status a.rows duals are)
        (λ values fixed. forms_bound_programs own.rules p setting values own.forms duals (weights_at weights) false (value a.number) M (first_row p setting q a known own is) fixed own.stand
        (are_row_weights p setting q a known own is values fixed right.signs weights weighed)
        (infeasible_bounds own.rules p (setting_of p setting) own.forms (linear_program (rows_of q)) own.program M duals (same_multipliers duals are) (value a.number) right.bound))

  -- ---- all checks
  module _ (ok : IsAccepted p) (met : FitsParameters p.parameters setting) where
    certified : (x : Answer) (cert : Cert) → IsRead p q.kinds a x → IsRightFor p (setting_of p setting) x → IsBuilt p setting q.origins a x cert → FailsWide (checks_of p setting cert)
    certified (answers.Optimal number point duals) cert (e, same, at, are) right (weights, weighed, built) = subst (λ c. FailsWide (checks_of p setting c)) (sym built) by
      where
        bound : FailsWide (bound_checks p setting duals weights true number)
        bound = subst (λ n. FailsWide (bound_checks p setting duals weights true n)) (sym same) (optimal_bound ok duals are weights weighed e)

        by : FailsWide (checks_of p setting (Optimal number point duals weights (Some (values_in p setting))))
        by f (inl h) = setting_wide p setting met is.reduced.fits f h
        by f (inr (fitting, inl h)) = point_wide p setting point is.reduced.fits right.feasible f h
        by f (inr (fitting, inr (inside, inl h))) = value_wide p setting point is.reduced.fits number right.value f h
        by f (inr (fitting, inr (inside, inr (stated, inl h)))) = absurd (signs_never p duals right.multipliers f h)
        by f (inr (fitting, inr (inside, inr (stated, inr (signed, h))))) = bound f h
    certified (answers.Infeasible duals gap) cert (e, same, are) right (weights, weighed, built) = subst (λ c. FailsWide (checks_of p setting c)) (sym built) by
      where
        bound : FailsWide (bound_checks p setting duals weights false gap)
        bound = subst (λ n. FailsWide (bound_checks p setting duals weights false n)) (sym same) (infeasible_bound ok duals are weights weighed e)

        by : FailsWide (checks_of p setting (Infeasible duals gap weights (Some (values_in p setting))))
        by f (inl h) = setting_wide p setting met is.reduced.fits f h
        by f (inr (fitting, inl h)) = absurd (signs_never p duals right.multipliers f h)
        by f (inr (fitting, inr (signed, inl h))) = absurd (gap_never gap right.positive f h)
        by f (inr (fitting, inr (signed, inr (positive, h)))) = bound f h
    certified (answers.Unbounded point ray bound slope) cert read right built = subst (λ c. FailsWide (checks_of p setting c)) (sym built) by
      where
        by : FailsWide (checks_of p setting (Unbounded point ray bound slope (Some (values_in p setting))))
        by f (inl h) = setting_wide p setting met is.reduced.fits f h
        by f (inr (fitting, h)) = descent_wide p setting point ray bound slope ok is.reduced.fits right f h

-- what a checker answers
answered : (check : Check) → FailsWide check → (r : Result (Unit {0}) CertFault) → Checked check r → IsAcceptedOrWide check r
answered check fails (Ok x) h = h
answered check fails (Err f) (inl memory) = inl memory
answered check fails (Err f) (inr h) = inr (fails f h)

-- of an answer of the rows
rows_certified : (p : Problem) (setting : Pairs) (q : Program Frac) (lp : LpAnswer) (x : Answer) (cert : Cert) → IsAccepted p → FitsParameters p.parameters setting → IsProgramThere p setting q
    → HasKinds (rows_of q)
    → IsAnswered p (setting_of p setting) q lp → IsRead p q.kinds lp x → IsBuilt p setting q.origins lp x cert → IsCertified (checks_of p setting cert)
rows_certified p setting q lp x cert ok met there known is read built =
    let own = programs_there_have_forms p setting q ok met there in
    let fails = certified p setting q lp known own is ok met x cert read (read_right p (setting_of p setting) q lp known is x read) built in
    record { fails = fails; answered = answered (checks_of p setting cert) fails }

pub built_is_certified : BuiltIsCertified
built_is_certified = record {
  rows = rows_certified;
  solved = λ p setting limit q s x cert ok h built. rows_certified p setting q s.answer x cert ok h.fits (inl h.program) h.known
      (is_answered p setting ok h.fits limit q s h.program h.is_solved) h.read built;
  warm = λ p setting limit columns q s x cert ok h built. rows_certified p setting q s.answer x cert ok h.fits (inl h.program) h.known
      (warm_is_answered p setting limit columns q s ok h.fits h.program h.is_solved) h.read built;
}
