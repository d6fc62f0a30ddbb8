-- Each answer among the outcomes is right, and speaks of the problem.
use Rattle.std.proofs.Common.{◌≡◌, ℕ, List, [], ◌∷◌, map, Result, Ok, Err, refl, sym, ap₂, subst}
use Rattle.std.specs.Prelude.{⊤, drop}
use Rattle.dcx_frac.specs.declared.fraction.Frac.{Frac}
use Rattle.dcx_shape.specs.Shape.{sides_of}
use Rattle.dcx_atom.specs.declared.array.Array.{Array}
use Rattle.dcx_point.specs.Pairs.{Pairs}
use Rattle.dcx_tree.specs.declared.problem.Problem.{Problem}
use Rattle.dcx_tree.specs.declared.constraint.Constraint.{Constraint}
use Rattle.dcx_tree.specs.Meaning.{IsAccepted}
use Rattle.dcx_linear.specs.declared.row.UnknownKind.{UnknownKind}
use Rattle.dcx_lp_answer.specs.declared.answer.LpStatus.{LpStatus}
use Rattle.dcx_lp_answer.specs.declared.answer.LpAnswer.{LpAnswer}
use Rattle.dcx_lp_answer.specs.declared.answer.RowNote.{RowNote}
use Rattle.dcx_answer.specs.declared.answer.Answer.{Answer}
use Rattle.dcx_answer.specs.declared.answer.Answer.TheVariants.{Optimal, Infeasible, Unbounded}
use Rattle.dcx_answer.specs.declared.stop.Stop.{Stop}
use Rattle.dcx_answer.specs.declared.outcome.Outcome.{Outcome}
use Rattle.dcx_unknowns.specs.Layout.{constraint_rows}
use Rattle.dcx_graph.specs.Duals.{AreDuals}
use Rattle.dcx_right.specs.Answers.{IsPointFor, SpeaksOf}
use Rattle.dcx_graph.specs.Answers.{IsPointRead, IsRead}
use Rattle.dcx_cache.specs.Answers.{Answers}
use Rattle.dcx_cache.proofs.Answered.{answers_are_right}
use Rattle.dcx_outcomes.specs.Outcomes.{solved_end, IsOutcome}
use Rattle.dcx_outcomes.specs.Right.{IsRightEnd}
use Rattle.dcx_outcomes.specs.Laws.{OutcomesAreRight}
use Rattle.dcx_outcomes.proofs.Zips.{zip_weaker}

-- multipliers have the shapes of the constraints
shaped : (status : LpStatus) (cs : List Constraint) (notes : List RowNote) (xs : List Array) → AreDuals status cs notes xs → map (λ a. sides_of a.shape) xs ≡ map (λ c. sides_of c.shape) cs
shaped status [] notes [] h = refl
shaped status [] notes (x ∷ xs) h = absurd h
shaped status (c ∷ cs) notes [] h = absurd h
shaped status (c ∷ cs) notes (x ∷ xs) (is, h) = ap₂ ◌∷◌ is.shape (shaped status cs (drop (constraint_rows c) notes) xs h)

-- a point that is read has the variables' arrays
point_for : (p : Problem) (kinds : List UnknownKind) (columns : List Frac) (point : Pairs) → IsPointRead p kinds columns point → IsPointFor p point
point_for p kinds columns point at = record { names = at.of_variables.names; shaped = at.of_variables.shaped }

pub speaks : (p : Problem) (kinds : List UnknownKind) (a : LpAnswer) (x : Answer) → IsRead p kinds a x → SpeaksOf p x
speaks p kinds a (Optimal value point duals) (e, n, at, are) = (point_for p kinds a.columns point at, shaped a.status p.constraints a.rows duals are)
speaks p kinds a (Infeasible duals gap) (e, n, are) = shaped a.status p.constraints a.rows duals are
speaks p kinds a (Unbounded point ray bound slope) (e, b, s, at, along) = (point_for p kinds a.columns point at, point_for p kinds a.ray ray along)

-- where a setting is answered, the answer does
abbrev pub SpeaksEnd : Problem → Result Answer Stop → Type 0
SpeaksEnd p (Ok a) = SpeaksOf p a
SpeaksEnd p (Err stop) = ⊤

pub speaks_at : (p : Problem) (limit : ℕ) (s : Pairs) (x : Result Answer Stop) → Answers p s limit x → SpeaksEnd p x
speaks_at p limit s (Ok a) (q, solved, h) = speaks p q.kinds solved.answer a h.read
speaks_at p limit s (Err stop) h = tt

right_at : (p : Problem) (limit : ℕ) (s : Pairs) (o : Outcome) → IsAccepted p → IsOutcome p limit s o → IsRightEnd p s o.end
right_at p limit s o ok h = subst (IsRightEnd p s) (sym h.told) (by h.end h.answers)
  where
    by : (x : Result Answer Stop) → Answers p s limit x → IsRightEnd p s (solved_end x)
    by (Ok a) (q, solved, k) =
        let right = answers_are_right p s limit a ok (q, solved, k) in
        record { fits = right.0; right = right.1; speaks = speaks p q.kinds solved.answer a k.read }
    by (Err stop) k = tt

pub outcomes_are_right : OutcomesAreRight
outcomes_are_right p limit settings outcomes ok h = zip_weaker (IsOutcome p limit) (λ s o. IsRightEnd p s o.end) (λ s o k. right_at p limit s o ok k) settings outcomes h
