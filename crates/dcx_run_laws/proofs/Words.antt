-- The reports of a `solve` and of a `resolve` are the same only where nothing is told.
use Rattle.std.proofs.Common.{◌≡◌, ℕ, List, [], ◌∷◌, Option, refl, sym, arith}
use Rattle.std.specs.List.{All}
use Rattle.dcx_tree.specs.declared.constraint.Sense.{Sense}
use Rattle.dcx_answer.specs.declared.outcome.Outcome.{Outcome}
use Rattle.dcx_report.specs.declared.run.Run.TheVariants.{Solved}
use Rattle.dcx_report.specs.declared.run.Word.{Word}
use Rattle.dcx_report.specs.declared.run.Word.TheVariants.{Solve, Setting}
use Rattle.dcx_report.specs.OutcomeText.{word_text, outcome_text, outcome_lines, count_line}
use Rattle.dcx_report.specs.ReportText.{text_of}
use Rattle.dcx_report.specs.SameText.{answers_of}
use Rattle.dcx_report.proofs.AnswerReading.{second_same}
use Rattle.dcx_lines.proofs.Reading.{first_same}
use Rattle.dcx_report.proofs.SameReport.{same_text_same_answers}
use Rattle.dcx_report.specs.SameText.{Layout, IsEndOf}

solve_or_setting : (sense : Sense) (xs ys : List Outcome) (m n : Option ℕ) → text_of (Solved Solve sense xs m) ≡ text_of (Solved Setting sense ys n) → answers_of xs ≡ answers_of ys
unfolding text_of outcome_lines outcome_text word_text count_line
solve_or_setting sense [] [] m n e = refl
solve_or_setting sense [] (y ∷ ys) m n e = absurd (omega (arith, first_same 97 115 _ _ e))
solve_or_setting sense (x ∷ xs) [] m n e = absurd (omega (arith, first_same 115 97 _ _ e))
solve_or_setting sense (x ∷ xs) (y ∷ ys) m n e = absurd (omega (arith, second_same _ 111 _ 101 _ _ e))

-- whatever the words are
pub same_answers : (layout : Layout) (word other : Word) (sense : Sense) (xs ys : List Outcome) (m n : Option ℕ) → All (λ o. IsEndOf layout o.end) xs → All (λ o. IsEndOf layout o.end) ys
    → text_of (Solved word sense xs m) ≡ text_of (Solved other sense ys n) → answers_of xs ≡ answers_of ys
same_answers layout Solve Solve sense xs ys m n h k e = same_text_same_answers layout Solve sense xs ys m n h k e
same_answers layout Solve Setting sense xs ys m n h k e = solve_or_setting sense xs ys m n e
same_answers layout Setting Solve sense xs ys m n h k e = sym (solve_or_setting sense ys xs n m (sym e))
same_answers layout Setting Setting sense xs ys m n h k e = same_text_same_answers layout Setting sense xs ys m n h k e
