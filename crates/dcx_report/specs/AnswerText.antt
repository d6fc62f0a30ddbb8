-- The lines of an answer.
use Rattle.std.specs.Prelude.{ℕ, List, ◌++◌, codes}
use Rattle.std.specs.List.{flat_map}
use Rattle.dcx_frac.specs.declared.fraction.Frac.{Frac}
use Rattle.dcx_point.specs.Pairs.{Pairs}
use Rattle.dcx_tree.specs.declared.constraint.Sense.{Sense}
use Rattle.dcx_tree.specs.declared.constraint.Sense.TheVariants.{Minimize, Maximize}
use Rattle.dcx_answer.specs.declared.answer.Answer.{Answer}
use Rattle.dcx_answer.specs.declared.answer.Answer.TheVariants.{Optimal, Infeasible, Unbounded}
use Rattle.dcx_lines.specs.Lines.{named_line, dual_lines, number_line}
use Rattle.dcx_report.specs.Negated.{negated}

-- a number of the minimized objective, as the user's objective has it: negated back where that is maximized
unfoldable pub user_number : Sense → Frac → Frac
user_number Minimize number = number
user_number Maximize number = negated number

-- a line for each variable's value
unfoldable pub var_lines : Pairs → List ℕ
var_lines point = flat_map (named_line (codes "var")) point

-- a line for each variable's part of the ray
unfoldable pub ray_lines : Pairs → List ℕ
ray_lines ray = flat_map (named_line (codes "ray")) ray

-- what stands behind the number of a setting that has this answer
unfoldable pub answer_text : Sense → Answer → List ℕ
answer_text sense (Optimal value point duals) =
    codes " optimal\n" ++ number_line (codes "value") (user_number sense value) ++ var_lines point ++ dual_lines duals
answer_text sense (Infeasible duals gap) =
    codes " infeasible\n" ++ number_line (codes "gap") gap ++ dual_lines duals
answer_text sense (Unbounded point ray bound slope) =
    codes " unbounded\n" ++ number_line (codes "bound") (user_number sense bound) ++ number_line (codes "slope") slope
    ++ var_lines point ++ ray_lines ray
