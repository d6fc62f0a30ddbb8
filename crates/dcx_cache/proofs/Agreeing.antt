-- Two right answers at a setting are of one kind, with one value.
use Rattle.dcx_frac.specs.Frac.{value}
use Rattle.dcx_tree.specs.Meaning.{point_of}
use Rattle.dcx_tree.proofs.LawsHold.{answers_agree}
use Rattle.dcx_answer.specs.declared.answer.Answer.TheVariants.{Optimal, Infeasible, Unbounded}
use Rattle.dcx_right.specs.Answers.{multipliers_in}
use Rattle.dcx_cache.specs.Laws.{RightAnswersAgree}

pub right_answers_agree : RightAnswersAgree
right_answers_agree p s (Optimal v x m) (Optimal w y n) h k = (answers_agree p s).one_value (value v) (value w) (point_of p x) (point_of p y) (multipliers_in m) (multipliers_in n) h k
right_answers_agree p s (Optimal v x m) (Infeasible n g) h k = (answers_agree p s).not_infeasible (value v) (value g) (point_of p x) (multipliers_in m) (multipliers_in n) h k
right_answers_agree p s (Optimal v x m) (Unbounded y d b e) h k = (answers_agree p s).not_unbounded (value v) (value b) (value e) (point_of p x) (point_of p y) (point_of p d) (multipliers_in m) h k
right_answers_agree p s (Infeasible n g) (Optimal v x m) h k = (answers_agree p s).not_infeasible (value v) (value g) (point_of p x) (multipliers_in m) (multipliers_in n) k h
right_answers_agree p s (Infeasible m g) (Infeasible n f) h k = tt
right_answers_agree p s (Infeasible m g) (Unbounded x d b e) h k = (answers_agree p s).not_both (value g) (value b) (value e) (point_of p x) (point_of p d) (multipliers_in m) h k
right_answers_agree p s (Unbounded y d b e) (Optimal v x m) h k = (answers_agree p s).not_unbounded (value v) (value b) (value e) (point_of p x) (point_of p y) (point_of p d) (multipliers_in m) k h
right_answers_agree p s (Unbounded x d b e) (Infeasible m g) h k = (answers_agree p s).not_both (value g) (value b) (value e) (point_of p x) (point_of p d) (multipliers_in m) k h
right_answers_agree p s (Unbounded x d b e) (Unbounded y c a f) h k = tt
