-- How a setting ends at which a problem with marked variables is solved.
use Rattle.std.specs.Prelude.{ℕ, List, ◌++◌, None, codes, decimal}
use Rattle.dcx_tree.specs.declared.constraint.Sense.{Sense}
use Rattle.dcx_answer.specs.declared.stop.Stop.TheVariants as stops
use Rattle.dcx_lines.specs.Lines.{number_line}
use Rattle.dcx_answer.specs.declared.whole_answer.WholeAnswer.{WholeAnswer}
use Rattle.dcx_answer.specs.declared.whole_answer.WholeAnswer.TheVariants.{Optimal, Infeasible}
use Rattle.dcx_answer.specs.declared.whole_answer.BranchStop.{BranchStop}
use Rattle.dcx_answer.specs.declared.whole_answer.BranchStop.TheVariants as branch
use Rattle.dcx_report.specs.AnswerText.{user_number, var_lines}
use Rattle.dcx_report.specs.StopText.{stop_name, stop_details, stopped_text}

-- how many nodes a run has
unfoldable pub nodes_line : ℕ → List ℕ
nodes_line nodes = codes "nodes " ++ decimal nodes ++ codes "\n"

-- what stands behind the number of a setting that has this answer; its tree isn't told
unfoldable pub whole_text : Sense → WholeAnswer → List ℕ
whole_text sense (Optimal value point tree nodes) = codes " whole optimal\n" ++ number_line (codes "value") (user_number sense value) ++ var_lines point ++ nodes_line nodes
whole_text sense (Infeasible tree nodes) = codes " whole infeasible\n" ++ nodes_line nodes

-- a node is stopped
unfoldable pub node_text : ℕ → List ℕ
node_text node = codes " stopped 33 Branch node " ++ decimal node ++ codes " "

-- the run has too many nodes
unfoldable pub limit_text : ℕ → List ℕ
limit_text limit = codes " stopped 32 NodeLimit " ++ decimal limit ++ codes "\n"

-- what stands behind the number of a setting at which the run of nodes is stopped, which names no node of the problem
unfoldable pub branch_stop_text : BranchStop → List ℕ
branch_stop_text branch.RelaxationUnbounded = codes " stopped 30 RelaxationUnbounded\n"
branch_stop_text (branch.NodeLimit limit) = limit_text limit
branch_stop_text (branch.Node node stop) = node_text node ++ stop_name stop ++ stop_details None stop ++ codes "\n"
branch_stop_text branch.Memory = stopped_text None stops.Memory
