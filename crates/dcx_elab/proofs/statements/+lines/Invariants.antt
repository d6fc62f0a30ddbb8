-- What is meant is what is left to be done at the present state.
use Rattle.std.proofs.Common.{◌≡◌, map}
use Rattle.dcx_syntax.specs.View.{line_view, lines_of}
use Rattle.dcx_signature.specs.View.{through_seen}
use Rattle.dcx_elab.specs.Statements.{line_means, lines_mean}
use Rattle.dcx_elab.proofs.Lines.{lines_from, turns_from}
use Rattle.dcx_elab.proofs.statements.+lines.Given as goal

abbrev pub invariant-lines-loop-tree : goal.invariant-lines-loop-tree
invariant-lines-loop-tree l = lines_mean (lines_from l.fn.trees 0) l.fn.state ≡ lines_mean (lines_from l.trees l.tree-index) l.state

abbrev pub invariant-line-loop-k : goal.invariant-line-loop-k
invariant-line-loop-k l =
    (line_means (line_view l.fn.tree) l.fn.state
    ≡ turns_from l.name.name (line_view l.first.value) (lines_of (map line_view l.rest.items)) (through_seen l.initial.through) l.k l.state)
    × (l.through ≡ l.initial.through)
