-- The first key of the one list is above the last of the other, so all of its keys are above all of the other's.
use Rattle.std.proofs.lemmas.Cmp.{ranked}
use Rattle.dcx_linear.proofs.Behind.{all_behind}
use Rattle.dcx_linear.proofs.term.goes_on.Goals as goal

pub returns-in-Less : goal.returns-in-Less
returns-in-Less g c =
    λ t. all_behind g.T.Term.key c.args.a.now c.args.b.now c.requires.left c.requires.right c.index-a-a.result c.index-b-0.result c.index-a-a.is c.index-b-0.is
    (ranked _ _ _ c.in-Less.ensures)
