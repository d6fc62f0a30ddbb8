-- What bounds every mixed number bounds the row.
use Rattle.dcx_links.specs.Matrix.{row_of}
use Rattle.dcx_chained.specs.Narrow.{size_at}
use Rattle.dcx_chained.proofs.Sizes.{sized_where}
use Rattle.dcx_chained.proofs.narrow.resize.Goals as goal

pub size_from-size-requires-clause-bound : goal.size_from-size-requires-clause-bound
size_from-size-requires-clause-bound c = λ lt. c.requires.mixed c.if-not-were_narrow.false c.mixed_size-bound.result (c.mixed_size-bound.ensures lt)

pub returns-clause-were : goal.returns-clause-were
returns-clause-were c = λ _. c.if-not-were_narrow.false

pub returns-clause-sized : goal.returns-clause-sized
returns-clause-sized c = λ t.
    let n = c.note_size.ensures in
    sized_where (size_at c.note_size.new.sizes c.args.i) (row_of c.args.links.now c.args.i) c.size_from-size.result (n.narrow t) (n.there t) c.size_from-size.ensures
