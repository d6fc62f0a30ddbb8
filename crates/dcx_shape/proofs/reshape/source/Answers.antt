-- By rows an entry keeps its place.
use Rattle.dcx_shape.specs.Shape.{sides_of}
use Rattle.dcx_shape.proofs.Reshapes.{same_place}
use Rattle.dcx_shape.proofs.reshape.source.Goals as goal

pub returns-else-by_columns : goal.returns-else-by_columns
returns-else-by_columns c = record { source = same_place c.args.by_columns (sides_of c.args.from) (sides_of c.args.to) c.args.k c.if-by_columns.false c.requires.sizes c.requires.entry }
