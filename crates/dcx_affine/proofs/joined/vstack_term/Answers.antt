-- The term of an entry of arrays one below the other is that of its row.
use Rattle.dcx_affine.specs.declared.slots.Line.TheVariants.{Row}
use Rattle.dcx_affine.proofs.Lines.{place_within}
use Rattle.dcx_affine.proofs.joined.vstack_term.Goals as goal

pub entry_of-requires-clause-argument : goal.entry_of-requires-clause-argument
entry_of-requires-clause-argument c = (place_within Row c.args.args.now c.args.rows.now _ c.requires.rows c.requires.row).argument

pub entry_of-requires-clause-row : goal.entry_of-requires-clause-row
entry_of-requires-clause-row c = (place_within Row c.args.args.now c.args.rows.now _ c.requires.rows c.requires.row).place
