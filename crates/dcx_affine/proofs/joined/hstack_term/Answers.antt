-- The term of an entry of arrays side by side is that of its column.
use Rattle.std.proofs.Common.{◌∙◌}
use Rattle.dcx_atom.specs.Arrays.{sides_list}
use Rattle.dcx_affine.specs.declared.slots.Line.TheVariants.{Column}
use Rattle.dcx_affine.proofs.Lines.{place_within}
use Rattle.dcx_affine.proofs.Stacks.{hstack_term_is, below_length}
use Rattle.dcx_affine.proofs.joined.hstack_term.Goals as goal

pub entry_of-requires-clause-argument : goal.entry_of-requires-clause-argument
entry_of-requires-clause-argument c = (place_within Column c.args.args.now c.args.columns.now _ c.requires.columns (below_length c.args.k _ c.requires.some)).argument

pub entry_of-requires-clause-column : goal.entry_of-requires-clause-column
entry_of-requires-clause-column c = (place_within Column c.args.args.now c.args.columns.now _ c.requires.columns (below_length c.args.k _ c.requires.some)).place

pub returns : goal.returns
returns c = c.entry_of.ensures ∙ hstack_term_is (sides_list c.args.args.now) c.args.columns.now c.args.k c.requires.columns
