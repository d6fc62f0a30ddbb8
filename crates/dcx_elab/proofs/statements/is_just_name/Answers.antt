-- A name is alone where no trailer follows it.
use Rattle.std.proofs.Common.{sym, ◌∙◌}
use Rattle.dcx_elab.proofs.Alone.{just-name, none-vec}
use Rattle.dcx_elab.proofs.statements.is_just_name.Goals as goal

pub returns-in-Name : goal.returns-in-Name
returns-in-Name c = sym (just-name c.args.tree.now c.in-Name.field-0 c.in-Name.is ∙ none-vec c.args.tree.now.trailers c.is_empty.result c.is_empty.ensures)
