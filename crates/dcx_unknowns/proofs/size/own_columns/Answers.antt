-- Each unknown of a variable has the columns of its kind.
use Rattle.std.proofs.Common.{◌*◌, sym, ap, ap₂, ◌∙◌}
use Rattle.dcx_linear.specs.Size.{columns_for}
use Rattle.dcx_unknowns.specs.Unknowns.{kind_of}
use Rattle.dcx_unknowns.proofs.Owners.{own_columns}
use Rattle.dcx_unknowns.proofs.size.own_columns.Goals as goal

pub returns : goal.returns
returns c = ap₂ (λ m n. m * n) c.own_count.ensures.count (c.columns.ensures ∙ ap columns_for (c.kind_of.ensures ∙ ap kind_of c.demanded.ensures)) ∙ sym (own_columns c.args.variable.now)
