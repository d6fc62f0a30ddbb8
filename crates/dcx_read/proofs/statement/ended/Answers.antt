-- What the expression and the line's end behind it are read from.
use Rattle.std.proofs.Common.{length}
use Rattle.dcx_read.specs.declared.role.Role.TheVariants as roles
use Rattle.dcx_syntax.specs.View.{expr_view}
use Rattle.dcx_read.proofs.Descent.{mark-shorter}
use Rattle.dcx_read.proofs.LineDescent.{ended-reads}
use Rattle.dcx_read.proofs.statement.ended.Goals as goal

pub returns-clause-read : goal.returns-clause-read
returns-clause-read c =
    ended-reads expr_view (λ x. (x.0, x.1.now)) c.args.text.now c.args.tokens.now c.expr.result c.closed.result c.expr.ensures.read c.closed.ensures

pub returns-clause-shorter : goal.returns-clause-shorter
returns-clause-shorter c =
    mark-shorter roles.Newline (λ x. (x.0, x.1.now)) (length c.args.tokens.now) c.expr.result c.closed.result c.expr.ensures.shorter c.closed.ensures
