-- The word in front tells an import and a print, and any other line is a simple one.
use Rattle.std.proofs.Common.{length, refl}
use Rattle.dcx_read.specs.Terminals.{terminals}
use Rattle.dcx_syntax.specs.Statements.{importing}
use Rattle.dcx_syntax.specs.View.{line_view}
use Rattle.dcx_read.proofs.Descent.{made-length}
use Rattle.dcx_read.proofs.LineRules.{import-front, print-front}
use Rattle.dcx_read.proofs.LineDescent.{nearer, line-made}
use Rattle.dcx_read.proofs.statement.flat.Goals as goal

pub returns-in-Some-clause-read : goal.returns-in-Some-clause-read
returns-in-Some-clause-read c =
    line-made (λ x. (importing x.0, x.1.now)) (λ x. (line_view x.0, x.1.now)) c.args.text.now (terminals c.args.text.now c.args.tokens.now)
    (λ y. refl) c.import.result c.import_of.result
    (rw (import-front c.args.text.now c.args.tokens.now c.in-Some.behind.now c.in-Some.place c.in-Some.ensures.front) c.import.ensures.read) c.import_of.ensures

pub returns-in-Some-clause-shorter : goal.returns-in-Some-clause-shorter
returns-in-Some-clause-shorter c =
    made-length (λ x. (line_view x.0, x.1.now)) (λ x. (importing x.0, x.1.now)) (length c.args.tokens.now) c.import_of.result c.import.result (nearer (λ x. length x.1.now)
    (length c.in-Some.behind.now) (length c.args.tokens.now) c.in-Some.ensures.shorter c.import.result c.import.ensures.shorter) c.import_of.ensures

pub returns-in-Some-eat-clause-read : goal.returns-in-Some-eat-clause-read
returns-in-Some-eat-clause-read c =
    rw (print-front c.args.text.now c.args.tokens.now c.in-Some-eat.after.now c.in-Some-eat.place c.in-Some-eat.ensures.front) c.printed.ensures.read

pub returns-in-Some-eat-clause-shorter : goal.returns-in-Some-eat-clause-shorter
returns-in-Some-eat-clause-shorter c =
    nearer (λ x. length x.1.now) (length c.in-Some-eat.after.now) (length c.args.tokens.now) c.in-Some-eat.ensures.shorter c.printed.result c.printed.ensures.shorter

pub returns-clause-read : goal.returns-clause-read
returns-clause-read c =
    c.simple.ensures.read
