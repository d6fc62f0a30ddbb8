-- The word `as` in front wants a name behind it, and anything else is no alias.
use Rattle.std.proofs.Common.{Some, [], refl}
use Rattle.std.proofs.lemmas.Result.{err_from_is_err_and}
use Rattle.dcx_read.specs.Terminals.{terminals}
use Rattle.dcx_read.specs.Moves.{name_s, alias_s}
use Rattle.dcx_read.proofs.Progress.{stops}
use Rattle.dcx_read.proofs.Descent.{finish}
use Rattle.dcx_read.proofs.LineRules.{alias-none, alias-as}
use Rattle.dcx_read.proofs.statement.alias.Goals as goal

pub returns-in_default-clause-read : goal.returns-in_default-clause-read
returns-in_default-clause-read c =
    alias-none c.args.text.now c.args.tokens.now c.in_default.ensures.front

pub returns-in_err-word-clause-read : goal.returns-in_err-word-clause-read
returns-in_err-word-clause-read c =
    let p = err_from_is_err_and c.from_residual.result c.from_residual.ensures.1 in
    rw (p.1, p.2) (stops alias_s name_s (terminals c.args.text.now c.args.tokens.now) (terminals c.args.text.now c.in-Some.behind.now)
    ([]) _ c.args.text.now c.in_err-word.field-0.0 (alias-as c.args.text.now c.args.tokens.now c.in-Some.behind.now _ c.in-Some.ensures.front) c.in_err-word.ensures.read)

pub returns-clause-read : goal.returns-clause-read
returns-clause-read c =
    finish alias_s name_s (terminals c.args.text.now c.args.tokens.now) (terminals c.args.text.now c.in-Some.behind.now) (terminals c.args.text.now c.in_ok-word.rest.now)
    (λ n. Some n) c.in_ok-word.word _ (alias-as c.args.text.now c.args.tokens.now c.in-Some.behind.now _ c.in-Some.ensures.front) c.in_ok-word.ensures.read (refl)
