-- The lines, and whether a token is left.
use Rattle.std.proofs.lemmas.Result.{err_from_is_err_and}
use Rattle.dcx_read.proofs.Parsing.{script-stops, script-more, script-whole}
use Rattle.dcx_read.proofs.parser.script.Goals as goal

pub returns-in_err-all : goal.returns-in_err-all
returns-in_err-all c =
    let p = err_from_is_err_and c.from_residual.result c.from_residual.ensures.1 in
    rw (p.1, p.2) (script-stops c.args.text.now c.args.tokens.now c.in_err-all.field-0.0 c.in_err-all.ensures.read)

pub returns-in-empty : goal.returns-in-empty
returns-in-empty c = script-whole c.args.text.now c.args.tokens.now c.in_ok-all.rest.now c.in_ok-all.ensures.read.0 _ c.in_ok-all.ensures.read.1.0 c.in-empty.len_below c.in_ok-all.ensures.read.1.1

pub returns-in-len1-up : goal.returns-in-len1-up
returns-in-len1-up c = script-more c.args.text.now c.args.tokens.now c.in_ok-all.rest.now c.in_ok-all.ensures.read.0 c.in_ok-all.ensures.read.1.0 c.in-len1-up.len_at_least
