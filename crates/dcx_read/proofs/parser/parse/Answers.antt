-- The text, its tokens, and then their tree.
use Rattle.std.proofs.Common.{Err, None, ap, sym, subst, ◌∙◌}
use Rattle.std.proofs.lemmas.Result.{err_from_is_err_and}
use Rattle.dcx_tokens.specs.Lexed.{Lexes}
use Rattle.dcx_tokens.specs.Position.{end_of}
use Rattle.dcx_tokens.specs.Reading.{IsLexed}
use Rattle.dcx_read.proofs.Parsing.{text-reads, lex-reads, parse-reads}
use Rattle.dcx_read.proofs.parser.parse.Goals as goal

pub returns-in_err-text : goal.returns-in_err-text
returns-in_err-text c =
    let p = err_from_is_err_and c.from_residual.result c.from_residual.ensures.1 in
    rw (p.1, p.2) (text-reads c.args.bytes.now c.in_err-text.field-0.0 c.in_err-text.ensures)

pub returns-in_err-all : goal.returns-in_err-all
returns-in_err-all c =
    let p = err_from_is_err_and c.from_residual-in_err-all.result c.from_residual-in_err-all.ensures.1 in
    rw (p.1, p.2) (lex-reads c.args.bytes.now c.in_err-all.field-0.0 (subst (λ xs. Lexes xs (Err c.in_err-all.field-0.0)) c.in_ok-text.ensures.0 c.in_err-all.ensures) c.in_ok-text.ensures.1)

pub returns : goal.returns
returns c =
    parse-reads c.args.bytes.now c.as_slice.result.now c.end_place.result _
    (record {
      text = c.in_ok-text.ensures.1;
      lexed = subst (λ ts. IsLexed c.args.bytes.now ts None) (sym c.as_slice.ensures)
          (subst (λ xs. IsLexed xs c.in_ok-all.all None) c.in_ok-text.ensures.0 c.in_ok-all.ensures);
    })
    (c.end_place.ensures ∙ ap end_of c.in_ok-text.ensures.0) c.parse_tokens.ensures
