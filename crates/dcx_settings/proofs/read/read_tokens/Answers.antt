-- Lines are read to the end of the tokens.
use Rattle.std.proofs.Common.{◌≡◌, ℕ, true, length, subst, sym, arith}
use Rattle.std.specs.Prelude.{◌==◌}
use Rattle.std.proofs.lemmas.Bool.Decides.{nat_tests}
use Rattle.std.proofs.lemmas.List.{length-map}
use Rattle.dcx_settings.specs.Terminal.{terminals, terminal_of}
use Rattle.dcx_settings.specs.Reading.{StopsUnexpected}
use Rattle.dcx_settings.specs.Meaning.{AreSettings}
use Rattle.dcx_settings.specs.Steps.{AreLinesRead}
use Rattle.dcx_settings.proofs.Rows.{err_from}
use Rattle.dcx_settings.proofs.Lines.{lines_more, lines_stop, lines_end}
use Rattle.dcx_settings.proofs.read.read_tokens.Goals as goal

pub returns-in_err-next-clause-stop : goal.returns-in_err-next-clause-stop
returns-in_err-next-clause-stop c =
    err_from (StopsUnexpected c.args.text.now (terminals c.args.text.now c.args.tokens.now)) c.from_residual.result c.in_err-next.field-0.0 c.from_residual.ensures.1
    (lines_stop (terminals c.args.text.now c.args.tokens.now)
    (terminals c.args.text.now c.lines.rest.now) c.lines.found.items c.args.text.now c.in_err-next.field-0.0 c.lines.invariant c.in_err-next.ensures.stop)

pub lines-preserved : goal.lines-preserved
lines-preserved c =
    let us = terminals c.args.text.now c.args.tokens.now in
    let rest = terminals c.args.text.now c.in_ok-next.behind.now in
    subst (λ xs. AreLinesRead us xs rest) (sym c.in_ok-push.ensures.items) (lines_more us _ rest c.lines.found.items c.in_ok-next.next c.lines.invariant c.in_ok-next.ensures.ok)

pub returns-clause-ok : goal.returns-clause-ok
returns-clause-ok c =
    let us = terminals c.args.text.now c.args.tokens.now in
    let l = length-map c.lines.rest.now (terminal_of c.args.text.now) in
    let e = no_more (length c.lines.rest.now) c.lines-test.ensures in
    subst (AreSettings us) (sym c.from_vec.ensures) (lines_end us (terminals c.args.text.now c.lines.rest.now) c.lines.found.items (omega (arith, l, e)) c.lines.invariant)
  where
    no_more : (k : ℕ) → true ≡ (k == 0) → k ≡ 0
    no_more k e = grind (arith, nat_tests)
