-- What the module, its alias and the line's end are read from, one behind the other.
use Rattle.std.proofs.Common.{[], ◌∷◌, refl}
use Rattle.std.proofs.lemmas.Result.{err_from_is_err_and}
use Rattle.dcx_syntax.specs.Terminal.{plain}
use Rattle.dcx_read.specs.Terminals.{terminals}
use Rattle.dcx_syntax.specs.Terminal as marks_of
use Rattle.dcx_read.specs.Lines.{module_at}
use Rattle.dcx_read.specs.Moves.{newline_s, module_s, alias_s, line_s}
use Rattle.dcx_read.proofs.Progress.{goes, stops}
use Rattle.dcx_read.proofs.Rules.{newline-gives, newline-stops}
use Rattle.dcx_read.proofs.Descent.{finish}
use Rattle.dcx_read.proofs.LineRules.{import-rule, importing_of}
use Rattle.dcx_read.proofs.statement.import.Goals as goal

pub returns-in_err-which-clause-read : goal.returns-in_err-which-clause-read
returns-in_err-which-clause-read c =
    let p = err_from_is_err_and c.from_residual.result c.from_residual.ensures.1 in
    rw (p.1, p.2) (stops line_s module_s (plain (marks_of.import c.args.place) ∷ (terminals c.args.text.now c.args.tokens.now)) (terminals c.args.text.now c.args.tokens.now)
    (alias_s ∷ newline_s ∷ []) _ c.args.text.now c.in_err-which.field-0.0
    (import-rule c.args.place (terminals c.args.text.now c.args.tokens.now)) c.in_err-which.ensures.read)

pub returns-in_err-called-clause-read : goal.returns-in_err-called-clause-read
returns-in_err-called-clause-read c =
    let p = err_from_is_err_and c.from_residual-in_err-called.result c.from_residual-in_err-called.ensures.1 in
    rw (p.1, p.2) (stops line_s alias_s (plain (marks_of.import c.args.place) ∷ (terminals c.args.text.now c.args.tokens.now))
    (terminals c.args.text.now c.in_ok-which.behind.now) (newline_s ∷ []) _ c.args.text.now c.in_err-called.field-0.0
    (goes line_s module_s (plain (marks_of.import c.args.place) ∷ (terminals c.args.text.now c.args.tokens.now)) (terminals c.args.text.now c.args.tokens.now)
    (terminals c.args.text.now c.in_ok-which.behind.now) (alias_s ∷ newline_s ∷ []) _ (module_at c.in_ok-which.which c.in_ok-which.module_place)
    (import-rule c.args.place (terminals c.args.text.now c.args.tokens.now)) c.in_ok-which.ensures.read) c.in_err-called.ensures.read)

pub returns-in_err-rest-clause-read : goal.returns-in_err-rest-clause-read
returns-in_err-rest-clause-read c =
    let p = err_from_is_err_and c.from_residual-in_err-rest.result c.from_residual-in_err-rest.ensures.1 in
    rw (p.1, p.2) (stops line_s newline_s (plain (marks_of.import c.args.place) ∷ (terminals c.args.text.now c.args.tokens.now))
    (terminals c.args.text.now c.in_ok-called.end.now) ([]) _ c.args.text.now c.in_err-rest.field-0.0
    (goes line_s alias_s (plain (marks_of.import c.args.place) ∷ (terminals c.args.text.now c.args.tokens.now)) (terminals c.args.text.now c.in_ok-which.behind.now)
    (terminals c.args.text.now c.in_ok-called.end.now) (newline_s ∷ []) _ c.in_ok-called.called
    (goes line_s module_s (plain (marks_of.import c.args.place) ∷ (terminals c.args.text.now c.args.tokens.now)) (terminals c.args.text.now c.args.tokens.now)
    (terminals c.args.text.now c.in_ok-which.behind.now) (alias_s ∷ newline_s ∷ []) _ (module_at c.in_ok-which.which c.in_ok-which.module_place)
    (import-rule c.args.place (terminals c.args.text.now c.args.tokens.now)) c.in_ok-which.ensures.read) c.in_ok-called.ensures.read)
    (newline-stops c.args.text.now c.in_ok-called.end.now c.in_err-rest.field-0.0 c.in_err-rest.ensures.refused))

pub returns-clause-read : goal.returns-clause-read
returns-clause-read c =
    finish line_s newline_s (plain (marks_of.import c.args.place) ∷ (terminals c.args.text.now c.args.tokens.now)) (terminals c.args.text.now c.in_ok-called.end.now)
    (terminals c.args.text.now c.in_ok-rest.rest.now) (λ z. importing_of c.args.place (module_at c.in_ok-which.which c.in_ok-which.module_place) c.in_ok-called.called) tt _
    (goes line_s alias_s (plain (marks_of.import c.args.place) ∷ (terminals c.args.text.now c.args.tokens.now)) (terminals c.args.text.now c.in_ok-which.behind.now)
    (terminals c.args.text.now c.in_ok-called.end.now) (newline_s ∷ []) _ c.in_ok-called.called
    (goes line_s module_s (plain (marks_of.import c.args.place) ∷ (terminals c.args.text.now c.args.tokens.now)) (terminals c.args.text.now c.args.tokens.now)
    (terminals c.args.text.now c.in_ok-which.behind.now) (alias_s ∷ newline_s ∷ []) _ (module_at c.in_ok-which.which c.in_ok-which.module_place)
    (import-rule c.args.place (terminals c.args.text.now c.args.tokens.now)) c.in_ok-which.ensures.read) c.in_ok-called.ensures.read)
    (newline-gives c.args.text.now c.in_ok-called.end.now c.in_ok-rest.rest.now c.in_ok-rest.ensures.front) (refl)
