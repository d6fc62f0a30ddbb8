-- What the brackets, all between them, and the line's end are read from, one behind the other.
use Rattle.std.proofs.Common.{[], ◌∷◌, refl}
use Rattle.std.proofs.lemmas.Result.{err_from_is_err_and}
use Rattle.dcx_read.specs.declared.role.Role.TheVariants as roles
use Rattle.dcx_syntax.specs.declared.bracket.Bracket.TheVariants.{Round}
use Rattle.dcx_syntax.specs.Terminal.{plain}
use Rattle.dcx_read.specs.Terminals.{terminals}
use Rattle.dcx_syntax.specs.Terminal as marks_of
use Rattle.dcx_syntax.specs.Statements.{prints}
use Rattle.dcx_read.specs.Moves.{closes_s, opens_s, newline_s, balanced_s, line_s}
use Rattle.dcx_read.proofs.Progress.{goes, stops, stops-at}
use Rattle.dcx_read.proofs.Rules.{closes_round-gives, closes_round-stops, newline-gives, newline-stops}
use Rattle.dcx_read.proofs.Descent.{finish, token-gives}
use Rattle.dcx_read.proofs.LineRules.{print-rule, opens-none}
use Rattle.dcx_read.proofs.statement.printed.Goals as goal

pub returns-in_default-clause-read : goal.returns-in_default-clause-read
returns-in_default-clause-read c =
    stops-at line_s opens_s (plain (marks_of.print c.args.place) ∷ (terminals c.args.text.now c.args.tokens.now)) (terminals c.args.text.now c.args.tokens.now)
    (terminals c.args.text.now c.args.tokens.now) (balanced_s ∷ (closes_s Round) ∷ newline_s ∷ []) _ (print-rule c.args.place (terminals c.args.text.now c.args.tokens.now))
    (opens-none c.args.text.now c.args.tokens.now c.in_default.ensures.front)

pub returns-in_err-closing-clause-read : goal.returns-in_err-closing-clause-read
returns-in_err-closing-clause-read c =
    let p = err_from_is_err_and c.from_residual.result c.from_residual.ensures.1 in
    rw (p.1, p.2) (stops line_s balanced_s (plain (marks_of.print c.args.place) ∷ (terminals c.args.text.now c.args.tokens.now))
    (terminals c.args.text.now c.in-Some.inside.now) ((closes_s Round) ∷ newline_s ∷ []) _ c.args.text.now c.in_err-closing.field-0.0
    (goes line_s opens_s (plain (marks_of.print c.args.place) ∷ (terminals c.args.text.now c.args.tokens.now)) (terminals c.args.text.now c.args.tokens.now)
    (terminals c.args.text.now c.in-Some.inside.now) (balanced_s ∷ (closes_s Round) ∷ newline_s ∷ []) _ c.in-Some.opener
    (print-rule c.args.place (terminals c.args.text.now c.args.tokens.now)) (token-gives opens_s c.in-Some.opener
    (roles.Opens Round) c.in-Some.opener c.args.text.now c.args.tokens.now c.in-Some.inside.now c.in-Some.ensures.front (λ b. refl))) c.in_err-closing.ensures.read)

pub returns-in_err-end-clause-read : goal.returns-in_err-end-clause-read
returns-in_err-end-clause-read c =
    let p = err_from_is_err_and c.from_residual-in_err-end.result c.from_residual-in_err-end.ensures.1 in
    rw (p.1, p.2) (stops line_s (closes_s Round) (plain (marks_of.print c.args.place) ∷ (terminals c.args.text.now c.args.tokens.now))
    (terminals c.args.text.now c.in_ok-closing.closing.now) (newline_s ∷ []) _ c.args.text.now c.in_err-end.field-0.0
    (goes line_s balanced_s (plain (marks_of.print c.args.place) ∷ (terminals c.args.text.now c.args.tokens.now)) (terminals c.args.text.now c.in-Some.inside.now)
    (terminals c.args.text.now c.in_ok-closing.closing.now) ((closes_s Round) ∷ newline_s ∷ []) _ c.in_ok-closing.ensures.read.0
    (goes line_s opens_s (plain (marks_of.print c.args.place) ∷ (terminals c.args.text.now c.args.tokens.now)) (terminals c.args.text.now c.args.tokens.now)
    (terminals c.args.text.now c.in-Some.inside.now) (balanced_s ∷ (closes_s Round) ∷ newline_s ∷ []) _ c.in-Some.opener
    (print-rule c.args.place (terminals c.args.text.now c.args.tokens.now)) (token-gives opens_s c.in-Some.opener
    (roles.Opens Round) c.in-Some.opener c.args.text.now c.args.tokens.now c.in-Some.inside.now c.in-Some.ensures.front (λ b. refl))) c.in_ok-closing.ensures.read.1)
    (closes_round-stops c.args.text.now c.in_ok-closing.closing.now c.in_err-end.field-0.0 c.in_err-end.ensures.refused))

pub returns-in_err-rest-clause-read : goal.returns-in_err-rest-clause-read
returns-in_err-rest-clause-read c =
    let p = err_from_is_err_and c.from_residual-in_err-rest.result c.from_residual-in_err-rest.ensures.1 in
    rw (p.1, p.2) (stops line_s newline_s (plain (marks_of.print c.args.place) ∷ (terminals c.args.text.now c.args.tokens.now)) (terminals c.args.text.now c.in_ok-end.end.now)
    ([]) _ c.args.text.now c.in_err-rest.field-0.0 (goes line_s (closes_s Round) (plain (marks_of.print c.args.place) ∷ (terminals c.args.text.now c.args.tokens.now))
    (terminals c.args.text.now c.in_ok-closing.closing.now) (terminals c.args.text.now c.in_ok-end.end.now) (newline_s ∷ []) _ tt
    (goes line_s balanced_s (plain (marks_of.print c.args.place) ∷ (terminals c.args.text.now c.args.tokens.now)) (terminals c.args.text.now c.in-Some.inside.now)
    (terminals c.args.text.now c.in_ok-closing.closing.now) ((closes_s Round) ∷ newline_s ∷ []) _ c.in_ok-closing.ensures.read.0
    (goes line_s opens_s (plain (marks_of.print c.args.place) ∷ (terminals c.args.text.now c.args.tokens.now)) (terminals c.args.text.now c.args.tokens.now)
    (terminals c.args.text.now c.in-Some.inside.now) (balanced_s ∷ (closes_s Round) ∷ newline_s ∷ []) _ c.in-Some.opener
    (print-rule c.args.place (terminals c.args.text.now c.args.tokens.now)) (token-gives opens_s c.in-Some.opener
    (roles.Opens Round) c.in-Some.opener c.args.text.now c.args.tokens.now c.in-Some.inside.now c.in-Some.ensures.front (λ b. refl))) c.in_ok-closing.ensures.read.1)
    (closes_round-gives c.args.text.now c.in_ok-closing.closing.now c.in_ok-end.end.now c.in_ok-end.ensures.front))
    (newline-stops c.args.text.now c.in_ok-end.end.now c.in_err-rest.field-0.0 c.in_err-rest.ensures.refused))

pub returns-clause-read : goal.returns-clause-read
returns-clause-read c = (
  (prints c.args.place c.in-Some.opener c.in_ok-closing.ensures.read.0),
  (
    finish line_s newline_s (plain (marks_of.print c.args.place) ∷ (terminals c.args.text.now c.args.tokens.now)) (terminals c.args.text.now c.in_ok-end.end.now)
        (terminals c.args.text.now c.in_ok-rest.rest.now) (λ z. (prints c.args.place c.in-Some.opener c.in_ok-closing.ensures.read.0)) tt _
        (goes line_s (closes_s Round) (plain (marks_of.print c.args.place) ∷ (terminals c.args.text.now c.args.tokens.now))
        (terminals c.args.text.now c.in_ok-closing.closing.now) (terminals c.args.text.now c.in_ok-end.end.now) (newline_s ∷ []) _ tt
        (goes line_s balanced_s (plain (marks_of.print c.args.place) ∷ (terminals c.args.text.now c.args.tokens.now)) (terminals c.args.text.now c.in-Some.inside.now)
        (terminals c.args.text.now c.in_ok-closing.closing.now) ((closes_s Round) ∷ newline_s ∷ []) _ c.in_ok-closing.ensures.read.0 (goes line_s opens_s
        (plain (marks_of.print c.args.place) ∷ (terminals c.args.text.now c.args.tokens.now)) (terminals c.args.text.now c.args.tokens.now) (terminals c.args.text.now
        c.in-Some.inside.now) (balanced_s ∷ (closes_s Round) ∷ newline_s ∷ []) _ c.in-Some.opener (print-rule c.args.place (terminals c.args.text.now c.args.tokens.now))
        (token-gives opens_s c.in-Some.opener (roles.Opens Round) c.in-Some.opener c.args.text.now c.args.tokens.now c.in-Some.inside.now c.in-Some.ensures.front (λ b. refl)))
        c.in_ok-closing.ensures.read.1) (closes_round-gives c.args.text.now c.in_ok-closing.closing.now c.in_ok-end.end.now c.in_ok-end.ensures.front))
        (newline-gives c.args.text.now c.in_ok-end.end.now c.in_ok-rest.rest.now c.in_ok-rest.ensures.front) (refl),
    c.print_of.ensures,
  ),
)
