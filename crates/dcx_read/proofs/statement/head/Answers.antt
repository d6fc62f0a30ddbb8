-- What the name, the word `in`, the expression and the beginning of the block are read from, one behind the other.
use Rattle.std.proofs.Common.{arith, Ok, Err, [], ◌∷◌, length}
use Rattle.std.proofs.lemmas.Result.{err_from_is_err_and}
use Rattle.dcx_syntax.specs.Terminal.{plain}
use Rattle.dcx_read.specs.Terminals.{terminals}
use Rattle.dcx_syntax.specs.Terminal as marks_of
use Rattle.dcx_syntax.specs.Statements.{repeats}
use Rattle.dcx_syntax.specs.View.{expr_view}
use Rattle.dcx_read.specs.declared.role.Role.TheVariants as roles
use Rattle.dcx_read.specs.Moves.{expr_s, name_s, in_s, colon_s, newline_s, indent_s, dedent_s, line_s, lines_s}
use Rattle.dcx_read.proofs.Progress.{front}
use Rattle.dcx_read.proofs.Descent.{part-read, mark-read, beside-read, mark-shorter, beside-shorter}
use Rattle.dcx_read.proofs.Rules.{in-gives, in-stops, colon-gives, colon-stops, newline-gives, newline-stops, indent-gives, indent-stops}
use Rattle.dcx_read.proofs.LineRules.{for-rule}
use Rattle.dcx_read.proofs.LineDescent.{head-reads}
use Rattle.dcx_read.proofs.statement.head.Goals as goal

pub returns-in_err-each-clause-read : goal.returns-in_err-each-clause-read
returns-in_err-each-clause-read c =
    let p = err_from_is_err_and c.from_residual.result c.from_residual.ensures.1 in
    rw (p.1, p.2) (mark-read line_s c.args.text.now (plain (marks_of.for c.args.place) ∷ terminals c.args.text.now c.args.tokens.now) in_s tt roles.In
    (expr_s ∷ colon_s ∷ newline_s ∷ indent_s ∷ line_s ∷ lines_s ∷ dedent_s ∷ []) (λ n ss f. front line_s ss
    (repeats c.args.place n f.1.0 f.1.1.1.1.1.0 f.1.1.1.1.1.1.0) f.1.1.1.1.1.1.1.1) (λ x. (x.0, x.1.now)) (in-gives c.args.text.now) (in-stops c.args.text.now)
    (Err c.in_err-each.field-0.0) c.name.result (part-read line_s c.args.text.now (plain (marks_of.for c.args.place) ∷ terminals c.args.text.now c.args.tokens.now) name_s
    (in_s ∷ expr_s ∷ colon_s ∷ newline_s ∷ indent_s ∷ line_s ∷ lines_s ∷ dedent_s ∷ []) (terminals c.args.text.now c.args.tokens.now)
    (λ ss f. front line_s ss (repeats c.args.place f.0 f.1.1.0 f.1.1.1.1.1.1.0 f.1.1.1.1.1.1.1.0) f.1.1.1.1.1.1.1.1.1) (λ x. (x.0, x.1.now))
    (for-rule c.args.place (terminals c.args.text.now c.args.tokens.now)) c.name.result c.name.ensures.read) c.in_err-each.ensures)

pub returns-clause-read : goal.returns-clause-read
returns-clause-read c =
    head-reads c.args.place (λ x. (x.0.0, (expr_view x.0.1, x.1.now))) c.args.text.now (plain (marks_of.for c.args.place) ∷ terminals c.args.text.now c.args.tokens.now) c.closed-2.result
    (mark-read line_s c.args.text.now (plain (marks_of.for c.args.place) ∷ terminals c.args.text.now c.args.tokens.now) indent_s tt roles.Indent
    (line_s ∷ lines_s ∷ dedent_s ∷ []) (λ u ss f. front line_s ss (repeats c.args.place u.0 (expr_view u.1) f.1.0 f.1.1.0) f.1.1.1.1) (λ x. (x.0, x.1.now))
    (indent-gives c.args.text.now) (indent-stops c.args.text.now) c.closed-2.result c.closed-ended.result
    (mark-read line_s c.args.text.now (plain (marks_of.for c.args.place) ∷ terminals c.args.text.now c.args.tokens.now) newline_s tt roles.Newline
    (indent_s ∷ line_s ∷ lines_s ∷ dedent_s ∷ []) (λ u ss f. front line_s ss (repeats c.args.place u.0 (expr_view u.1) f.1.1.0 f.1.1.1.0) f.1.1.1.1.1) (λ x. (x.0, x.1.now))
    (newline-gives c.args.text.now) (newline-stops c.args.text.now) c.closed-ended.result c.closed-headed.result
    (mark-read line_s c.args.text.now (plain (marks_of.for c.args.place) ∷ terminals c.args.text.now c.args.tokens.now) colon_s tt roles.Colon
    (newline_s ∷ indent_s ∷ line_s ∷ lines_s ∷ dedent_s ∷ []) (λ u ss f. front line_s ss (repeats c.args.place u.0 (expr_view u.1) f.1.1.1.0 f.1.1.1.1.0) f.1.1.1.1.1.1)
    (λ x. (x.0, x.1.now)) (colon-gives c.args.text.now) (colon-stops c.args.text.now) c.closed-headed.result c.beside-parts.result
    (beside-read line_s c.args.text.now (plain (marks_of.for c.args.place) ∷ terminals c.args.text.now c.args.tokens.now) expr_s
    (colon_s ∷ newline_s ∷ indent_s ∷ line_s ∷ lines_s ∷ dedent_s ∷ []) (terminals c.args.text.now c.in_ok-each.after.now)
    (λ n ss f. front line_s ss (repeats c.args.place n f.0 f.1.1.1.1.0 f.1.1.1.1.1.0) f.1.1.1.1.1.1.1) expr_view (λ x. ((x.0.0, x.0.1), x.1.now)) (λ x. (x.0, x.1.now))
    c.in_ok-each.each (mark-read line_s c.args.text.now (plain (marks_of.for c.args.place) ∷ terminals c.args.text.now c.args.tokens.now) in_s tt roles.In (expr_s ∷ colon_s
    ∷ newline_s ∷ indent_s ∷ line_s ∷ lines_s ∷ dedent_s ∷ []) (λ n ss f. front line_s ss (repeats c.args.place n f.1.0 f.1.1.1.1.1.0 f.1.1.1.1.1.1.0) f.1.1.1.1.1.1.1.1)
    (λ x. (x.0, x.1.now)) (in-gives c.args.text.now) (in-stops c.args.text.now) (Ok (c.in_ok-each.each, c.in_ok-each.after)) c.name.result (part-read line_s c.args.text.now
    (plain (marks_of.for c.args.place) ∷ terminals c.args.text.now c.args.tokens.now) name_s (in_s ∷ expr_s ∷ colon_s ∷ newline_s ∷ indent_s ∷ line_s ∷ lines_s ∷ dedent_s
    ∷ []) (terminals c.args.text.now c.args.tokens.now) (λ ss f. front line_s ss (repeats c.args.place f.0 f.1.1.0 f.1.1.1.1.1.1.0 f.1.1.1.1.1.1.1.0) f.1.1.1.1.1.1.1.1.1)
    (λ x. (x.0, x.1.now)) (for-rule c.args.place (terminals c.args.text.now c.args.tokens.now)) c.name.result c.name.ensures.read) c.in_ok-each.ensures)
    c.beside-parts.result c.expr.result c.expr.ensures.read c.beside-parts.ensures) c.closed-headed.ensures) c.closed-ended.ensures) c.closed-2.ensures)

pub returns-clause-shorter : goal.returns-clause-shorter
returns-clause-shorter c =
    (mark-shorter roles.Indent (λ x. (x.0, x.1.now)) (length c.args.tokens.now) c.closed-ended.result c.closed-2.result
    (mark-shorter roles.Newline (λ x. (x.0, x.1.now)) (length c.args.tokens.now) c.closed-headed.result c.closed-ended.result
    (mark-shorter roles.Colon (λ x. (x.0, x.1.now)) (length c.args.tokens.now) c.beside-parts.result c.closed-headed.result
    (beside-shorter (λ x. ((x.0.0, x.0.1), x.1.now)) (λ x. (x.0, x.1.now)) c.in_ok-each.each (length c.in_ok-each.after.now) (length c.args.tokens.now)
    (let a = mark-shorter roles.In (λ x. (x.0, x.1.now)) (length c.args.tokens.now) c.name.result
    (Ok (c.in_ok-each.each, c.in_ok-each.after)) c.name.ensures.shorter c.in_ok-each.ensures in omega (arith, a))
    c.expr.result c.beside-parts.result c.expr.ensures.shorter c.beside-parts.ensures) c.closed-headed.ensures) c.closed-ended.ensures) c.closed-2.ensures)
