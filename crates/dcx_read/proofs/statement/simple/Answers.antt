-- A line is told by the tokens in front: it sets a name, adds to one, sets a value, or is an expression.
use Rattle.std.proofs.Common.{length, refl}
use Rattle.dcx_read.specs.Terminals.{terminals, named_by}
use Rattle.dcx_syntax.specs.Statements.{assign, add_to, set_value, evaluate}
use Rattle.dcx_syntax.specs.View.{expr_view, line_view}
use Rattle.dcx_read.proofs.Descent.{made-length}
use Rattle.dcx_read.proofs.LineRules.{line-assign, line-add, line-value, line-expr}
use Rattle.dcx_read.proofs.LineDescent.{line-alone, line-ends, line-shorter}
use Rattle.dcx_read.proofs.statement.simple.Goals as goal

pub returns-in-Some-clause-read : goal.returns-in-Some-clause-read
returns-in-Some-clause-read c =
    line-ends (λ x. ((x.0.0, x.0.1), x.1.now)) (λ x. (x.0, x.1.now)) (λ x. (line_view x.0, x.1.now)) expr_view assign c.in_ok-word.word
    (named_by c.args.text.now c.in-Some.head.now) c.in_ok-word.ensures c.args.text.now (terminals c.args.text.now c.args.tokens.now) c.in-Some.behind.now
    (line-assign c.args.text.now c.args.tokens.now c.in-Some.behind.now c.in-Some.head.now _ c.in-Some.ensures.front)
    (λ x. refl) c.ended.result c.beside.result c.assign_of.result c.ended.ensures.read c.beside.ensures c.assign_of.ensures

pub returns-in-Some-clause-shorter : goal.returns-in-Some-clause-shorter
returns-in-Some-clause-shorter c =
    line-shorter (λ x. ((x.0.0, x.0.1), x.1.now)) (λ x. (x.0, x.1.now)) (λ x. (line_view x.0, x.1.now)) expr_view assign c.in_ok-word.word
    (named_by c.args.text.now c.in-Some.head.now) c.in_ok-word.ensures (length c.in-Some.behind.now)
    (length c.args.tokens.now) c.in-Some.ensures.shorter c.ended.result c.beside.result c.assign_of.result c.ended.ensures.shorter c.beside.ensures c.assign_of.ensures

pub returns-in-Some-eat_name_and-clause-read : goal.returns-in-Some-eat_name_and-clause-read
returns-in-Some-eat_name_and-clause-read c =
    line-ends (λ x. ((x.0.0, x.0.1), x.1.now)) (λ x. (x.0, x.1.now)) (λ x. (line_view x.0, x.1.now)) expr_view
    (λ n x. add_to n c.in-Some-eat_name_and.place x) c.in_ok-target.target (named_by c.args.text.now c.in-Some-eat_name_and.head.now) c.in_ok-target.ensures c.args.text.now
    (terminals c.args.text.now c.args.tokens.now) c.in-Some-eat_name_and.after.now (line-add c.args.text.now c.args.tokens.now c.in-Some-eat_name_and.after.now
    c.in-Some-eat_name_and.head.now c.in-Some-eat_name_and.place c.in-Some-eat_name_and.ensures.front) (λ x. refl) c.ended-in-Some-eat_name_and.result
    c.beside-in-Some-eat_name_and.result c.add_to_of.result c.ended-in-Some-eat_name_and.ensures.read c.beside-in-Some-eat_name_and.ensures c.add_to_of.ensures

pub returns-in-Some-eat_name_and-clause-shorter : goal.returns-in-Some-eat_name_and-clause-shorter
returns-in-Some-eat_name_and-clause-shorter c =
    line-shorter (λ x. ((x.0.0, x.0.1), x.1.now)) (λ x. (x.0, x.1.now)) (λ x. (line_view x.0, x.1.now)) expr_view
    (λ n x. add_to n c.in-Some-eat_name_and.place x) c.in_ok-target.target (named_by c.args.text.now c.in-Some-eat_name_and.head.now) c.in_ok-target.ensures
    (length c.in-Some-eat_name_and.after.now) (length c.args.tokens.now) c.in-Some-eat_name_and.ensures.shorter c.ended-in-Some-eat_name_and.result
    c.beside-in-Some-eat_name_and.result c.add_to_of.result c.ended-in-Some-eat_name_and.ensures.shorter c.beside-in-Some-eat_name_and.ensures c.add_to_of.ensures

pub returns-in-Some-eat_value-clause-read : goal.returns-in-Some-eat_value-clause-read
returns-in-Some-eat_value-clause-read c =
    line-ends (λ x. ((x.0.0, x.0.1), x.1.now)) (λ x. (x.0, x.1.now)) (λ x. (line_view x.0, x.1.now)) expr_view (λ n x. set_value n c.in-Some-eat_value.place x)
    c.in_ok-parameter.parameter (named_by c.args.text.now c.in-Some-eat_value.head.now) c.in_ok-parameter.ensures c.args.text.now
    (terminals c.args.text.now c.args.tokens.now) c.in-Some-eat_value.inside.now (line-value c.args.text.now c.args.tokens.now c.in-Some-eat_value.inside.now
    c.in-Some-eat_value.head.now c.in-Some-eat_value.place c.in-Some-eat_value.ensures.front) (λ x. refl) c.ended-in-Some-eat_value.result c.beside-in-Some-eat_value.result
    c.set_value_of.result c.ended-in-Some-eat_value.ensures.read c.beside-in-Some-eat_value.ensures c.set_value_of.ensures

pub returns-in-Some-eat_value-clause-shorter : goal.returns-in-Some-eat_value-clause-shorter
returns-in-Some-eat_value-clause-shorter c =
    line-shorter (λ x. ((x.0.0, x.0.1), x.1.now)) (λ x. (x.0, x.1.now)) (λ x. (line_view x.0, x.1.now)) expr_view
    (λ n x. set_value n c.in-Some-eat_value.place x) c.in_ok-parameter.parameter (named_by c.args.text.now c.in-Some-eat_value.head.now) c.in_ok-parameter.ensures
    (length c.in-Some-eat_value.inside.now) (length c.args.tokens.now) c.in-Some-eat_value.ensures.shorter c.ended-in-Some-eat_value.result
    c.beside-in-Some-eat_value.result c.set_value_of.result c.ended-in-Some-eat_value.ensures.shorter c.beside-in-Some-eat_value.ensures c.set_value_of.ensures

pub returns-clause-read : goal.returns-clause-read
returns-clause-read c =
    line-alone (λ x. (x.0, x.1.now)) (λ x. (line_view x.0, x.1.now)) expr_view evaluate c.args.text.now (terminals c.args.text.now c.args.tokens.now) c.args.tokens.now
    (line-expr c.args.text.now c.args.tokens.now c.in_default.ensures.front c.in_default-eat_name_and.ensures.front c.in_default-eat_value.ensures.front c.requires.import
    c.requires.print c.requires.block) (λ x. refl) c.ended-2.result c.evaluate_of.result c.ended-2.ensures.read c.evaluate_of.ensures

pub returns-clause-shorter : goal.returns-clause-shorter
returns-clause-shorter c =
    made-length (λ x. (line_view x.0, x.1.now)) (λ y. (evaluate (expr_view y.0), y.1.now))
    (length c.args.tokens.now) c.evaluate_of.result c.ended-2.result c.ended-2.ensures.shorter c.evaluate_of.ensures
