-- A name, a number, a text, a truth value or `None` in front is the primary, and else there is none.
use Rattle.std.proofs.Common.{rules, ◌≡◌, ◌∙◌, refl, sym, ap}
use Rattle.dcx_read.specs.declared.role.Role.TheVariants as roles
use Rattle.dcx_read.specs.Terminals.{terminals, named_by, spelled}
use Rattle.dcx_syntax.specs.Expressions.{name_at, number_at, text_at, truth_at, none_at}
use Rattle.dcx_syntax.specs.View.{primary_view}
use Rattle.dcx_read.specs.Moves.{primary_s}
use Rattle.dcx_read.proofs.Progress.{gives-is}
use Rattle.dcx_read.proofs.Rules.{leaf-gives}
use Rattle.dcx_read.proofs.Descent.{token-gives, not-leaf}
use Rattle.dcx_read.proofs.expression.leaf.Goals as goal

pub returns-in-Some-clause-read : goal.returns-in-Some-clause-read
returns-in-Some-clause-read c =
    gives-is primary_s (terminals c.args.text.now c.args.tokens.now) (terminals c.args.text.now c.in-Some.rest.now) _ _
    (ap name_at (sym c.in_ok-word.ensures) ∙ sym c.name_of.ensures) (leaf-gives primary_s (name_at (named_by c.args.text.now c.in-Some.head.now)) roles.Name c.args.text.now
    c.args.tokens.now c.in-Some.rest.now c.in-Some.head.now c.in-Some.ensures.front.parts c.in-Some.ensures.front.role refl)

pub returns-in-Some-eat_number-clause-read : goal.returns-in-Some-eat_number-clause-read
returns-in-Some-eat_number-clause-read c =
    gives-is primary_s (terminals c.args.text.now c.args.tokens.now) (terminals c.args.text.now c.in-Some-eat_number.rest.now) _ _ (sym c.number_of.ensures)
    (token-gives primary_s (number_at c.in-Some-eat_number.value c.in-Some-eat_number.place) (roles.Number c.in-Some-eat_number.value) c.in-Some-eat_number.place
    c.args.text.now c.args.tokens.now c.in-Some-eat_number.rest.now c.in-Some-eat_number.ensures.front (λ b. refl))

pub returns-in-Some-eat_text-clause-read : goal.returns-in-Some-eat_text-clause-read
returns-in-Some-eat_text-clause-read c =
    gives-is primary_s (terminals c.args.text.now c.args.tokens.now) (terminals c.args.text.now c.in-Some-eat_text.rest.now) _ _
    (let e : primary_view c.text_of.result ≡ text_at (spelled c.args.text.now c.in-Some-eat_text.head.now) c.in-Some-eat_text.head.now.place = search rules in sym e)
    (leaf-gives primary_s (text_at (spelled c.args.text.now c.in-Some-eat_text.head.now) c.in-Some-eat_text.head.now.place) roles.Text c.args.text.now c.args.tokens.now
    c.in-Some-eat_text.rest.now c.in-Some-eat_text.head.now c.in-Some-eat_text.ensures.front.parts c.in-Some-eat_text.ensures.front.role refl)

pub returns-in-Some-eat_truth-clause-read : goal.returns-in-Some-eat_truth-clause-read
returns-in-Some-eat_truth-clause-read c =
    gives-is primary_s (terminals c.args.text.now c.args.tokens.now) (terminals c.args.text.now c.in-Some-eat_truth.rest.now) _ _ (sym c.truth_of.ensures)
    (token-gives primary_s (truth_at c.in-Some-eat_truth.truth c.in-Some-eat_truth.place) (roles.Truth c.in-Some-eat_truth.truth) c.in-Some-eat_truth.place c.args.text.now
    c.args.tokens.now c.in-Some-eat_truth.rest.now c.in-Some-eat_truth.ensures.front (λ b. refl))

pub returns-in-Some-eat_none-clause-read : goal.returns-in-Some-eat_none-clause-read
returns-in-Some-eat_none-clause-read c =
    gives-is primary_s (terminals c.args.text.now c.args.tokens.now) (terminals c.args.text.now c.in-Some-eat_none.rest.now) _ _ (sym c.none_of.ensures)
    (token-gives primary_s (none_at c.in-Some-eat_none.place) roles.None c.in-Some-eat_none.place c.args.text.now c.args.tokens.now c.in-Some-eat_none.rest.now
    c.in-Some-eat_none.ensures.front (λ b. refl))

pub returns-in-None-clause-read : goal.returns-in-None-clause-read
returns-in-None-clause-read c =
    not-leaf c.args.tokens.now c.in_default.ensures.front c.in_default-eat_number.ensures.front c.in_default-eat_text.ensures.front c.in_default-eat_truth.ensures.front c.in-None.ensures.front
