-- A name in front gives the name that it spells, and anything else is no name.
use Rattle.std.proofs.Common.{◌≡◌, rules, sym, subst}
use Rattle.dcx_syntax.specs.declared.tree.Named.{Named}
use Rattle.dcx_read.specs.Terminals.{named_by, terminals}
use Rattle.dcx_read.specs.Moves.{name_s}
use Rattle.dcx_read.specs.Steps.{Gives}
use Rattle.dcx_read.proofs.Fronts.{name-gives, name-stops}
use Rattle.dcx_read.proofs.front.name.Goals as goal

pub returns-in_ok-named-in-Some-clause-read : goal.returns-in_ok-named-in-Some-clause-read
returns-in_ok-named-in-Some-clause-read c =
    let same : c.in_ok-named-in-Some.named ≡ named_by c.args.text.now c.in-Some.head.now = search rules in
    subst (λ (n : Named). Gives name_s (terminals c.args.text.now c.args.tokens.now) n (terminals c.args.text.now c.in-Some.rest.now)) (sym same)
    (name-gives c.args.text.now c.args.tokens.now c.in-Some.rest.now c.in-Some.head.now c.in-Some.ensures.front.parts c.in-Some.ensures.front.role)

pub returns-in-None-clause-read : goal.returns-in-None-clause-read
returns-in-None-clause-read c = name-stops c.args.text.now c.args.tokens.now c.in-None.ensures.front
