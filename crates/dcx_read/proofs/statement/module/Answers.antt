-- A name in front is one of the modules, or reading stops there.
use Rattle.std.proofs.Common.{◌∙◌, sym, ap}
use Rattle.dcx_read.specs.Words.{module_named}
use Rattle.dcx_read.proofs.LineRules.{module-none, module-gives, module-other}
use Rattle.dcx_read.proofs.statement.module.Goals as goal

pub returns-in_default-clause-read : goal.returns-in_default-clause-read
returns-in_default-clause-read c =
    module-none c.args.text.now c.args.tokens.now c.in_default.ensures.front

pub returns-in-Some-module_in-clause-read : goal.returns-in-Some-module_in-clause-read
returns-in-Some-module_in-clause-read c =
    module-gives c.args.text.now c.args.tokens.now c.in-Some.rest.now c.in-Some.head.now c.in-Some-module_in.which c.in-Some.ensures.front.parts c.in-Some.ensures.front.role
    (sym (ap module_named c.slice.ensures) ∙ sym c.module_in.ensures ∙ c.in-Some-module_in.is)

pub returns-in-None-clause-read : goal.returns-in-None-clause-read
returns-in-None-clause-read c =
    module-other c.args.text.now c.args.tokens.now c.in-Some.rest.now c.in-Some.head.now c.in-Some.ensures.front.parts c.in-Some.ensures.front.role
    (sym (ap module_named c.slice.ensures) ∙ sym c.module_in.ensures ∙ c.in-None.is)
