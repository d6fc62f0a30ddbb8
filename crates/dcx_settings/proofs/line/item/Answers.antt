-- A name that is new begins an item.
use Rattle.std.proofs.Common.{subst, sym}
use Rattle.std.proofs.lemmas.Result.{IfOk-weaker}
use Rattle.dcx_settings.specs.Terminal.{terminals}
use Rattle.dcx_settings.specs.Steps.{GainsName}
use Rattle.dcx_settings.proofs.Lines.{gains_name, nameless_stops}
use Rattle.dcx_settings.proofs.line.item.Goals as goal

pub returns-in-None-clause-stop : goal.returns-in-None-clause-stop
returns-in-None-clause-stop c = nameless_stops c.args.names.now (terminals c.args.text.now c.args.tokens.now) c.in-None.ensures.first

pub returns-then-branch-clause-names : goal.returns-then-branch-clause-names
returns-then-branch-clause-names c =
    let gains = gains_name c.args.names.now c.insert.new.self c.in-Some.called c.in_ok-insert-in-Some.ensures.updates in
    IfOk-weaker c.named_item.result _ _ (λ x h. subst (GainsName c.args.names.now c.insert.new.self) (sym h.name_is) gains) c.named_item.ensures.ok
