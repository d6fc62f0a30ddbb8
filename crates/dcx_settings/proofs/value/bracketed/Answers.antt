-- A second bracket begins a matrix.
use Rattle.std.proofs.Common.{refl}
use Rattle.std.proofs.lemmas.Result.{IfOk-weaker, IfErr-weaker}
use Rattle.dcx_settings.specs.Machine.{bracket}
use Rattle.dcx_settings.specs.Steps.{matrix_begun}
use Rattle.dcx_settings.proofs.Values.{bracket_read, bracket_stops}
use Rattle.dcx_settings.proofs.value.bracketed.Goals as goal

pub returns-in-Some-clause-ok : goal.returns-in-Some-clause-ok
returns-in-Some-clause-ok c = IfOk-weaker c.matrix.result _ _ (λ x h. bracket_read bracket matrix_begun (λ l i n t. refl) _ _ _ x.0 x.1 c.in-Some.ensures.first h) c.matrix.ensures.ok

pub returns-in-Some-clause-stop : goal.returns-in-Some-clause-stop
returns-in-Some-clause-stop c = IfErr-weaker c.matrix.result _ _ (λ e h. bracket_stops bracket matrix_begun (λ l i n t. refl) c.args.text.now _ _ e c.in-Some.ensures.first h) c.matrix.ensures.stop
