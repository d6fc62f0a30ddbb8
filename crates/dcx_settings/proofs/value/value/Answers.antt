-- A bracket begins a list or a matrix.
use Rattle.std.proofs.Common.{refl}
use Rattle.std.proofs.lemmas.Result.{IfOk-weaker, IfErr-weaker}
use Rattle.dcx_settings.specs.Machine.{assigned, bracket}
use Rattle.dcx_settings.proofs.Values.{bracket_read, bracket_stops}
use Rattle.dcx_settings.proofs.value.value.Goals as goal

pub returns-in-Some-clause-ok : goal.returns-in-Some-clause-ok
returns-in-Some-clause-ok c = IfOk-weaker c.bracketed.result _ _ (λ x h. bracket_read assigned bracket (λ l i n t. refl) _ _ _ x.0 x.1 c.in-Some.ensures.first h) c.bracketed.ensures.ok

pub returns-in-Some-clause-stop : goal.returns-in-Some-clause-stop
returns-in-Some-clause-stop c = IfErr-weaker c.bracketed.result _ _ (λ e h. bracket_stops assigned bracket (λ l i n t. refl) c.args.text.now _ _ e c.in-Some.ensures.first h) c.bracketed.ensures.stop
