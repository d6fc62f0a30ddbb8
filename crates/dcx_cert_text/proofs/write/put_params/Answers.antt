-- The lines are those of the values.
use Rattle.std.proofs.Common.{◌++◌, ap}
use Rattle.std.proofs.lemmas.Result.{IfOk-equal}
use Rattle.dcx_cert_text.proofs.Joined.{values_text}
use Rattle.dcx_cert_text.proofs.write.put_params.Goals as goal

pub returns-in-Some : goal.returns-in-Some
returns-in-Some c = IfOk-equal _ _ _ _ c.put_setting.ensures (ap (λ t. c.args.out.now.items ++ t) (values_text c.args.params.now c.in-Some.values c.in-Some.is))
