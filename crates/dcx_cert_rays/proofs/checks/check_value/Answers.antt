-- The objective is formed, and then compared.
use Rattle.std.proofs.Common.{inr}
use Rattle.dcx_cert_rays.proofs.Turns.{not_falling}
use Rattle.dcx_cert_rays.proofs.checks.check_value.Goals as goal

pub returns-else-is_at_most : goal.returns-else-is_at_most
returns-else-is_at_most c =
    let a = c.args.along.now in
    inr (inr (
      c.in_ok-form_below.ensures.checked,
      not_falling a.problem.now a.setting.now a.ray.now c.args.slope c.objective-found.result c.neg-stated.result c.objective-found.ensures c.neg-stated.ensures c.is_at_most.result
          c.is_at_most.ensures c.if-is_at_most.false,
    ))
