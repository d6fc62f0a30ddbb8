-- The settings of the lines lie over the one that the script ends with.
use Rattle.std.proofs.Common.{List, inr, subst}
use Rattle.dcx_point.specs.Pairs.{Pairs}
use Rattle.dcx_overlay.specs.Settings.{AreLaidOver}
use Rattle.dcx_top.specs.Solving.{DoesAt}
use Rattle.dcx_top.proofs.solving.do_lines.Goals as goal

pub returns-in-Ok : goal.returns-in-Ok
returns-in-Ok g c =
    inr (
      c.in-Ok.settings.items,
      subst (λ l. AreLaidOver c.args.accepted.work.last l c.in-Ok.settings.items) c.as_slice.ensures c.in-Ok.ensures,
      subst (λ (s : List Pairs). DoesAt c.args.task c.args.accepted.work c.args.limit s c.args.steps.now c.do_at.new.steps c.do_at.result) c.deref.ensures.value c.do_at.ensures,
    )
