-- The two settings are those of the trial, and what is found there is told.
use Rattle.std.proofs.Common.{refl, sym, inr, subst}
use Rattle.dcx_overlay.specs.Settings.{AreTrialSettings}
use Rattle.dcx_top.proofs.solving.tried_at.Goals as goal

pub returns-in-Ok-outcomes : goal.returns-in-Ok-outcomes
returns-in-Ok-outcomes g c =
    inr (
      c.deref.result.now,
      subst (AreTrialSettings c.args.work.last) (sym c.deref.ensures.value) c.in-Ok.ensures,
      inr (c.in-Ok-outcomes.found.outcomes, c.in-Ok-outcomes.found.warm, c.in-Ok-outcomes.ensures.outcomes, c.in-Ok-outcomes.ensures.counted, refl),
    )
