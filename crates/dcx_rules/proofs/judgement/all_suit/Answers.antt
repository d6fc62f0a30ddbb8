-- One more argument may stand in its place, or none may.
use Rattle.std.proofs.Common.{◌<◌, Bool, length, arith, sym, ap, ◌∙◌}
use Rattle.std.specs.Prelude.{◌&&◌}
use Rattle.dcx_call.specs.Calls.{trend_of}
use Rattle.dcx_rules.proofs.Suited.{suited_step}
use Rattle.dcx_rules.proofs.judgement.all_suit.Goals as goal
use Rattle.dcx_rules.proofs.judgement.all_suit.Goals.{then-suited, else-suited}

pub loop-i-preserved : goal.loop-i-preserved
loop-i-preserved c =
    let fits = c.suits-fits.result in
    let lt : c.loop-i.i < length c.args.args.now = omega arith in
    elim c.if-suited.branch [
      | then-suited w ↦
          suited_step c.args.bend (trend_of c.args.call.now c.args.signs.now) c.args.args.now c.loop-i.i _ c.trend-trend.result c.loop-i.suited fits c.if-suited.suited lt
          c.loop-i.invariant c.trend-trend.ensures c.suits-fits.ensures (w.suited-is ∙ sym (ap (λ (b : Bool). b && fits) w.if-suited.true))
      | else-suited w ↦
          suited_step c.args.bend (trend_of c.args.call.now c.args.signs.now) c.args.args.now c.loop-i.i _ c.trend-trend.result c.loop-i.suited fits c.if-suited.suited lt
          c.loop-i.invariant c.trend-trend.ensures c.suits-fits.ensures (w.suited-is ∙ w.if-suited.false ∙ sym (ap (λ (b : Bool). b && fits) w.if-suited.false))
    ]
