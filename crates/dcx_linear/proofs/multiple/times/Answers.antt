-- The number that the other coefficient is scales this one.
use Rattle.std.proofs.Common.{sym}
use Rattle.dcx_linear.specs.declared.change.Change.TheVariants.{Scale}
use Rattle.dcx_linear.specs.Multiples.{times_number}
use Rattle.dcx_linear.proofs.Answered.{Gives-weaker}
use Rattle.dcx_linear.proofs.multiple.times.Goals as goal

pub returns : goal.returns
returns g c =
    let t = g.C.Coef in
    Gives-weaker c.scale.result (t.change_gives (Scale c.in-Some.by) c.args.coefficient.now) (times_number t.number_of t.change_gives c.args.coefficient.now c.args.number.now)
    (λ q h. (c.in-Some.by, sym c.in-Some.ensures, h)) c.scale.ensures
