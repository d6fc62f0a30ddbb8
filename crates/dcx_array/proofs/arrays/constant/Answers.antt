-- The number stands everywhere.
use Rattle.std.proofs.Common.{sym, ◌∙◌}
use Rattle.dcx_array.proofs.GivenArrays.{given_gives}
use Rattle.dcx_array.proofs.arrays.constant.Goals as goal

pub returns : goal.returns
returns c = given_gives c.args.sides c.in_ok-shape.shape (λ s k. c.args.x) c.fill.result (sym c.allowed_shape.ensures ∙ c.in_ok-shape.was) c.fill.ensures
