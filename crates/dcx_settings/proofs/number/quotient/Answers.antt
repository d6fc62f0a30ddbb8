-- A quotient of whole numbers fits where the lower one isn't 0.
use Rattle.std.proofs.Common.{to_z-of_z, rules, SFits}
use Rattle.std.specs.Int.{w128}
use Rattle.dcx_settings.proofs.Numbers.{none_zero_by}
use Rattle.dcx_settings.proofs.number.quotient.Goals as goal

pub returns-clause-none : goal.returns-clause-none
returns-clause-none c =
    let f : SFits w128 c.num.result = search rules in
    let g : SFits w128 c.num-2.result = search rules in
    none_zero_by c.of.result c.num.result c.num-2.result c.args.front c.args.back c.num.ensures c.num-2.ensures (simp to_z-of_z at c.of.ensures.exists)
