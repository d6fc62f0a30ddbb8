-- The items of both lists are counted together, and stand one list behind the other.
use Rattle.std.proofs.Common.{refl}
use Rattle.dcx_script_values.proofs.Lists.{items_meant-more, AreCounted-more}
use Rattle.dcx_script_values.proofs.items.Items.extended.Goals as goal

pub invariant_of-result : goal.invariant_of-result
invariant_of-result c = rw c.max-depth.ensures
    (AreCounted-more c.push_shared.new.all.items c.self.inside.values.items c.args.others.now c.self.inside.count c.self.inside.depth c.count.result c.depth.result
    c.self.invariant c.count.ensures.told c.depth.ensures.told c.depth.ensures.shallow
    (rw (c.self.invariant.told, c.self.view_is, c.count.ensures.told) c.requires)
    (items_meant-more c.push_shared.new.all.items c.self.inside.values.items c.values.result.now c.args.others.now c.in_ok-push_shared.ensures c.values.ensures.values))

pub returns : goal.returns
returns c = rw (items_meant-more c.push_shared.new.all.items c.self.inside.values.items c.values.result.now c.args.others.now c.in_ok-push_shared.ensures c.values.ensures.values, c.self.view_is) refl
