-- One item more is counted, and what is deepest is the deeper of both; it stands behind the others.
use Rattle.std.proofs.Common.{refl}
use Rattle.dcx_script_values.proofs.Lists.{AreCounted-after, items_meant-after}
use Rattle.dcx_script_values.proofs.items.Items.append.Goals as goal

pub invariant_of-self-2 : goal.invariant_of-self-2
invariant_of-self-2 c = rw (c.in_ok-push.ensures.items, c.counted.ensures.told, c.max-depth.ensures, c.depth.ensures.told)
    (AreCounted-after c.self.inside.values.items c.args.value c.self.inside.count c.self.inside.depth c.self.invariant (rw c.self.view_is c.requires.few) c.requires.shallow)

pub returns-clause-added : goal.returns-clause-added
returns-clause-added c = rw (c.in_ok-push.ensures.items, items_meant-after c.self.inside.values.items c.args.value, c.self.view_is) refl
