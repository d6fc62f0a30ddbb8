-- One more constraint has its array.
use Rattle.std.proofs.Common.{◌∙◌, false, sym, subst, arith}
use Rattle.std.specs.Vec.Iter.{into_iter_items}
use Rattle.dcx_iis.specs.Steps.{flagged}
use Rattle.dcx_iis.specs.Multipliers.{TakesNext, AreSpread}
use Rattle.dcx_iis.proofs.Flags.{flag_read}
use Rattle.dcx_iis.proofs.Loops.{spread_first, spread_next, spread_last}
use Rattle.dcx_iis.proofs.duals.spread.Goals as goal

pub constraints-init : goal.constraints-init
constraints-init c =
    spread_first (flagged c.args.kept.now) c.args.constraints.now c.args.arrays c.in_ok-duals.duals.items (into_iter_items c.into_iter-rest.result) c.in_ok-duals.ensures.items
    (c.into_iter-rest.ensures.rest ∙ c.into_vec.ensures) c.requires.shaped

pub constraints-preserved : goal.constraints-preserved
constraints-preserved c =
    let set = flagged c.args.kept.now in
    let cs = c.args.constraints.now in
    let i = c.constraints.index in
    let d = c.index-constraints-index.result in
    let before = into_iter_items c.constraints.rest in
    let after = into_iter_items c.push_next.new.rest in
    let (x, added, takes) = c.in_ok-push_next.ensures in
    spread_next set cs i d (omega arith) c.index-constraints-index.is c.args.arrays c.constraints.duals.items before after c.push_next.new.duals.items x c.constraints.invariant
    (subst (λ b. TakesNext b d before after x) (sym (flag_read c.args.kept.now i false (omega (arith, c.requires.flags)))) takes) added

pub returns : goal.returns
returns c =
    subst (AreSpread (flagged c.args.kept.now) c.args.constraints.now c.args.arrays) (sym c.from_vec.ensures)
    (spread_last (flagged c.args.kept.now) c.args.constraints.now c.constraints.index c.args.arrays c.constraints.duals.items (into_iter_items c.constraints.rest)
    (omega arith) c.constraints.invariant)
