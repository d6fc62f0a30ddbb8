-- One item more is laid over the setting.
use Rattle.std.proofs.Common.{ap, subst, sym, ◌∙◌}
use Rattle.dcx_settings.specs.Meaning.{IsFull}
use Rattle.dcx_point.specs.Pairs.{with_array}
use Rattle.dcx_overlay.proofs.Laid.{every_at, item_more}
use Rattle.dcx_overlay.proofs.overlay.laid_over.Goals as goal

pub array_of-requires : goal.array_of-requires
array_of-requires c = subst IsFull (sym c.item-item.is) (every_at IsFull c.args.line.now c.loop-item.item-index c.item-item.result c.loop-item-test.true c.requires)

pub loop-item-preserved : goal.loop-item-preserved
loop-item-preserved c =
    item_more c.args.setting.now c.args.line.now c.loop-item.item-index c.item-item.result c.loop-item.laid c.put.new.self c.in_ok-array.array c.loop-item-test.true c.item-item.is
    c.loop-item.invariant c.in_ok-array.ensures
    (c.in_ok-put.ensures.ok ∙ ap (λ n. with_array c.loop-item.laid n c.in_ok-array.array) c.in_ok-name.ensures)
