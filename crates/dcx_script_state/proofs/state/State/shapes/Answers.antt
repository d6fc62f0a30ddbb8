-- Each shape comes behind the others.
use Rattle.std.proofs.Common.{◌≡◌, ℕ, ◌+◌, ◌<◌, List, [], ◌∷◌, ◌++◌, length, get_or, map, take, sym, ap, ap₂, ◌∙◌, arith, rules}
use Rattle.std.proofs.lemmas.List.{map_more, map-append, take_all}
use Rattle.dcx_shape.specs.declared.shape.Shape.{Shape}
use Rattle.dcx_shape.specs.Shape.{sides_of}
use Rattle.dcx_arena.specs.Nodes.{Node}
use Rattle.dcx_call.specs.declared.call.Call.{Call}
use Rattle.dcx_script_values.specs.declared.reading.Operand.{Operand}
use Rattle.dcx_script_values.specs.Nodes.{operand_sides}
use Rattle.dcx_script_values.specs.View.{meant_operand}
use Rattle.dcx_script_state.proofs.state.State.shapes.Goals as goal

shape_next : (nodes : List (Node Call)) (xs : List Operand) (k : ℕ) (x : Operand) (before after : List Shape) (s : Shape) → k < length xs → x ≡ get_or xs k x →
    map sides_of before ≡ map (operand_sides nodes) (map meant_operand (take k xs)) → sides_of s ≡ operand_sides nodes (meant_operand x) → after ≡ before ++ s ∷ [] →
    map sides_of after ≡ map (operand_sides nodes) (map meant_operand (take (k + 1) xs))
shape_next nodes xs k x before after s lt at was is puts =
    ap (map sides_of) puts
    ∙ map-append sides_of before (s ∷ [])
    ∙ ap₂ (λ ys y. ys ++ y ∷ []) was (is ∙ ap (λ z. operand_sides nodes (meant_operand z)) at)
    ∙ sym (ap (map (operand_sides nodes)) (map_more meant_operand xs k x lt) ∙ map-append (operand_sides nodes) (map meant_operand (take k xs)) (meant_operand (get_or xs k x) ∷ []))

pub loop-operand-smaller : goal.loop-operand-smaller
loop-operand-smaller c = search rules

pub loop-operand-preserved : goal.loop-operand-preserved
loop-operand-preserved c =
    shape_next c.args.self.now.nodes c.args.operands.now c.loop-operand.operand-index c.operand-item.result c.loop-operand.shapes.items _ c.operand_shape.result
    c.loop-operand-test.true c.operand-item.is
    c.loop-operand.invariant c.operand_shape.ensures c.in_ok-push.ensures.items

pub returns : goal.returns
returns c =
    c.loop-operand.invariant
    ∙ ap (λ xs. map (operand_sides c.args.self.now.nodes) (map meant_operand xs)) (take_all c.loop-operand.operand-index c.args.operands.now (omega arith))
