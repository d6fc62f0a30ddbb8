-- There are no more numbers than nodes, so the next one fits; a node with a number is in the order already.
use Rattle.std.proofs.Common.{◌≡◌, ◌≤◌, ◌∙◌, sym, length, arith, rules}
use Rattle.dcx_arena.proofs.Orders.{with_there, with_added}
use Rattle.dcx_arena.proofs.Numbers.{few_numbered, numbered_has, unnumbered_has, numbering_push, read_none, read_some}
use Rattle.dcx_arena.proofs.walk.finish.Goals as goal

pub overflow_cast-len : goal.overflow_cast-len
overflow_cast-len c =
    let l : c.len.result ≡ length c.args.finished.now.order.items = c.len.ensures ∙ c.args.finished.now.order.ok.0 in
    let n = few_numbered c.args.finished.now.order.items c.args.finished.now.numbers.items c.requires.numbering in
    let le : c.len.result ≤ 20000 = omega (arith, l, n, c.requires.few) in
    search rules

pub returns-in_ok-push-clause-numbering : goal.returns-in_ok-push-clause-numbering
returns-in_ok-push-clause-numbering c =
    let l : c.len.result ≡ length c.args.finished.now.order.items = c.len.ensures ∙ c.args.finished.now.order.ok.0 in
    let e = read_none c.args.finished.now.numbers.items c.args.node c.index.result.now c.index.ensures c.if-is_none.ensures in
    rw (c.in_ok-push.ensures.items, l) (numbering_push c.args.finished.now.order.items c.args.finished.now.numbers.items c.args.node c.requires.numbering c.requires.below e)

pub returns-in_ok-push-clause-order : goal.returns-in_ok-push-clause-order
returns-in_ok-push-clause-order c =
    let e = read_none c.args.finished.now.numbers.items c.args.node c.index.result.now c.index.ensures c.if-is_none.ensures in
    c.in_ok-push.ensures.items ∙ sym (with_added c.args.finished.now.order.items c.args.node
    (unnumbered_has c.args.finished.now.order.items c.args.finished.now.numbers.items c.args.node c.requires.numbering e))

pub returns-else-is_none-clause-order : goal.returns-else-is_none-clause-order
returns-else-is_none-clause-order c =
    let r = read_some c.args.finished.now.numbers.items c.args.node c.index.result.now c.requires.below c.index.ensures c.if-is_none.ensures in
    sym (with_there c.args.finished.now.order.items c.args.node (numbered_has c.args.finished.now.order.items c.args.finished.now.numbers.items c.args.node r.0 c.requires.numbering r.1))
