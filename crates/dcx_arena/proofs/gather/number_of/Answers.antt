-- A node of the order has a number, which is where it stands in the order.
use Rattle.std.proofs.Common.{◌∙◌, arith}
use Rattle.std.proofs.lemmas.Option.{none-some}
use Rattle.dcx_arena.proofs.Orders.{has_at}
use Rattle.dcx_arena.proofs.Numbers.{listed_below, read_is}
use Rattle.dcx_arena.proofs.gather.number_of.Goals as goal

pub index-requires : goal.index-requires
index-requires c =
    let (k, at) = has_at c.args.finished.now.order.items c.args.node c.requires.there in
    let lt = listed_below c.args.finished.now.order.items c.args.finished.now.numbers.items k c.args.node c.requires.numbering at in
    let n = c.args.finished.now.numbers.ok.0 in
    omega (arith, lt, n)

pub unreachable-requires : goal.unreachable-requires
unreachable-requires c =
    let (k, at) = has_at c.args.finished.now.order.items c.args.node c.requires.there in
    let none = rw c.in-None.is at c.index.ensures in
    none-some k (none ∙ c.requires.numbering.listed k c.args.node at)

pub returns : goal.returns
returns c =
    let (k, at) = has_at c.args.finished.now.order.items c.args.node c.requires.there in
    let lt = listed_below c.args.finished.now.order.items c.args.finished.now.numbers.items k c.args.node c.requires.numbering at in
    c.requires.numbering.numbered c.args.node c.in-Some.k (read_is c.args.finished.now.numbers.items c.args.node c.in-Some.k c.index.result.now lt c.index.ensures c.in-Some.is)
