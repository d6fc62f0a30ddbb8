-- An argument is a node.
use Rattle.std.proofs.Common.{◌∙◌, ap, sym, get_or}
use Rattle.dcx_arena.specs.declared.node.NodeId.{NodeId}
use Rattle.dcx_call.proofs.Products.{own_item}
use Rattle.dcx_cert_collect.specs.Starts.{place_of}
use Rattle.dcx_cert_collect.proofs.Arguments.{argument_is, argument_past, argument_there}
use Rattle.dcx_cert_collect.proofs.places.Places.place.Goals as goal

first : NodeId
first = record { 0 = 0 }

pub place_of-requires-clause-there : goal.place_of-requires-clause-there
unfolding first
place_of-requires-clause-there c =
    let ids = c.args.self.now.args.now in
    argument_there _ ids c.args.argument (get_or ids c.args.argument first) c.requires.there c.if-argument-self.true (own_item ids c.args.argument first c.if-argument-self.true)

pub returns-then-argument-self : goal.returns-then-argument-self
unfolding first
returns-then-argument-self c =
    let ids = c.args.self.now.args.now in
    c.place_of.ensures ∙ ap (λ o. place_of c.args.self.now.tree.now o c.args.entry)
    (sym (argument_is ids c.args.argument (get_or ids c.args.argument first) c.if-argument-self.true (own_item ids c.args.argument first c.if-argument-self.true)))

pub returns-else-argument-self : goal.returns-else-argument-self
returns-else-argument-self c = ap (λ o. place_of c.args.self.now.tree.now o c.args.entry) (sym (argument_past c.args.self.now.args.now c.args.argument c.if-argument-self.false))
