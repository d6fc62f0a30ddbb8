-- Each node begins where it is told.
use Rattle.std.proofs.Common.{◌∙◌, ap}
use Rattle.dcx_shape.specs.Sides.{entries_of}
use Rattle.dcx_cert_collect.proofs.Starting.{start_there, place_there}
use Rattle.dcx_cert_collect.proofs.places.place_of.Goals as goal

pub bounds-starts-node : goal.bounds-starts-node
bounds-starts-node c = start_there c.args.tree.now c.args.starts.now c.args.node.0 c.requires.starts c.requires.there

pub returns : goal.returns
returns c =
    place_there c.args.tree.now c.args.starts.now c.args.node.0 c.args.entry c.size.result c.requires.starts c.requires.there
    (c.size.ensures.value ∙ ap entries_of c.shape.ensures) c.if-entry-size.false
