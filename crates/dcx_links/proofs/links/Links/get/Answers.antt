-- The cells have the number.
use Rattle.std.proofs.Common.{rules, ap, sym, ◌∙◌, to_z-of_z, SFits}
use Rattle.std.specs.Int.{w128}
use Rattle.dcx_links.specs.Matrix.{Matrix, number_at}
use Rattle.dcx_links.proofs.Matrices.{number_at-matrix_of}
use Rattle.dcx_links.proofs.links.Links.get.Goals as goal

pub returns : goal.returns
returns c =
    let f : SFits w128 c.number_near.result = search rules in
    to_z-of_z f ∙ c.number_near.ensures ∙ sym (number_at-matrix_of c.self.inside.store c.self.invariant.sound c.args.row c.args.column)
    ∙ ap (λ (m : Matrix). number_at m c.args.row c.args.column) c.self.view_is
