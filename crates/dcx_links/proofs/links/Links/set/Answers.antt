-- The cells have the number, and the others as before.
use Rattle.std.proofs.Common.{rules, ap, sym, ◌∙◌, to_z-of_z, SFits}
use Rattle.std.specs.Int.{w128}
use Rattle.dcx_links.specs.Matrix.{Matrix, number_at}
use Rattle.dcx_links.proofs.Matrices.{number_at-matrix_of}
use Rattle.dcx_links.proofs.links.Links.set.Goals as goal

pub returns-clause-there : goal.returns-clause-there
returns-clause-there c =
    let f : SFits w128 c.args.value = search rules in
    number_at-matrix_of c.put-near.new.store c.put-near.ensures.sound c.args.row c.args.column ∙ c.put-near.ensures.there ∙ to_z-of_z f

pub returns-clause-same : goal.returns-clause-same
returns-clause-same c = λ r d other.
    number_at-matrix_of c.put-near.new.store c.put-near.ensures.sound r d ∙ c.put-near.ensures.same r d other
    ∙ sym (number_at-matrix_of c.self.inside.store c.self.invariant.sound r d) ∙ ap (λ (m : Matrix). number_at m r d) c.self.view_is
