-- The cells have no number.
use Rattle.std.proofs.Common.{◌∙◌}
use Rattle.dcx_links.proofs.Matrices.{number_at-matrix_of}
use Rattle.dcx_links.proofs.links.Links.reserve.Goals as goal

pub returns-clause-zeros : goal.returns-clause-zeros
returns-clause-zeros c = λ r d. number_at-matrix_of c.in_ok-store.store c.in_ok-store.ensures.sound r d ∙ c.in_ok-store.ensures.zeros r d
