-- A coefficient times a form is no wider than the form.
use Rattle.dcx_linear.proofs.MultipleLaws.{multiple_width}
use Rattle.dcx_linear.proofs.sum_laws.widths_of_multiples.Goals as goal

pub returns : goal.returns
returns g c =
    let t = g.C.Coef in
    λ n c f h s a. multiple_width t.number_of t.change_gives c n f h s a
