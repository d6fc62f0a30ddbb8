-- The form that is made of an unknown is its one form.
use Rattle.std.proofs.Common.{◌≡◌, sym, ap, ◌∙◌}
use Rattle.dcx_linear.specs.Forms.{IsUnknownForm}
use Rattle.dcx_entries.specs.Parts.{form_of_unknown}
use Rattle.dcx_entries.proofs.Each.{if_ok_weaker}
use Rattle.dcx_entries.proofs.Places.{unknown_is}
use Rattle.dcx_entries.proofs.variable.form_of_unknown.Goals as goal

pub returns-in-Some : goal.returns-in-Some
returns-in-Some g c =
    let t = g.C.Coef in
    if_ok_weaker c.unknown.result (λ f. IsUnknownForm t.of_number c.in-Some.n f) (λ f. f ≡ form_of_unknown t.of_number c.args.unknown)
    (λ f h. unknown_is t.of_number c.in-Some.n f h ∙ ap (λ u. form_of_unknown t.of_number u) (sym c.in-Some.is)) c.unknown.ensures
