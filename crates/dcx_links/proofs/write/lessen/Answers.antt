-- The difference is put in the place of the number.
use Rattle.std.proofs.Common.{rules, ◌≡◌, ◌<◌, ◌^◌, ◌-ℤ◌, unsigned_abs, sym, ap, ◌∙◌, subst, to_z-of_z, SFits}
use Rattle.std.specs.Int.{w128}
use Rattle.std.proofs.lemmas.Int.{fits_signed_from_abs}
use Rattle.dcx_links.specs.Cells.{number_in}
use Rattle.dcx_links.proofs.write.lessen.Goals as goal

pub overflow_sub-number : goal.overflow_sub-number
overflow_sub-number c =
    let fb : SFits w128 c.args.by = search rules in
    let fn : SFits w128 c.number_at_spot-number.result = search rules in
    let e : c.number_at_spot-number.result ≡ number_in c.args.store.now c.args.row c.args.column = c.number_at_spot-number.ensures in
    simp to_z-of_z (fits_signed_from_abs w128 (c.number_at_spot-number.result -ℤ c.args.by) (subst (λ z. unsigned_abs (z -ℤ c.args.by) < 2 ^ 127) (sym e) c.requires.fits))

pub returns-clause-there : goal.returns-clause-there
returns-clause-there c =
    let fb : SFits w128 c.args.by = search rules in
    let fn : SFits w128 c.number_at_spot-number.result = search rules in
    let e : c.number_at_spot-number.result ≡ number_in c.args.store.now c.args.row c.args.column = c.number_at_spot-number.ensures in
    let fd : SFits w128 (c.number_at_spot-number.result -ℤ c.args.by) = fits_signed_from_abs w128 (c.number_at_spot-number.result -ℤ c.args.by)
    (subst (λ z. unsigned_abs (z -ℤ c.args.by) < 2 ^ 127) (sym e) c.requires.fits) in
    (simp to_z-of_z at c.put_at.ensures.there) ∙ ap (λ z. z -ℤ c.args.by) e
