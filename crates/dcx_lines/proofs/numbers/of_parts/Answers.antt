-- A fraction is made of its parts.
use Rattle.std.proofs.Common.{◌≡◌, to_z, of_z, sym, ◌∙◌, subst}
use Rattle.std.proofs.lemmas.Option.{same_Some}
use mir.Syntax.{w128}
use Rattle.dcx_frac.specs.Fits.{Fits}
use Rattle.dcx_frac.specs.Frac.{num_of, den_of}
use Rattle.dcx_frac.proofs.Bits.{back}
use Rattle.dcx_lines.proofs.Written.{made}
use Rattle.dcx_lines.proofs.numbers.of_parts.Goals as goal

pub returns-in-Some-Some : goal.returns-in-Some-Some
returns-in-Some-Some c = λ f n d.
    let m = c.in-Some-Some.num in
    let e = c.in-Some-Some.den in
    let num : m ≡ num_of f = same_Some _ _ (sym c.in-Some-Some.is-0 ∙ n) in
    let den : e ≡ den_of f = same_Some _ _ (sym c.in-Some-Some.is-1 ∙ d) in
    made f (to_z w128 (of_z w128 m)) (to_z w128 (of_z w128 e)) c.of.result
    (back m (subst Fits (sym num) f.num_fits) ∙ num) (back e (subst Fits (sym den) f.den_fits) ∙ den)
    c.of.ensures.exists c.of.ensures.value
