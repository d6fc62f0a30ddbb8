-- The product over 1 is the product of the two integers.
use Rattle.std.proofs.Common.{◌≡◌, ◌*ℤ◌, arith, refl, sym, ap₂, ◌∙◌, subst}
use Rattle.std.proofs.lemmas.Int.{ints}
use native.Mathlib.Nat.{eq-one_of_dvd-one}
use Rattle.dcx_frac.specs.Fits.{Fits}
use Rattle.dcx_frac.specs.Frac.{num_of}
use Rattle.dcx_frac.proofs.Bits.{back}
use Rattle.dcx_frac.proofs.Integers.{product_is, product_fits}
use Rattle.dcx_frac.proofs.Turns.{over_one}
use Rattle.dcx_frac.proofs.fraction.Frac.whole_product.Goals as goal

pub invariant_of-result : goal.invariant_of-result
invariant_of-result c =
    let fits : Fits c.in-Some.num = rw c.in-Some.ensures.1 c.in-Some.ensures.0 in
    record { positive = omega (arith, ints); lowest = λ d m n. eq-one_of_dvd-one n; num_fits = rw (back c.in-Some.num fits) fits; den_fits = omega arith }

pub returns-in-Some-clause-exists : goal.returns-in-Some-clause-exists
returns-in-Some-clause-exists c =
    let x = c.args.self in
    let y = c.args.other in
    let fits : Fits c.in-Some.num = rw c.in-Some.ensures.1 c.in-Some.ensures.0 in
    let is : c.in-Some.num ≡ num_of x *ℤ num_of y = c.in-Some.ensures.1 ∙ ap₂ ◌*ℤ◌ (back x.num x.num_fits) (back y.num y.num_fits) in
    (λ s. (product_fits x y c.requires.left c.requires.right).1 (subst Fits is fits), λ h. refl)

pub returns-in-Some-clause-value : goal.returns-in-Some-clause-value
returns-in-Some-clause-value c =
    let x = c.args.self in
    let y = c.args.other in
    let fits : Fits c.in-Some.num = rw c.in-Some.ensures.1 c.in-Some.ensures.0 in
    let is : c.in-Some.num ≡ num_of x *ℤ num_of y = c.in-Some.ensures.1 ∙ ap₂ ◌*ℤ◌ (back x.num x.num_fits) (back y.num y.num_fits) in
    over_one _ _ _ _ (back c.in-Some.num fits ∙ is) refl ∙ sym (product_is x y c.requires.left c.requires.right)

pub returns-in-None-clause-exists : goal.returns-in-None-clause-exists
returns-in-None-clause-exists c =
    let x = c.args.self in
    let y = c.args.other in
    let both = ap₂ ◌*ℤ◌ (back x.num x.num_fits) (back y.num y.num_fits) in
    (λ s. cc, λ h. absurd (c.in-None.ensures (subst Fits (sym both) ((product_fits x y c.requires.left c.requires.right).0 h))))
