-- What is formed of each call is exact.
use Rattle.std.proofs.Common.{◌≡◌, List, [], ◌∷◌, map, All, refl, sym, ap, ◌∙◌, Result, Ok}
use Rattle.std.proofs.lemmas.List.Elements.{All-cons, All-nil, All-head, All-tail}
use Rattle.dcx_math.specs.Rational.{ℚ}
use Rattle.dcx_frac.specs.declared.fraction.Frac.{Frac}
use Rattle.dcx_frac.specs.Fits.{IsRepresentable}
use Rattle.dcx_frac.specs.Frac.{value}
use Rattle.dcx_atom.specs.declared.stops.ValueStop.{ValueStop}
use Rattle.dcx_atom.specs.Arrays.{Entries, number_at, sides_at}
use Rattle.dcx_atom.specs.Formed.{frac_at, sum_in_order}
use Rattle.dcx_atom.specs.Linear.{LinearTerm}
use Rattle.dcx_affine.specs.declared.pairing.Pairing.{Pairing}
use Rattle.dcx_call.specs.declared.call.Call.TheVariants as calls
use Rattle.dcx_call.specs.Atoms.{atom_meaning, atom_lawful}
use Rattle.dcx_call.specs.Linears.{linear_meaning, linear_lawful}
use Rattle.dcx_call.specs.Values.{given_by}
use Rattle.dcx_call.proofs.Products.{AreRepresentable}
use Rattle.dcx_atom.proofs.Fractions.{value-frac_at, number_fits}
use Rattle.dcx_call.proofs.CallValues.{formed_ok, exactly, summed_exact, pairing_exact}
use Rattle.dcx_call.specs.Exact.{FormsExactly}
use Rattle.dcx_atom.specs.Fractions.{AreFractions}
use Rattle.dcx_call.proofs.Fractions.{sum_exact}
use Rattle.dcx_call.proofs.Coefficients.{FitsIn, coefficients_fit}

-- a number that is taken as it is
given_exact : (q : ℚ) (x : Frac) (r : Result Frac ValueStop) → IsRepresentable q → r ≡ Ok (frac_at q) → r ≡ Ok x → value x ≡ q
given_exact q x r h d e = let same : frac_at q ≡ x = cc in ap value (sym same) ∙ value-frac_at q h

-- ---- sums of products
terms_fit : (ts : List LinearTerm) (a : Entries) → AreFractions a → All FitsIn ts → All AreRepresentable (map (λ (t : LinearTerm). (t.coefficient, a t.argument t.entry)) ts)
terms_fit [] a h k = All-nil AreRepresentable
terms_fit (t ∷ ts) a h k = All-cons AreRepresentable (t.coefficient, a t.argument t.entry) _ (All-head FitsIn t ts k, h t.argument t.entry) (terms_fit ts a h (All-tail FitsIn t ts k))

-- ---- all calls
pub forms_exactly : FormsExactly
forms_exactly (calls.Variable v) setting point args sides a shape few fit j b x e = given_exact (given_by point v.name j) x _ (number_fits _ j) refl e
forms_exactly (calls.Parameter q) setting point args sides a shape few fit j b x e = given_exact (given_by setting q.name j) x _ (number_fits _ j) refl e
forms_exactly (calls.Constant c) setting point args sides a shape few fit j b x e = given_exact (number_at c.entries j) x _ (number_fits c.entries j) refl e
forms_exactly (calls.Atom m) setting point args sides a shape few fit j b x e =
    let summands = (atom_meaning m).summands args a j in
    exactly (sum_in_order summands) _ x (sum_exact summands ((atom_lawful m).fraction_summands args a j fit)) (formed_ok j (sum_in_order summands) x e)
    ∙ sym ((atom_lawful m).formation args sides shape j b a)
forms_exactly (calls.Linear l) setting point args sides a shape few fit j b x e =
    summed_exact (λ (t : LinearTerm). (t.coefficient, a t.argument t.entry)) ((linear_meaning l).terms args j) j x
    (terms_fit ((linear_meaning l).terms args j) a fit (coefficients_fit l args sides j shape b few)) e
    ∙ sym ((linear_lawful l).linearity args sides shape j b a)
forms_exactly (calls.Pairing p) setting point args sides a shape few fit j b x e =
    pairing_exact p (sides_at args 0) (sides_at args 1) (a 0) (a 1) j x (fit 0) (fit 1) e
