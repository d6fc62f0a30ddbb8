-- The number that the sum over the pairs of a product or a quotient is.
use Rattle.std.proofs.Common.{◌≡◌, ℕ, List, [], ◌∷◌, Option, Result, Ok, sym, ap, ◌∙◌}
use Rattle.dcx_math.specs.Rational.{ℚ, ◌+ℚ◌, ◌*ℚ◌, ◌/ℚ◌}
use Rattle.dcx_math.specs.Sums.{rat_sum_by}
use Rattle.dcx_math.proofs.Orders.{+ℚ_idl, +ℚ_idr, +ℚ_assoc, *ℚ_comm}
use Rattle.dcx_frac.specs.declared.fraction.Frac.{Frac}
use Rattle.dcx_frac.specs.declared.fraction.Passes.{Passes}
use Rattle.dcx_frac.specs.Frac.{value}
use Rattle.dcx_affine.specs.declared.pairing.Pair.{Pair}
use Rattle.dcx_affine.specs.declared.pairing.Pairing.TheVariants.{Times, Over}
use Rattle.dcx_call.specs.Values.{pairing_value}
use Rattle.dcx_linear.specs.declared.change.Change.{Change}
use Rattle.dcx_linear.specs.declared.form.Form.{Form}
use Rattle.dcx_linear.specs.Parameters.{Parameters}
use Rattle.dcx_linear.specs.FormTerms.{Unknowns}
use Rattle.dcx_linear.specs.Forms.{linear_value}
use Rattle.dcx_linear.specs.Multiples.{multiple_gives}
use Rattle.dcx_linear.proofs.MultipleLaws.{multiple_value}
use Rattle.dcx_entries.specs.declared.scaling.Scaling.{Scaling}
use Rattle.dcx_entries.specs.declared.scaling.Scaling.TheVariants.{LeftNumber, RightNumber, LeftAffine, RightAffine, Divisor}
use Rattle.dcx_entries.specs.Parts.{Arguments, zero_form, number_in}
use Rattle.dcx_entries.specs.Sums.{adds_pair, adds_each}
use Rattle.dcx_formed.proofs.Coefs.{AreCoefs}
use Rattle.dcx_formed.proofs.PartValues.{zero_is, sum_is, change_is}

-- where each addition adds a number, all add their sum
sums_each : {T S : Type 0} (Add : T → S → Result S Passes → Type 0) (w : S → ℚ) (v : T → ℚ) → ((x : T) (f g : S) → Add x f (Ok g) → w g ≡ w f +ℚ v x) → (xs : List T) (f h : S)
    → adds_each Add xs f (Ok h) → w h ≡ w f +ℚ rat_sum_by v xs
sums_each Add w v step [] f h s = let d : h ≡ f = cc in ap w d ∙ sym (+ℚ_idr (w f))
sums_each Add w v step (x ∷ xs) f h s =
    sums_each Add w v step xs s.0 h s.2 ∙ ap (λ y. y +ℚ rat_sum_by v xs) (step x f s.0 s.1) ∙ +ℚ_assoc (w f) (v x) (rat_sum_by v xs)

module _ {C : Type 0} (value_at : C → Parameters → ℚ) (of_number : Frac → C) (number_of : C → Option Frac) (Sums : C → C → Result C Passes → Type 0) (Changes : Change → C → Result C Passes → Type 0)
    (laws : AreCoefs value_at of_number number_of Sums Changes) (u : Unknowns) (params : Parameters) (args : Arguments C) where
  -- the numbers of the arguments
  abbrev pub numbers : ℕ → ℕ → ℚ
  numbers k e = linear_value value_at (args k e) u params

  -- the number that is read in the forms of an argument is what they are
  abbrev pub IsRead : ℕ → Type 0
  IsRead k = (e : ℕ) → value (number_in number_of (args k e)) ≡ numbers k e

  -- the constants of the forms of an argument are what they are
  abbrev pub IsStill : ℕ → Type 0
  IsStill k = (e : ℕ) → value_at (args k e).constant params ≡ numbers k e

  -- the side that scales is what it is taken for
  abbrev pub MayScale : Scaling → Type 0
  MayScale LeftNumber = IsRead 0
  MayScale RightNumber = IsRead 1
  MayScale LeftAffine = IsStill 0
  MayScale RightAffine = IsStill 1
  MayScale Divisor = ⊥

  added : (f m g : Form C) (x : ℚ) → linear_value value_at g u params ≡ linear_value value_at f u params +ℚ linear_value value_at m u params → linear_value value_at m u params ≡ x →
      linear_value value_at g u params ≡ linear_value value_at f u params +ℚ x
  added f m g x e h = e ∙ ap (λ y. linear_value value_at f u params +ℚ y) h

  multiple_is : (c : C) (f h : Form C) → multiple_gives number_of Changes c f (Ok h) → linear_value value_at h u params ≡ value_at c params *ℚ linear_value value_at f u params
  multiple_is c f h m = multiple_value number_of Changes c value_at laws.told_value u params (λ change a d e. laws.change_value change a d params e) f h m

  product_step : (scaling : Scaling) → MayScale scaling → (x : Pair) (f g : Form C) → adds_pair number_of Sums Changes scaling args x f (Ok g) →
      linear_value value_at g u params ≡ linear_value value_at f u params +ℚ numbers 0 x.left *ℚ numbers 1 x.right
  product_step LeftNumber may x f g h =
      added f h.0 g _ (sum_is value_at of_number number_of Sums Changes laws u params f h.0 g h.2)
      (change_is value_at of_number number_of Sums Changes laws u params _ (args 1 x.right) h.0 h.1 ∙ ap (λ y. y *ℚ numbers 1 x.right) (may x.left))
  product_step RightNumber may x f g h =
      added f h.0 g _ (sum_is value_at of_number number_of Sums Changes laws u params f h.0 g h.2)
      (change_is value_at of_number number_of Sums Changes laws u params _ (args 0 x.left) h.0 h.1 ∙ ap (λ y. y *ℚ numbers 0 x.left) (may x.right) ∙ *ℚ_comm (numbers 1 x.right) (numbers 0 x.left))
  product_step LeftAffine may x f g h =
      added f h.0 g _ (sum_is value_at of_number number_of Sums Changes laws u params f h.0 g h.2)
      (multiple_is (args 0 x.left).constant (args 1 x.right) h.0 h.1 ∙ ap (λ y. y *ℚ numbers 1 x.right) (may x.left))
  product_step RightAffine may x f g h =
      added f h.0 g _ (sum_is value_at of_number number_of Sums Changes laws u params f h.0 g h.2)
      (multiple_is (args 1 x.right).constant (args 0 x.left) h.0 h.1 ∙ ap (λ y. y *ℚ numbers 0 x.left) (may x.right) ∙ *ℚ_comm (numbers 1 x.right) (numbers 0 x.left))
  product_step Divisor may x f g h = absurd may

  quotient_step : IsRead 1 → (x : Pair) (f g : Form C) → adds_pair number_of Sums Changes Divisor args x f (Ok g) →
      linear_value value_at g u params ≡ linear_value value_at f u params +ℚ numbers 0 x.left /ℚ numbers 1 x.right
  quotient_step read x f g h =
      added f h.0 g _ (sum_is value_at of_number number_of Sums Changes laws u params f h.0 g h.2)
      (change_is value_at of_number number_of Sums Changes laws u params _ (args 0 x.left) h.0 h.1 ∙ ap (λ y. numbers 0 x.left /ℚ y) (read x.right))

  -- the sums
  pub products_are : (scaling : Scaling) → MayScale scaling → (pairs : List Pair) (f : Form C) → adds_each (adds_pair number_of Sums Changes scaling args) pairs (zero_form of_number) (Ok f) →
      linear_value value_at f u params ≡ pairing_value Times pairs (numbers 0) (numbers 1)
  products_are scaling may pairs f h =
      sums_each (adds_pair number_of Sums Changes scaling args) (λ g. linear_value value_at g u params) (λ x. numbers 0 x.left *ℚ numbers 1 x.right) (product_step scaling may) pairs
      (zero_form of_number) f h
      ∙ ap (λ y. y +ℚ pairing_value Times pairs (numbers 0) (numbers 1)) (zero_is value_at of_number number_of Sums Changes laws u params) ∙ +ℚ_idl (pairing_value Times pairs (numbers 0) (numbers 1))

  pub quotients_are : IsRead 1 → (pairs : List Pair) (f : Form C) → adds_each (adds_pair number_of Sums Changes Divisor args) pairs (zero_form of_number) (Ok f) →
      linear_value value_at f u params ≡ pairing_value Over pairs (numbers 0) (numbers 1)
  quotients_are read pairs f h =
      sums_each (adds_pair number_of Sums Changes Divisor args) (λ g. linear_value value_at g u params) (λ x. numbers 0 x.left /ℚ numbers 1 x.right) (quotient_step read) pairs
      (zero_form of_number) f h
      ∙ ap (λ y. y +ℚ pairing_value Over pairs (numbers 0) (numbers 1)) (zero_is value_at of_number number_of Sums Changes laws u params) ∙ +ℚ_idl (pairing_value Over pairs (numbers 0) (numbers 1))
