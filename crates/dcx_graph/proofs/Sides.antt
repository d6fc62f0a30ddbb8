-- What stands at an entry of a node, and left minus right.
use Rattle.std.proofs.Common.{◌≡◌, ℕ, ◌≤◌, List, [], length, Option, Result, Ok, Err, slice_index_or, inr, sym, ap, ◌∙◌, subst, arith, pos, negsuc}
use Rattle.std.proofs.lemmas.List.{length-map}
use Rattle.dcx_math.specs.Rational.{whole}
use Rattle.dcx_frac.specs.declared.fraction.Frac.{Frac}
use Rattle.dcx_frac.specs.declared.fraction.Passes.{Passes}
use Rattle.dcx_frac.specs.Frac.{value}
use Rattle.dcx_atom.specs.Formed.{frac_at}
use Rattle.dcx_atom.proofs.FormedSums.{frac_at-value, zero_frac-unique}
use Rattle.dcx_linear.specs.declared.change.Change.{Change}
use Rattle.dcx_linear.specs.declared.change.Change.TheVariants.{Scale}
use Rattle.dcx_linear.specs.declared.form.Form.{Form}
use Rattle.dcx_linear.specs.Forms.{is_constant, sum_gives_linear, change_gives_linear}
use Rattle.dcx_linear.specs.Parts.{adds_part}
use Rattle.dcx_entries.specs.declared.standing.Standing.{Standing}
use Rattle.dcx_entries.specs.Parts.{zero_form}
use Rattle.dcx_entries.specs.Standing.{forms_of, all_forms}
use Rattle.dcx_entries.proofs.Past.{past_end}
use Rattle.dcx_graph.specs.Program.{minus_one, form_at}

-- there is one fraction -1
pub minus_one_is : (x : Frac) → value x ≡ whole (negsuc 0) → x ≡ minus_one
minus_one_is x e = sym (frac_at-value x) ∙ ap frac_at e

-- 0 stands where there is no node
pub no_node : {C : Type 0} (of_number : Frac → C) (standing : List (Standing C)) (a e : ℕ) (z : Frac) → value z ≡ whole (pos 0) → length standing ≤ a
    → is_constant (of_number z) ≡ form_at of_number (all_forms of_number standing) a e
no_node of_number standing a e z is past =
    ap (λ x. is_constant (of_number x)) (zero_frac-unique z is)
    ∙ ap (λ (fs : List (Form _)). slice_index_or fs e (zero_form of_number)) (sym (past_end (all_forms of_number standing) a [] (omega (arith, length-map standing (forms_of of_number), past))))

module _ {C : Type 0} (number_of : C → Option Frac) (Sums : C → C → Result C Passes → Type 0) (Changes : Change → C → Result C Passes → Type 0) where
  -- a form is scaled by -1
  pub scaled : (k : Frac) (f g : Form C) (r : Result (Form C) Passes) → value k ≡ whole (negsuc 0) → f ≡ g → change_gives_linear number_of Changes (Scale k) f r
      → change_gives_linear number_of Changes (Scale minus_one) g r
  scaled k f g r is same h =
      subst (λ x. change_gives_linear number_of Changes (Scale minus_one) x r) same (subst (λ x. change_gives_linear number_of Changes (Scale x) f r) (minus_one_is k is) h)

  -- and then added
  pub then_added : (left right negated : Form C) (r : Result (Form C) Passes) → change_gives_linear number_of Changes (Scale minus_one) right (Ok negated)
      → sum_gives_linear number_of Sums left negated r → adds_part number_of Sums Changes left (Scale minus_one) right r
  then_added left right negated (Ok f) change sum = (negated, change, sum)
  then_added left right negated (Err passes) change sum = inr (negated, change, sum)
