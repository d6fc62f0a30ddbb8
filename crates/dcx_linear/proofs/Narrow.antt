-- Forms that name so many unknowns at most.
use Rattle.std.proofs.Common.{◌≡◌, ℕ, ◌<◌, ◌≤◌, Some, Result, Ok, sym, subst, arith}
use Rattle.dcx_frac.specs.declared.fraction.Frac.{Frac}
use Rattle.dcx_frac.specs.declared.fraction.Passes.{Passes}
use Rattle.dcx_frac.specs.Results.{sum_of}
use Rattle.dcx_linear.specs.declared.change.Change.{Change}
use Rattle.dcx_linear.specs.declared.change.Change.TheVariants.{Scale}
use Rattle.dcx_linear.specs.declared.form.Form.{Form}
use Rattle.dcx_linear.specs.Changes.{changed_frac}
use Rattle.dcx_linear.specs.Forms.{is_constant, IsUnknownForm, sum_gives_linear, change_gives_linear}
use Rattle.dcx_linear.specs.Widths.{form_width}
use Rattle.dcx_linear.proofs.Widths.{sum_width, change_width}

-- what adding two fractions, and changing one, answers
abbrev pub Sums : Frac → Frac → Result Frac Passes → Type 0
Sums x y r = r ≡ sum_of x y

abbrev pub Changes : Change → Frac → Result Frac Passes → Type 0
Changes change x r = r ≡ changed_frac change x

-- a constant names no unknown
pub constant_narrow : (n : ℕ) (x : Frac) (f : Form Frac) → f ≡ is_constant x → form_width f ≤ n
constant_narrow n x f h = subst (λ (g : Form Frac). form_width g ≤ n) (sym h) (omega arith)

-- an unknown names itself
pub unknown_narrow : (n u : ℕ) (f : Form Frac) → u < n → IsUnknownForm (λ x. x) u f → form_width f ≤ n
unknown_narrow n u f l h = subst (λ (g : Form Frac). form_width g ≤ n) (sym h.is) (omega (arith, l))

-- multiples and sums name no others
pub multiple_narrow : (n : ℕ) (by : Frac) (f h : Form Frac) → change_gives_linear (λ x. Some x) Changes (Scale by) f (Ok h) → form_width f ≤ n → form_width h ≤ n
multiple_narrow n by f h s w = change_width (λ x. Some x) n Changes (Scale by) f h s w

pub sum_narrow : (n : ℕ) (f g h : Form Frac) → sum_gives_linear (λ x. Some x) Sums f g (Ok h) → form_width f ≤ n → form_width g ≤ n → form_width h ≤ n
sum_narrow n f g h s v w = sum_width (λ x. Some x) n Sums f g h s v w
