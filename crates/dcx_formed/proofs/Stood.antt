-- The numbers that the forms of the arguments of a node are.
use Rattle.std.proofs.Common.{◌≡◌, ℕ, List, map, Option, Result, refl}
use Rattle.std.proofs.Math.Path.{fun_ext}
use Rattle.dcx_math.specs.Rational.{ℚ}
use Rattle.dcx_frac.specs.declared.fraction.Frac.{Frac}
use Rattle.dcx_frac.specs.declared.fraction.Passes.{Passes}
use Rattle.dcx_convex.specs.Nodes.{arguments}
use Rattle.dcx_convex.specs.Reductions.{Unknowns}
use Rattle.dcx_linear.specs.declared.change.Change.{Change}
use Rattle.dcx_linear.specs.declared.form.Form.{Form}
use Rattle.dcx_linear.specs.Parameters.{Parameters}
use Rattle.dcx_linear.specs.Forms.{linear_value}
use Rattle.dcx_entries.specs.Standing.{args_among}
use Rattle.dcx_entries.specs.Nodes.{Table, table_forms}
use Rattle.dcx_formed.specs.Forms.{forms_at}
use Rattle.dcx_formed.proofs.Coefs.{AreCoefs}
use Rattle.dcx_formed.proofs.PartValues.{zero_is}
use Rattle.dcx_formed.proofs.Tables.{args_are}

module _ {C : Type 0} (value_at : C → Parameters → ℚ) (of_number : Frac → C) (number_of : C → Option Frac) (Sums : C → C → Result C Passes → Type 0) (Changes : Change → C → Result C Passes → Type 0)
    (laws : AreCoefs value_at of_number number_of Sums Changes) (table : Table C) (params : Parameters) where
  -- they are what stands for the arguments in the equations
  pub args_match : (u : Unknowns) (ids : List ℕ) → (λ (k e : ℕ). linear_value value_at (args_among of_number (table_forms table) ids k e) u params)
      ≡ arguments (map (forms_at value_at of_number params table u) ids)
  args_match u ids = fun_ext (λ k. fun_ext (λ e.
      args_are of_number (table_forms table) (λ a. Unit {0}) (λ (f : Form C). linear_value value_at f u params) (zero_is value_at of_number number_of Sums Changes laws u params)
      (forms_at value_at of_number params table u) (λ a q e. refl) ids (λ _ _ _. tt) k e))
