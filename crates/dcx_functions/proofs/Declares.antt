-- Declarations of what is given.
use Rattle.std.specs.Prelude.{◌≡◌, ℕ, Bool, List, Option, Some, option_map}
use Rattle.std.proofs.Common.{sym, ap, ap₂, ◌∙◌}
use Rattle.dcx_shape.specs.declared.shape.Sides.{Sides}
use Rattle.dcx_shape.specs.declared.place.Place.{Place}
use Rattle.dcx_script_values.specs.Values.{State}
use Rattle.dcx_script_values.specs.Kinds.{Reading, reading}
use Rattle.dcx_script_state.specs.declared.flags.Flags.{Flags}
use Rattle.dcx_script_state.specs.Declarations.{declare_variable, declare_parameter}
use Rattle.dcx_signature.specs.Table.{value_word, nonneg_word, nonpos_word}
use Rattle.dcx_signature.specs.Arguments.{Bound, given_for}
use Rattle.dcx_functions.specs.Calls.{is_set, declared_sides, flags_of, names_unoffered, variable_of, parameter_of}

module _ (place : Place) (target : Option (List ℕ)) (bound : Bound) (name : List ℕ) (sides : Sides) (flags : Flags) (s : State)
    (named : target ≡ Some name) (sided : sides ≡ declared_sides bound) (flagged : flags ≡ flags_of bound) where
  pub variable_given : declare_variable place name sides flags s ≡ variable_of place target bound s
  variable_given = ap₂ (λ (a : Sides) (b : Flags). declare_variable place name a b s) sided flagged ∙ sym (ap (λ (o : Option (List ℕ)). variable_of place o bound s) named)

  pub parameter_given : (unoffered : Bool) (value : Option Reading) → unoffered ≡ names_unoffered bound → value ≡ option_map reading (given_for value_word bound)
      → declare_parameter place name sides flags.nonneg flags.nonpos unoffered value s ≡ parameter_of place target bound s
  parameter_given unoffered value offers valued =
      ap₂ (λ (a : Sides) (b : Flags). declare_parameter place name a b.nonneg b.nonpos unoffered value s) sided flagged
      ∙ (ap₂ (λ (u : Bool) (o : Option Reading). declare_parameter place name (declared_sides bound) (is_set nonneg_word bound) (is_set nonpos_word bound) u o s) offers valued
      ∙ sym (ap (λ (o : Option (List ℕ)). parameter_of place o bound s) named))
