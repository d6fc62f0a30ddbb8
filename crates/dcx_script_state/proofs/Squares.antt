-- A variable that is declared is square, if it must be.
use Rattle.std.proofs.Common.{◌≡◌, ℕ, Bool, true, false, ◌||◌, List, Option, Some, None, Ok, refl, sym, ap, subst}
use Rattle.std.specs.Prelude.{if◌then◌else◌}
use Rattle.std.proofs.lemmas.Bool.{eqb-true}
use Rattle.dcx_shape.specs.declared.place.Place.{Place}
use Rattle.dcx_shape.specs.declared.shape.Sides.{Sides}
use Rattle.dcx_shape.specs.declared.shape.Sides.TheVariants.{Scalar, Vector, Matrix}
use Rattle.dcx_shape.specs.declared.shape.Shape.{Shape}
use Rattle.dcx_shape.specs.Shape.{sides_of}
use Rattle.dcx_shape.specs.Sides.{rows_of, cols_of}
use Rattle.dcx_array.specs.Shapes.{shape_with}
use Rattle.dcx_array.proofs.AllowedShapes.{shape_with-back}
use Rattle.dcx_call.specs.declared.attribute.Attribute.{Attribute}
use Rattle.dcx_call.specs.declared.attribute.Attribute.TheVariants.{Free, Nonneg, Nonpos, Symmetric, Diag}
use Rattle.dcx_call.specs.declared.attribute.Whole.TheVariants.{Not, Integer, Boolean}
use Rattle.dcx_call.specs.declared.attribute.Variable.{Variable}
use Rattle.dcx_call.specs.Attributes.{counted, IsSquareFor, IsSquare}
use Rattle.dcx_script_values.specs.declared.fault.ElabFault.{ElabFault}
use Rattle.dcx_script_values.specs.Values.{State, and_then, unless, or_fault}
use Rattle.dcx_script_values.specs.Kinds.{is_square}
use Rattle.dcx_script_state.specs.declared.flags.Flags.{Flags}
use Rattle.dcx_script_state.specs.Attributes.{attribute_of}
use Rattle.dcx_script_state.specs.Declarations.{declared_shape, variable_with}

-- ---- what is demanded
square_by : (signed nonpos symmetric diag : Bool) (s : Sides) → ((symmetric || diag) ≡ true → rows_of s ≡ cols_of s) →
    IsSquareFor (if signed then Nonneg else (if nonpos then Nonpos else (if symmetric then Symmetric else (if diag then Diag else Free)))) s
square_by true nonpos symmetric diag s h = tt
square_by false true symmetric diag s h = tt
square_by false false true diag s h = h refl
square_by false false false true s h = h refl
square_by false false false false s h = tt

square_counted : (boolean integer : Bool) (a : Attribute) (s : Sides) → IsSquareFor a s → IsSquareFor (counted (if boolean then Boolean else (if integer then Integer else Not)) a) s
square_counted true integer a s h = tt
square_counted false true a s h = h
square_counted false false a s h = h

-- ---- the shape that is declared
same_lengths : (s : Sides) → is_square s ≡ true → rows_of s ≡ cols_of s
same_lengths Scalar e = refl
same_lengths (Vector n) e = absurd (cc)
same_lengths (Matrix m n) e = eqb-true m n e

sides_declared : (place : Place) (sides : Sides) (shape : Shape) (s : State) → declared_shape place sides s ≡ Ok (shape, s) → sides_of shape ≡ sides
sides_declared place sides shape s e = shape_with-back sides shape (by _ (shape_with sides) _ _ e)
  where
    by : (b : Bool) (o : Option Shape) (e f : ElabFault) → and_then (unless e b s) (λ _. or_fault f o) ≡ Ok (shape, s) → o ≡ Some shape
    by true (Some x) e f is = let both : (x, s) ≡ (shape, s) = cc in ap (λ (p : Shape × State). Some p.0) both
    by true None e f is = absurd (cc)
    by false o e f is = absurd (cc)

-- ---- the variable that is listed
pub declared_square : (place : Place) (name : List ℕ) (sides : Sides) (shape : Shape) (s : State) (flags : Flags) (v : Variable) → declared_shape place sides s ≡ Ok (shape, s) →
    ((flags.symmetric || flags.diag) ≡ true → is_square sides ≡ true) → v ≡ variable_with name shape flags → IsSquare v
declared_square place name sides shape s flags v declared square is =
    let same : sides_of shape ≡ sides = sides_declared place sides shape s declared in
    subst IsSquare (sym is)
    (square_counted flags.boolean flags.integer (attribute_of flags) (sides_of shape)
    (square_by (flags.nonneg || flags.boolean) flags.nonpos flags.symmetric flags.diag (sides_of shape)
    (λ e. subst (λ (t : Sides). rows_of t ≡ cols_of t) (sym same) (same_lengths sides (square e)))))
