-- What the form of a list tells of what it is where an expression is wanted.
use Rattle.std.specs.Prelude.{◌≡◌, ◌≢◌, ◌<◌, ◌≤◌, ℕ, nat_eq, Bool, true, false, if◌then◌else◌, List, [], ◌∷◌, map, length, Option, Some, None, option_map, IsSome}
use Rattle.std.specs.List.{list_all, list_any}
use Rattle.std.proofs.Common.{refl, sym, ap, ◌∙◌, arith}
use Rattle.std.proofs.lemmas.Bool.{false≢true}
use Rattle.dcx_shape.specs.declared.shape.Sides.TheVariants.{Vector}
use Rattle.dcx_shape.specs.declared.shape.Shape.{Shape}
use Rattle.dcx_shape.specs.Shape.{sides_of}
use Rattle.dcx_atom.specs.declared.array.Array.{Array}
use Rattle.dcx_array.specs.Shapes.{shape_with}
use Rattle.dcx_array.proofs.AllowedShapes.{shape_with-few, shape_with-none}
use Rattle.dcx_script_values.specs.declared.reading.ListForm.TheVariants as forms
use Rattle.dcx_script_values.specs.declared.value.Value as code_value
use Rattle.dcx_script_values.specs.Values.{Value}
use Rattle.dcx_script_values.specs.Meant.{meant}
use Rattle.dcx_script_values.specs.Kinds.{is_number, is_list, vector_of, or_unfit, list_reading, nested, unfit, reading_sides, is_fit, is_constant}
use Rattle.dcx_script_values.specs.View.{form_of, is_fit_form, is_constant_form}

pub few_meant : (vs : List code_value.Value) (n : ℕ) → length vs ≤ n → length (map meant vs) ≤ n
few_meant vs n h = omega (arith, same vs, h)
  where
    same : (us : List code_value.Value) → length (map meant us) ≡ length us
    same [] = refl
    same (u ∷ us) = omega (arith, same us)

some_entries : (v : Value) (vs : List Value) → 0 < length (v ∷ vs)
some_entries v vs = omega arith

-- there is a vector of so many numbers
vector_there : (v : Value) (vs : List Value) → length (v ∷ vs) ≤ 20000 → IsSome (shape_with (Vector (length (v ∷ vs))))
vector_there v vs few = (shape_with-few (Vector (length (v ∷ vs)))).1 (record { some = some_entries v vs; most = few })

fit_some : (f : Shape → Array) (o : Option Shape) → IsSome o → is_fit (or_unfit (option_map f o)) ≡ true
fit_some f None h = absurd (false≢true h)
fit_some f (Some shape) h = refl

constant_some : (f : Shape → Array) (o : Option Shape) → IsSome o → is_constant (or_unfit (option_map f o)) ≡ true
constant_some f None h = absurd (false≢true h)
constant_some f (Some shape) h = refl

not_none : (v : Value) (vs : List Value) → nat_eq (length (v ∷ vs)) 0 ≡ false
not_none v vs = grind (arith, some_entries v vs)

pub is_fit-form : (vs : List Value) → length vs ≤ 20000 → is_fit_form (form_of vs) ≡ is_fit (list_reading vs)
is_fit-form [] few = refl
is_fit-form (v ∷ vs) few = rw (not_none v vs) (by (list_all is_number (v ∷ vs)) (list_any is_list (v ∷ vs)))
  where
    by : (b d : Bool) → is_fit_form (if b then forms.Numbers else (if d then forms.Nested else forms.Unfit)) ≡ is_fit (if b then or_unfit (vector_of (v ∷ vs)) else (if d then nested else unfit))
    by true d = sym (fit_some _ (shape_with (Vector (length (v ∷ vs)))) (vector_there v vs few))
    by false true = refl
    by false false = refl

pub is_constant-form : (vs : List Value) → length vs ≤ 20000 → is_constant_form (form_of vs) ≡ is_constant (list_reading vs)
is_constant-form [] few = refl
is_constant-form (v ∷ vs) few = rw (not_none v vs) (by (list_all is_number (v ∷ vs)) (list_any is_list (v ∷ vs)))
  where
    by : (b d : Bool) → is_constant_form (if b then forms.Numbers else (if d then forms.Nested else forms.Unfit))
        ≡ is_constant (if b then or_unfit (vector_of (v ∷ vs)) else (if d then nested else unfit))
    by true d = sym (constant_some _ (shape_with (Vector (length (v ∷ vs)))) (vector_there v vs few))
    by false true = refl
    by false false = refl

-- ---- the vector that a list of numbers stands for
-- there is none of too many
many_none : (n : ℕ) → 20000 < n → shape_with (Vector n) ≡ None
many_none n many = shape_with-none (Vector n) (λ few. omega (arith, few.most, many))

pub vector_of-many : (vs : List Value) → 20000 < length vs → vector_of vs ≡ None
vector_of-many vs many = rw (many_none (length vs) many) refl

or_unfit-sides : (f : Shape → Array) → ((s : Shape) → (f s).shape ≡ s) → (o : Option Shape) → reading_sides [] (or_unfit (option_map f o)) ≡ option_map sides_of o
or_unfit-sides f same None = refl
or_unfit-sides f same (Some s) = ap (λ x. Some (sides_of x)) (same s)

-- the sides of a list of numbers are those of its vector
pub numbers_sides : (vs : List Value) → form_of vs ≡ forms.Numbers → reading_sides [] (list_reading vs) ≡ option_map sides_of (shape_with (Vector (length vs)))
numbers_sides [] e = cc
numbers_sides (v ∷ vs) e = by (list_all is_number (v ∷ vs)) (list_any is_list (v ∷ vs)) (rw (not_none v vs) at e)
  where
    by : (b d : Bool) → (if b then forms.Numbers else (if d then forms.Nested else forms.Unfit)) ≡ forms.Numbers
        → reading_sides [] (if b then or_unfit (vector_of (v ∷ vs)) else (if d then nested else unfit)) ≡ option_map sides_of (shape_with (Vector (length (v ∷ vs))))
    by true d f = or_unfit-sides _ (λ s. refl) (shape_with (Vector (length (v ∷ vs))))
    by false true f = cc
    by false false f = cc

pub numbers_sides-many : (vs : List Value) → form_of vs ≡ forms.Numbers → 20000 < length vs → reading_sides [] (list_reading vs) ≡ None
numbers_sides-many vs e many = numbers_sides vs e ∙ ap (option_map sides_of) (many_none (length vs) many)
