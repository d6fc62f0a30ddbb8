-- The sides of the shapes of arrays are those of the arrays.
use Rattle.std.proofs.Common.{◌≡◌, List, [], ◌∷◌, map, refl, ap, ◌∙◌}
use Rattle.std.specs.Prelude.{IfOk, Result, Ok, Err}
use Rattle.std.specs.declared.alloc.AllocError.{AllocError}
use Rattle.std.proofs.Common.{Vec, Global}
use Rattle.dcx_shape.specs.declared.shape.Shape.{Shape}
use Rattle.dcx_shape.specs.Shape.{sides_of}
use Rattle.dcx_atom.specs.declared.array.Array.{Array}
use Rattle.dcx_atom.specs.Arrays.{sides_list, array_sides}
use Rattle.dcx_part_cases.proofs.values.shapes_of.Goals as goal

sides_are : (xs : List Array) → sides_list (map (λ x. x.shape) xs) ≡ array_sides xs
sides_are [] = refl
sides_are (x ∷ xs) = ap (λ rest. sides_of x.shape ∷ rest) (sides_are xs)

by : (r : Result (Vec Shape Global) AllocError) (xs : List Array) → IfOk r (λ v. v.items ≡ map (λ x. x.shape) xs) → IfOk r (λ v. sides_list v.items ≡ array_sides xs)
by (Ok v) xs h = ap sides_list h ∙ sides_are xs
by (Err e) xs h = tt

pub returns : goal.returns
returns c = by c.shapes.result c.args.args.now c.shapes.ensures
