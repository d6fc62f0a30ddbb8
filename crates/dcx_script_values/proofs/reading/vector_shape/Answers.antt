-- The side is the number of values, and of more than a side may be long there is no shape.
use Rattle.std.proofs.Common.{◌≡◌, sym, ap, ◌∙◌, map, length, option_map, arith}
use Rattle.std.proofs.lemmas.List.{length-map}
use Rattle.dcx_shape.specs.declared.shape.Sides.TheVariants.{Vector}
use Rattle.dcx_shape.specs.Shape.{sides_of}
use Rattle.dcx_array.specs.Shapes.{shape_with}
use Rattle.dcx_script_values.specs.Meant.{meant}
use Rattle.dcx_script_values.proofs.Forms.{numbers_sides, numbers_sides-many}
use Rattle.dcx_script_values.proofs.ShapesAsked.{shape_is}
use Rattle.dcx_script_values.proofs.reading.vector_shape.Goals as goal

pub returns-in_err-count_of-in-Numbers : goal.returns-in_err-count_of-in-Numbers
returns-in_err-count_of-in-Numbers c =
    ap (option_map sides_of) c.from_residual.ensures
    ∙ sym (numbers_sides-many (map meant c.args.values.now) (sym c.list_form.ensures ∙ c.in-Numbers.is) (omega (arith, length-map c.args.values.now meant, c.in_err-count_of-in-Numbers.ensures)))

pub returns-in_ok-count_of-in-Numbers : goal.returns-in_ok-count_of-in-Numbers
returns-in_ok-count_of-in-Numbers c =
    let long : c.in_ok-count_of-in-Numbers.field-0 ≡ length (map meant c.args.values.now) = omega (arith, length-map c.args.values.now meant, c.in_ok-count_of-in-Numbers.ensures) in
    ap (option_map sides_of) (shape_is (Vector c.in_ok-count_of-in-Numbers.field-0) c.vector.result c.vector.ensures.exists c.vector.ensures.sides)
    ∙ ap (λ n. option_map sides_of (shape_with (Vector n))) long
    ∙ sym (numbers_sides (map meant c.args.values.now) (sym c.list_form.ensures ∙ c.in-Numbers.is))
