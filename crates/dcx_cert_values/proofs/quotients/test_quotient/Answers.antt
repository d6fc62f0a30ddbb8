-- The numbers of the kept divisor are those that are tested.
use Rattle.std.proofs.Common.{◌≡◌, List, Option, Some, sym, ap, subst, ◌∙◌}
use Rattle.dcx_shape.specs.Sides.{entries_of}
use Rattle.dcx_atom.specs.declared.array.Array.{Array}
use Rattle.dcx_tree.specs.Values.{array_at}
use Rattle.dcx_cert_values.proofs.Dividing.{tested}
use Rattle.dcx_cert_values.proofs.quotients.test_quotient.Goals as goal

pub returns-in-Some : goal.returns-in-Some
returns-in-Some c =
    let d = c.in-Some.divisor.0 in
    tested c.args.problem.now c.args.setting.now c.args.values.now c.requires.values c.args.node.0 d c.size.result c.kept_value.result.now c.test_divisor.result (sym c.in-Some.ensures)
    (subst (λ (xs : List (Option Array)). array_at xs d ≡ Some c.kept_value.result.now) c.as_slice.ensures c.kept_value.ensures)
    (c.size.ensures.value ∙ ap entries_of c.shape.ensures) c.test_divisor.ensures
