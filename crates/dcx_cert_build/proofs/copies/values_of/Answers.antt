-- One more value, where the setting has one.
use Rattle.std.proofs.Common.{Bor, List, length, map, refl, sym, subst, ◌∙◌}
use Rattle.std.specs.List.{IsDistinct}
use Rattle.std.proofs.lemmas.Option.{slice_get_read}
use Rattle.dcx_atom.specs.declared.array.Array.{Array}
use Rattle.dcx_point.specs.Pairs.{same_name}
use Rattle.dcx_call.specs.declared.attribute.Parameter.{Parameter}
use Rattle.dcx_cert_build.proofs.Copied.{value_more, value_none}
use Rattle.dcx_cert_build.proofs.Shown.{parameters_distinct}
use Rattle.dcx_cert_build.proofs.copies.values_of.Goals as goal
use Rattle.dcx_cert_build.proofs.copies.values_of.Goals.{in-Some+in_ok-put_copy, in_default}

pub parameters-preserved : goal.parameters-preserved
parameters-preserved c =
    let qs = c.as_slice-parameter-items.result.now in
    let i = c.parameters.parameter-index in
    let q = c.parameter-item.result in
    let distinct : IsDistinct same_name (map (λ (r : Parameter). r.name) qs) =
    subst (λ (l : List Parameter). IsDistinct same_name (map (λ (r : Parameter). r.name) l)) (sym c.as_slice-parameter-items.ensures) (parameters_distinct c.args.problem.now) in
    let at = slice_get_read qs (length qs) i q refl c.parameters-test.true c.parameter-item.is in
    elim c.match-get.branch [
      | in-Some+in_ok-put_copy w ↦
          value_more c.args.setting.now qs i q distinct at c.parameters.values c.match-get.values c.parameters.invariant
          w.in-Some.array.now w.in-Some.ensures (w.values-is ∙ w.in_ok-put_copy.ensures)
      | in_default w ↦
          value_none c.args.setting.now qs i q distinct at c.parameters.values c.match-get.values c.parameters.invariant
          (λ (x : Bor Array). x.now) c.get.result c.get.ensures w.in_default.not-Some w.values-is
    ]
