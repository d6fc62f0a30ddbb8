-- What the value is comes behind the others.
use Rattle.std.proofs.Common.{[], ◌∷◌, ◌++◌, map, ap, ◌∙◌}
use Rattle.std.proofs.lemmas.List.{map-append}
use Rattle.dcx_script_values.specs.Kinds.{Reading}
use Rattle.dcx_script_values.specs.View.{read_as}
use Rattle.dcx_functions.proofs.expressions.push_reading.Goals as goal

pub returns : goal.returns
returns c =
    let so_far = c.args.readings.now.items in
    ap (map read_as) c.in_ok-push.ensures.items ∙ map-append read_as so_far (c.in_ok-reading.reading ∷ []) ∙ ap (λ (q : Reading). map read_as so_far ++ q ∷ []) c.in_ok-reading.ensures
