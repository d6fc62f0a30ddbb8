-- The point of arrays of unknowns is that of the unknowns, entry by entry.
use Rattle.std.proofs.Common.{[], map, option_map, sym, ap, ◌∙◌}
use Rattle.std.proofs.lemmas.Option.{slice_get-map, get_or_from_slice_get}
use Rattle.dcx_call.specs.declared.attribute.Variable.{Variable}
use Rattle.dcx_call.specs.Values.{given_by}
use Rattle.dcx_postsolve.specs.Laws.{ArraysArePoints}

pub arrays_are_points : ArraysArePoints
arrays_are_points p us given is = λ k v at e b.
    sym (is.numbers k v at e)
    ∙ ap (λ name. given_by given name e)
    (sym (get_or_from_slice_get (map (λ (w : Variable). w.name) p.variables) k v.name [] (slice_get-map (λ (w : Variable). w.name) p.variables k ∙ ap (option_map (λ (w : Variable). w.name)) at)))
