-- The weights and their sum are tested, and then the slope is formed.
use Rattle.std.proofs.Common.{◌≡◌, ◌∙◌, sym, ap, map, [], ◌∷◌}
use Rattle.std.proofs.lemmas.Result.{err_from_is_err_and}
use Rattle.dcx_frac.specs.Frac.{value}
use Rattle.dcx_atom.specs.declared.graph.AuxKind.TheVariants.{Nonneg}
use Rattle.dcx_atom.specs.Arrays.{list_below, number_at}
use Rattle.dcx_atom.specs.Steps.{form, first_stop, slope_stop}
use Rattle.dcx_atom.proofs.FirstStops.{first_stop-stopped}
use Rattle.dcx_atom.specs.Bounding.{total_steps}
use Rattle.dcx_elem.specs.Kinks.{kink_rows, kink_slope}
use Rattle.dcx_atom.proofs.Lists.{list_below-numbers}
use Rattle.dcx_atom.proofs.Totals.{slope_stops}
use Rattle.dcx_elem.proofs.kinks.entry_slope.Goals as goal

pub returns-in_err-check_total-clause-stop : goal.returns-in_err-check_total-clause-stop
returns-in_err-check_total-clause-stop c =
    let p = err_from_is_err_and c.from_residual.result c.from_residual.ensures.1 in
    let ws = c.args.weights.now in
    let same : map value ws ≡ list_below (kink_rows c.args.kink) (number_at ws) = sym (list_below-numbers ws) ∙ ap (λ n. list_below n (number_at ws)) c.requires in
    rw (p.1, p.2) (sym (first_stop-stopped c.args.entry (total_steps Nonneg (value c.args.coefficient) (list_below (kink_rows c.args.kink) (number_at ws)))
    (form (kink_slope c.args.kink (number_at ws)) ∷ []) _
    (ap (λ xs. first_stop c.args.entry (total_steps Nonneg (value c.args.coefficient) xs)) (sym same) ∙ sym c.in_err-check_total.ensures)))

pub returns-in-Err-clause-stop : goal.returns-in-Err-clause-stop
returns-in-Err-clause-stop c =
    let ws = c.args.weights.now in
    let same : map value ws ≡ list_below (kink_rows c.args.kink) (number_at ws) = sym (list_below-numbers ws) ∙ ap (λ n. list_below n (number_at ws)) c.requires in
    sym (slope_stops c.args.entry (total_steps Nonneg (value c.args.coefficient) (list_below (kink_rows c.args.kink) (number_at ws))) (kink_slope c.args.kink (number_at ws))
    (ap (λ xs. first_stop c.args.entry (total_steps Nonneg (value c.args.coefficient) xs)) (sym same) ∙ sym c.in_ok-check_total.ensures)
    ∙ ap slope_stop (sym c.in-Err.ensures.answer))

pub returns-in-Ok-clause-stop : goal.returns-in-Ok-clause-stop
returns-in-Ok-clause-stop c =
    let ws = c.args.weights.now in
    let same : map value ws ≡ list_below (kink_rows c.args.kink) (number_at ws) = sym (list_below-numbers ws) ∙ ap (λ n. list_below n (number_at ws)) c.requires in
    sym (slope_stops c.args.entry (total_steps Nonneg (value c.args.coefficient) (list_below (kink_rows c.args.kink) (number_at ws))) (kink_slope c.args.kink (number_at ws))
    (ap (λ xs. first_stop c.args.entry (total_steps Nonneg (value c.args.coefficient) xs)) (sym same) ∙ sym c.in_ok-check_total.ensures)
    ∙ ap slope_stop (sym c.in-Ok.ensures.answer))
