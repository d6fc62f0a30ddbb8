-- Each entry's rows have their own weights, which are tested, and then its slope is formed.
use Rattle.std.proofs.Common.{◌≡◌, ◌<◌, ◌*◌, ◌∙◌, sym, ap, arith, length, take, drop, [], ◌∷◌, below_more, map}
use Rattle.std.proofs.lemmas.Result.{err_from_is_err_and}
use Rattle.dcx_frac.specs.Frac.{value}
use Rattle.dcx_shape.specs.Shape.{sides_of}
use Rattle.dcx_shape.specs.Sides.{entries_of}
use Rattle.dcx_atom.specs.Arrays.{number_at, list_below}
use Rattle.dcx_atom.specs.Formed.{exact}
use Rattle.dcx_atom.specs.Steps.{first_stop, weights_of}
use Rattle.dcx_elem.specs.Kinks.{kink_slope, kink_steps, kink_meaning}
use Rattle.dcx_atom.proofs.Lists.{number_is, list_below-push}
use Rattle.dcx_atom.proofs.Weights.{stop_at, own_length}
use Rattle.dcx_elem.proofs.KinkSteps.{room, own_stop, own_slope, kink_slopes_are}
use Rattle.dcx_elem.proofs.kinks.kink_slopes.Goals as goal

pub row_weights-own-requires : goal.row_weights-own-requires
row_weights-own-requires c =
    let b : c.loop-entry.entry < entries_of (sides_of c.args.shape) = omega (arith, c.size-size.ensures.value, c.loop-entry-test.true) in
    room c.args.kink (sides_of c.args.shape) c.args.weights.now c.loop-entry.entry c.rows_of_entry-rows.result b c.requires.weights c.rows_of_entry-rows.ensures.value

pub entry_slope-requires : goal.entry_slope-requires
entry_slope-requires c =
    let n = c.rows_of_entry-rows.result in
    let b : c.loop-entry.entry < entries_of (sides_of c.args.shape) = omega (arith, c.size-size.ensures.value, c.loop-entry-test.true) in
    ap length c.row_weights-own.ensures
    ∙ own_length c.args.weights.now c.loop-entry.entry n (room c.args.kink (sides_of c.args.shape) c.args.weights.now c.loop-entry.entry n b c.requires.weights c.rows_of_entry-rows.ensures.value)
    ∙ c.rows_of_entry-rows.ensures.value

pub returns-in_err-slope-clause-stop : goal.returns-in_err-slope-clause-stop
returns-in_err-slope-clause-stop c =
    let p = err_from_is_err_and c.from_residual.result c.from_residual.ensures.1 in
    let j = c.loop-entry.entry in
    let kink = c.args.kink in
    let ws = c.args.weights.now in
    let cs = c.args.coefficients.now in
    let args = sides_of c.args.shape ∷ [] in
    let x = c.index-coefficients-place.result in
    let b : j < entries_of (sides_of c.args.shape) = omega (arith, c.size-size.ensures.value, c.loop-entry-test.true) in
    let own = c.row_weights-own.ensures ∙ ap (λ n. take n (drop (j * n) ws)) c.rows_of_entry-rows.ensures.value in
    rw (p.1, p.2) (stop_at (kink_meaning kink) args (entries_of (sides_of c.args.shape)) cs ws _ j b c.loop-entry.invariant.stops
    (sym (own_stop kink args cs ws j x (number_is cs j x (omega (arith, c.requires.coefficients)) c.index-coefficients-place.is))
    ∙ ap (λ xs. first_stop j (kink_steps kink (value x) (number_at xs))) (sym own) ∙ sym c.in_err-slope.ensures.stop))

pub loop-entry-preserved : goal.loop-entry-preserved
loop-entry-preserved c =
    let j = c.loop-entry.entry in
    let kink = c.args.kink in
    let ws = c.args.weights.now in
    let cs = c.args.coefficients.now in
    let args = sides_of c.args.shape ∷ [] in
    let x = c.index-coefficients-place.result in
    let b : j < entries_of (sides_of c.args.shape) = omega (arith, c.size-size.ensures.value, c.loop-entry-test.true) in
    let own = c.row_weights-own.ensures ∙ ap (λ n. take n (drop (j * n) ws)) c.rows_of_entry-rows.ensures.value in
    record {
      stops = below_more _ _ c.loop-entry.invariant.stops
          (sym (own_stop kink args cs ws j x (number_is cs j x (omega (arith, c.requires.coefficients)) c.index-coefficients-place.is))
          ∙ ap (λ xs. first_stop j (kink_steps kink (value x) (number_at xs))) (sym own) ∙ sym c.in_ok-slope.ensures.stop);
      slopes = ap (map value) c.in-Ok.ensures.items
          ∙ list_below-push j (λ e. exact (kink_slope kink (weights_of (kink_meaning kink) args ws e))) value c.loop-entry.slopes.items c.in_ok-slope.slope c.loop-entry.invariant.slopes
          (c.in_ok-slope.ensures.exact ∙ ap (λ xs. exact (kink_slope kink (number_at xs))) own ∙ own_slope kink args ws j);
    }

pub returns-clause-ok : goal.returns-clause-ok
returns-clause-ok c =
    let kink = c.args.kink in
    let ws = c.args.weights.now in
    let args = sides_of c.args.shape ∷ [] in
    let size = entries_of (sides_of c.args.shape) in
    let end : c.loop-entry.entry ≡ size = omega (arith, c.size-size.ensures.value, c.loop-entry-test.false, c.loop-entry.auto.entry-end) in
    let slopes = ap (map value) c.from_vec.ensures ∙ c.loop-entry.invariant.slopes ∙ ap (λ n. list_below n (λ e. exact (kink_slope kink (weights_of (kink_meaning kink) args ws e)))) end in
    kink_slopes_are kink (sides_of c.args.shape) c.args.coefficients.now ws c.from_vec.result (λ k b. c.loop-entry.invariant.stops k (omega (arith, end))) slopes
