-- The group is tested, and then each member's slope is formed from its own weights.
use Rattle.std.proofs.Common.{◌≡◌, ℕ, ◌*◌, length, ◌∙◌, ◌++◌, sym, ap, ap₂, arith, map, append_assoc, [], ◌∷◌, rules}
use Rattle.std.proofs.lemmas.Result.{err_from_is_err_and}
use Rattle.std.proofs.lemmas.List.{map-append}
use Rattle.dcx_frac.specs.Frac.{value}
use Rattle.dcx_atom.specs.Arrays.{list_below, number_at}
use Rattle.dcx_atom.specs.Formed.{formed, exact}
use Rattle.dcx_atom.specs.Steps.{form, slope_stop, first_stop}
use Rattle.dcx_atom.proofs.FirstStops.{first_stop-passed}
use Rattle.dcx_atom.proofs.Lists.{list_below-next}
use Rattle.dcx_fold.specs.Folds.{member_weights, member_slope, group_tests, group_slopes}
use Rattle.dcx_fold.proofs.StepLists.{stop_among, first_stop-next, first_stop-at}
use Rattle.dcx_fold.proofs.FoldSlopes.{is_part, own_member}
use Rattle.dcx_fold.proofs.fold_slopes.push_group.Goals as goal

pub returns-in_err-check_group-clause-stop : goal.returns-in_err-check_group-clause-stop
returns-in_err-check_group-clause-stop c =
    let p = err_from_is_err_and c.from_residual.result c.from_residual.ensures.1 in
    let w = number_at c.args.weights.now in
    rw (p.1, p.2) (stop_among c.args.entry (group_tests c.args.fold c.args.members (value c.args.coefficient) w) (group_slopes c.args.fold c.args.members w) _ (sym c.in_err-check_group.ensures))

pub returns-in-Err-clause-stop : goal.returns-in-Err-clause-stop
returns-in-Err-clause-stop c =
    let fold = c.args.fold in
    let w = number_at c.args.weights.now in
    let i = c.loop-i.i in
    let own = own_member fold c.args.weights.now c.row_weights.result.now i c.rows_of_member-rows.result c.rows_of_member-rows.ensures.value c.row_weights.ensures in
    first_stop-passed c.args.entry (group_tests fold c.args.members (value c.args.coefficient) w) (group_slopes fold c.args.members w) (sym c.in_ok-check_group.ensures)
    ∙ first_stop-at c.args.entry c.args.members i (λ i. form (member_slope fold (member_weights fold w i))) _ c.loop-i-test.true c.loop-i.invariant.stop
    (ap (λ f. slope_stop (formed f)) (sym own) ∙ ap slope_stop (sym c.in-Err.ensures.answer))

pub loop-i-preserved : goal.loop-i-preserved
loop-i-preserved c =
    let fold = c.args.fold in
    let w = number_at c.args.weights.now in
    let i = c.loop-i.i in
    let g = λ (i : ℕ). exact (member_slope fold (member_weights fold w i)) in
    let own = own_member fold c.args.weights.now c.row_weights.result.now i c.rows_of_member-rows.result c.rows_of_member-rows.ensures.value c.row_weights.ensures in
    record {
      stop = first_stop-next c.args.entry i (λ i. form (member_slope fold (member_weights fold w i))) c.loop-i.invariant.stop
          ∙ ap (λ f. slope_stop (formed f)) (sym own) ∙ ap slope_stop (sym c.in-Ok.ensures.answer);
      slopes = ap (map value) c.in-Ok-push.ensures.items ∙ map-append value c.loop-i.slopes.items (c.in-Ok.slope ∷ [])
          ∙ ap₂ (λ xs x. xs ++ x ∷ []) c.loop-i.invariant.slopes (c.in-Ok.ensures.exact ∙ ap exact own)
          ∙ append_assoc (map value c.args.slopes.now.items) (list_below i g) (g i ∷ [])
          ∙ ap (λ xs. map value c.args.slopes.now.items ++ xs) (sym (list_below-next i g));
    }

pub returns-clause-ok : goal.returns-clause-ok
returns-clause-ok c =
    let fold = c.args.fold in
    let w = number_at c.args.weights.now in
    let end : c.loop-i.i ≡ c.args.members = omega (arith, c.loop-i-test.false, c.loop-i.auto.i-end) in
    first_stop-passed c.args.entry (group_tests fold c.args.members (value c.args.coefficient) w) (group_slopes fold c.args.members w) (sym c.in_ok-check_group.ensures)
    ∙ ap (λ n. first_stop c.args.entry (group_slopes fold n w)) (sym end) ∙ c.loop-i.invariant.stop

pub row_weights-requires : goal.row_weights-requires
row_weights-requires c =
    (is_part c.loop-i.i c.args.members c.rows_of_member-rows.result c.args.weights.now c.loop-i-test.true (c.requires ∙ ap (λ r. c.args.members * r) (sym c.rows_of_member-rows.ensures.value))).within

pub slope-requires : goal.slope-requires
slope-requires c =
    let part = is_part c.loop-i.i c.args.members c.rows_of_member-rows.result c.args.weights.now c.loop-i-test.true
    (c.requires ∙ ap (λ r. c.args.members * r) (sym c.rows_of_member-rows.ensures.value)) in
    ap length c.row_weights.ensures ∙ part.count ∙ c.rows_of_member-rows.ensures.value

pub loop-i-init : goal.loop-i-init
loop-i-init c = search rules

pub loop-i-smaller : goal.loop-i-smaller
loop-i-smaller c = search rules
