-- The next group is tested and its slopes formed, from its own weights.
use Rattle.std.proofs.Common.{◌≡◌, ℕ, List, length, ◌*◌, ◌<◌, ◌∙◌, ◌++◌, sym, ap, ap₂, subst, arith, take, drop, [], ◌∷◌, below_more, rules}
use Rattle.std.proofs.lemmas.Result.{err_from_is_err_and}
use Rattle.dcx_frac.specs.declared.fraction.Frac.{Frac}
use Rattle.dcx_frac.specs.Frac.{value}
use Rattle.dcx_shape.specs.Shape.{sides_of}
use Rattle.dcx_atom.specs.Arrays.{list_below, joined_below, number_at}
use Rattle.dcx_atom.specs.Axis.{folded_count}
use Rattle.dcx_atom.specs.Formed.{exact}
use Rattle.dcx_atom.specs.Steps.{first_stop, weights_of}
use Rattle.dcx_atom.proofs.Lists.{joined_below-next, number_is}
use Rattle.dcx_fold.specs.declared.folding.Fold.{Fold}
use Rattle.dcx_fold.specs.Groups.{groups}
use Rattle.dcx_fold.specs.Folds.{member_rows, member_weights, member_slope, group_steps, fold_meaning}
use Rattle.dcx_fold.specs.Stops.{IsStopAmong}
use Rattle.dcx_fold.proofs.StepLists.{first_among}
use Rattle.dcx_fold.proofs.FoldSlopes.{IsPart, is_part, few_rows, own_stop, own_slopes}
use Rattle.dcx_fold.proofs.fold_slopes.slopes_by_group.Goals as goal

pub returns-in_err-push_group-clause-stop : goal.returns-in_err-push_group-clause-stop
returns-in_err-push_group-clause-stop c =
    let p = err_from_is_err_and c.from_residual.result c.from_residual.ensures.1 in
    let fold = c.args.folding.fold in
    let axis = c.args.folding.axis in
    let s = sides_of c.args.from in
    let cs = c.args.coefficients.now in
    let ws = c.args.weights.now in
    let k = c.loop-entry.entry in
    let x = c.index-coefficients-place.result in
    let h : k < groups axis s = subst (λ m. k < m) c.requires.size c.loop-entry-test.true in
    let n : c.folded_count-members.result * c.rows_of_member.result ≡ folded_count axis s * member_rows fold = ap₂ (λ a b. a * b) c.folded_count-members.ensures.count c.rows_of_member.ensures.value in
    let own = c.row_weights-own.ensures ∙ ap (λ m. take m (drop (k * m) ws)) n in
    rw (p.1, p.2) (first_among (fold_meaning fold axis) (s ∷ []) c.args.size cs ws k
    (group_steps fold (folded_count axis s) (value x) (number_at c.row_weights-own.result.now)) _ c.loop-entry-test.true c.loop-entry.invariant.stops
    (own_stop fold axis s cs ws c.row_weights-own.result.now k x h (number_is cs k x (omega (arith, c.requires.coefficients)) c.index-coefficients-place.is) own)
    (subst (λ m. IsStopAmong k (group_steps fold m (value x) (number_at c.row_weights-own.result.now)) c.in_err-push_group.field-0.0)
    c.folded_count-members.ensures.count c.in_err-push_group.ensures.stop))

pub loop-entry-preserved : goal.loop-entry-preserved
loop-entry-preserved c =
    let fold = c.args.folding.fold in
    let axis = c.args.folding.axis in
    let s = sides_of c.args.from in
    let cs = c.args.coefficients.now in
    let ws = c.args.weights.now in
    let k = c.loop-entry.entry in
    let x = c.index-coefficients-place.result in
    let h : k < groups axis s = subst (λ m. k < m) c.requires.size c.loop-entry-test.true in
    let n : c.folded_count-members.result * c.rows_of_member.result ≡ folded_count axis s * member_rows fold = ap₂ (λ a b. a * b) c.folded_count-members.ensures.count c.rows_of_member.ensures.value in
    let own = c.row_weights-own.ensures ∙ ap (λ m. take m (drop (k * m) ws)) n in
    let g = λ (k : ℕ). list_below (folded_count axis s) (λ i. exact (member_slope fold (member_weights fold (weights_of (fold_meaning fold axis) (s ∷ []) ws k) i))) in
    record {
      stops = below_more _ _ c.loop-entry.invariant.stops
          (own_stop fold axis s cs ws c.row_weights-own.result.now k x h (number_is cs k x (omega (arith, c.requires.coefficients)) c.index-coefficients-place.is) own
          ∙ ap (λ m. first_stop k (group_steps fold m (value x) (number_at c.row_weights-own.result.now))) (sym c.folded_count-members.ensures.count) ∙ c.in_ok-push_group.ensures.ok);
      slopes = c.in_ok-push_group.ensures.slopes
          ∙ ap₂ (λ xs m. xs ++ list_below m (λ i. exact (member_slope fold (member_weights fold (number_at c.row_weights-own.result.now) i))))
          c.loop-entry.invariant.slopes c.folded_count-members.ensures.count
          ∙ ap (λ xs. joined_below k g ++ xs) (own_slopes fold axis s ws c.row_weights-own.result.now k own) ∙ sym (joined_below-next k g);
    }

pub overflow_mul-rows : goal.overflow_mul-rows
overflow_mul-rows c =
    let h = few_rows c.folded_count-members.result c.rows_of_member.result c.folded_count-members.ensures.most c.rows_of_member.ensures.few in
    omega (arith, h)

-- the weights of group k are a part of all
own_part : (k size members rows : ℕ) (fold : Fold) (count : ℕ) (ws : List Frac) → k < size → members ≡ count → rows ≡ member_rows fold
    → length ws ≡ size * (count * member_rows fold) → IsPart k (members * rows) ws
own_part k size members rows fold count ws h m r e = is_part k size (members * rows) ws h (e ∙ ap (λ n. size * n) (sym (ap₂ (λ a b. a * b) m r)))

pub row_weights-own-requires : goal.row_weights-own-requires
row_weights-own-requires c =
    (own_part c.loop-entry.entry c.args.size c.folded_count-members.result c.rows_of_member.result c.args.folding.fold (folded_count c.args.folding.axis (sides_of c.args.from)) c.args.weights.now
    c.loop-entry-test.true c.folded_count-members.ensures.count c.rows_of_member.ensures.value c.requires.weights).within

pub push_group-requires : goal.push_group-requires
push_group-requires c =
    let part = own_part c.loop-entry.entry c.args.size c.folded_count-members.result c.rows_of_member.result c.args.folding.fold
    (folded_count c.args.folding.axis (sides_of c.args.from)) c.args.weights.now
    c.loop-entry-test.true c.folded_count-members.ensures.count c.rows_of_member.ensures.value c.requires.weights in
    ap length c.row_weights-own.ensures ∙ part.count ∙ ap (λ r. c.folded_count-members.result * r) c.rows_of_member.ensures.value

pub loop-entry-init : goal.loop-entry-init
loop-entry-init c = search rules

pub loop-entry-smaller : goal.loop-entry-smaller
loop-entry-smaller c = search rules
