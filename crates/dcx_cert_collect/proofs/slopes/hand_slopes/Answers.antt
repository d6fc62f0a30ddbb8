-- The next argument is handed on.
use Rattle.std.proofs.Common.{◌≡◌, ℕ, ◌∙◌, ◌+◌, ◌<◌, arith, ap, sym, length, Ok}
use Rattle.std.proofs.lemmas.List.{length-map}
use Rattle.std.proofs.lemmas.Result.{err_from_is_err_and}
use Rattle.dcx_shape.specs.Shape.{sides_of}
use Rattle.dcx_shape.specs.Sides.{entries_of}
use Rattle.dcx_atom.specs.Arrays.{list_below, sides_at, sides_list, entries_before}
use Rattle.dcx_arena.specs.Nodes.{positions}
use Rattle.dcx_cert_collect.specs.Shares.{frac_in}
use Rattle.dcx_cert_collect.specs.Calls.{share_to}
use Rattle.dcx_cert_collect.proofs.Sharing.{entry-next, joined-within-some}
use Rattle.dcx_cert_collect.proofs.Arguments.{shape_sides, rest_next, rest_enough, argument_shares}
use Rattle.dcx_cert_collect.proofs.slopes.hand_slopes.Goals as goal

pub split_at-requires : goal.split_at-requires
split_at-requires c =
    let shapes = c.args.shapes.now in
    let b : c.loop-k.k < length (sides_list shapes) = omega (arith, c.loop-k-test.true, length-map shapes sides_of) in
    rest_enough (sides_list shapes) c.args.slopes.now c.loop-k.rest.now c.loop-k.k c.size.result b
    (c.size.ensures.value ∙ ap entries_of (sym (shape_sides shapes c.loop-k.k c.index-shapes-k.result c.loop-k-test.true c.index-shapes-k.is))) c.requires.slopes c.loop-k.invariant.0

pub hand_argument-requires-clause-few : goal.hand_argument-requires-clause-few
hand_argument-requires-clause-few c = omega (arith, c.split_at.ensures.front_len, c.size.ensures.most)

pub loop-k-preserved : goal.loop-k-preserved
loop-k-preserved c =
    let shapes = c.args.shapes.now in
    let ss = sides_list shapes in
    let k = c.loop-k.k in
    let nodes = c.args.places.now.tree.now in
    let ps = positions c.args.places.now.args.now in
    let b : k < length ss = omega (arith, c.loop-k-test.true, length-map shapes sides_of) in
    let size : c.size.result ≡ entries_of (sides_at ss k) = c.size.ensures.value ∙ ap entries_of (sym (shape_sides shapes k c.index-shapes-k.result c.loop-k-test.true c.index-shapes-k.is)) in
    let own = c.split_at.result.0.now in
    let f = λ (k : ℕ). list_below (entries_of (sides_at ss k)) (λ e. share_to nodes ps k e (Ok (frac_in c.args.slopes.now (entries_before ss k + e)))) in (
      rest_next ss c.args.slopes.now c.loop-k.rest.now c.split_at.result.1.now k c.size.result b size c.loop-k.invariant.0 c.split_at.ensures.back,
      entry-next c.args.table.now.items c.loop-k.table.items f k (list_below (length own) (λ e. share_to nodes ps k e (Ok (frac_in own e))))
          (argument_shares nodes ps ss c.args.slopes.now c.loop-k.rest.now own k c.size.result size c.loop-k.invariant.0 c.split_at.ensures.front c.split_at.ensures.front_len) c.loop-k.invariant.1
          ∙ c.in_ok-hand_argument.ensures.ok,
    )

pub returns-in_err-hand_argument-clause-passes : goal.returns-in_err-hand_argument-clause-passes
returns-in_err-hand_argument-clause-passes c =
    let r = err_from_is_err_and c.from_residual.result c.from_residual.ensures.1 in
    let shapes = c.args.shapes.now in
    let ss = sides_list shapes in
    let k = c.loop-k.k in
    let nodes = c.args.places.now.tree.now in
    let ps = positions c.args.places.now.args.now in
    let size : c.size.result ≡ entries_of (sides_at ss k) = c.size.ensures.value ∙ ap entries_of (sym (shape_sides shapes k c.index-shapes-k.result c.loop-k-test.true c.index-shapes-k.is)) in
    let own = c.split_at.result.0.now in
    let f = λ (k : ℕ). list_below (entries_of (sides_at ss k)) (λ e. share_to nodes ps k e (Ok (frac_in c.args.slopes.now (entries_before ss k + e)))) in
    let many : length ps ≡ length c.args.places.now.args.now = length-map c.args.places.now.args.now (λ i. i.0) in
    rw (r.1, r.2) (joined-within-some c.args.table.now.items f (k + 1) (length ps) c.in_err-hand_argument.field-0.0 (omega (arith, c.loop-k-test.true, c.requires.shapes, many))
    (entry-next c.args.table.now.items c.loop-k.table.items f k (list_below (length own) (λ e. share_to nodes ps k e (Ok (frac_in own e))))
    (argument_shares nodes ps ss c.args.slopes.now c.loop-k.rest.now own k c.size.result size c.loop-k.invariant.0 c.split_at.ensures.front c.split_at.ensures.front_len) c.loop-k.invariant.1
    ∙ c.in_err-hand_argument.ensures.passes))
