-- What is meant is what is left to be done at the present state.
use Rattle.std.proofs.Common.{◌≡◌, ◌-◌, Bool, [], ◌∷◌, map, drop, length, option_copied}
use Rattle.dcx_syntax.specs.Expressions.{no_addition, no_scaling}
use Rattle.dcx_syntax.specs.View.{chained, args_of, indices_of, more_items_of, arg_view, index_view, added_view, scaled_view, expr_view}
use Rattle.dcx_script_values.specs.Values.{items_of, and_then, done}
use Rattle.dcx_script_values.specs.Meant.{meant}
use Rattle.dcx_operators.specs.View.{evaluated}
use Rattle.dcx_signature.specs.Firsts.{expr_place}
use Rattle.dcx_signature.specs.View.{given_seen, through_seen}
use Rattle.dcx_elab.specs.Expressions.{added_means, scaled_means, trailers_mean, args_mean, more_args_mean, indices_mean, with_item, more_items_mean, expr_means}
use Rattle.dcx_elab.specs.Turns.{turns}
use Rattle.dcx_elab.specs.View.{trailers_from}
use Rattle.dcx_elab.proofs.Chains.{go_on}
use Rattle.dcx_elab.proofs.Loops.{args_from, indices_from, items_from}
use Rattle.dcx_elab.proofs.expressions.+eval.Given as goal

abbrev pub invariant-additions-loop-added : goal.invariant-additions-loop-added
invariant-additions-loop-added l =
    added_means (chained (map added_view l.fn.rest) no_addition) (meant l.fn.first) l.fn.state ≡ added_means (chained (map added_view (drop l.added-index l.rest)) no_addition) (meant l.value) l.state

abbrev pub invariant-scalings-loop-scaled : goal.invariant-scalings-loop-scaled
invariant-scalings-loop-scaled l =
    scaled_means (chained (map scaled_view l.fn.rest) no_scaling) (meant l.fn.first) l.fn.state
    ≡ scaled_means (chained (map scaled_view (drop l.scaled-index l.rest)) no_scaling) (meant l.value) l.state

abbrev pub invariant-trailers-loop-at : goal.invariant-trailers-loop-at
invariant-trailers-loop-at l =
    trailers_mean (option_copied l.fn.target) l.fn.place (trailers_from l.fn.all l.fn.from) (meant l.fn.first) l.fn.state
    ≡ trailers_mean (option_copied l.target) l.place (trailers_from l.all l.at) (meant l.value) l.state

abbrev pub decreases-trailers-loop-at : goal.decreases-trailers-loop-at
decreases-trailers-loop-at l = length l.all - l.at

abbrev pub invariant-arguments_given-loop-arg : goal.invariant-arguments_given-loop-arg
invariant-arguments_given-loop-arg l =
    (comma : Bool) → args_mean l.solving (args_of (map arg_view l.fn.args) comma) l.fn.state
    ≡ go_on (map given_seen l.given.items) (more_args_mean l.solving (args_from l.args l.arg-index comma) l.state)

abbrev pub invariant-indices_given-loop-index : goal.invariant-indices_given-loop-index
invariant-indices_given-loop-index l =
    and_then (indices_mean (indices_of (map index_view l.fn.others)) l.fn.state) (λ is. done (evaluated l.fn.first ∷ is))
    ≡ go_on (map evaluated l.indices.items) (indices_mean (indices_from l.others l.index-index) l.state)

abbrev pub invariant-items-loop-tree : goal.invariant-items-loop-tree
invariant-items-loop-tree l =
    (comma : Bool) → and_then (with_item l.fn.place [] (done (meant l.fn.first)) l.fn.state) (more_items_mean l.fn.place (more_items_of (map expr_view l.fn.others) comma))
    ≡ more_items_mean l.place (items_from l.others l.tree-index comma) (items_of l.items) l.state

abbrev pub invariant-elements-loop-k : goal.invariant-elements-loop-k
invariant-elements-loop-k l =
    turns l.fn.place (expr_place (expr_view l.fn.element)) l.fn.name (expr_means (expr_view l.fn.element)) [] (through_seen l.fn.through) l.fn.state
    ≡ turns l.place (expr_place (expr_view l.element)) l.name (expr_means (expr_view l.element)) (items_of l.items) (drop l.k (through_seen l.through)) l.state
