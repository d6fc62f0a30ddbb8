-- How far each function may still go, and what each loop has read.
use Rattle.std.proofs.Common.{◌+◌, ◌*◌, ◌<◌, ◌≤◌, length, map}
use Rattle.dcx_read.specs.Terminals.{terminals}
use Rattle.dcx_syntax.specs.Expressions.{expr, sum, term, power_of, postfix}
use Rattle.dcx_syntax.specs.View.{chained, then_index, arg_view, index_view, primary_view, trailer_view, added_view, compared_view}
use Rattle.dcx_syntax.specs.View.{expr_view, factor_view, postfix_view, raised_view, scaled_view, sum_view, term_view}
use Rattle.dcx_read.specs.Moves.{expr_s, compared_s, sum_s, added_s, term_s, scaled_s, power_s, raised_s, postfix_s, trailers_s, args_s, indices_s, items_s}
use Rattle.dcx_read.specs.Steps.{Loop}
use Rattle.dcx_read.proofs.Loops.{args_after, items_after}
use Rattle.dcx_read.proofs.expression.+expression.Given as goal

abbrev pub decreases-primary : goal.decreases-primary
decreases-primary l = length l.tokens.now * 12 + 0

abbrev pub decreases-exponent : goal.decreases-exponent
decreases-exponent l = length l.tokens.now * 12 + 2

abbrev pub decreases-postfix : goal.decreases-postfix
decreases-postfix l = length l.tokens.now * 12 + 1

abbrev pub decreases-power : goal.decreases-power
decreases-power l = length l.tokens.now * 12 + 2

abbrev pub decreases-factor : goal.decreases-factor
decreases-factor l = length l.tokens.now * 12 + 3

abbrev pub decreases-term : goal.decreases-term
decreases-term l = length l.tokens.now * 12 + 4

abbrev pub decreases-sum : goal.decreases-sum
decreases-sum l = length l.tokens.now * 12 + 5

abbrev pub decreases-expr : goal.decreases-expr
decreases-expr l = length l.tokens.now * 12 + 6

abbrev pub decreases-arg : goal.decreases-arg
decreases-arg l = length l.tokens.now * 12 + 7

abbrev pub decreases-args : goal.decreases-args
decreases-args l = length l.tokens.now * 12 + 8

abbrev pub decreases-items : goal.decreases-items
decreases-items l = length l.tokens.now * 12 + 7

abbrev pub decreases-optional : goal.decreases-optional
decreases-optional l = length l.tokens.now * 12 + 7

abbrev pub decreases-index : goal.decreases-index
decreases-index l = length l.tokens.now * 12 + 8

abbrev pub decreases-at_or_slice : goal.decreases-at_or_slice
decreases-at_or_slice l = length l.tokens.now * 12 + 7

abbrev pub decreases-slice_end : goal.decreases-slice_end
decreases-slice_end l = length l.tokens.now * 12 + 8

abbrev pub decreases-step : goal.decreases-step
decreases-step l = length l.tokens.now * 12 + 0

abbrev pub decreases-indices : goal.decreases-indices
decreases-indices l = length l.tokens.now * 12 + 0

abbrev pub decreases-trailer : goal.decreases-trailer
decreases-trailer l = length l.tokens.now * 12 + 0

abbrev pub decreases-call : goal.decreases-call
decreases-call l = length l.inside.now * 12 + 10

abbrev pub decreases-indexed : goal.decreases-indexed
decreases-indexed l = length l.within.now * 12 + 10

abbrev pub decreases-round : goal.decreases-round
decreases-round l = length l.tokens.now * 12 + 7

abbrev pub decreases-square : goal.decreases-square
decreases-square l = length l.tokens.now * 12 + 7

abbrev pub decreases-source : goal.decreases-source
decreases-source l = length l.tokens.now * 12 + 0

abbrev pub decreases-tuple_end : goal.decreases-tuple_end
decreases-tuple_end l = length l.tokens.now * 12 + 0

abbrev pub decreases-list_end : goal.decreases-list_end
decreases-list_end l = length l.tokens.now * 12 + 0

abbrev pub invariant-expr-more : goal.invariant-expr-more
invariant-expr-more l = Loop expr_s compared_s (terminals l.fn.text l.fn.tokens) (terminals l.fn.text l.read.1.now)
    (λ a. expr (sum_view l.read.0.0) (chained (map compared_view l.read.0.1.items) a)) × (length l.read.1.now < length l.fn.tokens)

abbrev pub decreases-expr-more : goal.decreases-expr-more
decreases-expr-more l = length l.read.1.now

abbrev pub invariant-sum-more : goal.invariant-sum-more
invariant-sum-more l =
    Loop sum_s added_s (terminals l.fn.text l.fn.tokens) (terminals l.fn.text l.read.1.now) (λ a. sum (term_view l.read.0.0) (chained (map added_view l.read.0.1.items) a))
    × (length l.read.1.now < length l.fn.tokens)

abbrev pub decreases-sum-more : goal.decreases-sum-more
decreases-sum-more l = length l.read.1.now

abbrev pub invariant-term-more : goal.invariant-term-more
invariant-term-more l = Loop term_s scaled_s (terminals l.fn.text l.fn.tokens) (terminals l.fn.text l.read.1.now)
    (λ a. term (factor_view l.read.0.0) (chained (map scaled_view l.read.0.1.items) a)) × (length l.read.1.now < length l.fn.tokens)

abbrev pub decreases-term-more : goal.decreases-term-more
decreases-term-more l = length l.read.1.now

abbrev pub invariant-power-more : goal.invariant-power-more
invariant-power-more l = Loop power_s raised_s (terminals l.fn.text l.fn.tokens) (terminals l.fn.text l.read.1.now)
    (λ a. power_of (postfix_view l.read.0.0) (chained (map raised_view l.read.0.1.items) a)) × (length l.read.1.now < length l.fn.tokens)

abbrev pub decreases-power-more : goal.decreases-power-more
decreases-power-more l = length l.read.1.now

abbrev pub invariant-postfix-more : goal.invariant-postfix-more
invariant-postfix-more l = Loop postfix_s trailers_s (terminals l.fn.text l.fn.tokens) (terminals l.fn.text l.read.1.now)
    (λ a. postfix (primary_view l.read.0.0) (chained (map trailer_view l.read.0.1.items) a)) × (length l.read.1.now < length l.fn.tokens)

abbrev pub decreases-postfix-more : goal.decreases-postfix-more
decreases-postfix-more l = length l.read.1.now

abbrev pub invariant-indices-more : goal.invariant-indices-more
invariant-indices-more l =
    Loop indices_s indices_s (terminals l.fn.text l.fn.tokens) (terminals l.fn.text l.rest) (λ a. chained (map then_index (map index_view l.all.items)) a)
    × (length l.rest ≤ length l.fn.tokens)

abbrev pub decreases-indices-more : goal.decreases-indices-more
decreases-indices-more l = length l.rest

abbrev pub invariant-args-more : goal.invariant-args-more
invariant-args-more l = Loop args_s args_s (terminals l.fn.text l.fn.tokens) (terminals l.fn.text l.rest) (args_after (map arg_view l.all.items)) × (length l.rest ≤ length l.fn.tokens)

abbrev pub decreases-args-more : goal.decreases-args-more
decreases-args-more l = length l.rest

abbrev pub invariant-items-more : goal.invariant-items-more
invariant-items-more l = Loop items_s items_s (terminals l.fn.text l.fn.tokens) (terminals l.fn.text l.rest) (items_after (map expr_view l.all.items)) × (length l.rest ≤ length l.fn.tokens)

abbrev pub decreases-items-more : goal.decreases-items-more
decreases-items-more l = length l.rest
