-- Each tree comes about by its first token, or is the empty one.
use Rattle.std.proofs.Common.{◌≡◌, Bool, true, false, [], ◌∷◌, Option, Some, None, refl, ap, subst}
use Rattle.std.specs.Prelude.{codes}
use Rattle.dcx_shape.specs.declared.place.Place.{Place}
use Rattle.dcx_syntax.specs.declared.tree.Module.{Module}
use Rattle.dcx_syntax.specs.declared.tree.Module.TheVariants.{Cvxpy, Numpy}
use Rattle.dcx_syntax.specs.declared.tree.Named.{Named}
use Rattle.dcx_syntax.specs.declared.bracket.Bracket.{Bracket}
use Rattle.dcx_syntax.specs.declared.bracket.Bracket.TheVariants.{Round, Square, Curly}
use Rattle.dcx_syntax.specs.Terminal.{Terminal, opens, closes, plain, name, number, text, truth, none, compares, signs, scales, power}
use Rattle.dcx_syntax.specs.Terminal.{plus_equal, import, for, print, as_word, in_word, dot, comma, colon, equal, newline, indent, dedent}
use Rattle.dcx_syntax.specs.Expressions.{named, Expr, expr, Compared, no_comparison, compared, Sum, sum, Added, no_addition, added, Term, term, Scaled, no_scaling, scaled}
use Rattle.dcx_syntax.specs.Expressions.{Factor, factor, Power, power_of, Raised, no_power, raised, Exponent, exponent, Postfix, postfix, Trailers, no_trailer, attribute}
use Rattle.dcx_syntax.specs.Expressions.{call, indexed, Args, no_args, args, MoreArgs, args_end, args_comma, more_args, Arg, by_place, by_name, Indices, no_index}
use Rattle.dcx_syntax.specs.Expressions.{more_indices, Index, at, slice, Optional, absent, present, Step, no_step, step, Primary, number_at, text_at, name_at, truth_at}
use Rattle.dcx_syntax.specs.Expressions.{none_at, unit, round, tuple, empty_list, list, comprehension, Items, no_items, items, MoreItems, items_end, items_comma, more_items}
use Rattle.dcx_syntax.specs.Statements.{Balanced, nothing, beside, within, Line, importing, assign, add_to, set_value, evaluate, prints, repeats, Lines, no_lines, lines}
use Rattle.dcx_read.specs.Words.{is_value_word}
use Rattle.dcx_read.specs.Reading.{leading}
use Rattle.dcx_read.specs.Moves.{Symbol, expr_s, compared_s, sum_s, added_s, term_s, scaled_s, factor_s, power_s, raised_s, exponent_s, postfix_s, trailers_s, args_s}
use Rattle.dcx_read.specs.Moves.{more_args_s, arg_s, after_name_s, rest_s, indices_s, index_s, after_index_s, optional_s, step_s, primary_s, in_round_s, after_round_s}
use Rattle.dcx_read.specs.Moves.{in_square_s, after_square_s, items_s, more_items_s, name_s, opens_s, closes_s, colon_s, in_s, newline_s, indent_s, dedent_s, module_s}
use Rattle.dcx_read.specs.Moves.{alias_s, balanced_s, after_first_s, after_dot_s, line_s, lines_s, Tree, trees, grammar, Rest, AfterName, gets, goes_on, AfterFirst}
use Rattle.dcx_read.specs.Moves.{is_assigned, is_added_to, value_is_set, begins, AfterDot, value_gets, attribute_of, AfterIndex, no_slice, slices, AfterRound, round_closed}
use Rattle.dcx_read.specs.Moves.{round_goes_on, InRound, round_empty, round_holds, AfterSquare, square_lists, square_for, InSquare, square_empty, square_holds}
use Rattle.dcx_read.specs.Moves as moves
use Rattle.dcx_read.proofs.Complete.{Made, shifts, empties, is_shift}
use Rattle.dcx_read.proofs.Steps.{MadeBy, made_by, shifts-at, as_made, lead-made}

abbrev Built : (s : Symbol) → Tree s → Type 0
Built s x = MadeBy grammar s x

abbrev primary-built : (x : Primary) → Built primary_s x
primary-built (number_at n p) = made_by (plain (number n p)) _ _ refl _ (λ ss g. (g, refl))
primary-built (text_at bytes p) = made_by (plain (text bytes p)) _ _ refl _ (λ ss g. (g, refl))
primary-built (name_at n) = made_by (named n) _ _ refl _ (λ ss g. (g, refl))
primary-built (truth_at b p) = made_by (plain (truth b p)) _ _ refl _ (λ ss g. (g, refl))
primary-built (none_at p) = made_by (plain (none p)) _ _ refl _ (λ ss g. (g, refl))
primary-built (unit p) = made_by (opens Round p) _ _ refl _ (λ ss g. ((round_empty, g), refl))
primary-built (round p x) = made_by (opens Round p) _ _ refl _ (λ ss g. ((round_holds x round_closed, g), refl))
primary-built (tuple p x xs) = made_by (opens Round p) _ _ refl _ (λ ss g. ((round_holds x (round_goes_on xs), g), refl))
primary-built (empty_list p) = made_by (opens Square p) _ _ refl _ (λ ss g. ((square_empty, g), refl))
primary-built (list p x xs) = made_by (opens Square p) _ _ refl _ (λ ss g. ((square_holds x (square_lists xs), g), refl))
primary-built (comprehension p x q n from) = made_by (opens Square p) _ _ refl _ (λ ss g. ((square_holds x (square_for q n from), g), refl))

abbrev postfix-built : (x : Postfix) → Built postfix_s x
postfix-built (postfix x ts) = lead-made grammar primary_s postfix_s (λ ss. trailers_s ∷ ss) moves.postfix_join x _ (λ ss g. ((ts, g), refl)) (primary-built x) refl

abbrev power-built : (x : Power) → Built power_s x
power-built (power_of x r) = lead-made grammar postfix_s power_s (λ ss. raised_s ∷ ss) moves.power_join x _ (λ ss g. ((r, g), refl)) (postfix-built x) refl

factor-leads : (t : Terminal) → is_shift (moves.power_move t) ≡ true → moves.factor_move t ≡ leading trees power_s factor_s (λ ss. ss) moves.factor_join (moves.power_move t)
factor-leads (plain (signs s p)) h = absurd cc
factor-leads t h = refl

abbrev factor-built : (x : Factor) → Built factor_s x
factor-built (factor [] x) = lead-made grammar power_s factor_s (λ ss. ss) moves.factor_join x _ (λ ss g. (g, refl)) (power-built x) (factor-leads _ (shifts-at grammar power_s x (power-built x)))
factor-built (factor (s ∷ ss') x) = made_by (plain (signs s.sign s.place)) _ _ refl _ (λ ss g. ((factor ss' x, g), refl))

exponent-leads : (t : Terminal) → is_shift (moves.postfix_move t) ≡ true → moves.exponent_move t ≡ leading trees postfix_s exponent_s (λ ss. ss) moves.exponent_join (moves.postfix_move t)
exponent-leads (plain (signs s p)) h = absurd cc
exponent-leads t h = refl

abbrev exponent-built : (x : Exponent) → Built exponent_s x
exponent-built (exponent [] x) = lead-made grammar postfix_s exponent_s (λ ss. ss) moves.exponent_join x _ (λ ss g. (g, refl)) (postfix-built x)
    (exponent-leads _ (shifts-at grammar postfix_s x (postfix-built x)))
exponent-built (exponent (s ∷ ss') x) = made_by (plain (signs s.sign s.place)) _ _ refl _ (λ ss g. ((exponent ss' x, g), refl))

abbrev term-built : (x : Term) → Built term_s x
term-built (term x r) = lead-made grammar factor_s term_s (λ ss. scaled_s ∷ ss) moves.term_join x _ (λ ss g. ((r, g), refl)) (factor-built x) refl

abbrev sum-built : (x : Sum) → Built sum_s x
sum-built (sum x r) = lead-made grammar term_s sum_s (λ ss. added_s ∷ ss) moves.sum_join x _ (λ ss g. ((r, g), refl)) (term-built x) refl

abbrev expr-built : (x : Expr) → Built expr_s x
expr-built (expr x r) = lead-made grammar sum_s expr_s (λ ss. compared_s ∷ ss) moves.expr_join x _ (λ ss g. ((r, g), refl)) (sum-built x) refl

compared-made : (x : Compared) → Made grammar compared_s x
compared-made no_comparison = empties _ refl
compared-made (compared c p x r) = shifts (plain (compares c p)) _ _ refl _ (λ ss g. ((x, (r, g)), refl))

added-made : (x : Added) → Made grammar added_s x
added-made no_addition = empties _ refl
added-made (added s p x r) = shifts (plain (signs s p)) _ _ refl _ (λ ss g. ((x, (r, g)), refl))

scaled-made : (x : Scaled) → Made grammar scaled_s x
scaled-made no_scaling = empties _ refl
scaled-made (scaled s p x r) = shifts (plain (scales s p)) _ _ refl _ (λ ss g. ((x, (r, g)), refl))

raised-made : (x : Raised) → Made grammar raised_s x
raised-made no_power = empties _ refl
raised-made (raised p x r) = shifts (plain (power p)) _ _ refl _ (λ ss g. ((x, (r, g)), refl))

trailers-made : (x : Trailers) → Made grammar trailers_s x
trailers-made no_trailer = empties _ refl
trailers-made (attribute n r) = shifts (plain dot) _ _ refl _ (λ ss g. ((n, (r, g)), refl))
trailers-made (call p xs r) = shifts (opens Round p) _ _ refl _ (λ ss g. ((xs, (tt, (r, g))), refl))
trailers-made (indexed p x xs r) = shifts (opens Square p) _ _ refl _ (λ ss g. ((x, (xs, (tt, (r, g)))), refl))

-- what follows a primary: its first part that isn't empty begins it
rest-leads-trailers : (t : Terminal) → is_shift (moves.trailers_move t) ≡ true
    → moves.rest_move t ≡ leading trees trailers_s rest_s (λ ss. raised_s ∷ scaled_s ∷ added_s ∷ compared_s ∷ ss) moves.rest_trailers (moves.trailers_move t)
rest-leads-trailers (plain dot) h = refl
rest-leads-trailers (opens Round p) h = refl
rest-leads-trailers (opens Square p) h = refl
rest-leads-trailers t h = absurd cc

rest-leads-raised : (t : Terminal) → is_shift (moves.raised_move t) ≡ true
    → moves.rest_move t ≡ leading trees raised_s rest_s (λ ss. scaled_s ∷ added_s ∷ compared_s ∷ ss) moves.rest_raised (moves.raised_move t)
rest-leads-raised (plain (power p)) h = refl
rest-leads-raised t h = absurd cc

rest-leads-scaled : (t : Terminal) → is_shift (moves.scaled_move t) ≡ true → moves.rest_move t ≡ leading trees scaled_s rest_s (λ ss. added_s ∷ compared_s ∷ ss) moves.rest_scaled (moves.scaled_move t)
rest-leads-scaled (plain (scales s p)) h = refl
rest-leads-scaled t h = absurd cc

rest-leads-added : (t : Terminal) → is_shift (moves.added_move t) ≡ true → moves.rest_move t ≡ leading trees added_s rest_s (λ ss. compared_s ∷ ss) moves.rest_added (moves.added_move t)
rest-leads-added (plain (signs s p)) h = refl
rest-leads-added t h = absurd cc

rest-leads-compared : (t : Terminal) → is_shift (moves.compared_move t) ≡ true → moves.rest_move t ≡ leading trees compared_s rest_s (λ ss. ss) moves.rest_compared (moves.compared_move t)
rest-leads-compared (plain (compares c p)) h = refl
rest-leads-compared t h = absurd cc

rest-from-compared : (x : Compared) → Made grammar compared_s x → Made grammar rest_s (no_trailer, (no_power, (no_scaling, (no_addition, x))))
rest-from-compared x (shifts t push make e z back) = as_made grammar rest_s _ (lead-made grammar compared_s rest_s (λ ss. ss) moves.rest_compared z
    (no_trailer, (no_power, (no_scaling, (no_addition, z)))) (λ ss g. (g, refl)) (made_by t push make e z back) (rest-leads-compared t (ap is_shift e)))
rest-from-compared x (empties z o) = empties (no_trailer, (no_power, (no_scaling, (no_addition, z)))) cc

rest-from-added : (x : Added) (ycompared : Compared) → Made grammar added_s x → Made grammar compared_s ycompared → Made grammar rest_s (no_trailer, (no_power, (no_scaling, (x, ycompared))))
rest-from-added x ycompared (shifts t push make e z back) mcompared = as_made grammar rest_s _ (lead-made grammar added_s rest_s (λ ss. compared_s ∷ ss) moves.rest_added z
    (no_trailer, (no_power, (no_scaling, (z, ycompared)))) (λ ss g. ((ycompared, g), refl)) (made_by t push make e z back) (rest-leads-added t (ap is_shift e)))
rest-from-added x ycompared (empties z o) mcompared =
    let same : no_addition ≡ z = cc in
    subst (λ (v : Added). Made grammar rest_s (no_trailer, (no_power, (no_scaling, (v, ycompared))))) same (rest-from-compared ycompared mcompared)

rest-from-scaled : (x : Scaled) (yadded : Added) (ycompared : Compared) → Made grammar scaled_s x → Made grammar added_s yadded → Made grammar compared_s ycompared
    → Made grammar rest_s (no_trailer, (no_power, (x, (yadded, ycompared))))
rest-from-scaled x yadded ycompared (shifts t push make e z back) madded mcompared =
    as_made grammar rest_s _ (lead-made grammar scaled_s rest_s (λ ss. added_s ∷ compared_s ∷ ss) moves.rest_scaled z (no_trailer, (no_power, (z, (yadded, ycompared))))
    (λ ss g. ((yadded, (ycompared, g)), refl)) (made_by t push make e z back) (rest-leads-scaled t (ap is_shift e)))
rest-from-scaled x yadded ycompared (empties z o) madded mcompared =
    let same : no_scaling ≡ z = cc in
    subst (λ (v : Scaled). Made grammar rest_s (no_trailer, (no_power, (v, (yadded, ycompared))))) same (rest-from-added yadded ycompared madded mcompared)

rest-from-raised : (x : Raised) (yscaled : Scaled) (yadded : Added) (ycompared : Compared) → Made grammar raised_s x → Made grammar scaled_s yscaled
    → Made grammar added_s yadded → Made grammar compared_s ycompared → Made grammar rest_s (no_trailer, (x, (yscaled, (yadded, ycompared))))
rest-from-raised x yscaled yadded ycompared (shifts t push make e z back) mscaled madded mcompared = as_made grammar rest_s _
    (lead-made grammar raised_s rest_s (λ ss. scaled_s ∷ added_s ∷ compared_s ∷ ss) moves.rest_raised z (no_trailer, (z, (yscaled, (yadded, ycompared))))
    (λ ss g. ((yscaled, (yadded, (ycompared, g))), refl)) (made_by t push make e z back) (rest-leads-raised t (ap is_shift e)))
rest-from-raised x yscaled yadded ycompared (empties z o) mscaled madded mcompared =
    let same : no_power ≡ z = cc in
    subst (λ (v : Raised). Made grammar rest_s (no_trailer, (v, (yscaled, (yadded, ycompared))))) same (rest-from-scaled yscaled yadded ycompared mscaled madded mcompared)

rest-from-trailers : (x : Trailers) (yraised : Raised) (yscaled : Scaled) (yadded : Added) (ycompared : Compared) → Made grammar trailers_s x → Made grammar raised_s yraised
    → Made grammar scaled_s yscaled → Made grammar added_s yadded → Made grammar compared_s ycompared → Made grammar rest_s (x, (yraised, (yscaled, (yadded, ycompared))))
rest-from-trailers x yraised yscaled yadded ycompared (shifts t push make e z back) mraised mscaled madded mcompared = as_made grammar rest_s _
    (lead-made grammar trailers_s rest_s (λ ss. raised_s ∷ scaled_s ∷ added_s ∷ compared_s ∷ ss) moves.rest_trailers z (z, (yraised, (yscaled, (yadded, ycompared))))
    (λ ss g. ((yraised, (yscaled, (yadded, (ycompared, g)))), refl)) (made_by t push make e z back) (rest-leads-trailers t (ap is_shift e)))
rest-from-trailers x yraised yscaled yadded ycompared (empties z o) mraised mscaled madded mcompared =
    let same : no_trailer ≡ z = cc in
    subst (λ (v : Trailers). Made grammar rest_s (v, (yraised, (yscaled, (yadded, ycompared))))) same (rest-from-raised yraised yscaled yadded ycompared mraised mscaled madded mcompared)

rest-made : (r : Rest) → Made grammar rest_s r
rest-made r = rest-from-trailers r.0 r.1.0 r.1.1.0 r.1.1.1.0 r.1.1.1.1 (trailers-made r.0) (raised-made r.1.0) (scaled-made r.1.1.0) (added-made r.1.1.1.0) (compared-made r.1.1.1.1)

after_name-leads : (t : Terminal) → is_shift (moves.rest_move t) ≡ true → moves.after_name_move t ≡ leading trees rest_s after_name_s (λ ss. ss) moves.after_name_join (moves.rest_move t)
after_name-leads (plain equal) h = absurd cc
after_name-leads t h = refl

after_name-goes : (r : Rest) → Made grammar rest_s r → Made grammar after_name_s (goes_on r)
after_name-goes r (shifts t push make e x back) = as_made grammar after_name_s _ (lead-made grammar rest_s after_name_s (λ ss. ss) moves.after_name_join x (goes_on x)
    (λ ss g. (g, refl)) (made_by t push make e x back) (after_name-leads t (ap is_shift e)))
after_name-goes r (empties x o) = empties (goes_on x) cc

after_name-made : (x : AfterName) → Made grammar after_name_s x
after_name-made (gets x) = shifts (plain equal) _ _ refl _ (λ ss g. ((x, g), refl))
after_name-made (goes_on r) = after_name-goes r (rest-made r)

arg-built : (x : Arg) → Built arg_s x
arg-built (by_name n x) = made_by (named n) _ _ refl _ (λ ss g. ((gets x, g), refl))
arg-built (by_place (expr (sum (term (factor [] (power_of (postfix (name_at n) ts) r)) s) a) c)) = made_by (named n) _ _ refl _ (λ ss g. ((goes_on (ts, (r, (s, (a, c)))), g), refl))
arg-built (by_place x) = lead-made grammar expr_s arg_s (λ ss. ss) moves.arg_join x (by_place x) (λ ss g. (g, refl)) (expr-built x) refl

args-made : (x : Args) → Made grammar args_s x
args-made no_args = empties _ refl
args-made (args x r) = as_made grammar args_s _ (lead-made grammar arg_s args_s (λ ss. more_args_s ∷ ss) moves.args_join x _ (λ ss g. ((r, g), refl)) (arg-built x) refl)

more_args-made : (x : MoreArgs) → Made grammar more_args_s x
more_args-made args_end = empties _ refl
more_args-made args_comma = shifts (plain comma) _ _ refl _ (λ ss g. ((no_args, g), refl))
more_args-made (more_args x r) = shifts (plain comma) _ _ refl _ (λ ss g. ((args x r, g), refl))

optional-made : (x : Optional) → Made grammar optional_s x
optional-made absent = empties _ refl
optional-made (present x) = as_made grammar optional_s _ (lead-made grammar expr_s optional_s (λ ss. ss) moves.optional_join x _ (λ ss g. (g, refl)) (expr-built x) refl)

step-made : (x : Step) → Made grammar step_s x
step-made no_step = empties _ refl
step-made (step x) = shifts (plain colon) _ _ refl _ (λ ss g. ((x, g), refl))

after_index-made : (x : AfterIndex) → Made grammar after_index_s x
after_index-made no_slice = empties _ refl
after_index-made (slices stop by) = shifts (plain colon) _ _ refl _ (λ ss g. ((stop, (by, g)), refl))

index-leads : (t : Terminal) → is_shift (moves.expr_move t) ≡ true → moves.index_move t ≡ leading trees expr_s index_s (λ ss. after_index_s ∷ ss) moves.index_join (moves.expr_move t)
index-leads (plain colon) h = absurd cc
index-leads t h = refl

index-made : (x : Index) → Made grammar index_s x
index-made (at x) = as_made grammar index_s _ (lead-made grammar expr_s index_s (λ ss. after_index_s ∷ ss) moves.index_join x _ (λ ss g. ((no_slice, g), refl)) (expr-built x)
    (index-leads _ (shifts-at grammar expr_s x (expr-built x))))
index-made (slice absent stop by) = shifts (plain colon) _ _ refl _ (λ ss g. ((stop, (by, g)), refl))
index-made (slice (present x) stop by) = as_made grammar index_s _ (lead-made grammar expr_s index_s (λ ss. after_index_s ∷ ss) moves.index_join x _
    (λ ss g. ((slices stop by, g), refl)) (expr-built x) (index-leads _ (shifts-at grammar expr_s x (expr-built x))))

indices-made : (x : Indices) → Made grammar indices_s x
indices-made no_index = empties _ refl
indices-made (more_indices x r) = shifts (plain comma) _ _ refl _ (λ ss g. ((x, (r, g)), refl))

items-made : (x : Items) → Made grammar items_s x
items-made no_items = empties _ refl
items-made (items x r) = as_made grammar items_s _ (lead-made grammar expr_s items_s (λ ss. more_items_s ∷ ss) moves.items_join x _ (λ ss g. ((r, g), refl)) (expr-built x) refl)

more_items-made : (x : MoreItems) → Made grammar more_items_s x
more_items-made items_end = empties _ refl
more_items-made items_comma = shifts (plain comma) _ _ refl _ (λ ss g. ((no_items, g), refl))
more_items-made (more_items x r) = shifts (plain comma) _ _ refl _ (λ ss g. ((items x r, g), refl))

after_round-made : (x : AfterRound) → Made grammar after_round_s x
after_round-made round_closed = shifts (closes Round) _ _ refl _ (λ ss g. (g, refl))
after_round-made (round_goes_on xs) = shifts (plain comma) _ _ refl _ (λ ss g. ((xs, (tt, g)), refl))

in_round-leads : (t : Terminal) → is_shift (moves.expr_move t) ≡ true → moves.in_round_move t ≡ leading trees expr_s in_round_s (λ ss. after_round_s ∷ ss) moves.in_round_join (moves.expr_move t)
in_round-leads (closes Round) h = absurd cc
in_round-leads t h = refl

in_round-made : (x : InRound) → Made grammar in_round_s x
in_round-made round_empty = shifts (closes Round) _ _ refl _ (λ ss g. (g, refl))
in_round-made (round_holds x a) = as_made grammar in_round_s _ (lead-made grammar expr_s in_round_s (λ ss. after_round_s ∷ ss) moves.in_round_join x _ (λ ss g. ((a, g), refl))
    (expr-built x) (in_round-leads _ (shifts-at grammar expr_s x (expr-built x))))

after_square-made : (x : AfterSquare) → Made grammar after_square_s x
after_square-made (square_lists items_end) = shifts (closes Square) _ _ refl _ (λ ss g. (g, refl))
after_square-made (square_lists items_comma) = shifts (plain comma) _ _ refl _ (λ ss g. ((no_items, (tt, g)), refl))
after_square-made (square_lists (more_items x r)) = shifts (plain comma) _ _ refl _ (λ ss g. ((items x r, (tt, g)), refl))
after_square-made (square_for p n from) = shifts (plain (for p)) _ _ refl _ (λ ss g. ((n, (tt, (from, (tt, g)))), refl))

in_square-leads : (t : Terminal) → is_shift (moves.expr_move t) ≡ true → moves.in_square_move t ≡ leading trees expr_s in_square_s (λ ss. after_square_s ∷ ss) moves.in_square_join (moves.expr_move t)
in_square-leads (closes Square) h = absurd cc
in_square-leads t h = refl

in_square-made : (x : InSquare) → Made grammar in_square_s x
in_square-made square_empty = shifts (closes Square) _ _ refl _ (λ ss g. (g, refl))
in_square-made (square_holds x a) = as_made grammar in_square_s _ (lead-made grammar expr_s in_square_s (λ ss. after_square_s ∷ ss) moves.in_square_join x _
    (λ ss g. ((a, g), refl)) (expr-built x) (in_square-leads _ (shifts-at grammar expr_s x (expr-built x))))

closes-made : (b : Bracket) (x : Unit {0}) → Made grammar (closes_s b) x
closes-made Round x = shifts (closes Round) _ _ refl _ (λ ss g. (g, refl))
closes-made Square x = shifts (closes Square) _ _ refl _ (λ ss g. (g, refl))
closes-made Curly x = shifts (closes Curly) _ _ refl _ (λ ss g. (g, refl))

module-named-made : (m : Module) (p : Place) → Made grammar module_s (record { which = m; place = p })
module-named-made Cvxpy p = shifts (plain (name (codes "cvxpy") p)) _ _ refl _ (λ ss g. (g, refl))
module-named-made Numpy p = shifts (plain (name (codes "numpy") p)) _ _ refl _ (λ ss g. (g, refl))

alias-made : (x : Option Named) → Made grammar alias_s x
alias-made None = empties _ refl
alias-made (Some n) = shifts (plain as_word) _ _ refl _ (λ ss g. ((n, g), refl))

balanced-made : (x : Balanced) → Made grammar balanced_s x
balanced-made nothing = empties _ refl
balanced-made (beside t r) = shifts (plain t) _ _ refl _ (λ ss g. ((r, g), refl))
balanced-made (within b p x r) = shifts (opens b p) _ _ refl _ (λ ss g. ((x, (tt, (r, g))), refl))

after_dot-attribute : (n : Named) (r : Rest) (b : Bool) → is_value_word n.name ≡ b → Made grammar after_dot_s (attribute_of n r)
after_dot-attribute n r true e = shifts (named n) _ _ (ap (moves.dot_step n) e) _ (λ ss g. ((goes_on r, g), refl))
after_dot-attribute n r false e = shifts (named n) _ _ (ap (moves.dot_step n) e) _ (λ ss g. ((r, g), refl))

after_dot-made : (x : AfterDot) → Made grammar after_dot_s x
after_dot-made (value_gets p x) = shifts (plain (name (codes "value") p)) _ _ refl _ (λ ss g. ((gets x, g), refl))
after_dot-made (attribute_of n r) = after_dot-attribute n r (is_value_word n.name) refl

first-leads-raised : (t : Terminal) → is_shift (moves.raised_move t) ≡ true → moves.after_first_move t ≡ leading trees rest_s after_first_s (λ ss. ss) moves.after_first_join (moves.rest_move t)
first-leads-raised (plain (power p)) h = refl
first-leads-raised t h = absurd cc

first-leads-scaled : (t : Terminal) → is_shift (moves.scaled_move t) ≡ true → moves.after_first_move t ≡ leading trees rest_s after_first_s (λ ss. ss) moves.after_first_join (moves.rest_move t)
first-leads-scaled (plain (scales s p)) h = refl
first-leads-scaled t h = absurd cc

first-leads-added : (t : Terminal) → is_shift (moves.added_move t) ≡ true → moves.after_first_move t ≡ leading trees rest_s after_first_s (λ ss. ss) moves.after_first_join (moves.rest_move t)
first-leads-added (plain (signs s p)) h = refl
first-leads-added t h = absurd cc

first-leads-compared : (t : Terminal) → is_shift (moves.compared_move t) ≡ true → moves.after_first_move t ≡ leading trees rest_s after_first_s (λ ss. ss) moves.after_first_join (moves.rest_move t)
first-leads-compared (plain (compares c p)) h = refl
first-leads-compared t h = absurd cc

first-from-compared : (x : Compared) → Made grammar compared_s x → Made grammar after_first_s (begins (no_trailer, (no_power, (no_scaling, (no_addition, x)))))
first-from-compared x (shifts t push make e z back) =
    let b : Built rest_s (no_trailer, (no_power, (no_scaling, (no_addition, z)))) = lead-made grammar compared_s rest_s (λ ss. ss) moves.rest_compared z
    (no_trailer, (no_power, (no_scaling, (no_addition, z)))) (λ ss g. (g, refl)) (made_by t push make e z back) (rest-leads-compared t (ap is_shift e)) in
    as_made grammar after_first_s _ (lead-made grammar rest_s after_first_s (λ ss. ss) moves.after_first_join (no_trailer, (no_power, (no_scaling, (no_addition, z))))
    (begins (no_trailer, (no_power, (no_scaling, (no_addition, z))))) (λ ss g. (g, refl)) b (first-leads-compared t (ap is_shift e)))
first-from-compared x (empties z o) = empties (begins (no_trailer, (no_power, (no_scaling, (no_addition, z))))) cc

first-from-added : (x : Added) (ycompared : Compared) → Made grammar added_s x → Made grammar compared_s ycompared
    → Made grammar after_first_s (begins (no_trailer, (no_power, (no_scaling, (x, ycompared)))))
first-from-added x ycompared (shifts t push make e z back) mcompared =
    let b : Built rest_s (no_trailer, (no_power, (no_scaling, (z, ycompared)))) = lead-made grammar added_s rest_s (λ ss. compared_s ∷ ss) moves.rest_added z
    (no_trailer, (no_power, (no_scaling, (z, ycompared)))) (λ ss g. ((ycompared, g), refl)) (made_by t push make e z back) (rest-leads-added t (ap is_shift e)) in
    as_made grammar after_first_s _ (lead-made grammar rest_s after_first_s (λ ss. ss) moves.after_first_join (no_trailer, (no_power, (no_scaling, (z, ycompared))))
    (begins (no_trailer, (no_power, (no_scaling, (z, ycompared))))) (λ ss g. (g, refl)) b (first-leads-added t (ap is_shift e)))
first-from-added x ycompared (empties z o) mcompared =
    let same : no_addition ≡ z = cc in
    subst (λ (v : Added). Made grammar after_first_s (begins (no_trailer, (no_power, (no_scaling, (v, ycompared)))))) same (first-from-compared ycompared mcompared)

first-from-scaled : (x : Scaled) (yadded : Added) (ycompared : Compared) → Made grammar scaled_s x → Made grammar added_s yadded → Made grammar compared_s ycompared
    → Made grammar after_first_s (begins (no_trailer, (no_power, (x, (yadded, ycompared)))))
first-from-scaled x yadded ycompared (shifts t push make e z back) madded mcompared =
    let b : Built rest_s (no_trailer, (no_power, (z, (yadded, ycompared)))) = lead-made grammar scaled_s rest_s (λ ss. added_s ∷ compared_s ∷ ss) moves.rest_scaled z
    (no_trailer, (no_power, (z, (yadded, ycompared)))) (λ ss g. ((yadded, (ycompared, g)), refl)) (made_by t push make e z back) (rest-leads-scaled t (ap is_shift e)) in
    as_made grammar after_first_s _ (lead-made grammar rest_s after_first_s (λ ss. ss) moves.after_first_join (no_trailer, (no_power, (z, (yadded, ycompared))))
    (begins (no_trailer, (no_power, (z, (yadded, ycompared))))) (λ ss g. (g, refl)) b (first-leads-scaled t (ap is_shift e)))
first-from-scaled x yadded ycompared (empties z o) madded mcompared =
    let same : no_scaling ≡ z = cc in
    subst (λ (v : Scaled). Made grammar after_first_s (begins (no_trailer, (no_power, (v, (yadded, ycompared)))))) same (first-from-added yadded ycompared madded mcompared)

first-from-raised : (x : Raised) (yscaled : Scaled) (yadded : Added) (ycompared : Compared) → Made grammar raised_s x → Made grammar scaled_s yscaled
    → Made grammar added_s yadded → Made grammar compared_s ycompared → Made grammar after_first_s (begins (no_trailer, (x, (yscaled, (yadded, ycompared)))))
first-from-raised x yscaled yadded ycompared (shifts t push make e z back) mscaled madded mcompared =
    let b : Built rest_s (no_trailer, (z, (yscaled, (yadded, ycompared)))) =
    lead-made grammar raised_s rest_s (λ ss. scaled_s ∷ added_s ∷ compared_s ∷ ss) moves.rest_raised z (no_trailer, (z, (yscaled, (yadded, ycompared))))
    (λ ss g. ((yscaled, (yadded, (ycompared, g))), refl)) (made_by t push make e z back) (rest-leads-raised t (ap is_shift e)) in
    as_made grammar after_first_s _ (lead-made grammar rest_s after_first_s (λ ss. ss) moves.after_first_join (no_trailer, (z, (yscaled, (yadded, ycompared))))
    (begins (no_trailer, (z, (yscaled, (yadded, ycompared))))) (λ ss g. (g, refl)) b (first-leads-raised t (ap is_shift e)))
first-from-raised x yscaled yadded ycompared (empties z o) mscaled madded mcompared =
    let same : no_power ≡ z = cc in
    subst (λ (v : Raised). Made grammar after_first_s (begins (no_trailer, (v, (yscaled, (yadded, ycompared)))))) same (first-from-scaled yscaled yadded ycompared mscaled madded mcompared)

after_first-begins : (ts : Trailers) (yraised : Raised) (yscaled : Scaled) (yadded : Added) (ycompared : Compared) → Made grammar after_first_s (begins (ts, (yraised, (yscaled, (yadded, ycompared)))))
after_first-begins no_trailer r s a c = first-from-raised r s a c (raised-made r) (scaled-made s) (added-made a) (compared-made c)
after_first-begins (attribute n ts) r s a c = shifts (plain dot) _ _ refl _ (λ ss g. ((attribute_of n (ts, (r, (s, (a, c)))), g), refl))
after_first-begins (call p xs ts) r s a c = shifts (opens Round p) _ _ refl _ (λ ss g. ((xs, (tt, (ts, (r, (s, (a, (c, g))))))), refl))
after_first-begins (indexed p x xs ts) r s a c = shifts (opens Square p) _ _ refl _ (λ ss g. ((x, (xs, (tt, (ts, (r, (s, (a, (c, g)))))))), refl))

after_first-made : (x : AfterFirst) → Made grammar after_first_s x
after_first-made (is_assigned x) = shifts (plain equal) _ _ refl _ (λ ss g. ((x, g), refl))
after_first-made (is_added_to p x) = shifts (plain (plus_equal p)) _ _ refl _ (λ ss g. ((x, g), refl))
after_first-made (value_is_set p x) = shifts (plain dot) _ _ refl _ (λ ss g. ((value_gets p x, g), refl))
after_first-made (begins r) = after_first-begins r.0 r.1.0 r.1.1.0 r.1.1.1.0 r.1.1.1.1

line-built : (x : Line) → Built line_s x
line-built (importing i) = made_by (plain (import i.place)) _ _ refl _ (λ ss g. ((record { which = i.module; place = i.module_place }, (i.alias, (tt, g))), refl))
line-built (assign n x) = made_by (named n) _ _ refl _ (λ ss g. ((is_assigned x, (tt, g)), refl))
line-built (add_to n p x) = made_by (named n) _ _ refl _ (λ ss g. ((is_added_to p x, (tt, g)), refl))
line-built (set_value n p x) = made_by (named n) _ _ refl _ (λ ss g. ((value_is_set p x, (tt, g)), refl))
line-built (evaluate (expr (sum (term (factor [] (power_of (postfix (name_at n) ts) r)) s) a) c)) = made_by (named n) _ _ refl _ (λ ss g. ((begins (ts, (r, (s, (a, c)))), (tt, g)), refl))
line-built (evaluate x) = lead-made grammar expr_s line_s (λ ss. newline_s ∷ ss) moves.line_join x (evaluate x) (λ ss g. ((tt, g), refl)) (expr-built x) refl
line-built (prints p q x) = made_by (plain (print p)) _ _ refl _ (λ ss g. ((q, (x, (tt, (tt, g)))), refl))
line-built (repeats p n x first rest) = made_by (plain (for p)) _ _ refl _ (λ ss g. ((n, (tt, (x, (tt, (tt, (tt, (first, (rest, (tt, g))))))))), refl))

lines-made : (x : Lines) → Made grammar lines_s x
lines-made no_lines = empties _ refl
lines-made (lines x r) = as_made grammar lines_s _ (lead-made grammar line_s lines_s (λ ss. lines_s ∷ ss) moves.lines_join x _ (λ ss g. ((r, g), refl)) (line-built x) refl)

pub made : (s : Symbol) (x : Tree s) → Made grammar s x
made expr_s x = as_made grammar expr_s x (expr-built x)
made compared_s x = compared-made x
made sum_s x = as_made grammar sum_s x (sum-built x)
made added_s x = added-made x
made term_s x = as_made grammar term_s x (term-built x)
made scaled_s x = scaled-made x
made factor_s x = as_made grammar factor_s x (factor-built x)
made power_s x = as_made grammar power_s x (power-built x)
made raised_s x = raised-made x
made exponent_s x = as_made grammar exponent_s x (exponent-built x)
made postfix_s x = as_made grammar postfix_s x (postfix-built x)
made trailers_s x = trailers-made x
made args_s x = args-made x
made more_args_s x = more_args-made x
made arg_s x = as_made grammar arg_s x (arg-built x)
made after_name_s x = after_name-made x
made rest_s x = rest-made x
made indices_s x = indices-made x
made index_s x = index-made x
made after_index_s x = after_index-made x
made optional_s x = optional-made x
made step_s x = step-made x
made primary_s x = as_made grammar primary_s x (primary-built x)
made in_round_s x = in_round-made x
made after_round_s x = after_round-made x
made in_square_s x = in_square-made x
made after_square_s x = after_square-made x
made items_s x = items-made x
made more_items_s x = more_items-made x
made name_s n = shifts (plain (name n.name n.place)) _ _ refl _ (λ ss g. (g, refl))
made opens_s p = shifts (opens Round p) _ _ refl _ (λ ss g. (g, refl))
made (closes_s b) x = closes-made b x
made colon_s u = shifts (plain colon) _ _ refl _ (λ ss g. (g, refl))
made in_s u = shifts (plain in_word) _ _ refl _ (λ ss g. (g, refl))
made newline_s u = shifts (plain newline) _ _ refl _ (λ ss g. (g, refl))
made indent_s u = shifts (plain indent) _ _ refl _ (λ ss g. (g, refl))
made dedent_s u = shifts (plain dedent) _ _ refl _ (λ ss g. (g, refl))
made module_s x = module-named-made x.which x.place
made alias_s x = alias-made x
made balanced_s x = balanced-made x
made after_first_s x = after_first-made x
made after_dot_s x = after_dot-made x
made line_s x = as_made grammar line_s x (line-built x)
made lines_s x = lines-made x
