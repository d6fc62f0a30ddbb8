-- How a tree of each symbol is spelled.
use Rattle.std.proofs.Common.{List, [], ◌∷◌, ◌++◌}
use Rattle.std.specs.Prelude.{codes}
use Rattle.dcx_syntax.specs.declared.bracket.Bracket.TheVariants.{Round, Square}
use Rattle.dcx_syntax.specs.Terminal.{Terminal, opens, closes, plain, name, plus_equal, for, in_word, dot, comma, colon, equal, newline, indent, dedent}
use Rattle.dcx_syntax.specs.Expressions.{named, expr_text, compared_text, sum_text, added_text, term_text, scaled_text, factor_text, power_text, raised_text, exponent_text, postfix_text}
use Rattle.dcx_syntax.specs.Expressions.{trailers_text, args_text, more_args_text, arg_text, indices_text, index_text, optional_text, step_text, primary_text, items_text, more_items_text}
use Rattle.dcx_syntax.specs.Statements.{module_bytes, alias_text, balanced_text, line_text, lines_text}
use Rattle.dcx_read.specs.Words.{ModuleAt}
use Rattle.dcx_read.specs.Moves.{Symbol, Tree, Rest, AfterName, gets, goes_on, AfterFirst, is_assigned, is_added_to, value_is_set, begins}
use Rattle.dcx_read.specs.Moves.{AfterDot, value_gets, attribute_of, AfterIndex, no_slice, slices, AfterRound, round_closed, round_goes_on}
use Rattle.dcx_read.specs.Moves.{InRound, round_empty, round_holds, AfterSquare, square_lists, square_for, InSquare, square_empty, square_holds}
use Rattle.dcx_read.specs.Moves as symbols

abbrev pub rest_text : Rest → List Terminal
rest_text r = trailers_text r.0 ++ (raised_text r.1.0 ++ (scaled_text r.1.1.0 ++ (added_text r.1.1.1.0 ++ compared_text r.1.1.1.1)))

abbrev pub after_name_text : AfterName → List Terminal
after_name_text (gets x) = plain equal ∷ expr_text x
after_name_text (goes_on r) = rest_text r

abbrev pub after_first_text : AfterFirst → List Terminal
after_first_text (is_assigned x) = plain equal ∷ expr_text x
after_first_text (is_added_to p x) = plain (plus_equal p) ∷ expr_text x
after_first_text (value_is_set p x) = plain dot ∷ plain (name (codes "value") p) ∷ plain equal ∷ expr_text x
after_first_text (begins r) = rest_text r

abbrev pub after_dot_text : AfterDot → List Terminal
after_dot_text (value_gets p x) = plain (name (codes "value") p) ∷ plain equal ∷ expr_text x
after_dot_text (attribute_of n r) = named n ∷ rest_text r

abbrev pub after_index_text : AfterIndex → List Terminal
after_index_text no_slice = []
after_index_text (slices stop by) = plain colon ∷ (optional_text stop ++ step_text by)

abbrev pub after_round_text : AfterRound → List Terminal
after_round_text round_closed = closes Round ∷ []
after_round_text (round_goes_on xs) = plain comma ∷ (items_text xs ++ closes Round ∷ [])

abbrev pub in_round_text : InRound → List Terminal
in_round_text round_empty = closes Round ∷ []
in_round_text (round_holds x after) = expr_text x ++ after_round_text after

abbrev pub after_square_text : AfterSquare → List Terminal
after_square_text (square_lists xs) = more_items_text xs ++ closes Square ∷ []
after_square_text (square_for p n from) = plain (for p) ∷ named n ∷ plain in_word ∷ (expr_text from ++ closes Square ∷ [])

abbrev pub in_square_text : InSquare → List Terminal
in_square_text square_empty = closes Square ∷ []
in_square_text (square_holds x after) = expr_text x ++ after_square_text after

abbrev pub module_text : ModuleAt → List Terminal
module_text m = plain (name (module_bytes m.which) m.place) ∷ []

abbrev pub text : (s : Symbol) → Tree s → List Terminal
text symbols.expr_s = expr_text
text symbols.compared_s = compared_text
text symbols.sum_s = sum_text
text symbols.added_s = added_text
text symbols.term_s = term_text
text symbols.scaled_s = scaled_text
text symbols.factor_s = factor_text
text symbols.power_s = power_text
text symbols.raised_s = raised_text
text symbols.exponent_s = exponent_text
text symbols.postfix_s = postfix_text
text symbols.trailers_s = trailers_text
text symbols.args_s = args_text
text symbols.more_args_s = more_args_text
text symbols.arg_s = arg_text
text symbols.after_name_s = after_name_text
text symbols.rest_s = rest_text
text symbols.indices_s = indices_text
text symbols.index_s = index_text
text symbols.after_index_s = after_index_text
text symbols.optional_s = optional_text
text symbols.step_s = step_text
text symbols.primary_s = primary_text
text symbols.in_round_s = in_round_text
text symbols.after_round_s = after_round_text
text symbols.in_square_s = in_square_text
text symbols.after_square_s = after_square_text
text symbols.items_s = items_text
text symbols.more_items_s = more_items_text
text symbols.name_s = λ n. named n ∷ []
text symbols.opens_s = λ p. opens Round p ∷ []
text (symbols.closes_s b) = λ u. closes b ∷ []
text symbols.colon_s = λ u. plain colon ∷ []
text symbols.in_s = λ u. plain in_word ∷ []
text symbols.newline_s = λ u. plain newline ∷ []
text symbols.indent_s = λ u. plain indent ∷ []
text symbols.dedent_s = λ u. plain dedent ∷ []
text symbols.module_s = module_text
text symbols.alias_s = alias_text
text symbols.balanced_s = balanced_text
text symbols.after_first_s = after_first_text
text symbols.after_dot_s = after_dot_text
text symbols.line_s = line_text
text symbols.lines_s = lines_text
