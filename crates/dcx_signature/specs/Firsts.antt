-- The place of the first token of an expression.
use Rattle.std.specs.Prelude.{[], ◌∷◌}
use Rattle.dcx_shape.specs.declared.place.Place.{Place}
use Rattle.dcx_syntax.specs.Expressions.{
  Expr,
  expr,
  Sum,
  sum,
  Term,
  term,
  Factor,
  factor,
  Power,
  power_of,
  Postfix,
  postfix,
  Primary,
  number_at,
  text_at,
  name_at,
  truth_at,
  none_at,
  unit,
  round,
  tuple,
  empty_list,
  list,
  comprehension,
}

abbrev pub primary_place : Primary → Place
primary_place (number_at x p) = p
primary_place (text_at t p) = p
primary_place (name_at n) = n.place
primary_place (truth_at b p) = p
primary_place (none_at p) = p
primary_place (unit p) = p
primary_place (round p x) = p
primary_place (tuple p x xs) = p
primary_place (empty_list p) = p
primary_place (list p x xs) = p
primary_place (comprehension p x q n from) = p

abbrev pub postfix_place : Postfix → Place
postfix_place (postfix x ts) = primary_place x

abbrev pub power_place : Power → Place
power_place (power_of x rest) = postfix_place x

abbrev pub factor_place : Factor → Place
factor_place (factor [] x) = power_place x
factor_place (factor (s ∷ ss) x) = s.place

abbrev pub term_place : Term → Place
term_place (term x rest) = factor_place x

abbrev pub sum_place : Sum → Place
sum_place (sum x rest) = term_place x

abbrev pub expr_place : Expr → Place
expr_place (expr x rest) = sum_place x
