-- The syntax trees of expressions, one kind for each rule of the grammar, and how each is spelled.
use Rattle.std.specs.Prelude.{ℕ, Bool, List, [], ◌∷◌, ◌++◌}
use Rattle.dcx_frac.specs.declared.fraction.Frac.{Frac}
use Rattle.dcx_shape.specs.declared.place.Place.{Place}
use Rattle.dcx_syntax.specs.declared.tree.Comparison.{Comparison}
use Rattle.dcx_syntax.specs.declared.tree.Sign.{Sign}
use Rattle.dcx_syntax.specs.declared.tree.Scaling.{Scaling}
use Rattle.dcx_syntax.specs.declared.tree.Named.{Named}
use Rattle.dcx_syntax.specs.declared.tree.Signed.{Signed}
use Rattle.dcx_syntax.specs.declared.bracket.Bracket.TheVariants.{Round, Square}
use Rattle.dcx_syntax.specs.Terminal.{Terminal, opens, closes, plain, name, number, text, truth, none, compares, signs, scales, power, for, in_word, dot, comma, colon, equal}

mutual
  -- expr = sum { ("<=" | ">=" | "==" | "<" | ">" | "!=") sum }
  pub data Expr : Type 0 where
    expr : (first : Sum) (rest : Compared) → Expr

  pub data Compared : Type 0 where
    no_comparison : Compared
    compared : Comparison → (place : Place) → Sum → Compared → Compared

  -- sum = term { ("+" | "-") term }
  pub data Sum : Type 0 where
    sum : (first : Term) (rest : Added) → Sum

  pub data Added : Type 0 where
    no_addition : Added
    added : Sign → (place : Place) → Term → Added → Added

  -- term = factor { ("*" | "/" | "@") factor }
  pub data Term : Type 0 where
    term : (first : Factor) (rest : Scaled) → Term

  pub data Scaled : Type 0 where
    no_scaling : Scaled
    scaled : Scaling → (place : Place) → Factor → Scaled → Scaled

  -- factor = { "+" | "-" } power
  pub data Factor : Type 0 where
    factor : List Signed → Power → Factor

  -- power = postfix { "**" { "+" | "-" } postfix }
  pub data Power : Type 0 where
    power_of : (first : Postfix) (rest : Raised) → Power

  pub data Raised : Type 0 where
    no_power : Raised
    raised : (place : Place) → Exponent → Raised → Raised

  pub data Exponent : Type 0 where
    exponent : List Signed → Postfix → Exponent

  -- postfix = primary { "." NAME | "(" [ args ] ")" | "[" index { "," index } "]" }
  pub data Postfix : Type 0 where
    postfix : Primary → Trailers → Postfix

  pub data Trailers : Type 0 where
    no_trailer : Trailers
    attribute : Named → Trailers → Trailers
    call : (place : Place) → Args → Trailers → Trailers
    indexed : (place : Place) (first : Index) (rest : Indices) → Trailers → Trailers

  -- [ args ] with args = arg { "," arg } [ "," ]
  pub data Args : Type 0 where
    no_args : Args
    args : (first : Arg) (rest : MoreArgs) → Args

  pub data MoreArgs : Type 0 where
    args_end : MoreArgs
    args_comma : MoreArgs
    more_args : Arg → MoreArgs → MoreArgs

  -- arg = expr | NAME "=" expr
  pub data Arg : Type 0 where
    by_place : Expr → Arg
    by_name : Named → Expr → Arg

  -- { "," index }
  pub data Indices : Type 0 where
    no_index : Indices
    more_indices : Index → Indices → Indices

  -- index = expr | [ expr ] ":" [ expr ] [ ":" [ expr ] ]
  pub data Index : Type 0 where
    at : Expr → Index
    slice : (start stop : Optional) (step : Step) → Index

  -- [ expr ]
  pub data Optional : Type 0 where
    absent : Optional
    present : Expr → Optional

  -- [ ":" [ expr ] ]
  pub data Step : Type 0 where
    no_step : Step
    step : Optional → Step

  -- primary = NUMBER | STRING | NAME | "True" | "False" | "None" | "(" ")"
  --         | "(" expr ")" | "(" expr "," [ expr { "," expr } [ "," ] ] ")"
  --         | "[" "]" | "[" expr { "," expr } [ "," ] "]" | "[" expr "for" NAME "in" expr "]"
  pub data Primary : Type 0 where
    number_at : Frac → (place : Place) → Primary
    text_at : List ℕ → (place : Place) → Primary
    name_at : Named → Primary
    truth_at : Bool → (place : Place) → Primary
    none_at : (place : Place) → Primary
    unit : (place : Place) → Primary
    round : (place : Place) → Expr → Primary
    tuple : (place : Place) (first : Expr) (rest : Items) → Primary
    empty_list : (place : Place) → Primary
    list : (place : Place) (first : Expr) (rest : MoreItems) → Primary
    comprehension : (place : Place) (element : Expr) (for_place : Place) (name : Named) (source : Expr) → Primary

  -- [ expr { "," expr } [ "," ] ]
  pub data Items : Type 0 where
    no_items : Items
    items : (first : Expr) (rest : MoreItems) → Items

  -- { "," expr } [ "," ]
  pub data MoreItems : Type 0 where
    items_end : MoreItems
    items_comma : MoreItems
    more_items : Expr → MoreItems → MoreItems

abbrev pub named : Named → Terminal
named n = plain (name n.name n.place)

abbrev pub signs_text : List Signed → List Terminal
signs_text [] = []
signs_text (s ∷ ss) = plain (signs s.sign s.place) ∷ signs_text ss

abbrev mutual
  pub expr_text : Expr → List Terminal
  expr_text (expr first rest) = sum_text first ++ compared_text rest

  pub compared_text : Compared → List Terminal
  compared_text no_comparison = []
  compared_text (compared c p x rest) = plain (compares c p) ∷ (sum_text x ++ compared_text rest)

  pub sum_text : Sum → List Terminal
  sum_text (sum first rest) = term_text first ++ added_text rest

  pub added_text : Added → List Terminal
  added_text no_addition = []
  added_text (added s p x rest) = plain (signs s p) ∷ (term_text x ++ added_text rest)

  pub term_text : Term → List Terminal
  term_text (term first rest) = factor_text first ++ scaled_text rest

  pub scaled_text : Scaled → List Terminal
  scaled_text no_scaling = []
  scaled_text (scaled s p x rest) = plain (scales s p) ∷ (factor_text x ++ scaled_text rest)

  pub factor_text : Factor → List Terminal
  factor_text (factor ss x) = signs_text ss ++ power_text x

  pub power_text : Power → List Terminal
  power_text (power_of first rest) = postfix_text first ++ raised_text rest

  pub raised_text : Raised → List Terminal
  raised_text no_power = []
  raised_text (raised p x rest) = plain (power p) ∷ (exponent_text x ++ raised_text rest)

  pub exponent_text : Exponent → List Terminal
  exponent_text (exponent ss x) = signs_text ss ++ postfix_text x

  pub postfix_text : Postfix → List Terminal
  postfix_text (postfix x trailers) = primary_text x ++ trailers_text trailers

  pub trailers_text : Trailers → List Terminal
  trailers_text no_trailer = []
  trailers_text (attribute n rest) = plain dot ∷ named n ∷ trailers_text rest
  trailers_text (call p xs rest) = opens Round p ∷ (args_text xs ++ closes Round ∷ trailers_text rest)
  trailers_text (indexed p x xs rest) = opens Square p ∷ (index_text x ++ (indices_text xs ++ closes Square ∷ trailers_text rest))

  pub args_text : Args → List Terminal
  args_text no_args = []
  args_text (args x rest) = arg_text x ++ more_args_text rest

  pub more_args_text : MoreArgs → List Terminal
  more_args_text args_end = []
  more_args_text args_comma = plain comma ∷ []
  more_args_text (more_args x rest) = plain comma ∷ (arg_text x ++ more_args_text rest)

  pub arg_text : Arg → List Terminal
  arg_text (by_place x) = expr_text x
  arg_text (by_name n x) = named n ∷ plain equal ∷ expr_text x

  pub indices_text : Indices → List Terminal
  indices_text no_index = []
  indices_text (more_indices x rest) = plain comma ∷ (index_text x ++ indices_text rest)

  pub index_text : Index → List Terminal
  index_text (at x) = expr_text x
  index_text (slice start stop by) = optional_text start ++ plain colon ∷ (optional_text stop ++ step_text by)

  pub optional_text : Optional → List Terminal
  optional_text absent = []
  optional_text (present x) = expr_text x

  pub step_text : Step → List Terminal
  step_text no_step = []
  step_text (step x) = plain colon ∷ optional_text x

  pub primary_text : Primary → List Terminal
  primary_text (number_at n p) = plain (number n p) ∷ []
  primary_text (text_at bytes p) = plain (text bytes p) ∷ []
  primary_text (name_at n) = named n ∷ []
  primary_text (truth_at b p) = plain (truth b p) ∷ []
  primary_text (none_at p) = plain (none p) ∷ []
  primary_text (unit p) = opens Round p ∷ closes Round ∷ []
  primary_text (round p x) = opens Round p ∷ (expr_text x ++ closes Round ∷ [])
  primary_text (tuple p x xs) = opens Round p ∷ (expr_text x ++ plain comma ∷ (items_text xs ++ closes Round ∷ []))
  primary_text (empty_list p) = opens Square p ∷ closes Square ∷ []
  primary_text (list p x xs) = opens Square p ∷ (expr_text x ++ (more_items_text xs ++ closes Square ∷ []))
  primary_text (comprehension p x q n from) = opens Square p ∷ (expr_text x ++ plain (for q) ∷ named n ∷ plain in_word ∷ (expr_text from ++ closes Square ∷ []))

  pub items_text : Items → List Terminal
  items_text no_items = []
  items_text (items x rest) = expr_text x ++ more_items_text rest

  pub more_items_text : MoreItems → List Terminal
  more_items_text items_end = []
  more_items_text items_comma = plain comma ∷ []
  more_items_text (more_items x rest) = plain comma ∷ (expr_text x ++ more_items_text rest)
