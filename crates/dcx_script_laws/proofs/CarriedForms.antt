-- Expressions keep what is carried: one clause for each form of the syntax tree.
use Rattle.std.proofs.Common.{ℕ, Bool, true, false, List, [], ◌∷◌, ◌++◌, Option, Some, None}
use Rattle.dcx_shape.specs.declared.place.Place.{Place}
use Rattle.dcx_syntax.specs.declared.tree.Named.{Named}
use Rattle.dcx_syntax.specs.declared.tree.Module.{Module}
use Rattle.dcx_syntax.specs.declared.tree.Signed.{Signed}
use Rattle.dcx_syntax.specs.Expressions.{Expr, expr, Compared, no_comparison, compared, Sum, sum, Added, no_addition, added, Term, term, Scaled, no_scaling}
use Rattle.dcx_syntax.specs.Expressions.{scaled, Factor, factor, Power, power_of, Raised, no_power, raised, Exponent, exponent, Postfix, postfix, Trailers}
use Rattle.dcx_syntax.specs.Expressions.{no_trailer, attribute, call, indexed, Args, no_args, args, MoreArgs, args_end, args_comma, more_args, Arg, by_place}
use Rattle.dcx_syntax.specs.Expressions.{by_name, Indices, no_index, more_indices, Index, at, slice, Optional, absent, present, Step, no_step, step, Primary}
use Rattle.dcx_syntax.specs.Expressions.{number_at, text_at, name_at, truth_at, none_at, unit, round, tuple, empty_list, list, comprehension, Items, no_items}
use Rattle.dcx_syntax.specs.Expressions.{items, MoreItems, items_end, items_comma, more_items}
use Rattle.dcx_script_values.specs.Values.{Value, library, State, Act}
use Rattle.dcx_signature.specs.Arguments.{Given}
use Rattle.dcx_signature.specs.Firsts.{expr_place}
use Rattle.dcx_elab.specs.Turns.{turn, turns}
use Rattle.dcx_elab.specs.Expressions.{is_range_unless, is_range, name_called, solve_called, no_method, module_called, method_called, signed, with_item}
use Rattle.dcx_elab.specs.Expressions.{expr_means, compared_means, chained_means, sum_means, added_means, term_means, scaled_means, factor_means, power_means}
use Rattle.dcx_elab.specs.Expressions.{raised_means, exponent_means, postfix_means, trailers_mean, args_mean, more_args_mean, arg_means, indices_mean}
use Rattle.dcx_elab.specs.Expressions.{index_means, optional_means, step_means, primary_means, items_mean, more_items_mean}
use Rattle.dcx_script_laws.proofs.Carried.{Moves, IsCarried, parts}
use Rattle.dcx_script_laws.proofs.CarriedNodes.{room-moves, solve-moves, arguments-moves, items_through-moves}
use Rattle.dcx_script_laws.proofs.CarriedCalls.{add_values-moves, scale_values-moves, sign_value-moves, compare_values-moves, index_value-moves, attribute_value-moves, function_called-moves}

module _ (R : State → State → Type 0) (carried : IsCarried R) where
  -- ---- calls
  pub is_range_unless-moves : (n : Named) (v : Option Value) → Moves R (is_range_unless n v)
  is_range_unless-moves n (Some v) s t h = search parts
  is_range_unless-moves n None s t h = search parts

  pub is_range-moves : (n : Named) → Moves R (is_range n)
  is_range-moves n s t h = search is_range_unless-moves

  pub name_called-moves : (n : Named) (ranged : Bool) (gs : List Given) → Moves R (name_called n ranged gs)
  name_called-moves n true gs s t h = search function_called-moves
  name_called-moves n false gs s t h = search parts

  pub solve_called-moves : (place : Place) (gs : List Given) → Moves R (solve_called place gs)
  solve_called-moves place gs s t h = search (arguments-moves, solve-moves, parts)

  pub no_method-moves : (place : Place) (n : Named) → Moves R (no_method place n)
  no_method-moves place n s t h = search parts

  pub module_called-moves : (target : Option (List ℕ)) (place : Place) (m : Module) (n : Named) (gs : List Given) → Moves R (module_called target place m n gs)
  module_called-moves target place m n gs s t h = search (function_called-moves, parts)

  ruleset solving = (solve_called-moves, no_method-moves)

  pub method_called-moves : (target : Option (List ℕ)) (place : Place) (v : Value) (n : Named) (gs : List Given) → Moves R (method_called target place v n gs)
  method_called-moves target place (library m) n gs s t h = search module_called-moves
  method_called-moves target place v n gs s t h = search (solving, parts)

  -- ---- signs, arguments, items and turns
  pub signed-moves : (ss : List Signed) (v : Value) → Moves R (signed ss v)
  signed-moves [] v s t h = search parts
  signed-moves (x ∷ ss) v s t h = search (signed-moves ss v, sign_value-moves, parts)

  pub with_item-moves : (place : Place) (vs : List Value) (m : Act Value) → Moves R m → Moves R (with_item place vs m)
  with_item-moves place vs m moves s t h = search (moves, room-moves, parts)

  pub turn-moves : (first : Place) (name : List ℕ) (element : Act Value) (v : Value) → Moves R element → Moves R (turn first name element v)
  turn-moves = carried.turns

  pub turns-moves : (place first : Place) (name : List ℕ) (element : Act Value) → Moves R element → (xs vs : List Value) → Moves R (turns place first name element xs vs)
  turns-moves place first name element moves xs [] s t h = search parts
  turns-moves place first name element moves xs (v ∷ vs) s t h =
      search (turn-moves first name element v moves, room-moves, λ (x : Value). turns-moves place first name element moves (xs ++ x ∷ []) vs, parts)

  -- ---- the forms
  mutual
    pub expr-moves : (x : Expr) → Moves R (expr_means x)
    expr-moves (expr first rest) s t h = search (sum-moves first, compared-moves rest, parts)

    pub compared-moves : (x : Compared) (v : Value) → Moves R (compared_means x v)
    compared-moves no_comparison v s t h = search parts
    compared-moves (compared c place x rest) v s t h = search (sum-moves x, compare_values-moves, chained-moves rest, parts)

    pub chained-moves : (x : Compared) (v : Value) → Moves R (chained_means x v)
    chained-moves no_comparison v s t h = search parts
    chained-moves (compared c place x rest) v s t h = search (sum-moves x, parts)

    pub sum-moves : (x : Sum) → Moves R (sum_means x)
    sum-moves (sum first rest) s t h = search (term-moves first, added-moves rest, parts)

    pub added-moves : (x : Added) (v : Value) → Moves R (added_means x v)
    added-moves no_addition v s t h = search parts
    added-moves (added sign place x rest) v s t h = search (term-moves x, add_values-moves, added-moves rest, parts)

    pub term-moves : (x : Term) → Moves R (term_means x)
    term-moves (term first rest) s t h = search (factor-moves first, scaled-moves rest, parts)

    pub scaled-moves : (x : Scaled) (v : Value) → Moves R (scaled_means x v)
    scaled-moves no_scaling v s t h = search parts
    scaled-moves (scaled scaling place x rest) v s t h = search (factor-moves x, scale_values-moves, scaled-moves rest, parts)

    pub factor-moves : (x : Factor) → Moves R (factor_means x)
    factor-moves (factor signs x) s t h = search (power-moves x, signed-moves, parts)

    pub power-moves : (x : Power) → Moves R (power_means x)
    power-moves (power_of first rest) s t h = search (postfix-moves first None, raised-moves rest, parts)

    pub raised-moves : (x : Raised) (v : Value) → Moves R (raised_means x v)
    raised-moves no_power v s t h = search parts
    raised-moves (raised place x rest) v s t h = search (exponent-moves x, parts)

    pub exponent-moves : (x : Exponent) → Moves R (exponent_means x)
    exponent-moves (exponent signs x) s t h = search (postfix-moves x None, signed-moves, parts)

    pub postfix-moves : (x : Postfix) (target : Option (List ℕ)) → Moves R (postfix_means target x)
    postfix-moves (postfix (name_at n) (call p xs rest)) target s t h = search (is_range-moves, args-moves xs, name_called-moves, trailers-moves rest, parts)
    postfix-moves (postfix x trailers) target s t h = search (primary-moves x, trailers-moves trailers, parts)

    pub trailers-moves : (x : Trailers) (target : Option (List ℕ)) (place : Place) (v : Value) → Moves R (trailers_mean target place x v)
    trailers-moves no_trailer target place v s t h = search parts
    trailers-moves (attribute n (call p xs rest)) target place v s t h = search (args-moves xs, method_called-moves, trailers-moves rest, parts)
    trailers-moves (attribute n rest) target place v s t h = search (attribute_value-moves, trailers-moves rest, parts)
    trailers-moves (call p xs rest) target place v s t h = search (args-moves xs, parts)
    trailers-moves (indexed p x xs rest) target place v s t h = search (index-moves x, indices-moves xs, index_value-moves, trailers-moves rest, parts)

    pub args-moves : (x : Args) (solving : Bool) → Moves R (args_mean solving x)
    args-moves no_args solving s t h = search parts
    args-moves (args x rest) solving s t h = search (arg-moves x, more_args-moves rest, parts)

    pub more_args-moves : (x : MoreArgs) (solving : Bool) → Moves R (more_args_mean solving x)
    more_args-moves args_end solving s t h = search parts
    more_args-moves args_comma solving s t h = search parts
    more_args-moves (more_args x rest) solving s t h = search (arg-moves x, more_args-moves rest, parts)

    pub arg-moves : (x : Arg) (solving : Bool) → Moves R (arg_means solving x)
    arg-moves (by_place x) solving s t h = search (expr-moves x, parts)
    arg-moves (by_name n x) solving s t h = search (expr-moves x, parts)

    pub indices-moves : (x : Indices) → Moves R (indices_mean x)
    indices-moves no_index s t h = search parts
    indices-moves (more_indices x rest) s t h = search (index-moves x, indices-moves rest, parts)

    pub index-moves : (x : Index) → Moves R (index_means x)
    index-moves (at x) s t h = search (expr-moves x, parts)
    index-moves (slice start stop by) s t h = search (optional-moves start, optional-moves stop, step_part-moves by, parts)

    pub optional-moves : (x : Optional) → Moves R (optional_means x)
    optional-moves absent s t h = search parts
    optional-moves (present x) s t h = search (expr-moves x, parts)

    pub step_part-moves : (x : Step) → Moves R (step_means x)
    step_part-moves no_step s t h = search parts
    step_part-moves (step x) s t h = search (optional-moves x)

    pub primary-moves : (x : Primary) → Moves R (primary_means x)
    primary-moves (number_at n place) s t h = search parts
    primary-moves (text_at text place) s t h = search parts
    primary-moves (name_at n) s t h = search parts
    primary-moves (truth_at b place) s t h = search parts
    primary-moves (none_at place) s t h = search parts
    primary-moves (unit place) s t h = search parts
    primary-moves (round place x) s t h = search (expr-moves x)
    primary-moves (tuple place x rest) s t h = search (with_item-moves place [] (expr_means x) (expr-moves x), items-moves rest place, parts)
    primary-moves (empty_list place) s t h = search parts
    primary-moves (list place x rest) s t h = search (with_item-moves place [] (expr_means x) (expr-moves x), more_items-moves rest place, parts)
    primary-moves (comprehension place x for_place n from) s t h = search (expr-moves from, items_through-moves, turns-moves place (expr_place x) n.name (expr_means x) (expr-moves x) [], parts)

    pub items-moves : (x : Items) (place : Place) (vs : List Value) → Moves R (items_mean place x vs)
    items-moves no_items place vs s t h = search parts
    items-moves (items x rest) place vs s t h = search (with_item-moves place vs (expr_means x) (expr-moves x), more_items-moves rest place, parts)

    pub more_items-moves : (x : MoreItems) (place : Place) (vs : List Value) → Moves R (more_items_mean place x vs)
    more_items-moves items_end place vs s t h = search parts
    more_items-moves items_comma place vs s t h = search parts
    more_items-moves (more_items x rest) place vs s t h = search (with_item-moves place vs (expr_means x) (expr-moves x), more_items-moves rest place, parts)
