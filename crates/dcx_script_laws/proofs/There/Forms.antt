-- Expressions: what comes of each form of the syntax tree is there.
use Rattle.std.proofs.Common.{ℕ, Bool, true, false, if◌then◌else◌, List, [], ◌∷◌, ◌++◌, Option, Some, None}
use Rattle.dcx_shape.specs.declared.place.Place.{Place}
use Rattle.dcx_syntax.specs.declared.tree.Named.{Named}
use Rattle.dcx_syntax.specs.declared.tree.Module.{Module}
use Rattle.dcx_syntax.specs.declared.tree.Signed.{Signed}
use Rattle.dcx_syntax.specs.Expressions.{Expr, expr, Compared, no_comparison, compared, Sum, sum, Added, no_addition, added, Term, term, Scaled, no_scaling, scaled, Factor}
use Rattle.dcx_syntax.specs.Expressions.{factor, Power, power_of, Raised, no_power, raised, Exponent, exponent, Postfix, postfix, Trailers, no_trailer, attribute, call}
use Rattle.dcx_syntax.specs.Expressions.{indexed, Args, no_args, args, MoreArgs, args_end, args_comma, more_args, Arg, by_place, by_name, Indices, no_index, more_indices}
use Rattle.dcx_syntax.specs.Expressions.{Index, at, slice, Optional, absent, present, Step, no_step, step, Primary, number_at, text_at, name_at, truth_at, none_at, unit}
use Rattle.dcx_syntax.specs.Expressions.{round, tuple, empty_list, list, comprehension, Items, no_items, items, MoreItems, items_end, items_comma, more_items}
use Rattle.dcx_script_values.specs.Values.{Value, library, nothing, Act, done}
use Rattle.dcx_signature.specs.Arguments.{Given}
use Rattle.dcx_signature.specs.Firsts.{expr_place}
use Rattle.dcx_elab.specs.Turns.{turn, turns}
use Rattle.dcx_elab.specs.Expressions.{is_range_unless, is_range, name_called, solve_called, no_method, module_called, method_called, is_ignored, given, signed, with_item, expr_means}
use Rattle.dcx_elab.specs.Expressions.{compared_means, chained_means, sum_means, added_means, term_means, scaled_means, factor_means, power_means, raised_means, exponent_means, postfix_means}
use Rattle.dcx_elab.specs.Expressions.{trailers_mean, args_mean, more_args_mean, arg_means, indices_mean, index_means, optional_means, step_means, primary_means, items_mean, more_items_mean}
use Rattle.dcx_script_laws.specs.Trees.{HasNodesBelow}
use Rattle.dcx_script_laws.proofs.Carried.{Moves, parts}
use Rattle.dcx_script_laws.proofs.CarriedNodes.{step-moves, room-moves, solve-moves, arguments-moves, items_through-moves}
use Rattle.dcx_script_laws.proofs.CarriedCalls.{add_values-moves, scale_values-moves, sign_value-moves, compare_values-moves, index_value-moves, attribute_value-moves, function_called-moves}
use Rattle.dcx_script_laws.proofs.CarriedForms.{name_called-moves, method_called-moves, signed-moves, with_item-moves, turns-moves, expr-moves}
use Rattle.dcx_script_laws.proofs.CarriedForms.{compared-moves, chained-moves, added-moves, scaled-moves, raised-moves, trailers-moves, args-moves}
use Rattle.dcx_script_laws.proofs.CarriedForms.{more_args-moves, indices-moves, index-moves, optional-moves, step_part-moves, items-moves, more_items-moves}
use Rattle.dcx_script_laws.proofs.There.Parts.{later-from, Later, Anything, AllBelow, GivenBelow, AllGivenBelow, Gives, steps, look-gives, bound-below, bound-fine, restore-gives}
use Rattle.dcx_script_laws.proofs.There.Later.{later-same, later_is_carried, restore-later}
use Rattle.dcx_script_laws.proofs.There.Nodes.{both-below, values-below, step-gives, room-gives, solve-gives, arguments-gives, items_through-gives}
use Rattle.dcx_script_laws.proofs.There.Calls.{add_values-gives, scale_values-gives, sign_value-gives, compare_values-gives, index_value-gives, attribute_value-gives, function_called-gives}

ruleset growing = (
  parts,
  later-from,
  later-same,
  later_is_carried,
  restore-later,
  step-moves,
  room-moves,
  solve-moves,
  arguments-moves,
  items_through-moves,
  add_values-moves,
  scale_values-moves,
  sign_value-moves,
  compare_values-moves,
  index_value-moves,
  attribute_value-moves,
  function_called-moves,
  name_called-moves,
  method_called-moves,
  signed-moves,
  compared-moves,
  chained-moves,
  added-moves,
  scaled-moves,
  raised-moves,
  trailers-moves,
  args-moves,
  index-moves,
  with_item-moves,
  more_args-moves,
  indices-moves,
  optional-moves,
  step_part-moves,
  items-moves,
  more_items-moves,
)

module _ (N : ℕ) where
  -- ---- calls
  is_range_unless-any : (n : Named) (v : Option Value) → Gives N (Anything N) (is_range_unless n v)
  is_range_unless-any n (Some v) s fine = search steps
  is_range_unless-any n None s fine = search steps

  is_range-any : (n : Named) → Gives N (Anything N) (is_range n)
  is_range-any n s fine = search is_range_unless-any

  name_called-gives : (n : Named) (ranged : Bool) (gs : List Given) → AllGivenBelow N gs → Gives N (HasNodesBelow N) (name_called n ranged gs)
  name_called-gives n true gs h s fine = search function_called-gives
  name_called-gives n false gs h s fine = search steps

  solve_called-gives : (place : Place) (gs : List Given) → AllGivenBelow N gs → Gives N (HasNodesBelow N) (solve_called place gs)
  solve_called-gives place gs h s fine = search (steps, arguments-gives, solve-gives, growing)

  no_method-gives : (place : Place) (n : Named) → Gives N (HasNodesBelow N) (no_method place n)
  no_method-gives place n s fine = search steps

  module_called-gives : (target : Option (List ℕ)) (place : Place) (m : Module) (n : Named) (gs : List Given) → AllGivenBelow N gs → Gives N (HasNodesBelow N) (module_called target place m n gs)
  module_called-gives target place m n gs h s fine = search (steps, function_called-gives, growing)

  method_called-gives : (target : Option (List ℕ)) (place : Place) (v : Value) (n : Named) (gs : List Given) → AllGivenBelow N gs → Gives N (HasNodesBelow N) (method_called target place v n gs)
  method_called-gives target place (library m) n gs h s fine = search module_called-gives
  method_called-gives target place v n gs h s fine = search (solve_called-gives, no_method-gives, steps)

  -- ---- signs, arguments, items and turns
  signed-gives : (ss : List Signed) (v : Value) → HasNodesBelow N v → Gives N (HasNodesBelow N) (signed ss v)
  signed-gives [] v h s fine = search steps
  signed-gives (x ∷ ss) v h s fine = search (signed-gives ss v, sign_value-gives, steps, growing)

  given-gives : (word : Option (List ℕ)) (place : Place) (m : Act Value) → Gives N (HasNodesBelow N) m → Gives N (GivenBelow N) (given word place m)
  given-gives word place m gives s fine = search (gives, steps, growing)

  one_more-below : (vs : List Value) (v : Value) → AllBelow N vs → HasNodesBelow N v → AllBelow N (vs ++ v ∷ [])
  one_more-below vs v h k = both-below N vs (v ∷ []) h (k, tt)

  with_item-gives : (place : Place) (vs : List Value) (m : Act Value) → Gives N (HasNodesBelow N) m → AllBelow N vs → Gives N (AllBelow N) (with_item place vs m)
  with_item-gives place vs m gives h s fine = search (gives, room-gives, one_more-below, steps, growing) depth 8

  pub turn-gives : (first : Place) (name : List ℕ) (element : Act Value) (v : Value) → Gives N (HasNodesBelow N) element → Moves Later element → HasNodesBelow N v
      → Gives N (HasNodesBelow N) (turn first name element v)
  turn-gives first name element v gives moves h s fine = search (step-gives, bound-fine, bound-below, gives, moves, restore-gives, steps, growing) depth 12

  turns-gives : (place first : Place) (name : List ℕ) (element : Act Value) → Gives N (HasNodesBelow N) element → Moves Later element → (xs vs : List Value) → AllBelow N xs → AllBelow N vs
      → Gives N (AllBelow N) (turns place first name element xs vs)
  turns-gives place first name element gives moves xs [] h k s fine = search steps
  turns-gives place first name element gives moves xs (v ∷ vs) h k s fine =
      let others = λ (x : Value) (b : HasNodesBelow N x). turns-gives place first name element gives moves (xs ++ x ∷ []) vs (one_more-below xs x h b) k.1 in
      search (
        turn-gives first name element v gives moves k.0,
        room-gives,
        others,
        λ (x : Value). turns-moves Later later_is_carried place first name element moves
            (xs ++ x ∷ []) vs,
        steps,
        growing,
      ) depth 10

  -- what stands behind a word that may be ignored
  word-gives : (ignored : Bool) (m : Act Value) → Gives N (HasNodesBelow N) m → Gives N (HasNodesBelow N) (if ignored then done nothing else m)
  word-gives true m gives s fine = search steps
  word-gives false m gives s fine = gives s fine

  -- ---- the forms
  mutual
    pub expr-gives : (x : Expr) → Gives N (HasNodesBelow N) (expr_means x)
    expr-gives (expr first rest) s fine = search (sum-gives first, compared-gives rest, steps, compared-moves Later later_is_carried rest, growing)

    compared-gives : (x : Compared) (v : Value) → HasNodesBelow N v → Gives N (HasNodesBelow N) (compared_means x v)
    compared-gives no_comparison v h s fine = search steps
    compared-gives (compared c place x rest) v h s fine = search (sum-gives x, compare_values-gives, chained-gives rest, steps, chained-moves Later later_is_carried rest, growing)

    chained-gives : (x : Compared) (v : Value) → HasNodesBelow N v → Gives N (HasNodesBelow N) (chained_means x v)
    chained-gives no_comparison v h s fine = search steps
    chained-gives (compared c place x rest) v h s fine = search (sum-gives x, steps, growing)

    sum-gives : (x : Sum) → Gives N (HasNodesBelow N) (sum_means x)
    sum-gives (sum first rest) s fine = search (term-gives first, added-gives rest, steps, added-moves Later later_is_carried rest, growing)

    added-gives : (x : Added) (v : Value) → HasNodesBelow N v → Gives N (HasNodesBelow N) (added_means x v)
    added-gives no_addition v h s fine = search steps
    added-gives (added sign place x rest) v h s fine = search (term-gives x, add_values-gives, added-gives rest, steps, added-moves Later later_is_carried rest, growing)

    term-gives : (x : Term) → Gives N (HasNodesBelow N) (term_means x)
    term-gives (term first rest) s fine = search (factor-gives first, scaled-gives rest, steps, scaled-moves Later later_is_carried rest, growing)

    scaled-gives : (x : Scaled) (v : Value) → HasNodesBelow N v → Gives N (HasNodesBelow N) (scaled_means x v)
    scaled-gives no_scaling v h s fine = search steps
    scaled-gives (scaled scaling place x rest) v h s fine = search (factor-gives x, scale_values-gives, scaled-gives rest, steps, scaled-moves Later later_is_carried rest, growing)

    factor-gives : (x : Factor) → Gives N (HasNodesBelow N) (factor_means x)
    factor-gives (factor signs x) s fine = search (power-gives x, signed-gives, steps, growing)

    power-gives : (x : Power) → Gives N (HasNodesBelow N) (power_means x)
    power-gives (power_of first rest) s fine = search (postfix-gives first None, raised-gives rest, steps, raised-moves Later later_is_carried rest, growing)

    raised-gives : (x : Raised) (v : Value) → HasNodesBelow N v → Gives N (HasNodesBelow N) (raised_means x v)
    raised-gives no_power v h s fine = search steps
    raised-gives (raised place x rest) v h s fine = search (exponent-gives x, steps, growing)

    exponent-gives : (x : Exponent) → Gives N (HasNodesBelow N) (exponent_means x)
    exponent-gives (exponent signs x) s fine = search (postfix-gives x None, signed-gives, steps, growing)

    pub postfix-gives : (x : Postfix) (target : Option (List ℕ)) → Gives N (HasNodesBelow N) (postfix_means target x)
    postfix-gives (postfix (name_at n) (call p xs rest)) target s fine = search (
      is_range-any,
      args-gives xs,
      name_called-gives,
      trailers-gives rest,
      steps,
      args-moves Later later_is_carried xs,
      trailers-moves Later later_is_carried rest,
      growing,
    ) depth 8
    postfix-gives (postfix x trailers) target s fine = search (primary-gives x, trailers-gives trailers, steps, trailers-moves Later later_is_carried trailers, growing)

    trailers-gives : (x : Trailers) (target : Option (List ℕ)) (place : Place) (v : Value) → HasNodesBelow N v → Gives N (HasNodesBelow N) (trailers_mean target place x v)
    trailers-gives no_trailer target place v h s fine = search steps
    trailers-gives (attribute n (call p xs rest)) target place v h s fine = search (args-gives xs, method_called-gives, trailers-gives rest, steps, trailers-moves Later later_is_carried rest, growing)
    trailers-gives (attribute n rest) target place v h s fine = search (attribute_value-gives, trailers-gives rest, steps, trailers-moves Later later_is_carried rest, growing)
    trailers-gives (call p xs rest) target place v h s fine = search (args-gives xs, steps, growing)
    trailers-gives (indexed p x xs rest) target place v h s fine = search (
      index-any x,
      indices-any xs,
      index_value-gives,
      trailers-gives rest,
      steps,
      indices-moves Later later_is_carried xs,
      trailers-moves Later later_is_carried rest,
      growing,
    ) depth 8

    args-gives : (x : Args) (solving : Bool) → Gives N (AllGivenBelow N) (args_mean solving x)
    args-gives no_args solving s fine = search steps
    args-gives (args x rest) solving s fine = search (arg-gives x, more_args-gives rest, steps, more_args-moves Later later_is_carried rest, growing)

    more_args-gives : (x : MoreArgs) (solving : Bool) → Gives N (AllGivenBelow N) (more_args_mean solving x)
    more_args-gives args_end solving s fine = search steps
    more_args-gives args_comma solving s fine = search steps
    more_args-gives (more_args x rest) solving s fine = search (arg-gives x, more_args-gives rest, steps, more_args-moves Later later_is_carried rest, growing)

    arg-gives : (x : Arg) (solving : Bool) → Gives N (GivenBelow N) (arg_means solving x)
    arg-gives (by_place x) solving s fine = given-gives None (expr_place x) (expr_means x) (expr-gives x) s fine
    arg-gives (by_name n x) solving s fine = given-gives (Some n.name) n.place _ (word-gives (is_ignored solving n.name) (expr_means x) (expr-gives x)) s fine

    indices-any : (x : Indices) → Gives N (Anything N) (indices_mean x)
    indices-any no_index s fine = search steps
    indices-any (more_indices x rest) s fine = search (index-any x, indices-any rest, steps, indices-moves Later later_is_carried rest, growing)

    index-any : (x : Index) → Gives N (Anything N) (index_means x)
    index-any (at x) s fine = search (expr-gives x, steps, growing)
    index-any (slice start stop by) s fine =
        search (optional-any start, optional-any stop, step_part-any by, steps, optional-moves Later later_is_carried stop, step_part-moves Later later_is_carried by, growing)

    optional-any : (x : Optional) → Gives N (Anything N) (optional_means x)
    optional-any absent s fine = search steps
    optional-any (present x) s fine = search (expr-gives x, steps, growing)

    step_part-any : (x : Step) → Gives N (Anything N) (step_means x)
    step_part-any no_step s fine = search steps
    step_part-any (step x) s fine = search (optional-any x)

    pub primary-gives : (x : Primary) → Gives N (HasNodesBelow N) (primary_means x)
    primary-gives (number_at n place) s fine = search steps
    primary-gives (text_at t place) s fine = search steps
    primary-gives (name_at n) s fine = search look-gives
    primary-gives (truth_at b place) s fine = search steps
    primary-gives (none_at place) s fine = search steps
    primary-gives (unit place) s fine = search steps
    primary-gives (round place x) s fine = search (expr-gives x)
    primary-gives (tuple place x rest) s fine =
        search (with_item-gives place [] (expr_means x) (expr-gives x), items-gives rest place, values-below, steps, items-moves Later later_is_carried rest place, growing)
    primary-gives (empty_list place) s fine = search steps
    primary-gives (list place x rest) s fine = search (
      with_item-gives place [] (expr_means x) (expr-gives x),
      more_items-gives rest place,
      values-below,
      steps,
      more_items-moves Later later_is_carried rest place,
      growing,
    )
    primary-gives (comprehension place x for_place n from) s fine =
        search (
          expr-gives from,
          items_through-gives,
          λ (vs : List Value). turns-gives place (expr_place x) n.name (expr_means x) (expr-gives x)
              (expr-moves Later later_is_carried x) [] vs tt,
          λ (vs : List Value). turns-moves Later later_is_carried place (expr_place x) n.name (expr_means x)
              (expr-moves Later later_is_carried x) [] vs,
          values-below,
          steps,
          growing,
        ) depth 8

    items-gives : (x : Items) (place : Place) (vs : List Value) → AllBelow N vs → Gives N (AllBelow N) (items_mean place x vs)
    items-gives no_items place vs h s fine = search steps
    items-gives (items x rest) place vs h s fine =
        search (with_item-gives place vs (expr_means x) (expr-gives x), more_items-gives rest place, steps, more_items-moves Later later_is_carried rest place, growing)

    more_items-gives : (x : MoreItems) (place : Place) (vs : List Value) → AllBelow N vs → Gives N (AllBelow N) (more_items_mean place x vs)
    more_items-gives items_end place vs h s fine = search steps
    more_items-gives items_comma place vs h s fine = search steps
    more_items-gives (more_items x rest) place vs h s fine =
        search (with_item-gives place vs (expr_means x) (expr-gives x), more_items-gives rest place, steps, more_items-moves Later later_is_carried rest place, growing)
