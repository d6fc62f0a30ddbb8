-- What an expression means under other names.
use Rattle.std.proofs.Common.{◌≡◌, ℕ, Bool, true, false, cond, List, [], ◌∷◌, ◌++◌, map, Option, Some, None, option_map, refl, sym, ap, ◌∙◌}
use Rattle.std.specs.Prelude.{codes}
use Rattle.dcx_shape.specs.declared.shape.Sides.{Sides}
use Rattle.dcx_shape.specs.declared.shape.Sides.TheVariants.{Scalar, Vector, Matrix}
use Rattle.dcx_shape.specs.declared.place.Place.{Place}
use Rattle.dcx_shape.specs.Shape.{sides_of}
use Rattle.dcx_atom.specs.declared.array.Array.{Array}
use Rattle.dcx_point.specs.Pairs.{same_name}
use Rattle.dcx_array.specs.Arrays.{number}
use Rattle.dcx_syntax.specs.declared.tree.Named.{Named}
use Rattle.dcx_syntax.specs.declared.tree.Module.{Module}
use Rattle.dcx_syntax.specs.declared.tree.Signed.{Signed}
use Rattle.dcx_syntax.specs.Expressions.{Expr, expr, Compared, no_comparison, compared, Sum, sum, Added, no_addition, added, Term, term, Scaled, no_scaling, scaled, Factor}
use Rattle.dcx_syntax.specs.Expressions.{factor, Power, power_of, Raised, no_power, raised, Exponent, exponent, Postfix, postfix, Trailers, no_trailer, attribute, call}
use Rattle.dcx_syntax.specs.Expressions.{indexed, Args, no_args, args, MoreArgs, args_end, args_comma, more_args, Arg, by_place, by_name, Indices, no_index, more_indices}
use Rattle.dcx_syntax.specs.Expressions.{Index, at, slice, Optional, absent, present, Step, no_step, step, Primary, number_at, text_at, name_at, truth_at, none_at, unit}
use Rattle.dcx_syntax.specs.Expressions.{round, tuple, empty_list, list, comprehension, Items, no_items, items, MoreItems, items_end, items_comma, more_items}
use Rattle.dcx_script_values.specs.declared.fault.ElabFault.TheVariants.{UnknownName, UnknownCall, NotOffered}
use Rattle.dcx_script_values.specs.Values.{Value, plain, text, truth, nothing, tuple as tuple_value, list as list_value, range, library, end, values_of, items_of, list_of, Act, done, fault}
use Rattle.dcx_signature.specs.declared.table.Function.TheVariants as functions
use Rattle.dcx_signature.specs.Table.{function_named, solve_row}
use Rattle.dcx_signature.specs.Arguments.{Given}
use Rattle.dcx_signature.specs.Firsts.{primary_place, expr_place}
use Rattle.dcx_signature.specs.Turns.{range_items, vector_items, items_through}
use Rattle.dcx_operators.specs.Indices.{single, sliced}
use Rattle.dcx_elab.specs.Turns.{turn, turns, each_turn}
use Rattle.dcx_elab.specs.Expressions.{is_range_unless, is_range, name_called, is_answer, is_solve, solve_called, no_method, module_called, method_called}
use Rattle.dcx_elab.specs.Expressions.{target_before, is_ignored, given, signed, with_item, expr_means, compared_means, chained_means, sum_means, added_means}
use Rattle.dcx_elab.specs.Expressions.{term_means, scaled_means, factor_means, power_means, raised_means, exponent_means, postfix_means, trailers_mean, args_mean}
use Rattle.dcx_elab.specs.Expressions.{more_args_mean, arg_means, indices_mean, index_means, optional_means, step_means, primary_means, items_mean, more_items_mean}
use Rattle.dcx_script_laws.specs.Renamed.{named_renamed, expr_renamed, compared_renamed, sum_renamed, added_renamed, term_renamed, scaled_renamed, factor_renamed}
use Rattle.dcx_script_laws.specs.Renamed.{power_renamed, raised_renamed, exponent_renamed, postfix_renamed, trailers_renamed, args_renamed, more_args_renamed}
use Rattle.dcx_script_laws.specs.Renamed.{arg_renamed, indices_renamed, index_renamed, optional_renamed, step_renamed, primary_renamed, items_renamed, more_items_renamed}
use Rattle.dcx_script_laws.specs.Names.{IsRenaming, Follows}
use Rattle.dcx_script_laws.proofs.Renamed.Entries.{same_renamed}
use Rattle.dcx_script_laws.proofs.Renamed.Acts.{chain, next, instead, done_follows, fault_follows, or_fault_follows, if_follows}
use Rattle.dcx_script_laws.proofs.Renamed.Acts.{step_follows, room_follows, bound_follows, look_follows, bind_follows, restore_follows}
use Rattle.dcx_script_laws.proofs.Renamed.Declarations.{solve_follows}
use Rattle.dcx_script_laws.proofs.Renamed.Operators.{add_values_follow, scale_values_follow, sign_value_follows, compare_values_follow, index_value_follows, attribute_value_follows}
use Rattle.dcx_script_laws.proofs.Renamed.Calls.{arguments_follow, function_called_follows}

-- ---- places
primary_place_kept : (rename : List ℕ → List ℕ) (x : Primary) → primary_place (primary_renamed rename x) ≡ primary_place x
primary_place_kept rename x = elim x as (λ y. primary_place (primary_renamed rename y) ≡ primary_place y) [
  | number_at x p ↦ refl
  | text_at t p ↦ refl
  | name_at n ↦ refl
  | truth_at b p ↦ refl
  | none_at p ↦ refl
  | unit p ↦ refl
  | round p x ↦ refl
  | tuple p x rest ↦ refl
  | empty_list p ↦ refl
  | list p x rest ↦ refl
  | comprehension p x q n from ↦ refl
]

pub place_kept : (rename : List ℕ → List ℕ) (x : Expr) → expr_place (expr_renamed rename x) ≡ expr_place x
place_kept rename (expr (sum (term (factor [] (power_of (postfix x ts) exponents)) factors) terms) sums) = primary_place_kept rename x
place_kept rename (expr (sum (term (factor (s ∷ ss) x) factors) terms) sums) = refl

-- ---- targets
target_kept : (rename : List ℕ → List ℕ) (target : Option (List ℕ)) (ts : Trailers)
    → target_before (option_map rename target) (trailers_renamed rename ts) ≡ option_map rename (target_before target ts)
target_kept rename target no_trailer = refl
target_kept rename target (attribute n rest) = refl
target_kept rename target (call p xs rest) = refl
target_kept rename target (indexed p x xs rest) = refl

-- ---- what doesn't look at names
module _ {rename : List ℕ → List ℕ} where
  given_follows : (word : Option (List ℕ)) (place : Place) {m n : Act Value} → Follows rename m n → Follows rename (given word place m) (given word place n)
  given_follows word place h = chain h (λ v. done_follows (record { word = word; place = place; value = v }))

  with_item_follows : (place : Place) (vs : List Value) {m n : Act Value} → Follows rename m n → Follows rename (with_item place vs m) (with_item place vs n)
  with_item_follows place vs h = chain h (λ v. next (room_follows place vs v) (done_follows (vs ++ v ∷ [])))

  no_method_follows : (place : Place) (n : Named) → Follows rename (no_method place n) (no_method place n)
  no_method_follows place n = if_follows (is_answer n.name) (fault_follows (NotOffered n.place)) (fault_follows (UnknownCall place))

  vector_follows : (place : Place) (a : Array) (sides : Sides) → Follows rename (vector_items place a sides) (vector_items place a sides)
  vector_follows place a (Vector n) = done_follows (map (λ x. plain (number x)) a.entries)
  vector_follows place a Scalar = fault_follows (NotOffered place)
  vector_follows place a (Matrix m n) = fault_follows (NotOffered place)

  pub through_follows : (place : Place) (v : Value) → Follows rename (items_through place v) (items_through place v)
  through_follows place (plain a) = vector_follows place a (sides_of a.shape)
  through_follows place (list_value vs) = done_follows (items_of vs)
  through_follows place (range first by n) = done_follows (range_items first by n)
  through_follows place v = fault_follows (NotOffered place)

-- ---- calls and turns
module _ {rename : List ℕ → List ℕ} (is : IsRenaming rename) where
  is_range_unless_follows : (n : Named) (o : Option Value) → Follows rename (is_range_unless n o) (is_range_unless (named_renamed rename n) o)
  is_range_unless_follows n (Some v) = done_follows false
  is_range_unless_follows n None =
      instead (ap (λ b. cond b (done true) (fault (UnknownName n.place))) (ap (same_name (rename n.name)) (sym is.range) ∙ same_renamed is n.name (codes "range")))
      (if_follows (same_name n.name (codes "range")) (done_follows true) (fault_follows (UnknownName n.place)))

  is_range_follows : (n : Named) → Follows rename (is_range n) (is_range (named_renamed rename n))
  is_range_follows n = chain (bound_follows is n.name) (λ o. is_range_unless_follows n o)

  name_called_follows : (n : Named) (ranged : Bool) (gs : List Given) → Follows rename (name_called n ranged gs) (name_called (named_renamed rename n) ranged gs)
  name_called_follows n true gs = function_called_follows is None n.place functions.Range gs
  name_called_follows n false gs = fault_follows (UnknownCall n.place)

  solve_called_follows : (place : Place) (gs : List Given) → Follows rename (solve_called place gs) (solve_called place gs)
  solve_called_follows place gs = arguments_follow place solve_row gs (λ _. solve_follows is place)

  module_called_follows : (target : Option (List ℕ)) (place : Place) (m : Module) (n : Named) (gs : List Given)
      → Follows rename (module_called target place m n gs) (module_called (option_map rename target) place m n gs)
  module_called_follows target place m n gs = chain (or_fault_follows (UnknownCall place) (function_named m n.name)) (λ f. function_called_follows is target place f gs)

  method_called_follows : (target : Option (List ℕ)) (place : Place) (v : Value) (n : Named) (gs : List Given)
      → Follows rename (method_called target place v n gs) (method_called (option_map rename target) place v n gs)
  method_called_follows target place (library m) n gs = module_called_follows target place m n gs
  method_called_follows target place v n gs = if_follows (is_solve v n.name) (solve_called_follows place gs) (no_method_follows place n)

  signed_follows : (ss : List Signed) (v : Value) → Follows rename (signed ss v) (signed ss v)
  signed_follows [] v = done_follows v
  signed_follows (s ∷ ss) v = chain (signed_follows ss v) (λ w. sign_value_follows is s.sign s.place w)

  turn_follows : (first : Place) (name : List ℕ) {m n : Act Value} (v : Value) → Follows rename m n → Follows rename (turn first name m v) (turn first (rename name) n v)
  turn_follows first name v h =
      next (step_follows first) (chain (bound_follows is name) (λ before. next (bind_follows is name v) (chain h (λ x. next (restore_follows is name before) (done_follows x)))))

  turns_follow : (place first : Place) (name : List ℕ) {m n : Act Value} → Follows rename m n → (xs vs : List Value)
      → Follows rename (turns place first name m xs vs) (turns place first (rename name) n xs vs)
  turns_follow place first name h xs [] = done_follows xs
  turns_follow place first name h xs (v ∷ vs) =
      chain (turn_follows first name v h) (λ x. next (room_follows place xs x) (turns_follow place first name h (xs ++ x ∷ []) vs))

  pub each_turn_follows : (name : List ℕ) {m n : Act (Unit {0})} → Follows rename m n → (vs : List Value) → Follows rename (each_turn name m vs) (each_turn (rename name) n vs)
  each_turn_follows name h [] = done_follows tt
  each_turn_follows name h (v ∷ vs) = next (bind_follows is name v) (next h (each_turn_follows name h vs))

  -- ---- the forms
  mutual
    pub expr_follows : (x : Expr) → Follows rename (expr_means x) (expr_means (expr_renamed rename x))
    expr_follows (expr first rest) = chain (sum_follows first) (λ v. compared_follows rest v)

    compared_follows : (x : Compared) (v : Value) → Follows rename (compared_means x v) (compared_means (compared_renamed rename x) v)
    compared_follows no_comparison v = done_follows v
    compared_follows (compared c place x rest) v = chain (sum_follows x) (λ w. chain (compare_values_follow is c place v w) (λ u. chained_follows rest u))

    chained_follows : (x : Compared) (v : Value) → Follows rename (chained_means x v) (chained_means (compared_renamed rename x) v)
    chained_follows no_comparison v = done_follows v
    chained_follows (compared c place x rest) v = chain (sum_follows x) (λ _. fault_follows (NotOffered place))

    sum_follows : (x : Sum) → Follows rename (sum_means x) (sum_means (sum_renamed rename x))
    sum_follows (sum first rest) = chain (term_follows first) (λ v. added_follows rest v)

    added_follows : (x : Added) (v : Value) → Follows rename (added_means x v) (added_means (added_renamed rename x) v)
    added_follows no_addition v = done_follows v
    added_follows (added sign place x rest) v = chain (term_follows x) (λ w. chain (add_values_follow is sign place v w) (λ u. added_follows rest u))

    term_follows : (x : Term) → Follows rename (term_means x) (term_means (term_renamed rename x))
    term_follows (term first rest) = chain (factor_follows first) (λ v. scaled_follows rest v)

    scaled_follows : (x : Scaled) (v : Value) → Follows rename (scaled_means x v) (scaled_means (scaled_renamed rename x) v)
    scaled_follows no_scaling v = done_follows v
    scaled_follows (scaled scaling place x rest) v = chain (factor_follows x) (λ w. chain (scale_values_follow is scaling place v w) (λ u. scaled_follows rest u))

    factor_follows : (x : Factor) → Follows rename (factor_means x) (factor_means (factor_renamed rename x))
    factor_follows (factor signs x) = chain (power_follows x) (λ v. signed_follows signs v)

    power_follows : (x : Power) → Follows rename (power_means x) (power_means (power_renamed rename x))
    power_follows (power_of first rest) = chain (postfix_follows None first) (λ v. raised_follows rest v)

    raised_follows : (x : Raised) (v : Value) → Follows rename (raised_means x v) (raised_means (raised_renamed rename x) v)
    raised_follows no_power v = done_follows v
    raised_follows (raised place x rest) v = chain (exponent_follows x) (λ _. fault_follows (NotOffered place))

    exponent_follows : (x : Exponent) → Follows rename (exponent_means x) (exponent_means (exponent_renamed rename x))
    exponent_follows (exponent signs x) = chain (postfix_follows None x) (λ v. signed_follows signs v)

    pub postfix_follows : (target : Option (List ℕ)) (x : Postfix) → Follows rename (postfix_means target x) (postfix_means (option_map rename target) (postfix_renamed rename x))
    postfix_follows target (postfix (name_at n) (call p xs rest)) =
        chain (is_range_follows n) (λ ranged. chain (args_follow false xs) (λ gs. chain (name_called_follows n ranged gs) (λ v. trailers_follow target n.place rest v)))
    postfix_follows target (postfix x ts) = chain (primary_follows x) (λ v. trailers_follow target (primary_place x) ts v)

    trailers_follow : (target : Option (List ℕ)) (place : Place) (ts : Trailers) (v : Value)
        → Follows rename (trailers_mean target place ts v) (trailers_mean (option_map rename target) place (trailers_renamed rename ts) v)
    trailers_follow target place no_trailer v = done_follows v
    trailers_follow target place (attribute n (call p xs rest)) v =
        chain (args_follow (is_solve v n.name) xs) (λ gs.
        chain (instead (ap (λ t. method_called t place v n gs) (target_kept rename target rest)) (method_called_follows (target_before target rest) place v n gs))
        (λ w. trailers_follow target place rest w))
    trailers_follow target place (attribute n rest) v = chain (attribute_value_follows is n.place n.name v) (λ w. trailers_follow target place rest w)
    trailers_follow target place (call p xs rest) v = chain (args_follow false xs) (λ _. fault_follows (UnknownCall place))
    trailers_follow target place (indexed p x xs rest) v =
        chain (index_follows x) (λ i. chain (indices_follow xs) (λ is'. chain (index_value_follows is p v (i ∷ is')) (λ w. trailers_follow target place rest w)))

    args_follow : (solving : Bool) (xs : Args) → Follows rename (args_mean solving xs) (args_mean solving (args_renamed rename xs))
    args_follow solving no_args = done_follows []
    args_follow solving (args x rest) = chain (arg_follows solving x) (λ g. chain (more_args_follow solving rest) (λ gs. done_follows (g ∷ gs)))

    more_args_follow : (solving : Bool) (xs : MoreArgs) → Follows rename (more_args_mean solving xs) (more_args_mean solving (more_args_renamed rename xs))
    more_args_follow solving args_end = done_follows []
    more_args_follow solving args_comma = done_follows []
    more_args_follow solving (more_args x rest) = chain (arg_follows solving x) (λ g. chain (more_args_follow solving rest) (λ gs. done_follows (g ∷ gs)))

    arg_follows : (solving : Bool) (x : Arg) → Follows rename (arg_means solving x) (arg_means solving (arg_renamed rename x))
    arg_follows solving (by_place x) = instead (ap (λ p. given None p (expr_means (expr_renamed rename x))) (place_kept rename x)) (given_follows None (expr_place x) (expr_follows x))
    arg_follows solving (by_name n x) = given_follows (Some n.name) n.place (if_follows (is_ignored solving n.name) (done_follows nothing) (expr_follows x))

    indices_follow : (xs : Indices) → Follows rename (indices_mean xs) (indices_mean (indices_renamed rename xs))
    indices_follow no_index = done_follows []
    indices_follow (more_indices x rest) = chain (index_follows x) (λ i. chain (indices_follow rest) (λ is'. done_follows (i ∷ is')))

    index_follows : (x : Index) → Follows rename (index_means x) (index_means (index_renamed rename x))
    index_follows (at x) = chain (expr_follows x) (λ v. done_follows (single v))
    index_follows (slice start stop by) = chain (optional_follows start) (λ a. chain (optional_follows stop) (λ b. chain (step_follows_by by) (λ c. done_follows (sliced a b c))))

    optional_follows : (x : Optional) → Follows rename (optional_means x) (optional_means (optional_renamed rename x))
    optional_follows absent = done_follows None
    optional_follows (present x) = chain (expr_follows x) (λ v. done_follows (Some v))

    step_follows_by : (x : Step) → Follows rename (step_means x) (step_means (step_renamed rename x))
    step_follows_by no_step = done_follows None
    step_follows_by (step x) = optional_follows x

    primary_follows : (x : Primary) → Follows rename (primary_means x) (primary_means (primary_renamed rename x))
    primary_follows (number_at x place) = done_follows (plain (number x))
    primary_follows (text_at t place) = done_follows (text t)
    primary_follows (name_at n) = look_follows is n.name n.place
    primary_follows (truth_at b place) = done_follows (truth b)
    primary_follows (none_at place) = done_follows nothing
    primary_follows (unit place) = done_follows (tuple_value end)
    primary_follows (round place x) = expr_follows x
    primary_follows (tuple place x rest) = chain (with_item_follows place [] (expr_follows x)) (λ vs. chain (items_follow place rest vs) (λ ws. done_follows (tuple_value (values_of ws))))
    primary_follows (empty_list place) = done_follows (list_value end)
    primary_follows (list place x rest) = chain (with_item_follows place [] (expr_follows x)) (λ vs. chain (more_items_follow place rest vs) (λ ws. done_follows (list_of ws)))
    primary_follows (comprehension place x for_place n from) =
        chain (expr_follows from) (λ v. chain (through_follows for_place v) (λ vs.
        chain (instead (ap (λ p. turns place p (rename n.name) (expr_means (expr_renamed rename x)) [] vs) (place_kept rename x))
        (turns_follow place (expr_place x) n.name (expr_follows x) [] vs)) (λ ws. done_follows (list_of ws))))

    items_follow : (place : Place) (xs : Items) (vs : List Value) → Follows rename (items_mean place xs vs) (items_mean place (items_renamed rename xs) vs)
    items_follow place no_items vs = done_follows vs
    items_follow place (items x rest) vs = chain (with_item_follows place vs (expr_follows x)) (λ ws. more_items_follow place rest ws)

    more_items_follow : (place : Place) (xs : MoreItems) (vs : List Value) → Follows rename (more_items_mean place xs vs) (more_items_mean place (more_items_renamed rename xs) vs)
    more_items_follow place items_end vs = done_follows vs
    more_items_follow place items_comma vs = done_follows vs
    more_items_follow place (more_items x rest) vs = chain (with_item_follows place vs (expr_follows x)) (λ ws. more_items_follow place rest ws)
