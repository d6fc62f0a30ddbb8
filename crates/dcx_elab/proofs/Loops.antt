-- The loops over arguments, indices, items and turns: one round of each, its end, and what a fault in it comes to.
use Rattle.std.proofs.Common.{◌≡◌, ℕ, ◌+◌, ◌<◌, ◌≤◌, Bool, true, false, List, [], ◌∷◌, ◌++◌, map, drop, length, get_or, slice_get, Some, Result, Ok, Err, refl, sym, ap, ◌∙◌}
use Rattle.std.proofs.lemmas.List.{at_drop_more, at_drop_all}
use Rattle.dcx_shape.specs.declared.place.Place.{Place}
use Rattle.dcx_syntax.specs.declared.tree.Named.{Named}
use Rattle.dcx_syntax.specs.declared.tree.Arg as code_arg
use Rattle.dcx_syntax.specs.declared.tree.Index as code_index
use Rattle.dcx_syntax.specs.declared.tree.Expr as code_expr
use Rattle.dcx_syntax.specs.Expressions.{Expr, Arg, MoreArgs, more_args, Indices, more_indices, MoreItems, tuple, list, comprehension}
use Rattle.dcx_syntax.specs.View.{chained, then_arg, args_ending, args_of, indices_of, items_ending, more_items_of, items_of as tree_items, arg_view, index_view, expr_view}
use Rattle.dcx_script_values.specs.declared.fault.ElabFault.{ElabFault}
use Rattle.dcx_script_values.specs.Values.{Value, Values, values_of, items_of, State, Act, and_then, ◌>>=◌, ◌>>◌, done, room, with_room, tuple as tuple_value, list as list_value, list_of}
use Rattle.dcx_script_values.specs.View.{Fails}
use Rattle.dcx_script_values.proofs.Acts.{Fails-then, Fails-same, then_is}
use Rattle.dcx_script_values.proofs.Lists.{items_of-values_of, values_of-items_of}
use Rattle.dcx_script_state.proofs.Each.{and_then-assoc}
use Rattle.dcx_operators.specs.Indices.{Evaluated}
use Rattle.dcx_signature.specs.Arguments.{Given}
use Rattle.dcx_elab.specs.Expressions.{args_mean, more_args_mean, arg_means, index_means, indices_mean, with_item, more_items_mean, items_mean, expr_means, primary_means}
use Rattle.dcx_signature.specs.Firsts.{expr_place}
use Rattle.dcx_signature.specs.Turns.{items_through}
use Rattle.dcx_elab.specs.Turns.{turn, turns}
use Rattle.dcx_elab.proofs.Chains.{go_on, go_on-none, go_on-next, go_on-end, done-ok, done-fails, Fails-again}
use Rattle.dcx_elab.proofs.Lines.{drop-item}

-- ---- arguments
-- the arguments from an index on
abbrev pub args_from : List code_arg.Arg → ℕ → (comma : Bool) → MoreArgs
args_from xs i comma = chained (map then_arg (map arg_view (drop i xs))) (args_ending comma)

pub args-all : (solving : Bool) (xs : List Arg) (comma : Bool) (s : State) → args_mean solving (args_of xs comma) s ≡ more_args_mean solving (chained (map then_arg xs) (args_ending comma)) s
args-all solving [] true s = refl
args-all solving [] false s = refl
args-all solving (x ∷ xs) comma s = refl

pub args-end : (solving : Bool) (xs : List code_arg.Arg) (i : ℕ) (comma : Bool) (gs : List Given) (s : State) → length xs ≤ i → go_on gs (more_args_mean solving (args_from xs i comma) s) ≡ Ok (gs, s)
args-end solving xs i comma gs s h = at_drop_all (λ ys. go_on gs (more_args_mean solving (chained (map then_arg (map arg_view ys)) (args_ending comma)) s)) xs i h ∙ by comma
  where
    by : (b : Bool) → go_on gs (more_args_mean solving (args_ending b) s) ≡ Ok (gs, s)
    by true = go_on-end gs s
    by false = go_on-end gs s

args-more : (solving : Bool) (xs : List code_arg.Arg) (i : ℕ) (x : code_arg.Arg) (comma : Bool) (s : State) → i < length xs → x ≡ get_or xs i x
    → more_args_mean solving (args_from xs i comma) s ≡ and_then (arg_means solving (arg_view x) s) (λ g. more_args_mean solving (args_from xs (i + 1) comma) >>= λ gs. done (g ∷ gs))
args-more solving xs i x comma s h at =
    at_drop_more (λ ys. more_args_mean solving (chained (map then_arg (map arg_view ys)) (args_ending comma)) s) xs i x h
    ∙ ap (λ y. more_args_mean solving (more_args (arg_view y) (args_from xs (i + 1) comma)) s) (sym at)

pub args-begin : (solving : Bool) (xs : List code_arg.Arg) (comma : Bool) (gs : List Given) (s : State) → gs ≡ []
    → args_mean solving (args_of (map arg_view xs) comma) s ≡ go_on gs (more_args_mean solving (args_from xs 0 comma) s)
args-begin solving xs comma gs s none =
    args-all solving (map arg_view xs) comma s ∙ sym (go_on-none (more_args_mean solving (args_from xs 0 comma) s)) ∙ ap (λ hs. go_on hs (more_args_mean solving (args_from xs 0 comma) s)) (sym none)

pub args-next : (solving : Bool) (xs : List code_arg.Arg) (i : ℕ) (x : code_arg.Arg) (comma : Bool) (gs : List Given) (g : Given) (s t : State) → i < length xs → x ≡ get_or xs i x
    → arg_means solving (arg_view x) s ≡ Ok (g, t) → go_on gs (more_args_mean solving (args_from xs i comma) s) ≡ go_on (gs ++ g ∷ []) (more_args_mean solving (args_from xs (i + 1) comma) t)
args-next solving xs i x comma gs g s t h at means =
    ap (go_on gs) (args-more solving xs i x comma s h at ∙ then_is (arg_means solving (arg_view x) s) (λ g. more_args_mean solving (args_from xs (i + 1) comma) >>= λ gs. done (g ∷ gs)) g t means)
    ∙ go_on-next gs g (more_args_mean solving (args_from xs (i + 1) comma) t)

pub args-fault : (solving : Bool) (xs : List code_arg.Arg) (i : ℕ) (x : code_arg.Arg) (comma : Bool) (gs : List Given) (e : ElabFault) (s : State) → i < length xs → x ≡ get_or xs i x
    → Fails e (arg_means solving (arg_view x) s) → Fails e (go_on gs (more_args_mean solving (args_from xs i comma) s))
args-fault solving xs i x comma gs e s h at fails =
    Fails-then e (more_args_mean solving (args_from xs i comma) s) (λ ys. done (gs ++ ys))
    (Fails-same e _ (more_args_mean solving (args_from xs i comma) s) (args-more solving xs i x comma s h at) (Fails-then e (arg_means solving (arg_view x) s) _ fails))

-- ---- indices
abbrev pub indices_from : List code_index.Index → ℕ → Indices
indices_from xs i = indices_of (map index_view (drop i xs))

indices-more : (xs : List code_index.Index) (i : ℕ) (x : code_index.Index) (s : State) → i < length xs → x ≡ get_or xs i x
    → indices_mean (indices_from xs i) s ≡ and_then (index_means (index_view x) s) (λ y. indices_mean (indices_from xs (i + 1)) >>= λ ys. done (y ∷ ys))
indices-more xs i x s h at =
    at_drop_more (λ ys. indices_mean (indices_of (map index_view ys)) s) xs i x h ∙ ap (λ y. indices_mean (more_indices (index_view y) (indices_from xs (i + 1))) s) (sym at)

pub indices-end : (xs : List code_index.Index) (i : ℕ) (is : List Evaluated) (s : State) → length xs ≤ i → go_on is (indices_mean (indices_from xs i) s) ≡ Ok (is, s)
indices-end xs i is s h = at_drop_all (λ ys. go_on is (indices_mean (indices_of (map index_view ys)) s)) xs i h ∙ go_on-end is s

pub indices-next : (xs : List code_index.Index) (i : ℕ) (x : code_index.Index) (is : List Evaluated) (y : Evaluated) (s t : State) → i < length xs → x ≡ get_or xs i x
    → index_means (index_view x) s ≡ Ok (y, t) → go_on is (indices_mean (indices_from xs i) s) ≡ go_on (is ++ y ∷ []) (indices_mean (indices_from xs (i + 1)) t)
indices-next xs i x is y s t h at means =
    ap (go_on is) (indices-more xs i x s h at ∙ then_is (index_means (index_view x) s) (λ y. indices_mean (indices_from xs (i + 1)) >>= λ ys. done (y ∷ ys)) y t means)
    ∙ go_on-next is y (indices_mean (indices_from xs (i + 1)) t)

pub indices-fault : (xs : List code_index.Index) (i : ℕ) (x : code_index.Index) (is : List Evaluated) (e : ElabFault) (s : State) → i < length xs → x ≡ get_or xs i x
    → Fails e (index_means (index_view x) s) → Fails e (go_on is (indices_mean (indices_from xs i) s))
indices-fault xs i x is e s h at fails =
    Fails-then e (indices_mean (indices_from xs i) s) (λ ys. done (is ++ ys))
    (Fails-same e _ (indices_mean (indices_from xs i) s) (indices-more xs i x s h at) (Fails-then e (index_means (index_view x) s) _ fails))

-- ---- items
abbrev pub items_from : List code_expr.Expr → ℕ → (comma : Bool) → MoreItems
items_from xs i comma = more_items_of (map expr_view (drop i xs)) comma

-- one item more, for which there is room
pub item-put : {B : Type 0} (place : Place) (vs ws : Values) (m : Act Value) (v : Value) (k : List Value → Act B) (s t : State) → m s ≡ Ok (v, t) → with_room place vs v t ≡ Ok (ws, t)
    → and_then (with_item place (items_of vs) m s) k ≡ k (items_of ws) t
item-put place vs ws m v k s t means fits =
    let p = done-ok (room place (items_of vs) v t) (values_of (items_of vs ++ v ∷ [])) ws t fits in
    let is : items_of vs ++ v ∷ [] ≡ items_of ws = sym (items_of-values_of (items_of vs ++ v ∷ [])) ∙ ap items_of p.1 in
    rw (means, p.0) (ap (λ ys. k ys t) is)

pub item-fault : {B : Type 0} (place : Place) (vs : List Value) (m : Act Value) (k : List Value → Act B) (e : ElabFault) (s : State) → Fails e (m s) → Fails e (and_then (with_item place vs m s) k)
item-fault place vs m k e s fails = Fails-then e (with_item place vs m s) k (Fails-then e (m s) _ fails)

pub item-full : {B : Type 0} (place : Place) (vs : Values) (m : Act Value) (v : Value) (k : List Value → Act B) (e : ElabFault) (s t : State) → m s ≡ Ok (v, t) → Fails e (with_room place vs v t)
    → Fails e (and_then (with_item place (items_of vs) m s) k)
item-full place vs m v k e s t means full =
    let fails = done-fails e (room place (items_of vs) v t) (values_of (items_of vs ++ v ∷ [])) full in
    Fails-then e (with_item place (items_of vs) m s) k (rw means (Fails-then e (room place (items_of vs) v t) _ fails))

pub items-more : (place : Place) (xs : List code_expr.Expr) (i : ℕ) (x : code_expr.Expr) (comma : Bool) (vs : List Value) (s : State) → i < length xs → x ≡ get_or xs i x
    → more_items_mean place (items_from xs i comma) vs s ≡ and_then (with_item place vs (expr_means (expr_view x)) s) (λ ws. more_items_mean place (items_from xs (i + 1) comma) ws)
items-more place xs i x comma vs s h at =
    at_drop_more (λ ys. more_items_mean place (more_items_of (map expr_view ys) comma) vs s) xs i x h
    ∙ ap (λ y. more_items_mean place (more_items_of (map expr_view (y ∷ drop (i + 1) xs)) comma) vs s) (sym at)

pub items-end : (place : Place) (xs : List code_expr.Expr) (i : ℕ) (comma : Bool) (vs : List Value) (s : State) → length xs ≤ i → more_items_mean place (items_from xs i comma) vs s ≡ Ok (vs, s)
items-end place xs i comma vs s h = at_drop_all (λ ys. more_items_mean place (more_items_of (map expr_view ys) comma) vs s) xs i h ∙ by comma
  where
    by : (b : Bool) → more_items_mean place (items_ending b) vs s ≡ Ok (vs, s)
    by true = refl
    by false = refl

pub items-next : (place : Place) (xs : List code_expr.Expr) (i : ℕ) (x : code_expr.Expr) (comma : Bool) (us ws : Values) (v : Value) (s t : State) → i < length xs → x ≡ get_or xs i x
    → expr_means (expr_view x) s ≡ Ok (v, t) → with_room place us v t ≡ Ok (ws, t)
    → more_items_mean place (items_from xs i comma) (items_of us) s ≡ more_items_mean place (items_from xs (i + 1) comma) (items_of ws) t
items-next place xs i x comma us ws v s t h at means fits =
    items-more place xs i x comma (items_of us) s h at ∙ item-put place us ws (expr_means (expr_view x)) v (λ ys. more_items_mean place (items_from xs (i + 1) comma) ys) s t means fits

pub items-fault : (place : Place) (xs : List code_expr.Expr) (i : ℕ) (x : code_expr.Expr) (comma : Bool) (us : Values) (e : ElabFault) (s : State) → i < length xs → x ≡ get_or xs i x
    → Fails e (expr_means (expr_view x) s) → Fails e (more_items_mean place (items_from xs i comma) (items_of us) s)
items-fault place xs i x comma us e s h at fails =
    Fails-same e _ (more_items_mean place (items_from xs i comma) (items_of us) s) (items-more place xs i x comma (items_of us) s h at)
    (item-fault place (items_of us) (expr_means (expr_view x)) (λ ys. more_items_mean place (items_from xs (i + 1) comma) ys) e s fails)

pub items-full : (place : Place) (xs : List code_expr.Expr) (i : ℕ) (x : code_expr.Expr) (comma : Bool) (us : Values) (v : Value) (e : ElabFault) (s t : State) → i < length xs → x ≡ get_or xs i x
    → expr_means (expr_view x) s ≡ Ok (v, t) → Fails e (with_room place us v t) → Fails e (more_items_mean place (items_from xs i comma) (items_of us) s)
items-full place xs i x comma us v e s t h at means full =
    Fails-same e _ (more_items_mean place (items_from xs i comma) (items_of us) s) (items-more place xs i x comma (items_of us) s h at)
    (item-full place us (expr_means (expr_view x)) v (λ ys. more_items_mean place (items_from xs (i + 1) comma) ys) e s t means full)

-- ---- tuples and lists
items-all : (place : Place) (xs : List Expr) (comma : Bool) (vs : List Value) (s : State) → items_mean place (tree_items xs comma) vs s ≡ more_items_mean place (more_items_of xs comma) vs s
items-all place [] true vs s = refl
items-all place [] false vs s = refl
items-all place (x ∷ xs) comma vs s = refl

-- the first item is evaluated
opened : (place : Place) (x : Expr) (v : Value) (s t : State) → expr_means x s ≡ Ok (v, t) → with_item place [] (expr_means x) s ≡ with_item place [] (done v) t
opened place x v s t h = then_is (expr_means x s) _ v t h

-- a tuple of items, and a list
pub tuple-is : (place : Place) (x : Expr) (xs : List Expr) (comma : Bool) (v : Value) (us : Values) (s r t : State) → expr_means x s ≡ Ok (v, r)
    → and_then (with_item place [] (done v) r) (more_items_mean place (more_items_of xs comma)) ≡ Ok (items_of us, t) → primary_means (tuple place x (tree_items xs comma)) s ≡ Ok (tuple_value us, t)
tuple-is place x xs comma v us s r t m h =
    by (with_item place [] (expr_means x) s) (ap (λ q. and_then q (more_items_mean place (more_items_of xs comma))) (opened place x v s r m) ∙ h)
  where
    by : (r : Result (List Value × State) ElabFault) → and_then r (more_items_mean place (more_items_of xs comma)) ≡ Ok (items_of us, t)
        → and_then r (λ vs. items_mean place (tree_items xs comma) vs >>= λ ws. done (tuple_value (values_of ws))) ≡ Ok (tuple_value us, t)
    by (Ok p) e =
        ap (λ r. and_then r (λ ws. done (tuple_value (values_of ws)))) (items-all place xs comma p.0 p.1 ∙ e) ∙ ap (λ (ws : Values). Ok (tuple_value ws, t)) (values_of-items_of us)
    by (Err f) e = absurd cc

pub tuple-fault : (place : Place) (x : Expr) (xs : List Expr) (comma : Bool) (v : Value) (e : ElabFault) (s r : State) → expr_means x s ≡ Ok (v, r)
    → Fails e (and_then (with_item place [] (done v) r) (more_items_mean place (more_items_of xs comma))) → Fails e (primary_means (tuple place x (tree_items xs comma)) s)
tuple-fault place x xs comma v e s r m h =
    by (with_item place [] (expr_means x) s)
    (Fails-same e _ (and_then (with_item place [] (expr_means x) s) (more_items_mean place (more_items_of xs comma)))
    (ap (λ q. and_then q (more_items_mean place (more_items_of xs comma))) (opened place x v s r m)) h)
  where
    by : (r : Result (List Value × State) ElabFault) → Fails e (and_then r (more_items_mean place (more_items_of xs comma)))
        → Fails e (and_then r (λ vs. items_mean place (tree_items xs comma) vs >>= λ ws. done (tuple_value (values_of ws))))
    by (Ok p) f = Fails-then e (items_mean place (tree_items xs comma) p.0 p.1) _ (Fails-same e _ (items_mean place (tree_items xs comma) p.0 p.1) (items-all place xs comma p.0 p.1) f)
    by (Err d) f = Fails-again (List Value × State) (Value × State) e d f

pub list-is : (place : Place) (x : Expr) (xs : List Expr) (comma : Bool) (v : Value) (us : Values) (s r t : State) → expr_means x s ≡ Ok (v, r)
    → and_then (with_item place [] (done v) r) (more_items_mean place (more_items_of xs comma)) ≡ Ok (items_of us, t) → primary_means (list place x (more_items_of xs comma)) s ≡ Ok (list_value us, t)
list-is place x xs comma v us s r t m h =
    sym (and_then-assoc (with_item place [] (expr_means x) s) (more_items_mean place (more_items_of xs comma)) (λ ws. done (list_of ws)))
    ∙ ap (λ q. and_then q (λ ws. done (list_of ws))) (ap (λ q. and_then q (more_items_mean place (more_items_of xs comma))) (opened place x v s r m) ∙ h)
    ∙ ap (λ (ws : Values). Ok (list_value ws, t)) (values_of-items_of us)

pub list-fault : (place : Place) (x : Expr) (xs : List Expr) (comma : Bool) (v : Value) (e : ElabFault) (s r : State) → expr_means x s ≡ Ok (v, r)
    → Fails e (and_then (with_item place [] (done v) r) (more_items_mean place (more_items_of xs comma))) → Fails e (primary_means (list place x (more_items_of xs comma)) s)
list-fault place x xs comma v e s r m h =
    Fails-same e _ (primary_means (list place x (more_items_of xs comma)) s)
    (sym (and_then-assoc (with_item place [] (expr_means x) s) (more_items_mean place (more_items_of xs comma)) (λ ws. done (list_of ws))))
    (Fails-then e (and_then (with_item place [] (expr_means x) s) (more_items_mean place (more_items_of xs comma))) (λ ws. done (list_of ws))
    (Fails-same e _ (and_then (with_item place [] (expr_means x) s) (more_items_mean place (more_items_of xs comma)))
    (ap (λ q. and_then q (more_items_mean place (more_items_of xs comma))) (opened place x v s r m)) h))

-- a comprehension
module _ (place for_place : Place) (x : Expr) (n : Named) (from : Expr) (s : State) where
  pub source-fault : (e : ElabFault) → Fails e (expr_means from s) → Fails e (primary_means (comprehension place x for_place n from) s)
  source-fault e h = Fails-then e (expr_means from s) _ h

  pub through-fault : (e : ElabFault) (v : Value) (t : State) → expr_means from s ≡ Ok (v, t) → Fails e (items_through for_place v t)
      → Fails e (primary_means (comprehension place x for_place n from) s)
  through-fault e v t m h = Fails-same e _ (primary_means (comprehension place x for_place n from) s) (then_is (expr_means from s) _ v t m) (Fails-then e (items_through for_place v t) _ h)

  pub elements-fault : (e : ElabFault) (v : Value) (vs : List Value) (t : State) → expr_means from s ≡ Ok (v, t) → items_through for_place v t ≡ Ok (vs, t)
      → Fails e (turns place (expr_place x) n.name (expr_means x) [] vs t) → Fails e (primary_means (comprehension place x for_place n from) s)
  elements-fault e v vs t m g h =
      Fails-same e _ (primary_means (comprehension place x for_place n from) s) (then_is (expr_means from s) _ v t m ∙ then_is (items_through for_place v t) _ vs t g)
      (Fails-then e (turns place (expr_place x) n.name (expr_means x) [] vs t) _ h)

  pub comprehension-is : (v : Value) (vs : List Value) (us : Values) (t u : State) → expr_means from s ≡ Ok (v, t) → items_through for_place v t ≡ Ok (vs, t)
      → turns place (expr_place x) n.name (expr_means x) [] vs t ≡ Ok (items_of us, u) → primary_means (comprehension place x for_place n from) s ≡ Ok (list_value us, u)
  comprehension-is v vs us t u m g h =
      then_is (expr_means from s) _ v t m ∙ then_is (items_through for_place v t) _ vs t g ∙ then_is (turns place (expr_place x) n.name (expr_means x) [] vs t) _ (items_of us) u h
      ∙ ap (λ (ws : Values). Ok (list_value ws, u)) (values_of-items_of us)

-- ---- turns
-- a turn is an item more, and then come the other turns
pub turns-more : (place first : Place) (name : List ℕ) (element : Act Value) (xs vs : List Value) (k : ℕ) (v : Value) (s : State) → slice_get vs k ≡ Some v
    → turns place first name element xs (drop k vs) s ≡ and_then (with_item place xs (turn first name element v) s) (λ ws. turns place first name element ws (drop (k + 1) vs))
turns-more place first name element xs vs k v s h = ap (λ ys. turns place first name element xs ys s) (drop-item vs k v h) ∙ by (turn first name element v s)
  where
    rest : List Value → Act (List Value)
    rest ws = turns place first name element ws (drop (k + 1) vs)

    by : (r : Result (Value × State) ElabFault) → and_then r (λ x. room place xs x >> rest (xs ++ x ∷ [])) ≡ and_then (and_then r (λ x. room place xs x >> done (xs ++ x ∷ []))) rest
    by (Ok p) = sym (and_then-assoc (room place xs p.0 p.1) (λ _. done (xs ++ p.0 ∷ [])) rest)
    by (Err e) = refl

pub turns-end : (place first : Place) (name : List ℕ) (element : Act Value) (xs vs : List Value) (k : ℕ) (s : State) → length vs ≤ k → turns place first name element xs (drop k vs) s ≡ Ok (xs, s)
turns-end place first name element xs vs k s h = at_drop_all (λ ys. turns place first name element xs ys s) vs k h

pub turns-next : (place first : Place) (name : List ℕ) (element : Act Value) (us ws : Values) (vs : List Value) (k : ℕ) (v x : Value) (s t : State) → slice_get vs k ≡ Some v
    → turn first name element v s ≡ Ok (x, t) → with_room place us x t ≡ Ok (ws, t)
    → turns place first name element (items_of us) (drop k vs) s ≡ turns place first name element (items_of ws) (drop (k + 1) vs) t
turns-next place first name element us ws vs k v x s t h means fits =
    turns-more place first name element (items_of us) vs k v s h ∙ item-put place us ws (turn first name element v) x (λ ys. turns place first name element ys (drop (k + 1) vs)) s t means fits

pub turns-fault : (place first : Place) (name : List ℕ) (element : Act Value) (us : Values) (vs : List Value) (k : ℕ) (v : Value) (e : ElabFault) (s : State) → slice_get vs k ≡ Some v
    → Fails e (turn first name element v s) → Fails e (turns place first name element (items_of us) (drop k vs) s)
turns-fault place first name element us vs k v e s h fails =
    Fails-same e _ (turns place first name element (items_of us) (drop k vs) s) (turns-more place first name element (items_of us) vs k v s h)
    (item-fault place (items_of us) (turn first name element v) (λ ys. turns place first name element ys (drop (k + 1) vs)) e s fails)

pub turns-full : (place first : Place) (name : List ℕ) (element : Act Value) (us : Values) (vs : List Value) (k : ℕ) (v x : Value) (e : ElabFault) (s t : State) → slice_get vs k ≡ Some v
    → turn first name element v s ≡ Ok (x, t) → Fails e (with_room place us x t) → Fails e (turns place first name element (items_of us) (drop k vs) s)
turns-full place first name element us vs k v x e s t h means full =
    Fails-same e _ (turns place first name element (items_of us) (drop k vs) s) (turns-more place first name element (items_of us) vs k v s h)
    (item-full place us (turn first name element v) x (λ ys. turns place first name element ys (drop (k + 1) vs)) e s t means full)
