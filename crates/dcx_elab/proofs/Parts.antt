-- Arguments, indices, parts of slices, primaries and elements of a comprehension: what a fault in them comes to, and their values.
use Rattle.std.proofs.Common.{◌≡◌, ℕ, Bool, if◌then◌else◌, List, [], Option, Some, None, Ok, sym, ap, subst, ◌∙◌}
use Rattle.dcx_shape.specs.declared.place.Place.{Place}
use Rattle.dcx_syntax.specs.declared.tree.Named.{Named}
use Rattle.dcx_syntax.specs.declared.tree.Arg as code_arg
use Rattle.dcx_syntax.specs.declared.tree.Arg.TheVariants as arguments
use Rattle.dcx_syntax.specs.declared.tree.Expr as code_expr
use Rattle.dcx_syntax.specs.declared.tree.Index as code_index
use Rattle.dcx_syntax.specs.declared.tree.Index.TheVariants as indices
use Rattle.dcx_syntax.specs.declared.tree.Primary as code_primary
use Rattle.dcx_syntax.specs.declared.tree.Step as code_step
use Rattle.dcx_syntax.specs.Expressions.{Expr, Items, MoreItems, Primary, tuple, list}
use Rattle.dcx_syntax.specs.View.{arg_view, index_view, step_view, optional_view, expr_view, primary_view}
use Rattle.dcx_script_values.specs.declared.fault.ElabFault.{ElabFault}
use Rattle.dcx_script_values.specs.Values.{Value, nothing, State, Act, and_then, ◌>>=◌, ◌>>◌, done, bound_to, bind, restore, step}
use Rattle.dcx_script_values.specs.View.{Fails}
use Rattle.dcx_script_values.proofs.Acts.{Fails-then, Fails-same, then_is}
use Rattle.dcx_operators.specs.Indices.{single, sliced}
use Rattle.dcx_signature.specs.Firsts.{expr_place}
use Rattle.dcx_elab.specs.Expressions.{is_ignored, with_item, arg_means, expr_means, index_means, optional_means, step_means, primary_means}
use Rattle.dcx_elab.specs.Turns.{turn}
use Rattle.dcx_elab.proofs.Seen.{by-place-seen, by-name-seen, at-seen, slice-seen}

-- ---- arguments
module _ (solving : Bool) (a : code_arg.Arg) (x : code_expr.Expr) (s : State) (is : a ≡ arguments.ByPlace x) where
  place-parts : arg_means solving (arg_view a) s ≡ and_then (expr_means (expr_view x) s) (λ v. done (record { word = None; place = expr_place (expr_view x); value = v }))
  place-parts = ap (λ y. arg_means solving y s) (ap arg_view is ∙ by-place-seen x)

  pub by-place-fault : (e : ElabFault) → Fails e (expr_means (expr_view x) s) → Fails e (arg_means solving (arg_view a) s)
  by-place-fault e h = Fails-same e _ (arg_means solving (arg_view a) s) place-parts (Fails-then e (expr_means (expr_view x) s) _ h)

  pub by-place-is : (v : Value) (p : Place) (t : State) → expr_means (expr_view x) s ≡ Ok (v, t) → p ≡ expr_place (expr_view x)
      → arg_means solving (arg_view a) s ≡ Ok (record { word = None; place = p; value = v }, t)
  by-place-is v p t h at = place-parts ∙ then_is (expr_means (expr_view x) s) _ v t h ∙ ap (λ (q : Place). Ok (record { word = None; place = q; value = v }, t)) (sym at)

-- the value that an argument by name has
abbrev pub named_value : Bool → List ℕ → code_expr.Expr → Act Value
named_value solving name x = if is_ignored solving name then done nothing else expr_means (expr_view x)

module _ (solving : Bool) (a : code_arg.Arg) (n : Named) (x : code_expr.Expr) (s : State) (is : a ≡ arguments.ByName n x) where
  name-parts : arg_means solving (arg_view a) s ≡ and_then (named_value solving n.name x s) (λ v. done (record { word = Some n.name; place = n.place; value = v }))
  name-parts = ap (λ y. arg_means solving y s) (ap arg_view is ∙ by-name-seen n x)

  pub by-name-fault : (e : ElabFault) → Fails e (named_value solving n.name x s) → Fails e (arg_means solving (arg_view a) s)
  by-name-fault e h = Fails-same e _ (arg_means solving (arg_view a) s) name-parts (Fails-then e (named_value solving n.name x s) _ h)

  pub by-name-is : (v : Value) (t : State) → named_value solving n.name x s ≡ Ok (v, t) → arg_means solving (arg_view a) s ≡ Ok (record { word = Some n.name; place = n.place; value = v }, t)
  by-name-is v t h = name-parts ∙ then_is (named_value solving n.name x s) _ v t h

-- ---- indices
module _ (i : code_index.Index) (x : code_expr.Expr) (s : State) (is : i ≡ indices.At x) where
  at-parts : index_means (index_view i) s ≡ and_then (expr_means (expr_view x) s) (λ v. done (single v))
  at-parts = ap (λ y. index_means y s) (ap index_view is ∙ at-seen x)

  pub at-fault : (e : ElabFault) → Fails e (expr_means (expr_view x) s) → Fails e (index_means (index_view i) s)
  at-fault e h = Fails-same e _ (index_means (index_view i) s) at-parts (Fails-then e (expr_means (expr_view x) s) _ h)

  pub at-is : (v : Value) (t : State) → expr_means (expr_view x) s ≡ Ok (v, t) → index_means (index_view i) s ≡ Ok (single v, t)
  at-is v t h = at-parts ∙ then_is (expr_means (expr_view x) s) _ v t h

module _ (i : code_index.Index) (a b : Option code_expr.Expr) (c : code_step.Step) (s : State) (is : i ≡ indices.Slice a b c) where
  slice-parts : index_means (index_view i) s ≡ and_then (optional_means (optional_view a) s) (λ x. optional_means (optional_view b) >>= λ y. step_means (step_view c) >>= λ z. done (sliced x y z))
  slice-parts = ap (λ y. index_means y s) (ap index_view is ∙ slice-seen a b c)

  pub start-fault : (e : ElabFault) → Fails e (optional_means (optional_view a) s) → Fails e (index_means (index_view i) s)
  start-fault e h = Fails-same e _ (index_means (index_view i) s) slice-parts (Fails-then e (optional_means (optional_view a) s) _ h)

  pub slice-is : (x y z : Option Value) (t u w : State) → optional_means (optional_view a) s ≡ Ok (x, t) → optional_means (optional_view b) t ≡ Ok (y, u) → step_means (step_view c) u ≡ Ok (z, w)
      → index_means (index_view i) s ≡ Ok (sliced x y z, w)
  slice-is x y z t u w f g h =
      slice-parts ∙ then_is (optional_means (optional_view a) s) (λ x. optional_means (optional_view b) >>= λ y. step_means (step_view c) >>= λ z. done (sliced x y z)) x t f
      ∙ then_is (optional_means (optional_view b) t) (λ y. step_means (step_view c) >>= λ z. done (sliced x y z)) y u g ∙ then_is (step_means (step_view c) u) (λ z. done (sliced x y z)) z w h

-- ---- parts of slices
pub optional-fault : (a : Option code_expr.Expr) (x : code_expr.Expr) (e : ElabFault) (s : State) → a ≡ Some x → Fails e (expr_means (expr_view x) s) → Fails e (optional_means (optional_view a) s)
optional-fault a x e s is h = Fails-same e (and_then (expr_means (expr_view x) s) (λ v. done (Some v))) (optional_means (optional_view a) s)
    (ap (λ y. optional_means (optional_view y) s) is) (Fails-then e (expr_means (expr_view x) s) _ h)

pub optional-is : (a : Option code_expr.Expr) (x : code_expr.Expr) (v : Value) (s t : State) → a ≡ Some x → expr_means (expr_view x) s ≡ Ok (v, t) → optional_means (optional_view a) s ≡ Ok (Some v, t)
optional-is a x v s t is h = ap (λ y. optional_means (optional_view y) s) is ∙ then_is (expr_means (expr_view x) s) (λ v. done (Some v)) v t h

pub optional-none : (a : Option code_expr.Expr) (s : State) → a ≡ None → optional_means (optional_view a) s ≡ Ok (None, s)
optional-none a s is = ap (λ y. optional_means (optional_view y) s) is

-- ---- primaries
-- a primary is seen so
pub primary-as : (x y : code_primary.Primary) (z : Primary) (s : State) → x ≡ y → primary_view y ≡ z → primary_means (primary_view x) s ≡ primary_means z s
primary-as x y z s is seen = ap (λ w. primary_means w s) (ap primary_view is ∙ seen)

pub tuple-first-fault : (place : Place) (x : Expr) (xs : Items) (e : ElabFault) (s : State) → Fails e (expr_means x s) → Fails e (primary_means (tuple place x xs) s)
tuple-first-fault place x xs e s h = Fails-then e (with_item place [] (expr_means x) s) _ (Fails-then e (expr_means x s) _ h)

pub list-first-fault : (place : Place) (x : Expr) (xs : MoreItems) (e : ElabFault) (s : State) → Fails e (expr_means x s) → Fails e (primary_means (list place x xs) s)
list-first-fault place x xs e s h = Fails-then e (with_item place [] (expr_means x) s) _ (Fails-then e (expr_means x s) _ h)

-- ---- an element of a comprehension
module _ (first at : Place) (name : List ℕ) (element : Act Value) (v : Value) (s t : State) (same : at ≡ first) where
  pub turn-step-fault : (e : ElabFault) → Fails e (step at s) → Fails e (turn first name element v s)
  turn-step-fault e h = Fails-then e (step first s) _ (subst (λ q. Fails e (step q s)) same h)

  turn-stepped : step at s ≡ Ok (tt, t) → turn first name element v s ≡ and_then (bound_to name t) (λ before. bind name v >> (element >>= λ x. restore name before >> done x))
  turn-stepped h = then_is (step first s) _ tt t (subst (λ q. step q s ≡ Ok (tt, t)) same h)

  pub turn-bound-fault : (e : ElabFault) → step at s ≡ Ok (tt, t) → Fails e (bound_to name t) → Fails e (turn first name element v s)
  turn-bound-fault e h f = Fails-same e _ (turn first name element v s) (turn-stepped h) (Fails-then e (bound_to name t) (λ before. bind name v >> (element >>= λ x. restore name before >> done x)) f)

  turn-bound : (before : Option Value) → step at s ≡ Ok (tt, t) → bound_to name t ≡ Ok (before, t)
      → turn first name element v s ≡ and_then (bind name v t) (λ _. element >>= λ x. restore name before >> done x)
  turn-bound before h b = turn-stepped h ∙ then_is (bound_to name t) (λ before. bind name v >> (element >>= λ x. restore name before >> done x)) before t b

  pub turn-bind-fault : (before : Option Value) (e : ElabFault) → step at s ≡ Ok (tt, t) → bound_to name t ≡ Ok (before, t) → Fails e (bind name v t) → Fails e (turn first name element v s)
  turn-bind-fault before e h b f = Fails-same e _ (turn first name element v s) (turn-bound before h b) (Fails-then e (bind name v t) (λ _. element >>= λ x. restore name before >> done x) f)

  module _ (before : Option Value) (u : State) (stepped : step at s ≡ Ok (tt, t)) (bound : bound_to name t ≡ Ok (before, t)) (binds : bind name v t ≡ Ok (tt, u)) where
    turn-element : turn first name element v s ≡ and_then (element u) (λ x. restore name before >> done x)
    turn-element = turn-bound before stepped bound ∙ then_is (bind name v t) (λ _. element >>= λ x. restore name before >> done x) tt u binds

    pub turn-element-fault : (e : ElabFault) → Fails e (element u) → Fails e (turn first name element v s)
    turn-element-fault e f = Fails-same e _ (turn first name element v s) turn-element (Fails-then e (element u) _ f)

    turn-restore : (x : Value) (w : State) → element u ≡ Ok (x, w) → turn first name element v s ≡ and_then (restore name before w) (λ _. done x)
    turn-restore x w m = turn-element ∙ then_is (element u) (λ x. restore name before >> done x) x w m

    pub turn-restore-fault : (x : Value) (w : State) (e : ElabFault) → element u ≡ Ok (x, w) → Fails e (restore name before w) → Fails e (turn first name element v s)
    turn-restore-fault x w e m f = Fails-same e _ (turn first name element v s) (turn-restore x w m) (Fails-then e (restore name before w) (λ _. done x) f)

    pub turn-is : (x : Value) (w q : State) → element u ≡ Ok (x, w) → restore name before w ≡ Ok (tt, q) → turn first name element v s ≡ Ok (x, q)
    turn-is x w q m r = turn-restore x w m ∙ then_is (restore name before w) (λ _. done x) tt q r
