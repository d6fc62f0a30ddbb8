-- Lines keep what is carried, where the names that they bind are ones that may be bound.
use Rattle.std.proofs.Common.{ℕ, List, [], ◌∷◌, Option, Some, None}
use Rattle.dcx_shape.specs.declared.place.Place.{Place}
use Rattle.dcx_syntax.specs.declared.tree.Sign.{Sign}
use Rattle.dcx_syntax.specs.Expressions.{Expr, Postfix}
use Rattle.dcx_syntax.specs.Statements.{Line, importing, assign, add_to, set_value, evaluate, prints, repeats, Lines, no_lines, lines}
use Rattle.dcx_script_values.specs.Values.{Value, State, Act, ◌>>◌, bind, step}
use Rattle.dcx_script_values.specs.Kinds.{Reading}
use Rattle.dcx_script_state.specs.Declarations.{give}
use Rattle.dcx_signature.specs.Turns.{items_through}
use Rattle.dcx_operators.specs.Operators.{add_values}
use Rattle.dcx_elab.specs.Turns.{each_turn}
use Rattle.dcx_elab.specs.Expressions.{expr_means, postfix_means}
use Rattle.dcx_elab.specs.Statements.{bound_name, only_postfix, right_side, assigned, line_means, lines_mean}
use Rattle.dcx_script_laws.proofs.Carried.{Moves, IsCarried, parts}
use Rattle.dcx_script_laws.proofs.CarriedNodes.{step-moves, give-moves, items_through-moves}
use Rattle.dcx_script_laws.proofs.CarriedCalls.{add_values-moves}
use Rattle.dcx_script_laws.proofs.CarriedForms.{expr-moves, postfix-moves}

-- a relation that holds between the states before and after a line that binds such names alone
pub record IsCarriedByLines (R : State → State → Type 0) (P : List ℕ → Type 0) : Type 0 where
  pub steps : (place : Place) → Moves R (step place)
  pub expressions : (x : Expr) → Moves R (expr_means x)
  pub calls : (x : Postfix) (target : Option (List ℕ)) → Moves R (postfix_means target x)
  pub sums : (sign : Sign) (place : Place) (v w : Value) → Moves R (add_values sign place v w)
  pub values : (place : Place) (v : Value) (r : Reading) → Moves R (give place v r)
  pub items : (place : Place) (v : Value) → Moves R (items_through place v)
  pub bindings : (name : List ℕ) (v : Value) → P name → Moves R (bind name v)

-- what an expression keeps, and a binding too
pub by_expressions : (R : State → State → Type 0) → IsCarried R → (P : List ℕ → Type 0) → ((name : List ℕ) (v : Value) → P name → Moves R (bind name v)) → IsCarriedByLines R P
by_expressions R carried P bindings = record {
  steps = step-moves R carried;
  expressions = expr-moves R carried;
  calls = postfix-moves R carried;
  sums = add_values-moves R carried;
  values = give-moves R carried;
  items = items_through-moves R carried;
  bindings = bindings;
}

abbrev mutual
  -- the names that a line binds are such ones
  pub BindsOnly : (List ℕ → Type 0) → Line → Type 0
  BindsOnly P (importing i) = P (bound_name i i.alias)
  BindsOnly P (assign n x) = P n.name
  BindsOnly P (add_to n place x) = P n.name
  BindsOnly P (set_value n place x) = Unit {0}
  BindsOnly P (evaluate x) = Unit {0}
  BindsOnly P (prints place open_place inner) = Unit {0}
  BindsOnly P (repeats place n x first rest) = P n.name × BindsOnly P first × BindOnly P rest

  pub BindOnly : (List ℕ → Type 0) → Lines → Type 0
  BindOnly P no_lines = Unit {0}
  BindOnly P (lines x rest) = BindsOnly P x × BindOnly P rest

module _ (R : State → State → Type 0) (P : List ℕ → Type 0) (carried : IsCarriedByLines R P) where
  step-carried : (place : Place) → Moves R (step place)
  step-carried = carried.steps

  expr-carried : (x : Expr) → Moves R (expr_means x)
  expr-carried = carried.expressions

  items-carried : (place : Place) (v : Value) → Moves R (items_through place v)
  items-carried = carried.items

  right_side-moves : (name : List ℕ) (e : Expr) (x : Option Postfix) → Moves R (right_side name e x)
  right_side-moves name e (Some x) = carried.calls x (Some name)
  right_side-moves name e None = carried.expressions e

  pub assigned-moves : (name : List ℕ) (e : Expr) → Moves R (assigned name e)
  assigned-moves name e s t h = search (right_side-moves name e (only_postfix e), parts)

  pub each_turn-moves : (name : List ℕ) → P name → (body : Act (Unit {0})) → Moves R body → (vs : List Value) → Moves R (each_turn name body vs)
  each_turn-moves name may body moves [] s t h = search parts
  each_turn-moves name may body moves (v ∷ vs) s t h = search (carried.bindings name v may, moves, each_turn-moves name may body moves vs, parts)

  one_after : (m n : Act (Unit {0})) → Moves R m → Moves R n → Moves R (m >> n)
  one_after m n first then s t h = search (first, then, parts)

  mutual
    pub line-moves : (x : Line) → BindsOnly P x → Moves R (line_means x)
    line-moves (importing i) may s t h = search (step-carried, λ (v : Value). carried.bindings (bound_name i i.alias) v may, parts)
    line-moves (assign n x) may s t h = search (step-carried, assigned-moves, λ (v : Value). carried.bindings n.name v may, parts)
    line-moves (add_to n place x) may s t h = search (step-carried, expr-carried, carried.sums, λ (v : Value). carried.bindings n.name v may, parts)
    line-moves (set_value n place x) may s t h = search (step-carried, expr-carried, carried.values, parts)
    line-moves (evaluate x) may s t h = search (step-carried, expr-carried, parts)
    line-moves (prints place open_place inner) may s t h = search step-carried
    line-moves (repeats place n x first rest) may s t h = search (
      step-carried,
      expr-carried,
      items-carried,
      each_turn-moves n.name may.0 (line_means first >> lines_mean rest)
          (one_after (line_means first) (lines_mean rest) (line-moves first may.1) (lines-move rest may.2)),
      parts,
    )

    pub lines-move : (ls : Lines) → BindOnly P ls → Moves R (lines_mean ls)
    lines-move no_lines may s t h = search parts
    lines-move (lines x rest) may s t h = search (line-moves x may.0, lines-move rest may.1, parts)
