-- What comes of the steps of a call: the operands that are read, and then the node that is made of them.
use Rattle.std.specs.Prelude.{◌≡◌, ℕ, nat_eq, false, true, List, map, length, Option, Ok}
use Rattle.std.proofs.Common.{refl, sym, ap, subst, ◌∙◌}
use Rattle.dcx_shape.specs.declared.place.Place.{Place}
use Rattle.dcx_call.specs.declared.linears.LinearCall.{LinearCall}
use Rattle.dcx_call.specs.declared.call.Call.TheVariants as calls
use Rattle.dcx_script_values.specs.declared.fault.ElabFault.{ElabFault}
use Rattle.dcx_script_values.specs.Values.{Value, expression, State, Act, and_then, done}
use Rattle.dcx_script_values.specs.Nodes.{Operand, called}
use Rattle.dcx_script_values.specs.Kinds.{Reading, reading}
use Rattle.dcx_script_values.specs.Operands.{operands_read, as_expression}
use Rattle.dcx_script_values.specs.View.{Fails}
use Rattle.dcx_script_values.proofs.Acts.{Fails-then, Fails-same, then_is}
use Rattle.dcx_signature.specs.declared.table.Function.{Function}
use Rattle.dcx_signature.specs.Table.{row}
use Rattle.dcx_signature.specs.Arguments.{Given, Bound, arguments}
use Rattle.dcx_functions.specs.Calls.{stacked, perform, is_placed, function_called}

-- ---- operands and their node
module _ (make : List Operand → Act ℕ) (place : Place) where
  abbrev pub read_and_made : List Reading → Act Value
  read_and_made qs s = and_then (operands_read place qs s) (λ xs. as_expression (make xs))

  module _ (rs qs : List Reading) (same : rs ≡ qs) (s : State) where
    pub read_fault : (e : ElabFault) → Fails e (operands_read place rs s) → Fails e (read_and_made qs s)
    read_fault e h = subst (λ (l : List Reading). Fails e (read_and_made l s)) same (Fails-then e (operands_read place rs s) (λ xs. as_expression (make xs)) h)

    -- the operands as they are read, and as they are handed on
    module _ (xs ys : List Operand) (handed : ys ≡ xs) (read : operands_read place rs s ≡ Ok (xs, s)) where
      was_read : read_and_made qs s ≡ as_expression (make ys) s
      was_read =
          sym (ap (λ (l : List Reading). read_and_made l s) same)
          ∙ (then_is (operands_read place rs s) (λ zs. as_expression (make zs)) xs s read ∙ sym (ap (λ (zs : List Operand). as_expression (make zs) s) handed))

      pub made_fault : (e : ElabFault) → Fails e (make ys s) → Fails e (read_and_made qs s)
      made_fault e h = Fails-same e (as_expression (make ys) s) (read_and_made qs s) was_read (Fails-then e (make ys s) (λ i. done (expression i)) h)

      pub made_is : (i : ℕ) (t : State) → make ys s ≡ Ok (i, t) → read_and_made qs s ≡ Ok (expression i, t)
      made_is i t e = was_read ∙ then_is (make ys s) (λ j. done (expression j)) i t e

-- a list of some values is read at once
pub stacked_some : (place : Place) (call : LinearCall) (vs : List Value) (s : State) → nat_eq (length vs) 0 ≡ false
    → stacked place call vs s ≡ read_and_made (called place (calls.Linear call)) place (map reading vs) s
stacked_some place call vs s some = rw some refl

-- ---- a call that may stand where it is
module _ (target : Option (List ℕ)) (place : Place) (f : Function) (gs : List Given) (s : State) (placed : is_placed target f ≡ true) where
  abbrev performed : Bound → Act Value
  performed bound = perform target f place bound

  stands : function_called target place f gs s ≡ and_then (arguments s.nodes place (row f) gs s) performed
  stands = rw placed refl

  pub argument_fault : (e : ElabFault) → Fails e (arguments s.nodes place (row f) gs s) → Fails e (function_called target place f gs s)
  argument_fault e h = Fails-same e (and_then (arguments s.nodes place (row f) gs s) performed) (function_called target place f gs s) stands
      (Fails-then e (arguments s.nodes place (row f) gs s) performed h)

  pub bound_is : (bound : Bound) → arguments s.nodes place (row f) gs s ≡ Ok (bound, s) → function_called target place f gs s ≡ perform target f place bound s
  bound_is bound e = stands ∙ then_is (arguments s.nodes place (row f) gs s) performed bound s e
