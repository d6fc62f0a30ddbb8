-- The coefficients of a variable stand where the map of names tells.
use Rattle.std.proofs.Common.{◌≡◌, ℕ, Bool, true, false, cond, List, ◌∷◌, Option, Some, sym, ap, ◌∙◌}
use Rattle.std.specs.Prelude.{if◌then◌else◌}
use Rattle.std.specs.List.{slice_get}
use Rattle.dcx_frac.specs.declared.fraction.Frac.{Frac}
use Rattle.dcx_point.specs.Pairs.{same_name}
use Rattle.dcx_point.proofs.Puts.{same_name-sym}
use Rattle.dcx_arena.specs.Nodes.{call_at}
use Rattle.dcx_call.specs.declared.call.Call.{Call}
use Rattle.dcx_tree.specs.Nodes.{Node}
use Rattle.dcx_tree.specs.Gather.{is_variable}
use Rattle.dcx_cert_collect.specs.declared.collected.Reached.{Reached}
use Rattle.dcx_cert_bound.specs.Variables.{is_named, reaching, coefficients_if, coefficients_in}

-- the place that the name has after one more is put
pub put_reaching : (nodes : List Node) (reached rest : List Reached) (place : ℕ) (r : Reached) (key name : List ℕ) (old new : Option ℕ) (call : Call) → slice_get reached place ≡ Some r
    → call_at nodes r.node.0 ≡ Some call
    → is_variable name call ≡ same_name name key → new ≡ cond (same_name key name) (Some place) old → coefficients_in reached old ≡ reaching nodes rest name
    → coefficients_in reached new ≡ reaching nodes (r ∷ rest) name
put_reaching nodes reached rest place r key name old new call at is named put so_far =
    ap (coefficients_in reached) put ∙ by (same_name key name) ∙ sym (ap (λ b. if b then r.coefficients else reaching nodes rest name) (ap (is_named name) is ∙ named ∙ sym (same_name-sym key name)))
  where
    by : (b : Bool) → coefficients_in reached (cond b (Some place) old) ≡ (if b then r.coefficients else reaching nodes rest name)
    by true = ap coefficients_if at
    by false = so_far

-- a node that is no variable has no name
pub keep_reaching : (nodes : List Node) (rest : List Reached) (r : Reached) (name : List ℕ) (call : Call) (coefficients : List Frac) → call_at nodes r.node.0 ≡ Some call
    → is_variable name call ≡ false
    → coefficients ≡ reaching nodes rest name → coefficients ≡ reaching nodes (r ∷ rest) name
keep_reaching nodes rest r name call coefficients is other so_far =
    so_far ∙ sym (ap (λ b. if b then r.coefficients else reaching nodes rest name) (ap (is_named name) is ∙ other))
