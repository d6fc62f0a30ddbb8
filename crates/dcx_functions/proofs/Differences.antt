-- Differences that are taken one around the other.
use Rattle.std.specs.Prelude.{◌≡◌, ℕ, suc, [], ◌∷◌, Ok}
use Rattle.std.proofs.Common.{sym, ap, subst, ◌∙◌}
use Rattle.dcx_shape.specs.declared.place.Place.{Place}
use Rattle.dcx_call.specs.declared.call.Call.{Call}
use Rattle.dcx_call.specs.declared.call.Call.TheVariants as calls
use Rattle.dcx_call.specs.declared.linears.LinearCall.TheVariants as linears
use Rattle.dcx_script_values.specs.declared.fault.ElabFault.{ElabFault}
use Rattle.dcx_script_values.specs.Values.{State}
use Rattle.dcx_script_values.specs.Nodes.{push}
use Rattle.dcx_script_values.specs.View.{Fails}
use Rattle.dcx_script_values.proofs.Acts.{Fails-then, then_is}
use Rattle.dcx_functions.specs.Calls.{differences}

abbrev difference : Call
difference = calls.Linear (linears.Diff (record {}))

module _ (place : Place) (n k i : ℕ) (s : State) (more : n ≡ suc k) where
  -- one difference is taken, and the others of it
  pub differences-next : (j : ℕ) (t : State) → push place difference (i ∷ []) s ≡ Ok (j, t) → differences place n i s ≡ differences place k j t
  differences-next j t e = ap (λ m. differences place m i s) more ∙ then_is (push place difference (i ∷ []) s) (differences place k) j t e

  pub differences-fault : (e : ElabFault) → Fails e (push place difference (i ∷ []) s) → Fails e (differences place n i s)
  differences-fault e h = subst (λ m. Fails e (differences place m i s)) (sym more) (Fails-then e (push place difference (i ∷ []) s) (differences place k) h)
