-- The numbers 1 and 0 are those of the definition.
use Rattle.std.specs.Prelude.{◌≡◌}
use Rattle.std.proofs.Common.{sym, ap, ◌∙◌, subst}
use Rattle.dcx_frac.specs.declared.fraction.Frac.{Frac}
use Rattle.dcx_atom.specs.Formed.{zero_frac, one_frac, frac_at}
use Rattle.dcx_atom.proofs.FormedSums.{frac_at-value, zero_frac-unique}
use Rattle.dcx_script_values.specs.Meant.{meant}
use Rattle.dcx_script_values.specs.View.{Gives}
use Rattle.dcx_signature.specs.declared.table.Function.{Function}
use Rattle.std.specs.Option.{option_copied}
use Rattle.dcx_functions.specs.Calls.{filled_with, perform}
use Rattle.dcx_functions.proofs.calls.perform.Goals as goal

pub returns-in-Ones : goal.returns-in-Ones
returns-in-Ones c =
    let b = c.args.bound.now in
    let s = c.args.state.now in
    let one : c.one.result ≡ one_frac = sym (ap frac_at (sym c.one.ensures) ∙ frac_at-value c.one.result) in
    subst (λ (f : Function). Gives meant c.filled.result s (perform (option_copied c.args.target) f c.args.place b s)) (sym c.in-Ones.is)
    (subst (λ (x : Frac). Gives meant c.filled.result s (filled_with c.args.place x b s)) one (c.filled.ensures s))

pub returns-in-Zeros : goal.returns-in-Zeros
returns-in-Zeros c =
    let b = c.args.bound.now in
    let s = c.args.state.now in
    let zero : c.zero.result ≡ zero_frac = zero_frac-unique c.zero.result c.zero.ensures in
    subst (λ (f : Function). Gives meant c.filled-in-Zeros.result s (perform (option_copied c.args.target) f c.args.place b s)) (sym c.in-Zeros.is)
    (subst (λ (x : Frac). Gives meant c.filled-in-Zeros.result s (filled_with c.args.place x b s)) zero (c.filled-in-Zeros.ensures s))
