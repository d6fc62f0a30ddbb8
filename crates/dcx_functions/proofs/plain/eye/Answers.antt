-- A matrix of so many rows as are told is one of so many rows.
use Rattle.std.proofs.Common.{◌≡◌, ◌∙◌, ap, subst, Result}
use Rattle.dcx_atom.specs.declared.array.Array.{Array}
use Rattle.dcx_array.specs.declared.fault.ArrayFault.{ArrayFault}
use Rattle.dcx_array.specs.Answers.{Gives}
use Rattle.dcx_array.specs.Arrays.{identity}
use Rattle.dcx_array.specs.Shapes.{told}
use Rattle.dcx_signature.specs.Table.{n_word}
use Rattle.dcx_functions.specs.Calls.{natural_or}
use Rattle.dcx_functions.proofs.Told.{identity-told}
use Rattle.dcx_functions.proofs.plain.eye.Goals as goal

pub returns : goal.returns
returns c =
    let n = natural_or 0 n_word c.args.bound.now in
    let same : identity c.told_side-size.result ≡ identity n = ap identity (c.told_side-size.ensures ∙ ap told c.natural_or.ensures) ∙ identity-told n in
    λ s. c.as_plain.ensures (identity n) s (subst (λ (m : Result Array ArrayFault). Gives c.identity.result m) same c.identity.ensures)
