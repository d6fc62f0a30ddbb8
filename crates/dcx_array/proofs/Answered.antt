-- What one call after another answers.
use Rattle.std.specs.Prelude.{◌≡◌, Result, Ok}
use Rattle.std.proofs.Common.{sym, subst}
use Rattle.dcx_array.specs.declared.fault.ArrayFault.{ArrayFault}
use Rattle.dcx_array.specs.Answers.{Gives, and_then}

-- what is there is gone on with
pub gives_next : {A B : Type 0} (r : Result A ArrayFault) (next : A → Result B ArrayFault) (x : A) (answered : Result B ArrayFault) → r ≡ Ok x → Gives answered (next x) →
    Gives answered (and_then r next)
gives_next r next x answered e h = subst (λ t. Gives answered (and_then t next)) (sym e) h

-- what is meant by another name
pub gives_same : {A : Type 0} (answered meant other : Result A ArrayFault) → Gives answered meant → meant ≡ other → Gives answered other
gives_same answered meant other h e = subst (Gives answered) e h
