-- A name that is bound twice has its last value.
use Rattle.std.proofs.Common.{◌≡◌, ℕ, Bool, true, false, cond, List, [], ◌∷◌, refl, ap}
use Rattle.indexmap.specs.IndexMap.{insert_entry}
use Rattle.dcx_point.specs.Pairs.{same_name}
use Rattle.dcx_point.proofs.Puts.{same_name-refl}
use Rattle.dcx_script_values.specs.Values.{Value}

pub bound-twice : (names : List (List ℕ × Value)) (name : List ℕ) (v w : Value) → insert_entry same_name (insert_entry same_name names name v) name w ≡ insert_entry same_name names name w
bound-twice [] name v w = rw (same_name-refl name) refl
bound-twice (e ∷ es) name v w = by (bound-twice es name v w) (same_name name e.0) refl
  where
    by : insert_entry same_name (insert_entry same_name es name v) name w ≡ insert_entry same_name es name w → (t : Bool) → same_name name e.0 ≡ t
        → insert_entry same_name (cond t ((e.0, v) ∷ es) (e ∷ insert_entry same_name es name v)) name w ≡ cond t ((e.0, w) ∷ es) (e ∷ insert_entry same_name es name w)
    by rest true p = rw p refl
    by rest false p = rw p (ap (λ ns. e ∷ ns) rest)
