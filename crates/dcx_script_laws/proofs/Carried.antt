-- What holds between the states before and after whatever is carried out: the parts of which everything is made.
use Rattle.std.proofs.Common.{◌≡◌, ℕ, Bool, true, false, if◌then◌else◌, List, Option, Some, None, Result, Ok, Err, refl, ap, subst}
use Rattle.dcx_shape.specs.declared.place.Place.{Place}
use Rattle.dcx_call.specs.declared.call.Call.{Call}
use Rattle.dcx_array.specs.declared.fault.ArrayFault.{ArrayFault}
use Rattle.dcx_script_values.specs.declared.fault.ElabFault.{ElabFault}
use Rattle.dcx_script_values.specs.Values.{Value, State, Act, and_then, unless, or_fault, or_array_fault}
use Rattle.dcx_script_values.specs.Nodes.{push}
use Rattle.dcx_script_values.proofs.Acts.{state_after}
use Rattle.dcx_elab.specs.Turns.{turn}

-- where something came of what began in s, the state after it is related to s
pub record Moved {A : Type 0} (R : State → State → Type 0) (s : State) (r : Result (A × State) ElabFault) : Type 0 where
  pub at : (x : A) (t : State) → r ≡ Ok (x, t) → R s t

-- carrying something out, in a state that is related to s, leaves one that is
abbrev pub Moves : {A : Type 0} → (State → State → Type 0) → Act A → Type 0
Moves R m = (s t : State) → R s t → Moved R s (m t)

-- a relation that holds between the states before and after an expression
pub record IsCarried (R : State → State → Type 0) : Type 0 where
  pub same : (s : State) → R s s
  -- neither names nor nodes change
  pub others : (s t u : State) → R s t → u.names ≡ t.names → u.nodes ≡ t.nodes → R s u
  pub pushes : (place : Place) (call : Call) (args : List ℕ) → Moves R (push place call args)
  pub turns : (first : Place) (name : List ℕ) (element : Act Value) (v : Value) → Moves R element → Moves R (turn first name element v)

pub ok-moved : {A : Type 0} (R : State → State → Type 0) (s t : State) (x : A) → R s t → Moved R s (Ok (x, t))
ok-moved R s t x h = record { at = λ y u e. subst (R s) (ap (state_after s) e) h }

pub err-moved : {A : Type 0} (R : State → State → Type 0) (s : State) (e : ElabFault) → Moved {A = A} R s (Err e)
err-moved R s e = record { at = λ y t h. absurd cc }

-- one after the other, with what came of the first
pub gone-on : {A B : Type 0} (R : State → State → Type 0) (s : State) (r : Result (A × State) ElabFault) (f : A → Act B)
    → ((a : A) (t : State) → r ≡ Ok (a, t) → Moved R s (f a t)) → Moved R s (and_then r f)
gone-on R s (Ok x) f g = g x.0 x.1 refl
gone-on R s (Err e) f g = err-moved R s e

-- the same, where all that counts of the first is the relation
pub then-moved : {A B : Type 0} (R : State → State → Type 0) (s : State) (r : Result (A × State) ElabFault) (f : A → Act B) → Moved R s r
    → ((a : A) (t : State) → R s t → Moved R s (f a t)) → Moved R s (and_then r f)
then-moved R s r f k g = gone-on R s r f (λ a t e. g a t (k.at a t e))

pub unless-moved : (R : State → State → Type 0) (s : State) (e : ElabFault) (b : Bool) (t : State) → R s t → Moved R s (unless e b t)
unless-moved R s e true t h = ok-moved R s t tt h
unless-moved R s e false t h = err-moved R s e

pub or_fault-moved : {A : Type 0} (R : State → State → Type 0) (s : State) (e : ElabFault) (o : Option A) (t : State) → R s t → Moved R s (or_fault e o t)
or_fault-moved R s e (Some x) t h = ok-moved R s t x h
or_fault-moved R s e None t h = err-moved R s e

pub or_array_fault-moved : {A : Type 0} (R : State → State → Type 0) (s : State) (place : Place) (r : Result A ArrayFault) (t : State) → R s t → Moved R s (or_array_fault place r t)
or_array_fault-moved R s place (Ok x) t h = ok-moved R s t x h
or_array_fault-moved R s place (Err f) t h = err-moved R s _

pub if-moved : {A : Type 0} (R : State → State → Type 0) (s : State) (b : Bool) (m n : Act A) (t : State) → Moved R s (m t) → Moved R s (n t) → Moved R s ((if b then m else n) t)
if-moved R s true m n t h k = h
if-moved R s false m n t h k = k

pub ruleset parts = (ok-moved, err-moved, unless-moved, or_fault-moved, or_array_fault-moved, then-moved, if-moved)
