-- What comes of an act, where something does: of acts one after the other, and of a fault that was tested for.
use Rattle.std.proofs.Common.{◌≡◌, ℕ, Bool, true, false, List, Option, Some, None, Result, Ok, Err, refl, sym, subst}
use Rattle.std.specs.Map.{lookup}
use Rattle.dcx_shape.specs.declared.place.Place.{Place}
use Rattle.dcx_point.specs.Pairs.{same_name}
use Rattle.dcx_script_values.specs.declared.fault.ElabFault.{ElabFault}
use Rattle.dcx_script_values.specs.declared.fault.ElabFault.TheVariants.{UnknownName}
use Rattle.dcx_script_values.specs.Values.{Value, State, Act, and_then, unless, or_fault, look}
use Rattle.dcx_script_values.proofs.Acts.{value_after, state_after}

-- where a value and a state come, they are so
pub record Gives {A : Type 0} (P : A → State → Type 0) (r : Result (A × State) ElabFault) : Type 0 where
  pub at : (x : A) (t : State) → r ≡ Ok (x, t) → P x t

pub ok-gives : {A : Type 0} (P : A → State → Type 0) (x : A) (t : State) → P x t → Gives P (Ok (x, t))
ok-gives P x t h = record { at = λ y u e. subst (λ r. P (value_after x r) (state_after t r)) e h }

pub err-gives : {A : Type 0} (P : A → State → Type 0) (e : ElabFault) → Gives P (Err e)
err-gives P e = record { at = λ y u h. absurd cc }

-- nothing is asked
abbrev pub Anything : {A : Type 0} → A → State → Type 0
Anything x t = Unit {0}

pub any-gives : {A : Type 0} (r : Result (A × State) ElabFault) → Gives Anything r
any-gives r = record { at = λ y u h. tt }

-- one after the other
pub then-gives : {A B : Type 0} (P : A → State → Type 0) (Q : B → State → Type 0) (r : Result (A × State) ElabFault) (f : A → Act B)
    → Gives P r → ((x : A) (t : State) → P x t → Gives Q (f x t)) → Gives Q (and_then r f)
then-gives P Q (Ok x) f g h = h x.0 x.1 (g.at x.0 x.1 refl)
then-gives P Q (Err e) f g h = err-gives Q e

pub unless-then : {B : Type 0} (Q : B → State → Type 0) (e : ElabFault) (b : Bool) (t : State) (f : Unit {0} → Act B) → Gives Q (f tt t) → Gives Q (and_then (unless e b t) f)
unless-then Q e true t f h = h
unless-then Q e false t f h = err-gives Q e

pub or_fault-then : {A B : Type 0} (Q : B → State → Type 0) (e : ElabFault) (o : Option A) (t : State) (f : A → Act B) → ((x : A) → Gives Q (f x t)) → Gives Q (and_then (or_fault e o t) f)
or_fault-then Q e (Some x) t f h = h x
or_fault-then Q e None t f h = err-gives Q e

-- what is there is there
pub some-then : {A B : Type 0} (Q : B → State → Type 0) (e : ElabFault) (o : Option A) (x : A) (t : State) (f : A → Act B) → o ≡ Some x → Gives Q (f x t)
    → Gives Q (and_then (or_fault e o t) f)
some-then Q e o x t f is h = subst (λ o. Gives Q (and_then (or_fault e o t) f)) (sym is) h

-- the value of a name that is bound
pub look-then : {B : Type 0} (Q : B → State → Type 0) (name : List ℕ) (place : Place) (v : Value) (t : State) (f : Value → Act B)
    → lookup (same_name name) t.names ≡ Some v → Gives Q (f v t) → Gives Q (and_then (look name place t) f)
look-then Q name place v t f is h = some-then Q (UnknownName place) (lookup (same_name name) t.names) v t f is h
