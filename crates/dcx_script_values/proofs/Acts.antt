-- What comes of a fault and of a value where something is carried out after something else.
use Rattle.std.specs.Prelude.{◌≡◌, List, ◌++◌, Result, Ok, Err}
use Rattle.std.proofs.Common.{sym, ap, subst}
use Rattle.dcx_shape.specs.declared.place.Place.{Place}
use Rattle.dcx_script_values.specs.declared.fault.ElabFault.{ElabFault}
use Rattle.dcx_script_values.specs.declared.fault.ElabFault.TheVariants.{Memory}
use Rattle.dcx_script_values.specs.Values.{State, Act, and_then, done}
use Rattle.dcx_script_values.specs.Nodes.{Operand}
use Rattle.dcx_script_values.specs.Kinds.{Reading}
use Rattle.dcx_script_values.specs.Operands.{each_read}
use Rattle.dcx_script_values.specs.View.{Fails, Gives}

-- a fault ends what would follow
pub Fails-then : {A B : Type 0} (e : ElabFault) (m : Result (A × State) ElabFault) (f : A → Act B) → Fails e m → Fails e (and_then m f)
Fails-then Memory m f h = tt
Fails-then e m f h = ap (λ r. and_then r f) h

-- the same fault of what is the same
pub Fails-same : {A : Type 0} (e : ElabFault) (m n : Result (A × State) ElabFault) → n ≡ m → Fails e m → Fails e n
Fails-same e m n is h = subst (Fails e) (sym is) h

-- a fault that is passed on is the fault that is meant
pub Gives-err : {X Y : Type 0} (view : X → Y) (r : Result X ElabFault) (after : State) (given : Result (Y × State) ElabFault) (y e : ElabFault) → r ≡ Err y → y ≡ e
    → Fails e given → Gives view r after given
Gives-err view r after given y e is same h = subst (λ q. Gives view q after given) (sym is) (subst (λ z. Fails z given) (sym same) h)

-- the value that came, or x where none came
abbrev pub value_after : {A : Type 0} → A → Result (A × State) ElabFault → A
value_after x (Ok z) = z.0
value_after x (Err e) = x

-- the state that came with it, or s where none came
abbrev pub state_after : {A : Type 0} → State → Result (A × State) ElabFault → State
state_after s (Ok z) = z.1
state_after s (Err e) = s

-- a value is gone on with
pub then_is : {A B : Type 0} (m : Result (A × State) ElabFault) (f : A → Act B) (x : A) (s : State) → m ≡ Ok (x, s) → and_then m f ≡ f x s
then_is m f x s e = ap (λ r. and_then r f) e

-- ---- operands that are read one after the other
-- what was read, and then the rest
abbrev pub read_on : Place → List Operand → List Reading → Act (List Operand)
read_on place xs rs s = and_then (each_read place rs s) (λ ys. done (xs ++ ys))
