-- What is carried out under other names, one step after the other; names, steps and room.
use Rattle.std.proofs.Common.{◌≡◌, ℕ, Bool, true, false, List, ◌++◌, Option, Some, None, Result, Ok, Err, refl, ap, ◌∙◌}
use Rattle.std.specs.Prelude.{◌+◌, nat_lt, nat_le, if◌then◌else◌}
use Rattle.std.specs.Map.{lookup}
use Rattle.dcx_shape.specs.declared.place.Place.{Place}
use Rattle.dcx_point.specs.Pairs.{same_name}
use Rattle.dcx_arena.specs.declared.fault.Count.TheVariants.{Items, Steps}
use Rattle.dcx_array.specs.declared.fault.ArrayFault.{ArrayFault}
use Rattle.dcx_script_values.specs.declared.fault.ElabFault.{ElabFault}
use Rattle.dcx_script_values.specs.declared.fault.ElabFault.TheVariants.{UnknownName, BadArgument}
use Rattle.dcx_script_values.specs.Faults.{array_fault_at}
use Rattle.dcx_script_values.specs.Values.{Value, Values, values_of, items_of, count, counted, depth, State, Act, and_then, ◌>>=◌, ◌>>◌, done, fault, unless, or_fault}
use Rattle.dcx_script_values.specs.Values.{or_array_fault, bound_to, look, bind, unbind, restore, too_many, most_steps, step, most_items, most_depth, room, joined}
use Rattle.dcx_script_laws.specs.Renamed.{state_renamed, answer_renamed}
use Rattle.dcx_script_laws.specs.Names.{IsRenaming, Follows}
use Rattle.dcx_script_laws.proofs.Renamed.Entries.{lookup_renamed, insert_renamed, remove_renamed}

-- ---- one after the other
module _ {rename : List ℕ → List ℕ} where
  then_along : {A B : Type 0} (r q : Result (A × State) ElabFault) (f g : A → Act B) → q ≡ answer_renamed rename r → ((x : A) → Follows rename (f x) (g x))
      → and_then q g ≡ answer_renamed rename (and_then r f)
  then_along (Ok p) q f g e h = ap (λ z. and_then z g) e ∙ (h p.0).along p.1
  then_along (Err x) q f g e h = ap (λ z. and_then z g) e

  pub chain : {A B : Type 0} {m n : Act A} {f g : A → Act B} → Follows rename m n → ((x : A) → Follows rename (f x) (g x)) → Follows rename (m >>= f) (n >>= g)
  chain {m = m} {n = n} {f = f} {g = g} e h = record { along = λ s. then_along (m s) (n (state_renamed rename s)) f g (e.along s) h }

  pub next : {B : Type 0} {m n : Act (Unit {0})} {k l : Act B} → Follows rename m n → Follows rename k l → Follows rename (m >> k) (n >> l)
  next e h = chain e (λ _. h)

  -- what is read, and what is made of it
  pub reads : {X A : Type 0} {k l : X → Act A} (f g : State → X) → ((s : State) → g (state_renamed rename s) ≡ f s) → ((x : X) → Follows rename (k x) (l x)) →
      Follows rename (λ s. k (f s) s) (λ s. l (g s) s)
  reads {l = l} f g e h = record { along = λ s. ap (λ x. l x (state_renamed rename s)) (e s) ∙ (h (f s)).along s }

  -- the same act
  pub instead : {A : Type 0} {m n l : Act A} → n ≡ l → Follows rename m l → Follows rename m n
  instead e h = record { along = λ s. ap (λ a. a (state_renamed rename s)) e ∙ h.along s }

  -- ---- what doesn't look at names
  pub done_follows : {A : Type 0} (x : A) → Follows rename (done x) (done x)
  done_follows x = record { along = λ s. refl }

  pub fault_follows : {A : Type 0} (e : ElabFault) → Follows rename (fault {A = A} e) (fault e)
  fault_follows e = record { along = λ s. refl }

  pub unless_follows : (e : ElabFault) (b : Bool) → Follows rename (unless e b) (unless e b)
  unless_follows e true = done_follows tt
  unless_follows e false = fault_follows e

  pub or_fault_follows : {A : Type 0} (e : ElabFault) (o : Option A) → Follows rename (or_fault e o) (or_fault e o)
  or_fault_follows e None = fault_follows e
  or_fault_follows e (Some x) = done_follows x

  pub or_array_fault_follows : {A : Type 0} (place : Place) (r : Result A ArrayFault) → Follows rename (or_array_fault place r) (or_array_fault place r)
  or_array_fault_follows place (Ok x) = done_follows x
  or_array_fault_follows place (Err f) = fault_follows (array_fault_at place f)

  pub if_follows : {A : Type 0} {m n k l : Act A} (b : Bool) → Follows rename m n → Follows rename k l → Follows rename (if b then m else k) (if b then n else l)
  if_follows true e h = e
  if_follows false e h = h

  pub step_follows : (place : Place) → Follows rename (step place) (step place)
  step_follows place = reads (λ s. s.steps) (λ s. s.steps) (λ s. refl) (λ n. next (unless_follows (too_many place Steps (n + 1)) (nat_lt n most_steps)) (record { along = λ s. refl }))

  pub room_follows : (place : Place) (vs : List Value) (v : Value) → Follows rename (room place vs v) (room place vs v)
  room_follows place vs v =
      next (unless_follows (BadArgument place) (nat_lt (depth v) most_depth))
      (unless_follows (too_many place Items (count (values_of vs) + counted v)) (nat_lt (count (values_of vs) + counted v) (most_items + 1)))

  pub joined_follows : (place : Place) (xs ys : Values) → Follows rename (joined place xs ys) (joined place xs ys)
  joined_follows place xs ys =
      next (unless_follows (too_many place Items (count (values_of (items_of xs ++ items_of ys)))) (nat_le (count (values_of (items_of xs ++ items_of ys))) most_items))
      (done_follows (values_of (items_of xs ++ items_of ys)))

-- ---- names
module _ {rename : List ℕ → List ℕ} (is : IsRenaming rename) where
  pub bound_follows : (name : List ℕ) → Follows rename (bound_to name) (bound_to (rename name))
  bound_follows name = reads (λ s. lookup (same_name name) s.names) (λ s. lookup (same_name (rename name)) s.names) (λ s. lookup_renamed is name s.names) done_follows

  pub look_follows : (name : List ℕ) (place : Place) → Follows rename (look name place) (look (rename name) place)
  look_follows name place = chain (bound_follows name) (or_fault_follows (UnknownName place))

  pub bind_follows : (name : List ℕ) (v : Value) → Follows rename (bind name v) (bind (rename name) v)
  bind_follows name v = record { along = λ s. ap (λ es. Ok (tt, record (state_renamed rename s) { names = es })) (insert_renamed is s.names name v) }

  pub unbind_follows : (name : List ℕ) → Follows rename (unbind name) (unbind (rename name))
  unbind_follows name = record { along = λ s. ap (λ es. Ok (tt, record (state_renamed rename s) { names = es })) (remove_renamed is name s.names) }

  pub restore_follows : (name : List ℕ) (v : Option Value) → Follows rename (restore name v) (restore (rename name) v)
  restore_follows name (Some v) = bind_follows name v
  restore_follows name None = unbind_follows name
