-- What holds of values, whatever is carried out: the parts of which everything is made.
use Rattle.std.proofs.Common.{◌≡◌, ℕ, ◌<◌, ◌≤◌, Bool, true, false, cond, if◌then◌else◌, List, [], ◌∷◌, ◌++◌, length}
use Rattle.std.proofs.Common.{Option, Some, None, Result, Ok, Err, refl, sym, ap, subst, arith, le_refl, le_trans}
use Rattle.std.specs.List.{AllByRecursion}
use Rattle.std.specs.Map.{lookup, remove_entry}
use Rattle.std.proofs.lemmas.List.{length-append}
use Rattle.std.proofs.lemmas.Option.{slice_get_within}
use Rattle.indexmap.specs.IndexMap.{insert_entry}
use Rattle.dcx_shape.specs.declared.place.Place.{Place}
use Rattle.dcx_point.specs.Pairs.{same_name}
use Rattle.dcx_call.specs.declared.call.Call.{Call}
use Rattle.dcx_array.specs.declared.fault.ArrayFault.{ArrayFault}
use Rattle.dcx_tree.specs.declared.constraint.Constraint.{Constraint}
use Rattle.dcx_script_values.specs.declared.fault.ElabFault.{ElabFault}
use Rattle.dcx_script_values.specs.declared.fault.ElabFault.TheVariants.{UnknownName}
use Rattle.dcx_script_values.specs.Values.{Value, State, Act, and_then, unless, or_fault, or_array_fault, look, restore}
use Rattle.dcx_script_values.specs.Nodes.{Operand, standing, constant, push}
use Rattle.dcx_script_values.specs.Kinds.{Reading, operand, nested, empty, unfit}
use Rattle.dcx_script_values.proofs.Acts.{value_after, state_after}
use Rattle.dcx_signature.specs.Arguments.{Given, Bound}
use Rattle.dcx_script_laws.specs.Trees.{HasNodesBelow, HaveNodesBelow}
use Rattle.dcx_script_laws.proofs.Carried.{Moved}
use Rattle.dcx_script_laws.proofs.Pushed.{Pushed, found, added, node, pushed}

-- no fewer nodes
pub record Later (s t : State) : Type 0 where
  pub no_fewer : length s.nodes ≤ length t.nodes

pub later-from : (s : State) → Later s s
later-from s = record { no_fewer = le_refl _ }

-- ---- values, where the nodes are the first N
module _ (N : ℕ) where
  abbrev pub Anything : {A : Type 0} → A → Type 0
  Anything x = Unit {0}

  abbrev pub IsNode : ℕ → Type 0
  IsNode i = i < N

  abbrev pub AllBelow : List Value → Type 0
  AllBelow vs = AllByRecursion (HasNodesBelow N) vs

  abbrev pub OperandBelow : Operand → Type 0
  OperandBelow (standing i) = i < N
  OperandBelow (constant a) = Unit {0}

  abbrev pub ReadingBelow : Reading → Type 0
  ReadingBelow (operand x) = OperandBelow x
  ReadingBelow nested = Unit {0}
  ReadingBelow empty = Unit {0}
  ReadingBelow unfit = Unit {0}

  abbrev pub ConstraintBelow : Constraint → Type 0
  ConstraintBelow c = (c.left.0 < N) × (c.right.0 < N)

  abbrev pub GivenBelow : Given → Type 0
  GivenBelow g = HasNodesBelow N g.value

  abbrev pub AllGivenBelow : List Given → Type 0
  AllGivenBelow gs = AllByRecursion GivenBelow gs

  abbrev pub BoundBelow : Bound → Type 0
  BoundBelow bound = AllByRecursion (λ b. HasNodesBelow N b.1) bound

  -- the names are bound to such values
  pub record Fine (s : State) : Type 0 where
    pub names : BoundBelow s.names

  -- where something came of it, and there are at most N nodes then, this holds of it
  pub record Yields {A : Type 0} (P : A → Type 0) (r : Result (A × State) ElabFault) : Type 0 where
    pub at : (x : A) (t : State) → r ≡ Ok (x, t) → length t.nodes ≤ N → Fine t × P x

  -- what is carried out in a state whose names are bound to such values
  abbrev pub Gives : {A : Type 0} → (A → Type 0) → Act A → Type 0
  Gives P m = (s : State) → Fine s → Yields P (m s)

  pub ok-yields : {A : Type 0} (P : A → Type 0) (x : A) (s : State) → Fine s → P x → Yields P (Ok (x, s))
  ok-yields P x s fine h = record { at = λ y t e few. (subst Fine (ap (state_after s) e) fine, subst P (ap (value_after x) e) h) }

  pub err-yields : {A : Type 0} (P : A → Type 0) (e : ElabFault) → Yields P (Err e)
  err-yields P e = record { at = λ y t h. absurd cc }

  pub unless-yields : (e : ElabFault) (b : Bool) (s : State) → Fine s → Yields Anything (unless e b s)
  unless-yields e true s fine = ok-yields Anything tt s fine tt
  unless-yields e false s fine = err-yields Anything e

  pub or_fault-yields : {A : Type 0} (e : ElabFault) (o : Option A) (s : State) → Fine s → Yields Anything (or_fault e o s)
  or_fault-yields e (Some x) s fine = ok-yields Anything x s fine tt
  or_fault-yields e None s fine = err-yields Anything e

  pub or_array_fault-yields : {A : Type 0} (place : Place) (r : Result A ArrayFault) (s : State) → Fine s → Yields Anything (or_array_fault place r s)
  or_array_fault-yields place (Ok x) s fine = ok-yields Anything x s fine tt
  or_array_fault-yields place (Err f) s fine = err-yields Anything _

  pub if-yields : {A : Type 0} (P : A → Type 0) (b : Bool) (m n : Act A) (s : State) → Yields P (m s) → Yields P (n s) → Yields P ((if b then m else n) s)
  if-yields P true m n s h k = h
  if-yields P false m n s h k = k

  -- one after the other: the second leaves no fewer nodes, so that what the first comes to is there
  abbrev pub GoesOn : {A : Type 0} → (A → Type 0) → Type 1
  GoesOn {A} P = (B : Type 0) (Q : B → Type 0) (r : Result (A × State) ElabFault) (f : A → Act B) → Yields P r → ((a : A) (s t : State) → Later s t → Moved Later s (f a t))
      → ((a : A) (t : State) → Fine t → P a → Yields Q (f a t)) → Yields Q (and_then r f)

  after : {A : Type 0} (P : A → Type 0) → GoesOn P
  after P B Q (Ok x) f first grows next = record {
    at = λ b u e few.
        let h = first.at x.0 x.1 refl (le_trans ((grows x.0 x.1 x.1 (later-from x.1)).at b u e).no_fewer few) in
        (next x.0 x.1 h.0 h.1).at b u e few;
  }
  after P B Q (Err e) f first grows next = err-yields Q e

  pub then-any : {A : Type 0} → GoesOn (Anything {A = A})
  then-any = after Anything

  pub then-node : GoesOn IsNode
  then-node = after IsNode

  pub then-operand : GoesOn OperandBelow
  then-operand = after OperandBelow

  pub then-value : GoesOn (HasNodesBelow N)
  then-value = after (HasNodesBelow N)

  pub then-items : GoesOn AllBelow
  then-items = after AllBelow

  pub then-values : GoesOn (HaveNodesBelow N)
  then-values = after (HaveNodesBelow N)

  pub then-constraint : GoesOn ConstraintBelow
  then-constraint = after ConstraintBelow

  pub then-given : GoesOn GivenBelow
  then-given = after GivenBelow

  pub then-all_given : GoesOn AllGivenBelow
  then-all_given = after AllGivenBelow

  pub then-bound : GoesOn BoundBelow
  then-bound = after BoundBelow

  pub ruleset steps = (
    ok-yields,
    err-yields,
    unless-yields,
    or_fault-yields,
    or_array_fault-yields,
    if-yields,
    then-any,
    then-node,
    then-operand,
    then-value,
    then-items,
    then-values,
    then-constraint,
    then-given,
    then-all_given,
    then-bound,
  )

  -- ---- nodes
  pub push-yields : (place : Place) (call : Call) (args : List ℕ) → Gives IsNode (push place call args)
  push-yields place call args s fine = record { at = λ i t e few. by i t few (pushed s place call args i t e) }
    where
      by : (i : ℕ) (t : State) → length t.nodes ≤ N → Pushed s place call args i t → Fine t × IsNode i
      by i t few (found holds same) =
          let here = slice_get_within s.nodes i holds.0 holds.1 in
          let nodes : length s.nodes ≡ length t.nodes = ap (λ (u : State). length u.nodes) same in
          (subst Fine same fine, omega (arith, here, nodes, few))
      by i t few (added sides there shaped new room last same) =
          let one_more = node s place call args sides in
          let longer = length-append s.nodes (one_more ∷ []) in
          let nodes : length (s.nodes ++ one_more ∷ []) ≡ length t.nodes = ap (λ (u : State). length u.nodes) same in
          (subst Fine same (record { names = fine.names }), omega (arith, last, longer, nodes, few))

  pub push-any : (place : Place) (call : Call) (args : List ℕ) → Gives Anything (push place call args)
  push-any place call args s fine = record { at = λ i t e few. (((push-yields place call args s fine).at i t e few).0, tt) }

  -- ---- names
  pub fine-same : (s t : State) → Fine s → t.names ≡ s.names → Fine t
  fine-same s t fine e = record { names = subst BoundBelow (sym e) fine.names }

  abbrev pub OptionBelow : Option Value → Type 0
  OptionBelow None = Unit {0}
  OptionBelow (Some v) = HasNodesBelow N v

  pub lookup-below : (p : List ℕ → Bool) (es : Bound) → BoundBelow es → OptionBelow (lookup p es)
  lookup-below p [] all = tt
  lookup-below p (e ∷ es) all = by (p e.0) (lookup-below p es all.1)
    where
      by : (b : Bool) → OptionBelow (lookup p es) → OptionBelow (cond b (Some e.1) (lookup p es))
      by true rest = all.0
      by false rest = rest

  pub insert-below : (es : Bound) (name : List ℕ) (v : Value) → BoundBelow es → HasNodesBelow N v → BoundBelow (insert_entry same_name es name v)
  insert-below [] name v all h = (h, tt)
  insert-below (e ∷ es) name v all h = by (same_name name e.0) (insert-below es name v all.1 h)
    where
      by : (b : Bool) → BoundBelow (insert_entry same_name es name v) → BoundBelow (cond b ((e.0, v) ∷ es) (e ∷ insert_entry same_name es name v))
      by true rest = (h, all.1)
      by false rest = (all.0, rest)

  remove-below : (p : List ℕ → Bool) (es : Bound) → BoundBelow es → BoundBelow (remove_entry p es)
  remove-below p [] all = tt
  remove-below p (e ∷ es) all = by (p e.0) (remove-below p es all.1)
    where
      by : (b : Bool) → BoundBelow (remove_entry p es) → BoundBelow (cond b es (e ∷ remove_entry p es))
      by true rest = all.1
      by false rest = (all.0, rest)

  pub bound-below : (name : List ℕ) (s : State) → Fine s → OptionBelow (lookup (same_name name) s.names)
  bound-below name s fine = lookup-below (same_name name) s.names fine.names

  pub bound-fine : (name : List ℕ) (v : Value) (s : State) → HasNodesBelow N v → Fine s → Fine (record s { names = insert_entry same_name s.names name v })
  bound-fine name v s h fine = record { names = insert-below s.names name v fine.names h }

  pub restore-gives : (name : List ℕ) (before : Option Value) → OptionBelow before → Gives Anything (restore name before)
  restore-gives name (Some v) h s fine = ok-yields Anything tt _ (bound-fine name v s h fine) tt
  restore-gives name None h s fine = ok-yields Anything tt _ (record { names = remove-below (same_name name) s.names fine.names }) tt

  pub look-gives : (name : List ℕ) (place : Place) → Gives (HasNodesBelow N) (look name place)
  look-gives name place s fine = by (lookup (same_name name) s.names) (bound-below name s fine)
    where
      by : (o : Option Value) → OptionBelow o → Yields (HasNodesBelow N) (or_fault (UnknownName place) o s)
      by (Some v) h = ok-yields (HasNodesBelow N) v s fine h
      by None h = err-yields (HasNodesBelow N) _
