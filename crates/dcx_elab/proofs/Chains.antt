-- What is carried out one after the other, and what comes of a fault and of a value there.
use Rattle.std.proofs.Common.{◌≡◌, ℕ, true, false, true≢false, List, [], ◌∷◌, ◌++◌, Option, None, Result, Ok, Err, refl, sym, ap, ◌∙◌, append_assoc, append-nil}
use Rattle.dcx_shape.specs.declared.place.Place.{Place}
use Rattle.dcx_syntax.specs.declared.tree.Named.{Named}
use Rattle.dcx_syntax.specs.Expressions.{Primary, name_at, Trailers, no_trailer, attribute, call, indexed, Args, Index, Indices, Optional, Step, slice, postfix, more_indices}
use Rattle.dcx_script_values.specs.declared.fault.ElabFault.{ElabFault}
use Rattle.dcx_script_values.specs.declared.fault.ElabFault.TheVariants.{UnknownCall, Memory}
use Rattle.dcx_script_values.specs.Values.{Value, State, Act, and_then, ◌>>=◌, done, look}
use Rattle.dcx_script_values.specs.View.{Fails}
use Rattle.dcx_script_values.proofs.Acts.{Fails-then, Fails-same, then_is}
use Rattle.dcx_script_state.proofs.Each.{and_then-assoc}
use Rattle.dcx_operators.specs.Attributes.{attribute_value}
use Rattle.dcx_operators.specs.Indices.{Evaluated, index_value}
use Rattle.dcx_signature.specs.Arguments.{Given}
use Rattle.dcx_signature.specs.Firsts.{primary_place}
use Rattle.dcx_elab.specs.Expressions.{target_before, postfix_means, primary_means, trailers_mean, index_means, indices_mean, optional_means, step_means, args_mean}
use Rattle.dcx_elab.proofs.Seen.{is_called, is_none, is_name}

-- ---- lists that are made one by one
-- what came so far, and then the rest
abbrev pub go_on : {A : Type 0} → List A → Result (List A × State) ElabFault → Result (List A × State) ElabFault
go_on xs m = and_then m (λ ys. done (xs ++ ys))

pub go_on-none : {A : Type 0} (m : Result (List A × State) ElabFault) → go_on [] m ≡ m
go_on-none (Ok p) = refl
go_on-none (Err e) = refl

pub go_on-next : {A : Type 0} (xs : List A) (x : A) (m : Result (List A × State) ElabFault) → go_on xs (and_then m (λ ys. done (x ∷ ys))) ≡ go_on (xs ++ x ∷ []) m
go_on-next xs x (Ok p) = ap (λ ys. Ok (ys, p.1)) (sym (append_assoc xs (x ∷ []) p.0))
go_on-next xs x (Err e) = refl

pub go_on-end : {A : Type 0} (xs : List A) (s : State) → go_on xs (Ok ([], s)) ≡ Ok (xs, s)
go_on-end xs s = ap (λ ys. Ok (ys, s)) (append-nil xs)

-- ---- a step that gives nothing
-- what came of it, where something is done after it
pub done-ok : {B : Type 0} (m : Result (Unit {0} × State) ElabFault) (w x : B) (t : State) → and_then m (λ _. done w) ≡ Ok (x, t) → (m ≡ Ok (tt, t)) × (w ≡ x)
done-ok {B = B} (Ok p) w x t h =
    let q : (w, p.1) ≡ (x, t) = cc in (ap (λ (u : State). Ok (tt, u)) (ap (λ (z : B × State). z.1) q), ap (λ (z : B × State). z.0) q)
done-ok (Err e) w x t h = absurd cc

pub done-fails : {B : Type 0} (e : ElabFault) (m : Result (Unit {0} × State) ElabFault) (w : B) → Fails e (and_then m (λ _. done w)) → Fails e m
done-fails Memory m w h = tt
done-fails e (Ok p) w h = absurd cc
done-fails e (Err d) w h = let same : d ≡ e = cc in ap Err same

-- a fault stays the same, whatever would have come of it
pub Fails-again : (A B : Type 0) (e d : ElabFault) → Fails {Y = A} e (Err d) → Fails {Y = B} e (Err d)
Fails-again A B Memory d h = tt
Fails-again A B e d h = let same : d ≡ e = cc in ap Err same

-- ---- trailers
pub attribute-alone : (target : Option (List ℕ)) (place : Place) (n : Named) (ts : Trailers) (v : Value) (s : State) → is_called ts ≡ false
    → trailers_mean target place (attribute n ts) v s ≡ and_then (attribute_value n.place n.name v s) (λ w. trailers_mean target place ts w)
attribute-alone target place n no_trailer v s h = refl
attribute-alone target place n (attribute m r) v s h = refl
attribute-alone target place n (call p xs r) v s h = absurd (true≢false h)
attribute-alone target place n (indexed p x xs r) v s h = refl

pub alone-fault : (target : Option (List ℕ)) (place : Place) (n : Named) (ts : Trailers) (v : Value) (e : ElabFault) (s : State) → is_called ts ≡ false → Fails e (attribute_value n.place n.name v s)
    → Fails e (trailers_mean target place (attribute n ts) v s)
alone-fault target place n ts v e s h fails =
    Fails-same e _ (trailers_mean target place (attribute n ts) v s) (attribute-alone target place n ts v s h) (Fails-then e (attribute_value n.place n.name v s) _ fails)

pub alone-is : (target : Option (List ℕ)) (place : Place) (n : Named) (ts : Trailers) (v w : Value) (s t : State) → is_called ts ≡ false → attribute_value n.place n.name v s ≡ Ok (w, t)
    → trailers_mean target place (attribute n ts) v s ≡ trailers_mean target place ts w t
alone-is target place n ts v w s t h means = attribute-alone target place n ts v s h ∙ then_is (attribute_value n.place n.name v s) _ w t means

pub indexed-is : (target : Option (List ℕ)) (place p : Place) (x : Index) (xs : Indices) (rest : Trailers) (v : Value) (s : State)
    → trailers_mean target place (indexed p x xs rest) v s ≡ and_then (indices_mean (more_indices x xs) s) (λ is. index_value p v is >>= λ w. trailers_mean target place rest w)
indexed-is target place p x xs rest v s =
    sym (and_then-assoc (index_means x s) (λ i. indices_mean xs >>= λ is. done (i ∷ is)) (λ is. index_value p v is >>= λ w. trailers_mean target place rest w)
    ∙ behind (index_means x s) (λ i t. and_then-assoc (indices_mean xs t) (λ is. done (i ∷ is)) (λ is. index_value p v is >>= λ w. trailers_mean target place rest w)))
  where
    behind : (r : Result (Evaluated × State) ElabFault) {f g : Evaluated → Act Value} → ((i : Evaluated) (t : State) → f i t ≡ g i t) → and_then r f ≡ and_then r g
    behind (Ok p) same = same p.0 p.1
    behind (Err e) same = refl

pub name-alone : (target : Option (List ℕ)) (n : Named) (ts : Trailers) (s : State) → is_called ts ≡ false
    → postfix_means target (postfix (name_at n) ts) s ≡ and_then (look n.name n.place s) (λ v. trailers_mean target n.place ts v)
name-alone target n no_trailer s h = refl
name-alone target n (attribute m r) s h = refl
name-alone target n (call p xs r) s h = absurd (true≢false h)
name-alone target n (indexed p x xs r) s h = refl

pub name-fault : (target : Option (List ℕ)) (n : Named) (ts : Trailers) (e : ElabFault) (s : State) → is_called ts ≡ false → Fails e (look n.name n.place s)
    → Fails e (postfix_means target (postfix (name_at n) ts) s)
name-fault target n ts e s h fails = Fails-same e _ (postfix_means target (postfix (name_at n) ts) s) (name-alone target n ts s h) (Fails-then e (look n.name n.place s) _ fails)

pub name-is : (target : Option (List ℕ)) (n : Named) (ts : Trailers) (v : Value) (s t : State) → is_called ts ≡ false → look n.name n.place s ≡ Ok (v, t)
    → postfix_means target (postfix (name_at n) ts) s ≡ trailers_mean target n.place ts v t
name-is target n ts v s t h means = name-alone target n ts s h ∙ then_is (look n.name n.place s) _ v t means

pub plain-postfix : (target : Option (List ℕ)) (x : Primary) (ts : Trailers) (s : State) → is_name x ≡ false
    → postfix_means target (postfix x ts) s ≡ and_then (primary_means x s) (λ v. trailers_mean target (primary_place x) ts v)
plain-postfix target (name_at n) ts s h = absurd (true≢false h)
plain-postfix target x ts s h = refl

pub primary-fault : (target : Option (List ℕ)) (x : Primary) (ts : Trailers) (e : ElabFault) (s : State) → is_name x ≡ false → Fails e (primary_means x s)
    → Fails e (postfix_means target (postfix x ts) s)
primary-fault target x ts e s h fails = Fails-same e _ (postfix_means target (postfix x ts) s) (plain-postfix target x ts s h) (Fails-then e (primary_means x s) _ fails)

pub primary-is : (target : Option (List ℕ)) (x : Primary) (ts : Trailers) (v : Value) (s t : State) → is_name x ≡ false → primary_means x s ≡ Ok (v, t)
    → postfix_means target (postfix x ts) s ≡ trailers_mean target (primary_place x) ts v t
primary-is target x ts v s t h means = plain-postfix target x ts s h ∙ then_is (primary_means x s) _ v t means

pub target-lost : (target : Option (List ℕ)) (ts : Trailers) → is_none ts ≡ false → target_before target ts ≡ None
target-lost target no_trailer h = absurd (true≢false h)
target-lost target (attribute n r) h = refl
target-lost target (call p xs r) h = refl
target-lost target (indexed p x xs r) h = refl

-- ---- slices
pub stop-fault : (a b : Optional) (c : Step) (x : Option Value) (e : ElabFault) (s t : State) → optional_means a s ≡ Ok (x, t) → Fails e (optional_means b t) → Fails e (index_means (slice a b c) s)
stop-fault a b c x e s t h fails = Fails-same e _ (index_means (slice a b c) s) (then_is (optional_means a s) _ x t h) (Fails-then e (optional_means b t) _ fails)

pub step-fault : (a b : Optional) (c : Step) (x y : Option Value) (e : ElabFault) (s t u : State) → optional_means a s ≡ Ok (x, t) → optional_means b t ≡ Ok (y, u)
    → Fails e (step_means c u) → Fails e (index_means (slice a b c) s)
step-fault a b c x y e s t u h g fails =
    Fails-same e _ (index_means (slice a b c) s) (then_is (optional_means a s) _ x t h ∙ then_is (optional_means b t) _ y u g) (Fails-then e (step_means c u) _ fails)

-- ---- what can't be called
pub refused-args-fault : (target : Option (List ℕ)) (place p : Place) (xs : Args) (rest : Trailers) (v : Value) (e : ElabFault) (s : State) → Fails e (args_mean false xs s)
    → Fails e (trailers_mean target place (call p xs rest) v s)
refused-args-fault target place p xs rest v e s h = Fails-then e (args_mean false xs s) _ h

pub refused : (target : Option (List ℕ)) (place p : Place) (xs : Args) (rest : Trailers) (v : Value) (gs : List Given) (s t : State) → args_mean false xs s ≡ Ok (gs, t)
    → trailers_mean target place (call p xs rest) v s ≡ Err (UnknownCall place)
refused target place p xs rest v gs s t h = then_is (args_mean false xs s) _ gs t h
