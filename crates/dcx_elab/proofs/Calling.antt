-- Names and attributes that are called: what comes of a call, and of a fault in it.
use Rattle.std.proofs.Common.{◌≡◌, ℕ, Bool, false, List, ◌∷◌, Option, Ok, ap, subst, ◌∙◌}
use Rattle.dcx_shape.specs.declared.place.Place.{Place}
use Rattle.dcx_syntax.specs.declared.tree.Named.{Named}
use Rattle.dcx_syntax.specs.Expressions.{name_at, Trailers, attribute, call, indexed, Args, Index, Indices, postfix}
use Rattle.dcx_script_values.specs.declared.fault.ElabFault.{ElabFault}
use Rattle.dcx_script_values.specs.Values.{Value, State, and_then, ◌>>=◌, done}
use Rattle.dcx_script_values.specs.View.{Fails}
use Rattle.dcx_script_values.proofs.Acts.{Fails-then, Fails-same, then_is}
use Rattle.dcx_operators.specs.Indices.{Evaluated, index_value}
use Rattle.dcx_signature.specs.Arguments.{Given}
use Rattle.dcx_elab.specs.Expressions.{is_range, name_called, is_solve, target_before, method_called, args_mean, index_means, indices_mean, postfix_means, trailers_mean}
use Rattle.dcx_elab.proofs.Chains.{indexed-is}

-- ---- a name that is called
module _ (target : Option (List ℕ)) (n : Named) (p : Place) (xs : Args) (rest : Trailers) (s : State) where
  pub name-refused : (e : ElabFault) → Fails e (is_range n s) → Fails e (postfix_means target (postfix (name_at n) (call p xs rest)) s)
  name-refused e h = Fails-then e (is_range n s) _ h

  pub name-args-fault : (b : Bool) (e : ElabFault) (t : State) → is_range n s ≡ Ok (b, t) → Fails e (args_mean false xs t) → Fails e (postfix_means target (postfix (name_at n) (call p xs rest)) s)
  name-args-fault b e t r h = Fails-same e _ (postfix_means target (postfix (name_at n) (call p xs rest)) s) (then_is (is_range n s) _ b t r) (Fails-then e (args_mean false xs t) _ h)

  pub name-call-fault : (b : Bool) (gs : List Given) (e : ElabFault) (t u : State) → is_range n s ≡ Ok (b, t) → args_mean false xs t ≡ Ok (gs, u) → Fails e (name_called n b gs u)
      → Fails e (postfix_means target (postfix (name_at n) (call p xs rest)) s)
  name-call-fault b gs e t u r a h =
      Fails-same e _ (postfix_means target (postfix (name_at n) (call p xs rest)) s) (then_is (is_range n s) _ b t r ∙ then_is (args_mean false xs t) _ gs u a)
      (Fails-then e (name_called n b gs u) _ h)

  pub name-call-is : (b : Bool) (gs : List Given) (v : Value) (t u w : State) → is_range n s ≡ Ok (b, t) → args_mean false xs t ≡ Ok (gs, u) → name_called n b gs u ≡ Ok (v, w)
      → postfix_means target (postfix (name_at n) (call p xs rest)) s ≡ trailers_mean target n.place rest v w
  name-call-is b gs v t u w r a h = then_is (is_range n s) _ b t r ∙ then_is (args_mean false xs t) _ gs u a ∙ then_is (name_called n b gs u) _ v w h

-- ---- an attribute that is called
module _ (target : Option (List ℕ)) (place : Place) (n : Named) (p : Place) (xs : Args) (rest : Trailers) (v : Value) (s : State) where
  pub method-args-fault : (b : Bool) (e : ElabFault) → b ≡ is_solve v n.name → Fails e (args_mean b xs s) → Fails e (trailers_mean target place (attribute n (call p xs rest)) v s)
  method-args-fault b e is h = Fails-then e (args_mean (is_solve v n.name) xs s) _ (subst (λ c. Fails e (args_mean c xs s)) is h)

  method-args-is : (b : Bool) (gs : List Given) (t : State) → b ≡ is_solve v n.name → args_mean b xs s ≡ Ok (gs, t)
      → trailers_mean target place (attribute n (call p xs rest)) v s ≡ and_then (method_called (target_before target rest) place v n gs t) (λ w. trailers_mean target place rest w)
  method-args-is b gs t is h = then_is (args_mean (is_solve v n.name) xs s) _ gs t (subst (λ c. args_mean c xs s ≡ Ok (gs, t)) is h)

  pub method-fault : (b : Bool) (gs : List Given) (kept : Option (List ℕ)) (e : ElabFault) (t : State) → b ≡ is_solve v n.name → args_mean b xs s ≡ Ok (gs, t) → kept ≡ target_before target rest
      → Fails e (method_called kept place v n gs t) → Fails e (trailers_mean target place (attribute n (call p xs rest)) v s)
  method-fault b gs kept e t is a k h =
      Fails-same e _ (trailers_mean target place (attribute n (call p xs rest)) v s) (method-args-is b gs t is a)
      (Fails-then e (method_called (target_before target rest) place v n gs t) _ (subst (λ o. Fails e (method_called o place v n gs t)) k h))

  pub method-is : (b : Bool) (gs : List Given) (kept : Option (List ℕ)) (w : Value) (t u : State) → b ≡ is_solve v n.name → args_mean b xs s ≡ Ok (gs, t) → kept ≡ target_before target rest
      → method_called kept place v n gs t ≡ Ok (w, u) → trailers_mean target place (attribute n (call p xs rest)) v s ≡ trailers_mean target place rest w u
  method-is b gs kept w t u is a k h =
      method-args-is b gs t is a ∙ then_is (method_called (target_before target rest) place v n gs t) _ w u (subst (λ o. method_called o place v n gs t ≡ Ok (w, u)) k h)

-- ---- indices
module _ (target : Option (List ℕ)) (place p : Place) (x : Index) (xs : Indices) (rest : Trailers) (v : Value) (s : State) where
  pub indexed-first-fault : (e : ElabFault) → Fails e (index_means x s) → Fails e (trailers_mean target place (indexed p x xs rest) v s)
  indexed-first-fault e h = Fails-then e (index_means x s) _ h

  indexed-all : (i : Evaluated) (is : List Evaluated) (t u : State) → index_means x s ≡ Ok (i, t) → and_then (indices_mean xs t) (λ js. done (i ∷ js)) ≡ Ok (is, u)
      → trailers_mean target place (indexed p x xs rest) v s ≡ and_then (index_value p v is u) (λ w. trailers_mean target place rest w)
  indexed-all i is t u a b =
      indexed-is target place p x xs rest v s ∙ ap (λ r. and_then r (λ js. index_value p v js >>= λ w. trailers_mean target place rest w)) (then_is (index_means x s) _ i t a ∙ b)

  pub indexed-args-fault : (i : Evaluated) (e : ElabFault) (t : State) → index_means x s ≡ Ok (i, t) → Fails e (and_then (indices_mean xs t) (λ js. done (i ∷ js)))
      → Fails e (trailers_mean target place (indexed p x xs rest) v s)
  indexed-args-fault i e t a h =
      Fails-same e _ (trailers_mean target place (indexed p x xs rest) v s)
      (indexed-is target place p x xs rest v s ∙ ap (λ r. and_then r (λ js. index_value p v js >>= λ w. trailers_mean target place rest w)) (then_is (index_means x s) _ i t a))
      (Fails-then e (and_then (indices_mean xs t) (λ js. done (i ∷ js))) _ h)

  pub indexed-fault : (i : Evaluated) (is : List Evaluated) (e : ElabFault) (t u : State) → index_means x s ≡ Ok (i, t)
      → and_then (indices_mean xs t) (λ js. done (i ∷ js)) ≡ Ok (is, u) → Fails e (index_value p v is u)
      → Fails e (trailers_mean target place (indexed p x xs rest) v s)
  indexed-fault i is e t u a b h =
      Fails-same e _ (trailers_mean target place (indexed p x xs rest) v s) (indexed-all i is t u a b) (Fails-then e (index_value p v is u) _ h)

  pub indexed-value : (i : Evaluated) (is : List Evaluated) (w : Value) (t u r : State) → index_means x s ≡ Ok (i, t)
      → and_then (indices_mean xs t) (λ js. done (i ∷ js)) ≡ Ok (is, u) → index_value p v is u ≡ Ok (w, r)
      → trailers_mean target place (indexed p x xs rest) v s ≡ trailers_mean target place rest w r
  indexed-value i is w t u r a b h = indexed-all i is t u a b ∙ then_is (index_value p v is u) _ w r h
