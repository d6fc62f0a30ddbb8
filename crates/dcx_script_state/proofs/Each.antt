-- Nodes that come one after the other.
use Rattle.std.proofs.Common.{◌≡◌, ℕ, ◌+◌, ◌<◌, ◌≤◌, List, [], ◌∷◌, ◌++◌, length, get_or, drop, map, Result, Ok, Err, refl, sym, ap, ◌∙◌, append_assoc}
use Rattle.std.proofs.lemmas.List.{append-nil, map-append, at_drop_more, at_drop_all}
use Rattle.dcx_shape.specs.declared.place.Place.{Place}
use Rattle.dcx_arena.specs.declared.node.NodeId.{NodeId}
use Rattle.dcx_arena.specs.Nodes.{positions}
use Rattle.dcx_call.specs.declared.call.Call.{Call}
use Rattle.dcx_script_values.specs.declared.fault.ElabFault.{ElabFault}
use Rattle.dcx_script_values.specs.Values.{State, Act, and_then, done}
use Rattle.dcx_script_values.specs.Nodes.{Operand, operand_sides, given_sides, push, all_pushed, all_promoted, common_shape, called, broadcast_called}
use Rattle.dcx_script_values.specs.View.{Fails}
use Rattle.dcx_script_values.proofs.Acts.{Fails-then, Fails-same, then_is}

-- what came so far, and then the rest
abbrev pub go_on : List ℕ → Result (List ℕ × State) ElabFault → Result (List ℕ × State) ElabFault
go_on is m = and_then m (λ js. done (is ++ js))

-- ---- steps of steps
pub and_then-assoc : {A B C : Type 0} (m : Result (A × State) ElabFault) (f : A → Act B) (g : B → Act C) → and_then (and_then m f) g ≡ and_then m (λ x s. and_then (f x s) g)
and_then-assoc (Ok p) f g = refl
and_then-assoc (Err e) f g = refl

two_steps-assoc : {A B C D : Type 0} (m : Result (A × State) ElabFault) (f : A → Act B) (g : A → B → Act C) (h : C → Act D)
    → and_then (and_then m (λ x s. and_then (f x s) (g x))) h ≡ and_then m (λ x s. and_then (f x s) (λ y t. and_then (g x y t) h))
two_steps-assoc (Ok p) f g h = and_then-assoc (f p.0 p.1) (g p.0) h
two_steps-assoc (Err e) f g h = refl

-- ---- calls
module _ (place : Place) (call : Call) (xs : List Operand) (s : State) where
  abbrev pub called_args : Result (List ℕ × State) ElabFault
  called_args = and_then (given_sides place call (map (operand_sides s.nodes) xs) s) (λ _. all_pushed place xs)

  called_pushed : called place call xs s ≡ and_then called_args (push place call)
  called_pushed = sym (and_then-assoc (given_sides place call (map (operand_sides s.nodes) xs) s) (λ _. all_pushed place xs) (push place call))

  pub called_fault : (e : ElabFault) → Fails e called_args → Fails e (called place call xs s)
  called_fault e h = Fails-same e (and_then called_args (push place call)) (called place call xs s) called_pushed (Fails-then e called_args (push place call) h)

  pub called_is : (is : List ℕ) (t : State) → called_args ≡ Ok (is, t) → called place call xs s ≡ push place call is t
  called_is is t e = called_pushed ∙ then_is called_args (push place call) is t e

  abbrev pub broadcast_args : Result (List ℕ × State) ElabFault
  broadcast_args = and_then (common_shape place xs s) (λ shape t. and_then (all_pushed place xs t) (all_promoted place shape))

  broadcast_pushed : broadcast_called place call xs s ≡ and_then broadcast_args (push place call)
  broadcast_pushed = sym (two_steps-assoc (common_shape place xs s) (λ shape. all_pushed place xs) (all_promoted place) (push place call))

  pub broadcast_fault : (e : ElabFault) → Fails e broadcast_args → Fails e (broadcast_called place call xs s)
  broadcast_fault e h = Fails-same e (and_then broadcast_args (push place call)) (broadcast_called place call xs s) broadcast_pushed (Fails-then e broadcast_args (push place call) h)

  pub broadcast_is : (is : List ℕ) (t : State) → broadcast_args ≡ Ok (is, t) → broadcast_called place call xs s ≡ push place call is t
  broadcast_is is t e = broadcast_pushed ∙ then_is broadcast_args (push place call) is t e

-- ---- a node for each of some things
put_behind : (is : List ℕ) (i : ℕ) (m : Result (List ℕ × State) ElabFault)
    → and_then (and_then m (λ js. done (i ∷ js))) (λ js. done (is ++ js)) ≡ and_then m (λ js. done ((is ++ i ∷ []) ++ js))
put_behind is i (Ok p) = ap (λ js. Ok (js, p.1)) (sym (append_assoc is (i ∷ []) p.0))
put_behind is i (Err e) = refl

module _ {X : Type 0} (step : X → Act ℕ) (all : List X → Act (List ℕ)) (none : (s : State) → all [] s ≡ Ok ([], s))
    (more : (x : X) (xs : List X) (s : State) → all (x ∷ xs) s ≡ and_then (step x s) (λ i t. and_then (all xs t) (λ is. done (i ∷ is)))) (xs : List X) where
  front : (k : ℕ) (x : X) (s : State) → k < length xs → x ≡ get_or xs k x → all (drop k xs) s ≡ and_then (step x s) (λ i t. and_then (all (drop (k + 1) xs) t) (λ is. done (i ∷ is)))
  front k x s lt at = at_drop_more (λ ys. all ys s) xs k x lt ∙ ap (λ y. all (y ∷ drop (k + 1) xs) s) (sym at) ∙ more x (drop (k + 1) xs) s

  module _ (k : ℕ) (x : X) (ids : List NodeId) (s : State) (given : Result (List ℕ × State) ElabFault) (lt : k < length xs) (at : x ≡ get_or xs k x)
      (was : given ≡ go_on (positions ids) (all (drop k xs) s)) where
    -- the next one comes
    pub each_next : (id : NodeId) (more : List NodeId) (t : State) → step x s ≡ Ok (id.0, t) → more ≡ ids ++ id ∷ [] → given ≡ go_on (positions more) (all (drop (k + 1) xs) t)
    each_next id more t e puts =
        was
        ∙ ap (go_on (positions ids)) (front k x s lt at ∙ then_is (step x s) (λ j u. and_then (all (drop (k + 1) xs) u) (λ js. done (j ∷ js))) id.0 t e)
        ∙ put_behind (positions ids) id.0 (all (drop (k + 1) xs) t)
        ∙ ap (λ is. go_on is (all (drop (k + 1) xs) t)) (sym (ap positions puts ∙ map-append (λ (a : NodeId). a.0) ids (id ∷ [])))

    -- or is refused
    pub each_fault : (e : ElabFault) → Fails e (step x s) → Fails e given
    each_fault e h =
        Fails-same e (go_on (positions ids) (and_then (step x s) (λ j u. and_then (all (drop (k + 1) xs) u) (λ js. done (j ∷ js))))) given (was ∙ ap (go_on (positions ids)) (front k x s lt at))
        (Fails-then e (and_then (step x s) (λ j u. and_then (all (drop (k + 1) xs) u) (λ js. done (j ∷ js)))) (λ js. done (positions ids ++ js))
        (Fails-then e (step x s) (λ j u. and_then (all (drop (k + 1) xs) u) (λ js. done (j ∷ js))) h))

  -- all of them came
  pub each_all : (k : ℕ) (ids : List NodeId) (s : State) (given : Result (List ℕ × State) ElabFault) → length xs ≤ k → given ≡ go_on (positions ids) (all (drop k xs) s) → given ≡ Ok (positions ids, s)
  each_all k ids s given le was =
      was ∙ ap (go_on (positions ids)) (at_drop_all (λ ys. all ys s) xs k le ∙ none s) ∙ ap (λ js. Ok (js, s)) (append-nil (positions ids))
