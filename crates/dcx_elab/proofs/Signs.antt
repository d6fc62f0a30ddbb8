-- Signs before a value, the last one first.
use Rattle.std.proofs.Common.{◌≡◌, ℕ, ◌+◌, ◌<◌, List, [], ◌∷◌, ◌++◌, take, length, get_or, Result, Ok, Err, refl, ap, ◌∙◌}
use Rattle.std.proofs.lemmas.List.{take_more}
use Rattle.dcx_syntax.specs.declared.tree.Signed.{Signed}
use Rattle.dcx_script_values.specs.declared.fault.ElabFault.{ElabFault}
use Rattle.dcx_script_values.specs.Values.{Value, State, and_then, done}
use Rattle.dcx_script_values.specs.View.{Fails}
use Rattle.dcx_script_values.proofs.Acts.{Fails-then, Fails-same, then_is}
use Rattle.dcx_script_state.proofs.Each.{and_then-assoc}
use Rattle.dcx_operators.specs.Operators.{sign_value}
use Rattle.dcx_elab.specs.Expressions.{signed}

done-last : (r : Result (Value × State) ElabFault) → r ≡ and_then r (λ w. done w)
done-last (Ok p) = refl
done-last (Err e) = refl

signed-push : (ss : List Signed) (x : Signed) (v : Value) (s : State) → signed (ss ++ x ∷ []) v s ≡ and_then (sign_value x.sign x.place v s) (λ w. signed ss w)
signed-push [] x v s = done-last (sign_value x.sign x.place v s)
signed-push (y ∷ ys) x v s =
    ap (λ r. and_then r (λ w. sign_value y.sign y.place w)) (signed-push ys x v s) ∙ and_then-assoc (sign_value x.sign x.place v s) (λ w. signed ys w) (λ w. sign_value y.sign y.place w)

signed-more : (ss : List Signed) (i : ℕ) (d : Signed) (v : Value) (s : State) → i < length ss
    → signed (take (i + 1) ss) v s ≡ and_then (sign_value (get_or ss i d).sign (get_or ss i d).place v s) (λ w. signed (take i ss) w)
signed-more ss i d v s h = ap (λ ys. signed ys v s) (take_more ss i d h) ∙ signed-push (take i ss) (get_or ss i d) v s

pub signed-next : (ss : List Signed) (i : ℕ) (d : Signed) (v w : Value) (s t : State) → i < length ss → sign_value (get_or ss i d).sign (get_or ss i d).place v s ≡ Ok (w, t)
    → signed (take (i + 1) ss) v s ≡ signed (take i ss) w t
signed-next ss i d v w s t h is = signed-more ss i d v s h ∙ then_is (sign_value (get_or ss i d).sign (get_or ss i d).place v s) (λ u. signed (take i ss) u) w t is

pub signed-fault : (ss : List Signed) (i : ℕ) (d : Signed) (v : Value) (e : ElabFault) (s : State) → i < length ss
    → Fails e (sign_value (get_or ss i d).sign (get_or ss i d).place v s) → Fails e (signed (take (i + 1) ss) v s)
signed-fault ss i d v e s h fails = Fails-same e _ (signed (take (i + 1) ss) v s) (signed-more ss i d v s h) (Fails-then e (sign_value (get_or ss i d).sign (get_or ss i d).place v s) _ fails)
