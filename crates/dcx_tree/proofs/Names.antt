-- The names of the nodes that a loop has passed.
use Rattle.std.proofs.Common.{◌≡◌, ℕ, ◌+◌, Bool, true, false, cond, List, take, get_or, Option, Some, None, option_map, refl, sym, ap, ap₂, ◌∙◌}
use mathlib.Core.Bool.{or-false}
use Rattle.std.specs.Prelude.{◌||◌}
use Rattle.std.specs.List.{slice_get, list_any}
use Rattle.std.proofs.lemmas.List.Folds.{list_any_more}
use Rattle.std.proofs.lemmas.Option.{slice_get_within, get_or_from_slice_get, none-some, same_Some}
use Rattle.dcx_point.specs.Pairs.{same_name}
use Rattle.dcx_point.proofs.Puts.{same_name-sym}
use Rattle.dcx_arena.specs.Nodes.{call_at}
use Rattle.dcx_call.specs.declared.call.Call.{Call}
use Rattle.dcx_call.specs.declared.call.Call.TheVariants as calls
use Rattle.dcx_call.specs.declared.attribute.Variable.{Variable}
use Rattle.dcx_call.specs.declared.attribute.Parameter.{Parameter}
use Rattle.dcx_tree.specs.Nodes.{Node}
use Rattle.dcx_tree.specs.Gather.{is_variable, is_parameter}

-- the node that has this call
pub found_in : (o : Option Node) (call : Call) → option_map (λ n. n.call) o ≡ Some call → (n : Node) × (o ≡ Some n) × (n.call ≡ call)
found_in None call e = absurd (none-some call e)
found_in (Some n) call e = (n, refl, same_Some n.call call e)

-- one more node is tested
pub tested_more : (test : Call → Bool) (nodes : List Node) (i : ℕ) (call : Call) → call_at nodes i ≡ Some call →
    list_any (λ (n : Node). test n.call) (take (i + 1) nodes) ≡ (list_any (λ (n : Node). test n.call) (take i nodes) || test call)
tested_more test nodes i call e =
    let (n, at, is) = found_in (slice_get nodes i) call e in
    let more = list_any_more (λ (x : Node). test x.call) nodes i n (slice_get_within nodes i n at) in
    let here : test (get_or nodes i n).call ≡ test call = ap (λ (x : Node). test x.call) (get_or_from_slice_get nodes i n n at) ∙ ap test is in
    more ∙ ap (λ b. list_any (λ (x : Node). test x.call) (take i nodes) || b) here

-- a name is there after it is put: it is the new one, or was there
put_or : (c b : Bool) → cond c true b ≡ (b || c)
put_or true true = refl
put_or true false = refl
put_or false true = refl
put_or false false = refl

pub put_name : (name q : List ℕ) (b : Bool) → cond (same_name name q) true b ≡ (b || same_name q name)
put_name name q b = put_or (same_name name q) b ∙ ap (λ c. b || c) (same_name-sym name q)

-- another call has no such name
pub no_variable : (call : Call) → ((v : Variable) → call ≡ calls.Variable v → ⊥) → (name : List ℕ) → is_variable name call ≡ false
no_variable (calls.Variable v) h name = absurd (h v refl)
no_variable (calls.Parameter p) h name = refl
no_variable (calls.Constant x) h name = refl
no_variable (calls.Atom m) h name = refl
no_variable (calls.Linear l) h name = refl
no_variable (calls.Pairing p) h name = refl

pub no_parameter : (call : Call) → ((q : Parameter) → call ≡ calls.Parameter q → ⊥) → (name : List ℕ) → is_parameter name call ≡ false
no_parameter (calls.Variable v) h name = refl
no_parameter (calls.Parameter q) h name = absurd (h q refl)
no_parameter (calls.Constant x) h name = refl
no_parameter (calls.Atom m) h name = refl
no_parameter (calls.Linear l) h name = refl
no_parameter (calls.Pairing p) h name = refl

-- a step that puts a name, and one that leaves the names alone
pub put_step : (key v q : List ℕ) (old new any more t : Bool) → new ≡ cond (same_name key q) true old → old ≡ any → key ≡ v → t ≡ same_name q v → more ≡ (any || t) → new ≡ more
put_step key v q old new any more t put was is test all =
    put ∙ put_name key q old ∙ ap₂ (λ b k. b || same_name q k) was is ∙ ap (λ b. any || b) (sym test) ∙ sym all

pub keep_step : (old new any more t : Bool) → new ≡ old → old ≡ any → t ≡ false → more ≡ (any || t) → new ≡ more
keep_step old new any more t same was test all = same ∙ was ∙ sym (or-false any) ∙ ap (λ b. any || b) (sym test) ∙ sym all
