-- An item of what is gone through.
use Rattle.std.specs.Prelude.{◌≡◌, ℕ, ◌<◌, List, map, length, get_or, slice_get, option_map, Some, Result, Ok, Err, IfOk}
use Rattle.std.proofs.Common.{sym, ap, ◌∙◌}
use Rattle.std.proofs.lemmas.Option.{slice_get-get_or, slice_get-map}
use Rattle.dcx_script_values.specs.declared.value.Value as code_value
use Rattle.dcx_script_values.specs.Values.{Value}
use Rattle.dcx_script_values.specs.Meant.{meant}

-- the item at a place, as it is seen
pub item_seen : {A B : Type 0} (f : A → B) (xs : List A) (k : ℕ) (x : A) → k < length xs → x ≡ get_or xs k x → slice_get (map f xs) k ≡ Some (f x)
item_seen f xs k x h e = slice_get-map f xs k ∙ ap (λ o. option_map f o) (slice_get-get_or xs k x h ∙ ap Some (sym e))

-- what is returned is the item, where something is
pub item_given : {E : Type 0} (xs : List Value) (k : ℕ) (w : Value) (r : Result code_value.Value E) → slice_get xs k ≡ Some w → IfOk r (λ v. meant v ≡ w)
    → IfOk r (λ v. slice_get xs k ≡ Some (meant v))
item_given xs k w (Ok v) e h = e ∙ ap Some (sym h)
item_given xs k w (Err x) e h = tt
