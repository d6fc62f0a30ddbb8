-- Names that parameters have.
use Rattle.std.proofs.Common.{◌≡◌, ℕ, ◌<◌, true, false, List, map, length, get_or, Some, option_map, sym, ap, ◌∙◌, true≢false}
use Rattle.std.specs.List.{list_any}
use Rattle.std.proofs.lemmas.Option.{slice_get-map, slice_get-get_or}
use Rattle.dcx_math.proofs.Lists.{mapped}
use Rattle.dcx_point.specs.Pairs.{same_name}
use Rattle.dcx_point.proofs.Puts.{same_name-refl, same_name-true}
use Rattle.dcx_call.specs.declared.attribute.Parameter.{Parameter}
use Rattle.dcx_tree.proofs.Sublists.{contains_at, at_contains, any_at, at_any}
use Rattle.dcx_fit.specs.Fit.{IsNamed}

-- a name that is found is that of a parameter
pub known : (ps : List Parameter) (name : List ℕ) → list_any (λ q. same_name name q.name) ps ≡ true → IsNamed ps name
known ps name e =
    let (k, q, at, same) = any_at (λ (q : Parameter). same_name name q.name) ps e in
    at_contains (map (λ (q : Parameter). q.name) ps) k name
    (slice_get-map (λ (q : Parameter). q.name) ps k ∙ ap (option_map (λ (q : Parameter). q.name)) at ∙ ap Some (sym (same_name-true name q.name same)))

-- and each of theirs is found
found : (ps : List Parameter) (name : List ℕ) → IsNamed ps name → list_any (λ q. same_name name q.name) ps ≡ true
found ps name h =
    let (k, at) = contains_at (map (λ (q : Parameter). q.name) ps) name h in
    let (q, there, is) = mapped (λ (q : Parameter). q.name) ps k name at in
    at_any (λ (q : Parameter). same_name name q.name) ps k q there (ap (same_name name) is ∙ same_name-refl name)

-- one that stands at a position is found
pub found_at : (ps : List Parameter) (name : List ℕ) (k : ℕ) (q : Parameter) → k < length ps → same_name name (get_or ps k q).name ≡ true → true ≡ list_any (λ q. same_name name q.name) ps
found_at ps name k q b same = sym (at_any (λ (q : Parameter). same_name name q.name) ps k (get_or ps k q) (slice_get-get_or ps k q b) same)

-- a name that isn't found is that of no parameter
pub unknown : (ps : List Parameter) (name : List ℕ) → list_any (λ q. same_name name q.name) ps ≡ false → ¬ IsNamed ps name
unknown ps name e h = true≢false (sym (found ps name h) ∙ e)
