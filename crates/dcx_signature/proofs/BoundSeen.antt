-- What is given for arguments, one behind the other.
use Rattle.std.proofs.Common.{◌≡◌, ℕ, List, [], ◌∷◌, ◌++◌, Some, None, refl, sym, ap, ◌∙◌, append_assoc}
use Rattle.dcx_script_values.specs.Values.{Value}
use Rattle.dcx_signature.specs.Arguments.{Matched, bound_of}

-- that of the first, and then that of the others
bound_more : (m : Matched) (ms : List Matched) → bound_of (m ∷ ms) ≡ bound_of (m ∷ []) ++ bound_of ms
bound_more (g, None) ms = refl
bound_more (g, Some p) ms = refl

-- that of one more stands behind what was given so far
pub bound_next : (before after : List (List ℕ × Value)) (m : Matched) (ms all : List Matched) → after ≡ before ++ bound_of (m ∷ []) → before ++ bound_of (m ∷ ms) ≡ bound_of all
    → after ++ bound_of ms ≡ bound_of all
bound_next before after m ms all puts was =
    ap (λ xs. xs ++ bound_of ms) puts ∙ append_assoc before (bound_of (m ∷ [])) (bound_of ms) ∙ ap (λ ys. before ++ ys) (sym (bound_more m ms)) ∙ was
