-- The numbers that are compared, where they stand in their lists.
use Rattle.std.proofs.Common.{◌≡◌, ℕ, ◌<◌, List, Some, length, get_or, slice_get, sym, ap, ◌∙◌}
use Rattle.std.proofs.lemmas.Option.{slice_get-get_or}
use Rattle.dcx_frac.specs.declared.fraction.Frac.{Frac}
use Rattle.dcx_frac.specs.Frac.{value}
use Rattle.dcx_atom.specs.Arrays.{number_at}
use Rattle.dcx_atom.proofs.Lists.{number_is}

-- a number where it stands
pub number_same : (xs : List Frac) (ys : List Frac) (j : ℕ) (x : Frac) → j < length xs → ys ≡ xs → x ≡ get_or ys j x → value x ≡ number_at xs j
number_same xs ys j x lt e is = number_is xs j x lt (is ∙ ap (λ zs. get_or zs j x) e)

pub number_stands : (xs : List Frac) (ys : List Frac) (j : ℕ) (x : Frac) → j < length xs → ys ≡ xs → x ≡ get_or ys j x → slice_get xs j ≡ Some x
number_stands xs ys j x lt e is = slice_get-get_or xs j x lt ∙ ap Some (sym (is ∙ ap (λ zs. get_or zs j x) e))
