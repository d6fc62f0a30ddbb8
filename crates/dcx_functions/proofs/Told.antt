-- Arrays of more entries than there may be: only their count is told, so sides that are told make the same.
use Rattle.std.specs.Prelude.{◌≡◌, ℕ, ◌*◌, ◌≤◌, None, Err}
use Rattle.std.proofs.Common.{refl, sym, ap, ◌∙◌, arith}
use Rattle.std.proofs.lemmas.Nat.{mul-le}
use native.Mathlib.Decide.{dec_le}
use Rattle.dcx_frac.specs.declared.fraction.Frac.{Frac}
use Rattle.dcx_shape.specs.declared.shape.Sides.{Sides}
use Rattle.dcx_shape.specs.declared.shape.Sides.TheVariants.{Matrix}
use Rattle.dcx_shape.specs.Sides.{entries_of}
use Rattle.dcx_array.specs.Shapes.{shape_with, told, size_fault}
use Rattle.dcx_array.specs.Arrays.{made, identity, identity_entry}
use Rattle.dcx_array.proofs.AllowedShapes.{shape_with-none, size_fault-told}
use Rattle.dcx_script_values.proofs.ShapesAsked.{few_sides, shape_with-told}

size_fault-same : (m n : ℕ) → told m ≡ told n → size_fault m ≡ size_fault n
size_fault-same m n h = sym (size_fault-told m) ∙ (ap size_fault h ∙ size_fault-told n)

-- what is made of sides depends on their shape and on the count that is told
pub made-same : (a b : Sides) (f : ℕ → Frac) → shape_with a ≡ shape_with b → told (entries_of a) ≡ told (entries_of b) → made a f ≡ made b f
made-same a b f shapes counts = rw (shapes, size_fault-same (entries_of a) (entries_of b) counts) refl

made-none : (s : Sides) (f : ℕ → Frac) → shape_with s ≡ None → made s f ≡ Err (size_fault (entries_of s))
made-none s f none = rw none refl

-- a matrix of so many rows and columns, and one of as many as are told
pub identity-told : (n : ℕ) → identity (told n) ≡ identity n
identity-told n = by (dec_le n 4294967295)
  where
    by : Dec (n ≤ 4294967295) → identity (told n) ≡ identity n
    by (yes within) = let same : told n ≡ n = omega arith in ap identity same
    by (no over) =
        let most : told n ≡ 4294967295 = omega arith in
        let none : shape_with (Matrix n n) ≡ None = shape_with-none (Matrix n n) (λ few. over (omega (arith, (few_sides n n few).0))) in
        let more : n ≤ n * n = omega (arith, mul-le 1 n n n (omega arith) (omega arith)) in
        let counts : told (told n * told n) ≡ told (n * n) = rw most (omega arith) in
        made-none (Matrix (told n) (told n)) (identity_entry (told n)) (shape_with-told n n ∙ none)
        ∙ (ap Err (size_fault-same (told n * told n) (n * n) counts) ∙ sym (made-none (Matrix n n) (identity_entry n) none))
