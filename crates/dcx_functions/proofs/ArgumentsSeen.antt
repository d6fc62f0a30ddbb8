-- Arguments as the code has them, and as they are seen.
use Rattle.std.specs.Prelude.{◌≡◌, List, [], ◌∷◌, map}
use Rattle.std.proofs.Common.{refl, ap, ◌∙◌}
use Rattle.dcx_script_values.specs.Kinds.{Reading, reading}
use Rattle.dcx_script_values.specs.Meant.{meant}
use Rattle.dcx_signature.specs.declared.matching.Argument.{Argument}
use Rattle.dcx_signature.specs.Seen.{argument_seen}
use Rattle.dcx_signature.specs.Arguments.{Bound}

seen-read : (xs : List Argument) → map (λ a. reading (meant a.value)) xs ≡ map (λ b. reading b.1) (map argument_seen xs)
seen-read [] = refl
seen-read (a ∷ xs) = ap (λ (rs : List Reading). reading (meant a.value) ∷ rs) (seen-read xs)

-- what all arguments are where expressions are wanted
pub all-read : (xs : List Argument) (bound : Bound) → map argument_seen xs ≡ bound → map (λ a. reading (meant a.value)) xs ≡ map (λ b. reading b.1) bound
all-read xs bound e = seen-read xs ∙ ap (λ (b : Bound). map (λ p. reading p.1) b) e
