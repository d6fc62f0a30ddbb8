-- Whether forms have numbers.
use Rattle.std.proofs.Common.{◌≡◌, true, ◌&&◌, List, [], ◌∷◌, map, Option, Some, refl, sym, ap, ap₂, Bool}
use Rattle.std.specs.List.{list_all}
use Rattle.dcx_frac.specs.declared.fraction.Frac.{Frac}
use Rattle.dcx_linear.specs.Forms.{is_constant}
use Rattle.dcx_entries.specs.Nodes.{is_told, has_numbers}

pub all_mapped : {A B : Type 0} (p : B → Bool) (f : A → B) (xs : List A) → list_all (λ x. p (f x)) xs ≡ list_all p (map f xs)
all_mapped p f [] = refl
all_mapped p f (x ∷ xs) = ap (λ b. p (f x) && b) (all_mapped p f xs)

-- numbers are forms of numbers
pub numbers_told : {C : Type 0} (of_number : Frac → C) (number_of : C → Option Frac) → ((x : Frac) → number_of (of_number x) ≡ Some x) → (xs : List Frac) →
    true ≡ list_all (has_numbers number_of) (map (λ n. is_constant (of_number n)) xs)
numbers_told of_number number_of told [] = refl
numbers_told of_number number_of told (x ∷ xs) =
    ap₂ ◌&&◌ (ap₂ ◌&&◌ (ap is_told (sym (told x))) refl) (numbers_told of_number number_of told xs)
