-- Whether one of several words is there, told from the first one on.
use Rattle.std.proofs.Common.{◌≡◌, Bool, true, false, ◌||◌, List, [], ◌∷◌, refl, sym, ◌∙◌}
use Rattle.std.specs.List.{list_any}

module _ {X : Type 0} (test : X → Bool) where
  abbrev pub any_from : Bool → List X → Bool
  any_from b [] = b
  any_from b (x ∷ xs) = any_from (b || test x) xs

  or_nothing : (b : Bool) → b ≡ b || false
  or_nothing true = refl
  or_nothing false = refl

  or_assoc : (a b c : Bool) → (a || b) || c ≡ a || (b || c)
  or_assoc true b c = refl
  or_assoc false b c = refl

  any_or : (b : Bool) (xs : List X) → any_from b xs ≡ b || list_any test xs
  any_or b [] = or_nothing b
  any_or b (x ∷ xs) = any_or (b || test x) xs ∙ or_assoc b (test x) (list_any test xs)

  pub any_in_order : (xs : List X) → list_any test xs ≡ any_from false xs
  any_in_order xs = sym (any_or false xs)
