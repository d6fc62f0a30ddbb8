-- Lists whose items rise by a key.
use Rattle.std.specs.Prelude.{ℕ, ◌<◌, List, [], ◌∷◌}
use Rattle.std.specs.List.{All}

-- each key is below those that follow
abbrev pub IsRising : {T : Type 0} → (T → ℕ) → List T → Type 0
IsRising key [] = Unit {0}
IsRising key (t ∷ ts) = All (λ u. key t < key u) ts × IsRising key ts
