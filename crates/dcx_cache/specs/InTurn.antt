-- Settings that end one after the other, each from what the one before it left.
use Rattle.std.specs.Prelude.{◌≡◌, List, [], ◌∷◌}
use Rattle.dcx_point.specs.Pairs.{Pairs}

-- `Ends` says how a setting ends: from what stands before it, with what comes of it, and with what stands after it
abbrev pub EndInTurn : {K O : Type 0} → (Pairs → K → O → K → Type 0) → List Pairs → K → List O → K → Type 0
EndInTurn Ends [] before [] after = after ≡ before
EndInTurn {K} Ends (s ∷ ss) before (o ∷ os) after = (mid : K) × Ends s before o mid × EndInTurn Ends ss mid os after
EndInTurn Ends [] before (o ∷ os) after = ⊥
EndInTurn Ends (s ∷ ss) before [] after = ⊥
