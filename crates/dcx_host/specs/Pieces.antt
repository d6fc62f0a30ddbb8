-- The pieces that a sink was handed, where it tells them, and what is written of a text.
use Rattle.std.specs.Prelude.{◌≡◌, ⊤, ℕ, ◌+◌, ◌<◌, List, [], ◌∷◌, ◌++◌, length, take, drop, None, Some, Ok, Err}
use Rattle.std.specs.declared.option.Option.{Option}
use Rattle.std.specs.declared.result.Result.{Result}
use Rattle.std.specs.Io.KnownBytes.{Appends}

-- a piece that a write was handed, and how many bytes of its front that write took
pub record Handed : Type 0 where
  pub piece : List ℕ
  pub taken : ℕ

-- `write(piece)` took the first `n` bytes of the piece at `Ok n`, and nothing at `Err`
abbrev pub WriteHands : {E : Type 0} → Option (List Handed) → Option (List Handed) → Result ℕ E → List ℕ → Type 0
WriteHands None new r piece = ⊤
WriteHands (Some old) None r piece = ⊥
WriteHands (Some old) (Some new) (Ok n) piece = new ≡ old ++ record { piece = piece; taken = n } ∷ []
WriteHands (Some old) (Some new) (Err e) piece = new ≡ old

-- these pieces were handed besides
abbrev pub Hands : Option (List Handed) → Option (List Handed) → List Handed → Type 0
Hands None new pieces = ⊤
Hands (Some old) None pieces = ⊥
Hands (Some old) (Some new) pieces = new ≡ old ++ pieces

-- each piece is all of the text behind its first `done` bytes and those that were taken of the pieces before it; at last its first `end` bytes are taken
abbrev pub AreRests : List ℕ → ℕ → List Handed → ℕ → Type 0
AreRests text done [] end = end ≡ done
AreRests text done (h ∷ pieces) end = (h.piece ≡ drop done text) × AreRests text (done + h.taken) pieces end

-- the text was handed so, of which the sink took the first `end` bytes
abbrev pub HandsRests : Option (List Handed) → Option (List Handed) → List ℕ → ℕ → Type 0
HandsRests old new text end = (pieces : List Handed) × Hands old new pieces × AreRests text 0 pieces end

-- the whole text is written: it is appended to the bytes, which were `old` and are `new`, and what was taken of the pieces, which were `before` and are `now`, adds up to it
abbrev pub WritesWhole : Option (List ℕ) → Option (List ℕ) → Option (List Handed) → Option (List Handed) → List ℕ → Type 0
WritesWhole old new before now text = Appends old new text × HandsRests before now text (length text)

-- a front of the text is written so, and something is left
abbrev pub WritesFront : Option (List ℕ) → Option (List ℕ) → Option (List Handed) → Option (List Handed) → List ℕ → Type 0
WritesFront old new before now text = (n : ℕ) × (n < length text) × Appends old new (take n text) × HandsRests before now text n
