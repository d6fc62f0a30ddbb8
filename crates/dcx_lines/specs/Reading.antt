-- What is asked of bytes where numbers are read from them.
use Rattle.std.specs.Prelude.{◌≡◌, ◌≢◌, ℕ, ◌+◌, ◌-◌, ◌*◌, ◌<◌, List, [], ◌∷◌, ◌++◌, length}
use Rattle.std.specs.List.{flat_map}
use Rattle.dcx_frac.specs.declared.fraction.Frac.{Frac}
use Rattle.dcx_lines.specs.Pieces.{entry_text}

-- the number that digits write behind those of n
abbrev pub worth_after : ℕ → List ℕ → ℕ
worth_after n [] = n
worth_after n (c ∷ cs) = worth_after (n * 10 + (c - 48)) cs

-- the number that digits write
abbrev pub worth_of : List ℕ → ℕ
worth_of digits = worth_after 0 digits

-- a byte of a fraction is above a blank and a line feed
pub record IsInk (c : ℕ) : Type 0 where
  pub above : 32 < c

-- the byte isn't the one between the parts of a fraction
pub record IsNoSlash (c : ℕ) : Type 0 where
  pub other : c ≢ 47

-- the list begins with a byte of which the fact doesn't hold
pub record BeginsWithout (P : ℕ → Type 0) (xs : List ℕ) : Type 0 where
  pub byte : ℕ
  pub tail : List ℕ
  pub is : xs ≡ byte ∷ tail
  pub without : P byte → ⊥

-- so many numbers, each behind a blank, and then a line feed
pub record HasEntries (count : ℕ) (bytes : List ℕ) (numbers : List Frac) (rest : List ℕ) : Type 0 where
  pub counted : length numbers ≡ count
  pub written : bytes ≡ flat_map entry_text numbers ++ 10 ∷ rest
