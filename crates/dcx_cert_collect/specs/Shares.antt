-- Shares: numbers that are added to places of a list, one after the other, up to the first operation that passes 128 bits.
use Rattle.std.specs.Prelude.{ℕ, List, [], ◌∷◌, Option, Some, None, Result, Ok, slice_index_or, slice_set}
use Rattle.dcx_frac.specs.declared.fraction.Frac.{Frac}
use Rattle.dcx_frac.specs.declared.fraction.Passes.{Passes}
use Rattle.dcx_frac.specs.Results.{sum_of}
use Rattle.dcx_atom.specs.Formed.{zero_frac, and_then}

-- number p of a list, and 0 past its end
abbrev pub frac_in : List Frac → ℕ → Frac
frac_in xs p = slice_index_or xs p zero_frac

-- what goes to a place: a number as it is formed. It goes nowhere where there is no such place
pub record Share : Type 0 where
  pub place : Option ℕ
  pub amount : Result Frac Passes

abbrev pub share_of : Option ℕ → Result Frac Passes → Share
share_of place amount = record { place = place; amount = amount }

-- the list where x is added at the place, or the operation that passes
abbrev pub added_at : List Frac → Option ℕ → Frac → Result (List Frac) Passes
added_at table None x = Ok table
added_at table (Some p) x = and_then (sum_of (frac_in table p) x) (λ y. Ok (slice_set table p y))

-- the list with one share
abbrev pub with_share : List Frac → Share → Result (List Frac) Passes
with_share table s = and_then s.amount (added_at table s.place)

-- the list with all shares, in order
abbrev pub with_shares : List Frac → List Share → Result (List Frac) Passes
with_shares table [] = Ok table
with_shares table (s ∷ shares) = and_then (with_share table s) (λ t. with_shares t shares)
