-- Refusals as they are made.
use Rattle.std.specs.Prelude.{◌≡◌, ℕ}
use Rattle.dcx_shape.specs.declared.place.Place.{Place}
use Rattle.dcx_refusal.specs.declared.refusal.Carried.{Carried}
use Rattle.dcx_refusal.specs.declared.refusal.Carried.TheVariants.{Nothing}
use Rattle.dcx_refusal.specs.declared.refusal.Refusal.{Refusal}
use Rattle.dcx_refusal.specs.declared.refusal.RefusalSource.{RefusalSource}

-- the refusal of the file with this number, at this place, which says this
pub record IsRefusedAs (source : RefusalSource) (number : ℕ) (place : Place) (carried : Carried) (r : Refusal) : Type 0 where
  pub source_is : r.source ≡ source
  pub number_is : r.number ≡ number
  pub place_is : r.place ≡ place
  pub carried_is : r.carried ≡ carried

-- where a file begins
abbrev pub file_start : Place
file_start = record { line = 1; column = 1 }

-- the refusal of a whole file for its length
abbrev pub IsTooLong : RefusalSource → Refusal → Type 0
IsTooLong source r = IsRefusedAs source 8 file_start Nothing r
