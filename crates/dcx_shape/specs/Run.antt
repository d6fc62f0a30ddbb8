-- A run of places at equal steps, as the code keeps the places that a pick takes of one side.
use Rattle.std.specs.Prelude.{ℕ, ℤ, pos, ◌+ℤ◌, ◌*ℤ◌, unsigned_abs, List, map}
use Rattle.dcx_shape.specs.declared.run.Run.{Run}
use Rattle.dcx_shape.specs.Places.{places_below}

-- the place k steps from the first
abbrev pub place_from : ℕ → ℤ → ℕ → ℕ
place_from first step k = unsigned_abs (pos first +ℤ pos k *ℤ step)

-- so many places from the first on
abbrev pub places_from : ℕ → ℤ → ℕ → List ℕ
places_from first step count = map (λ k. place_from first step k) (places_below count)

-- place k of the run
abbrev pub run_place : Run → ℕ → ℕ
run_place run k = place_from run.first run.step k

-- the places of the run, in order
abbrev pub places_of : Run → List ℕ
places_of run = places_from run.first run.step run.count
