-- What an operation on rows that takes memory answers, where its meaning knows none.
use Rattle.std.specs.Prelude.{⊤, ℕ, Result, Ok, Err}
use Rattle.dcx_frac.specs.declared.fraction.Passes.{Passes}
use Rattle.dcx_linear.specs.declared.map_stop.MapStop.{MapStop}
use Rattle.dcx_linear.specs.declared.map_stop.MapStop.TheVariants as stops

-- the fact holds of the row and of what passes there; nothing is said of want of memory
abbrev pub OnRow : MapStop → (ℕ × Passes → Type 0) → Type 0
OnRow (stops.Passes row passes) P = P (row, passes)
OnRow stops.Memory P = ⊤

-- the answer is one that the operation gives, or memory ran out
abbrev pub GivesAt : {A : Type 0} → Result A MapStop → (Result A (ℕ × Passes) → Type 0) → Type 0
GivesAt (Ok x) P = P (Ok x)
GivesAt (Err stop) P = OnRow stop (λ s. P (Err s))

-- the same of what a view shows of the answer
abbrev pub GivesAtBy : {A B : Type 0} → Result A MapStop → (A → B) → (Result B (ℕ × Passes) → Type 0) → Type 0
GivesAtBy (Ok x) view P = P (Ok (view x))
GivesAtBy (Err stop) view P = OnRow stop (λ s. P (Err s))

-- a fact that follows from another follows of what passes
pub OnRow-weaker : (stop : MapStop) (P Q : ℕ × Passes → Type 0) → ((s : ℕ × Passes) → P s → Q s) → OnRow stop P → OnRow stop Q
OnRow-weaker (stops.Passes row passes) P Q f h = f (row, passes) h
OnRow-weaker stops.Memory P Q f h = tt
