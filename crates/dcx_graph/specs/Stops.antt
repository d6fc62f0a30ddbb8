-- What forming rows answers, where its meaning knows no want of memory.
use Rattle.std.specs.Prelude.{◌≡◌, ◌⊎◌, ℕ, Result, Ok, Err}
use Rattle.dcx_frac.specs.declared.fraction.Passes.{Passes}
use Rattle.dcx_linear.specs.declared.stop.CoefStop.{CoefStop}
use Rattle.dcx_linear.specs.declared.stop.CoefStop.TheVariants as coefs
use Rattle.dcx_answer.specs.declared.site.Site.{Site}
use Rattle.dcx_answer.specs.declared.site.Site.TheVariants as sites
use Rattle.dcx_graph.specs.declared.stop.ReduceStop.{ReduceStop}
use Rattle.dcx_graph.specs.declared.stop.ReduceStop.TheVariants as stops

-- an operation passes at a row, of which the fact holds, or memory ran out
abbrev pub IsWideAt : (ℕ → Passes → Site) → (ℕ × Passes → Type 0) → ReduceStop → Type 0
IsWideAt site P e = ((s : ℕ × Passes) × (e ≡ stops.Wide (site s.0 s.1)) × P s) ⊎ (e ≡ stops.Memory)

-- what a view shows of the answer is what is formed, or what passes is told with its row, or memory ran out
abbrev pub TellsBy : {A B : Type 0} → (ℕ → Passes → Site) → Result A ReduceStop → (A → B) → (Result B (ℕ × Passes) → Type 0) → Type 0
TellsBy site (Ok x) view P = P (Ok (view x))
TellsBy site (Err e) view P = IsWideAt site (λ s. P (Err s)) e

-- the same of the answer itself
abbrev pub Tells : {A : Type 0} → (ℕ → Passes → Site) → Result A ReduceStop → (Result A (ℕ × Passes) → Type 0) → Type 0
Tells site r P = TellsBy site r (λ x. x) P

-- what stops row n
abbrev pub stop_at_row : ℕ → CoefStop → ReduceStop
stop_at_row n (coefs.Passes passes) = stops.Wide (sites.Row n passes)
stop_at_row n coefs.Memory = stops.Memory
