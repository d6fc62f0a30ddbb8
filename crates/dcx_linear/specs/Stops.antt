-- What an operation that takes memory answers, where its meaning knows none.
use Rattle.std.specs.Prelude.{⊤, Result, Ok, Err}
use Rattle.dcx_frac.specs.declared.fraction.Passes.{Passes}
use Rattle.dcx_linear.specs.declared.stop.CoefStop.{CoefStop}
use Rattle.dcx_linear.specs.declared.stop.CoefStop.TheVariants as stops

-- the fact holds of what passes; nothing is said of want of memory
abbrev pub OnPass : CoefStop → (Passes → Type 0) → Type 0
OnPass (stops.Passes passes) P = P passes
OnPass stops.Memory P = ⊤

-- the answer is one that the operation gives, or memory ran out
abbrev pub Gives : {A : Type 0} → Result A CoefStop → (Result A Passes → Type 0) → Type 0
Gives (Ok x) P = P (Ok x)
Gives (Err stop) P = OnPass stop (λ passes. P (Err passes))

-- the same of what a view shows of the answer
abbrev pub GivesBy : {A B : Type 0} → Result A CoefStop → (A → B) → (Result B Passes → Type 0) → Type 0
GivesBy (Ok x) view P = P (Ok (view x))
GivesBy (Err stop) view P = OnPass stop (λ passes. P (Err passes))

-- a fact that follows from another follows of what passes
pub OnPass-weaker : (stop : CoefStop) (P Q : Passes → Type 0) → ((passes : Passes) → P passes → Q passes) → OnPass stop P → OnPass stop Q
OnPass-weaker (stops.Passes passes) P Q f h = f passes h
OnPass-weaker stops.Memory P Q f h = tt
