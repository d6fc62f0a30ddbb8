-- Checks of a certificate: what each demands, the faults that tell where it fails, and checks one after the other.
use Rattle.std.specs.Prelude.{◌≡◌, ◌⊎◌, ⊤, ℕ, ◌<◌, Result, Ok, Err}
use Rattle.dcx_answer.specs.declared.cert_fault.CertFault.{CertFault}
use Rattle.dcx_answer.specs.declared.cert_fault.CertFault.TheVariants.{Memory}

-- a check: when it passes, and which fault tells where it fails
pub record Check : Type 1 where
  pub passes : Type 0
  pub fails : CertFault → Type 0

-- no check at all
abbrev pub nothing : Check
nothing = record { passes = ⊤; fails = λ f. ⊥ }

-- a check and then another one: the fault of the second counts where the first passes
abbrev pub in_turn : Check → Check → Check
in_turn a b = record {
  passes = a.passes × b.passes;
  fails = λ f. a.fails f ⊎ (a.passes × b.fails f);
}

-- of so many checks, in order, the first that fails is number k
pub record IsFirstOf (count : ℕ) (check : ℕ → Check) (f : CertFault) : Type 0 where
  pub position : ℕ
  pub there : position < count
  pub before : (k : ℕ) → k < position → (check k).passes
  pub here : (check position).fails f

-- so many checks, in order
abbrev pub each_below : ℕ → (ℕ → Check) → Check
each_below count check = record {
  passes = (k : ℕ) → k < count → (check k).passes;
  fails = IsFirstOf count check;
}

-- what a check comes to: it passes, or fails with the fault, or memory ran out
abbrev pub Checked : {T : Type 0} → Check → Result T CertFault → Type 0
Checked check (Ok x) = check.passes
Checked check (Err f) = (f ≡ Memory) ⊎ check.fails f
