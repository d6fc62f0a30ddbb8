-- Entries that are formed, and the first that isn't.
use Rattle.std.proofs.Common.{◌≡◌, ℕ, ◌<◌, arith, sym, ◌∙◌, subst, Result, IsOk, Option, None, Some, IfSome}
use Rattle.dcx_frac.specs.declared.fraction.Frac.{Frac}
use Rattle.dcx_atom.specs.declared.stops.ValueStop.{ValueStop}
use Rattle.dcx_atom.specs.declared.stops.ValueStop.TheVariants.{Passes, ZeroDivisor, Memory}
pub use Rattle.dcx_atom.proofs.Entrywise.{formed_count, formed_entry, formed_before, formed_alike}
use Rattle.dcx_call.specs.Forming.{IsFirst, IsStop}

abbrev pub Forming : Type 0
Forming = ℕ → Result Frac ValueStop

-- the first stop is a stop
pub is_stop : (f : Forming) (size : ℕ) (stop : ValueStop) → IsFirst f size stop → IsStop f size stop
is_stop f size (Passes entry passes) h = h
is_stop f size (ZeroDivisor entry) h = h
is_stop f size Memory h = tt

-- entries that are formed alike
first_alike : (f g : Forming) (n : ℕ) (stop : ValueStop) → ((j : ℕ) → j < n → f j ≡ g j) → IsFirst f n stop → IsFirst g n stop
first_alike f g n stop same h = record {
  entry = h.entry;
  within = h.within;
  before = λ j b. subst IsOk (same j (omega (arith, h.within))) (h.before j b);
  here = sym (same h.entry h.within) ∙ h.here;
}

pub stop_alike : (f g : Forming) (n : ℕ) (stop : ValueStop) → ((j : ℕ) → j < n → f j ≡ g j) → IsStop f n stop → IsStop g n stop
stop_alike f g n (Passes entry passes) same h = first_alike f g n (Passes entry passes) same h
stop_alike f g n (ZeroDivisor entry) same h = first_alike f g n (ZeroDivisor entry) same h
stop_alike f g n Memory same h = tt

-- what holds of each value holds of what is there
pub some_weaker : {A : Type 0} {P Q : A → Type 0} (o : Option A) → ((x : A) → P x → Q x) → IfSome o P → IfSome o Q
some_weaker None f h = h
some_weaker (Some x) f h = f x h

-- a fact of what is there
pub some_fact : {A : Type 0} (P : A → Type 0) (o : Option A) (x : A) → o ≡ Some x → IfSome o P → P x
some_fact P o x e h = subst (λ p. IfSome p P) e h

pub fact_some : {A : Type 0} (P : A → Type 0) (o : Option A) (x : A) → o ≡ Some x → P x → IfSome o P
fact_some P o x e h = subst (λ p. IfSome p P) (sym e) h
