-- The tokens of a text and the first fault that a reading from left to right meets.
use Rattle.std.specs.Prelude.{◌≡◌, ℕ, List, [], ◌∷◌, drop, Option, Some, None, Result, Ok, Err}
use Rattle.std.specs.Str.{chars}
use Rattle.dcx_tokens.specs.declared.fault.ReadFault.{ReadFault}
use Rattle.dcx_tokens.specs.declared.token.Token.{Token}
use Rattle.dcx_tokens.specs.State.{State, step, finished, start}

-- the fault that an answer is
abbrev pub fault_of : {A : Type 0} → Result A ReadFault → Option ReadFault
fault_of (Ok a) = None
fault_of (Err f) = Some f

-- Reads s cs tokens fault: behind the state s, the characters cs give these tokens in all, up to the end or this fault
pub data Reads : State → List ℕ → List Token → Option ReadFault → Type 0 where
  -- the text is at its end
  ends : {s t : State} {answer : Result (Unit {0}) ReadFault} {tokens : List Token} {fault : Option ReadFault} →
      finished s ≡ (t, answer) → t.tokens ≡ tokens → fault_of answer ≡ fault → Reads s [] tokens fault
  -- what stands in front has a fault
  stops : {s t : State} {c : ℕ} {cs : List ℕ} {f : ReadFault} {tokens : List Token} {fault : Option ReadFault} →
      step s c cs ≡ (t, Err f) → t.tokens ≡ tokens → Some f ≡ fault → Reads s (c ∷ cs) tokens fault
  -- what stands in front is read, and then the rest
  goes_on : {s t : State} {c : ℕ} {cs : List ℕ} {n : ℕ} {tokens : List Token} {fault : Option ReadFault} →
      step s c cs ≡ (t, Ok n) → Reads t (drop n (c ∷ cs)) tokens fault → Reads s (c ∷ cs) tokens fault

-- the tokens of a text, up to its end or to the first fault
abbrev pub IsLexed : List ℕ → List Token → Option ReadFault → Type 0
IsLexed text tokens fault = Reads start (chars text) tokens fault
