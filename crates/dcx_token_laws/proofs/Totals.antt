-- Each text has a reading: a step reads a character at least.
use Rattle.std.proofs.Common.{◌≡◌, ℕ, zero, suc, ◌<◌, ◌≤◌, List, [], ◌∷◌, length, drop, Option, Some, refl, arith}
use Rattle.std.specs.Prelude.{Ok, Err}
use Rattle.std.proofs.lemmas.List.{length-drop}
use Rattle.dcx_tokens.specs.declared.fault.ReadFault.{ReadFault}
use Rattle.dcx_tokens.specs.declared.token.Token.{Token}
use Rattle.dcx_tokens.specs.declared.token.TokenKind.{TokenKind}
use Rattle.dcx_tokens.specs.Reading.{Reads, ends, stops, goes_on, fault_of}
use Rattle.dcx_tokens.specs.State.{State, Answer, finished, step}
use Rattle.dcx_tokens.proofs.Lengths.{number_some}
use Rattle.dcx_token_laws.proofs.Steps.{IsToken, name, number, text, sign, Step, line_end, blank, comment, word, stepped}
use Rattle.dcx_tokens.proofs.Kept.{line_end_some, sign_some}

pub token_long : (c : ℕ) (cs : List ℕ) (k : TokenKind) (n : ℕ) → IsToken c cs k n → 0 < n
token_long c cs k n (name b count is) = omega (arith, count)
token_long c cs k n (number x b d e same) = number_some c cs (x, n) d e
token_long c cs k n (text m b d q e count same) = omega (arith, count)
token_long c cs k n (sign s b d q e count same) = let some = sign_some s in omega (arith, count, some)

step_long : (s t : State) (c : ℕ) (cs : List ℕ) (n : ℕ) → Step s t c cs n → 0 < n
step_long s t c cs n (line_end l count same) = let some = line_end_some c in omega (arith, count, some)
step_long s t c cs n (blank l b count same) = omega (arith, count)
step_long s t c cs n (comment l h count same) = omega (arith, count)
step_long s t c cs n (word u v k l b begins_so token nested_so same) = token_long c cs k n token

pub record HasReading (s : State) (cs : List ℕ) : Type 0 where
  pub tokens : List Token
  pub told : Option ReadFault
  pub reads : Reads s cs tokens told

pub reading : (m : ℕ) (s : State) (cs : List ℕ) → length cs ≤ m → HasReading s cs
reading m s [] le = by (finished s) refl
  where
    by : (answer : Answer (Unit {0})) → finished s ≡ answer → HasReading s []
    by (t, answer) e = record { tokens = t.tokens; told = fault_of answer; reads = ends e refl refl }
reading zero s (c ∷ cs) le = absurd (omega (arith, le))
reading (suc m) s (c ∷ cs) le = by (step s c cs) refl (λ t n small. reading m t (drop n (c ∷ cs)) small)
  where
    by : (answer : Answer ℕ) → step s c cs ≡ answer → ((t : State) (n : ℕ) → length (drop n (c ∷ cs)) ≤ m → HasReading t (drop n (c ∷ cs))) → HasReading s (c ∷ cs)
    by (t, Err f) e later = record { tokens = t.tokens; told = Some f; reads = stops e refl refl }
    by (t, Ok n) e later =
        let some = step_long s t c cs n (stepped s t c cs n e) in
        let less = length-drop n (c ∷ cs) in
        let more = later t n (omega (arith, some, less, le)) in
        record { tokens = more.tokens; told = more.told; reads = goes_on e more.reads }
