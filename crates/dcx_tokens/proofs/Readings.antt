-- How a reading goes on and ends, at what the code tells of its steps.
use Rattle.std.proofs.Common.{◌≡◌, ◌≢◌, ℕ, ◌-◌, ◌<◌, ◌≤◌, List, [], ◌∷◌, length, take, drop, get_or, Option, Some, None, refl, subst, arith}
use Rattle.std.specs.Prelude.{Ok, Err}
use Rattle.std.proofs.lemmas.List.{take_all}
use Rattle.dcx_tokens.specs.declared.fault.ReadFault.{ReadFault}
use Rattle.dcx_tokens.specs.declared.fault.ReadFault.TheVariants as fault
use Rattle.dcx_tokens.specs.declared.reader.Reader.{Reader}
use Rattle.dcx_tokens.specs.declared.token.Token.{Token}
use Rattle.dcx_tokens.specs.State.{State, step, finished}
use Rattle.dcx_tokens.specs.Reading.{Reads, ends, stops, goes_on}
use Rattle.dcx_tokens.specs.View.{state_of, Gives}

-- the characters behind the first
abbrev pub behind_first : List ℕ → List ℕ
behind_first rest = take (length rest - 1) (drop 1 rest)

-- what stands in front was read, and then the rest
pub read_on : (s t : State) (rest : List ℕ) (c n : ℕ) (ts : List Token) (f : Option ReadFault) →
    1 ≤ length rest → c ≡ get_or rest 0 c → step s c (behind_first rest) ≡ (t, Ok n) → Reads t (drop n rest) ts f → Reads s rest ts f
read_on s t [] c n ts f some is e more = absurd (omega arith)
read_on s t (d ∷ ds) c n ts f some is e more =
    let all : take (length (d ∷ ds) - 1) ds ≡ ds = take_all (length (d ∷ ds) - 1) ds (omega arith) in
    goes_on (subst (λ (x : ℕ). step s x ds ≡ (t, Ok n)) is (subst (λ (xs : List ℕ). step s c xs ≡ (t, Ok n)) all e)) more

stops_by : (s : State) (c : ℕ) (cs : List ℕ) (new : Reader) (f : ReadFault) → f ≢ fault.Memory → Gives {A = ℕ} new (Err f) (step s c cs) → Reads s (c ∷ cs) new.tokens.items (Some f)
stops_by s c cs new fault.Memory other e = absurd (other refl)
stops_by s c cs new (fault.NotText p) other e = stops e refl refl
stops_by s c cs new (fault.BadChar p) other e = stops e refl refl
stops_by s c cs new (fault.BadNumber p) other e = stops e refl refl
stops_by s c cs new (fault.Unclosed p) other e = stops e refl refl
stops_by s c cs new (fault.Indent p) other e = stops e refl refl
stops_by s c cs new (fault.Unexpected p) other e = stops e refl refl
stops_by s c cs new (fault.TooDeep p) other e = stops e refl refl
stops_by s c cs new (fault.TooLong p) other e = stops e refl refl

-- what stands in front had a fault
pub stopped : (s : State) (rest : List ℕ) (c : ℕ) (new : Reader) (f : ReadFault) →
    1 ≤ length rest → c ≡ get_or rest 0 c → f ≢ fault.Memory → Gives {A = ℕ} new (Err f) (step s c (behind_first rest)) → Reads s rest new.tokens.items (Some f)
stopped s [] c new f some is other e = absurd (omega arith)
stopped s (d ∷ ds) c new f some is other e =
    let all : take (length (d ∷ ds) - 1) ds ≡ ds = take_all (length (d ∷ ds) - 1) ds (omega arith) in
    stops_by s d ds new f other (subst (λ (x : ℕ). Gives {A = ℕ} new (Err f) (step s x ds)) is (subst (λ (xs : List ℕ). Gives {A = ℕ} new (Err f) (step s c xs)) all e))

-- the text ended
pub ended : (s : State) (rest : List ℕ) (new : Reader) → length rest < 1 → finished s ≡ (state_of new, Ok tt) → Reads s rest new.tokens.items None
ended s [] new none e = ends e refl refl
ended s (c ∷ cs) new none e = absurd (omega arith)

ends_by : (s : State) (new : Reader) (f : ReadFault) → f ≢ fault.Memory → Gives {A = Unit {0}} new (Err f) (finished s) → Reads s [] new.tokens.items (Some f)
ends_by s new fault.Memory other e = absurd (other refl)
ends_by s new (fault.NotText p) other e = ends e refl refl
ends_by s new (fault.BadChar p) other e = ends e refl refl
ends_by s new (fault.BadNumber p) other e = ends e refl refl
ends_by s new (fault.Unclosed p) other e = ends e refl refl
ends_by s new (fault.Indent p) other e = ends e refl refl
ends_by s new (fault.Unexpected p) other e = ends e refl refl
ends_by s new (fault.TooDeep p) other e = ends e refl refl
ends_by s new (fault.TooLong p) other e = ends e refl refl

-- the text ended with a fault
pub ended_badly : (s : State) (rest : List ℕ) (new : Reader) (f : ReadFault) → length rest < 1 → f ≢ fault.Memory → Gives {A = Unit {0}} new (Err f) (finished s)
    → Reads s rest new.tokens.items (Some f)
ended_badly s [] new f none other e = ends_by s new f other e
ended_badly s (c ∷ cs) new f none other e = absurd (omega arith)
