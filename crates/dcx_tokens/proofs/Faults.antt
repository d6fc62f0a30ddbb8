-- The faults of a reading are those of tokens.
use Rattle.std.proofs.Common.{ℕ, ◌-◌, Bool, true, false, cond, List, [], ◌∷◌, ◌++◌, length, take, Option, Some, None, subst}
use Rattle.std.specs.Prelude.{Result, Ok, Err, IfSome, slice_get}
use Rattle.dcx_shape.specs.declared.place.Place.{Place}
use Rattle.dcx_frac.specs.declared.fraction.Frac.{Frac}
use Rattle.dcx_tokens.specs.declared.fault.ReadFault.{ReadFault}
use Rattle.dcx_tokens.specs.declared.fault.ReadFault.TheVariants as fault
use Rattle.dcx_tokens.specs.declared.front.Front.{Front}
use Rattle.dcx_tokens.specs.declared.front.Front.TheVariants as fronts
use Rattle.dcx_tokens.specs.declared.reader.Line.{Line}
use Rattle.dcx_tokens.specs.declared.reader.Line.TheVariants.{Lead, Begun}
use Rattle.dcx_tokens.specs.declared.token.Symbol.{Symbol}
use Rattle.dcx_tokens.specs.declared.token.Token.{Token}
use Rattle.dcx_tokens.specs.declared.token.TokenKind.{TokenKind}
use Rattle.dcx_tokens.specs.declared.token.TokenKind.TheVariants as kind
use Rattle.dcx_tokens.specs.Front.{front_at}
use Rattle.dcx_tokens.specs.Laws.{IsOfTokens}
use Rattle.dcx_tokens.specs.Layout.{is_deeper, is_standing, opens, closes}
use Rattle.dcx_tokens.specs.Lexeme.{token_at, number_or, text_or}
use Rattle.dcx_tokens.specs.Reading.{Reads, ends, stops, goes_on, fault_of}
use Rattle.dcx_tokens.specs.State.{State, Answer, and_then, put, is_full, dedented, begin_line, line_begun_at, nested, token_read, front_read, step, finished_at, finished}
use Rattle.dcx_tokens.proofs.Kept.{token_next, line_next}

-- if this is a fault, it is one of tokens
abbrev IsRead : {A : Type 0} → Result A ReadFault → Type 0
IsRead (Ok a) = Unit {0}
IsRead (Err f) = IsOfTokens f

then_read : {A B : Type 0} (answer : Answer A) (next : State → A → Answer B) → IsRead answer.1 → ((t : State) (a : A) → IsRead (next t a).1) → IsRead (and_then answer next).1
then_read (t, Ok a) next h on = on t a
then_read (t, Err f) next h on = h

begin_line_read : (s : State) (spaces : ℕ) (has_tab : Bool) → IsRead (begin_line s spaces has_tab).1
begin_line_read s spaces has_tab = by has_tab (is_deeper s.indents spaces) (is_full s) (is_standing s.indents spaces)
  where
    by : (t d f st : Bool) → IsRead (cond {A = Answer (Unit {0})} t (s, Err (fault.Indent s.at.place)) (cond {A = Answer (Unit {0})} d
        (cond {A = Answer (Unit {0})} f (s, Err (fault.TooDeep s.at.place)) (record (put s kind.Indent []) { indents = s.indents ++ spaces ∷ []; line = Begun }, Ok tt))
        (cond {A = Answer (Unit {0})} st (dedented s spaces, Ok tt) (s, Err (fault.Indent s.at.place))))).1
    by true d f st = tt
    by false true true st = tt
    by false true false st = tt
    by false false f true = tt
    by false false f false = tt

line_begun_read : (s : State) (line : Line) → IsRead (line_begun_at s line).1
line_begun_read s Begun = tt
line_begun_read s (Lead spaces has_tab) = begin_line_read s spaces has_tab

sign_nested_read : (s : State) (symbol : Symbol) → IsRead (nested s (kind.Sign symbol)).1
sign_nested_read s symbol = by (opens symbol) (is_full s) (closes symbol)
  where
    by : (o f c : Bool) → IsRead (cond {A = Answer (Unit {0})} o
        (cond {A = Answer (Unit {0})} f (s, Err (fault.TooDeep s.at.place)) (record s { brackets = s.brackets ++ s.at.place ∷ [] }, Ok tt))
        (cond {A = Answer (Unit {0})} c (record s { brackets = take (length s.brackets - 1) s.brackets }, Ok tt) (s, Ok tt))).1
    by true true c = tt
    by true false c = tt
    by false f true = tt
    by false f false = tt

nested_read : (s : State) (k : TokenKind) → IsRead (nested s k).1
nested_read s (kind.Sign symbol) = sign_nested_read s symbol
nested_read s kind.Name = tt
nested_read s (kind.Keyword w) = tt
nested_read s (kind.Number n) = tt
nested_read s kind.Text = tt
nested_read s kind.Newline = tt
nested_read s kind.Indent = tt
nested_read s kind.Dedent = tt

number_read : (place : Place) (o : Option (Frac × ℕ)) → IsRead (number_or place o)
number_read place (Some n) = tt
number_read place None = tt

text_read : (place : Place) (o : Option ℕ) → IsRead (text_or place o)
text_read place (Some n) = tt
text_read place None = tt

token_at_read : (place : Place) (front : Front) (c : ℕ) (cs : List ℕ) → IsRead (token_at place front c cs)
unfolding token_at
token_at_read place fronts.Name c cs = tt
token_at_read place fronts.Number c cs = number_read place _
token_at_read place fronts.Text c cs = text_read place _
token_at_read place (fronts.Sign symbol) c cs = tt
token_at_read place fronts.LineEnd c cs = tt
token_at_read place fronts.Blank c cs = tt
token_at_read place fronts.Comment c cs = tt
token_at_read place fronts.Other c cs = tt

token_is_read : (s : State) (front : Front) (c : ℕ) (cs : List ℕ) → IsRead (token_read s front c cs).1
token_is_read s front c cs =
    then_read (line_begun_at s s.line) (line_next front c cs) (line_begun_read s s.line) (λ t begun.
    then_read (t, token_at t.at.place front c cs) (token_next c cs) (token_at_read t.at.place front c cs) (λ u token.
    then_read (nested u token.0) (λ v nest. (put v token.0 (take token.1 (c ∷ cs)), Ok token.1)) (nested_read u token.0) (λ v nest. tt)))

front_is_read : (s : State) (front : Front) (c : ℕ) (cs : List ℕ) → IsRead (front_read s front c cs).1
front_is_read s fronts.LineEnd c cs = tt
front_is_read s fronts.Blank c cs = tt
front_is_read s fronts.Comment c cs = tt
front_is_read s fronts.Other c cs = tt
front_is_read s fronts.Name c cs = token_is_read s fronts.Name c cs
front_is_read s fronts.Number c cs = token_is_read s fronts.Number c cs
front_is_read s fronts.Text c cs = token_is_read s fronts.Text c cs
front_is_read s (fronts.Sign symbol) c cs = token_is_read s (fronts.Sign symbol) c cs

step_read : (s : State) (c : ℕ) (cs : List ℕ) → IsRead (step s c cs).1
unfolding step
step_read s c cs = front_is_read s (front_at c cs) c cs

finished_read : (s : State) → IsRead (finished s).1
unfolding finished
finished_read s = by (slice_get s.brackets (length s.brackets - 1))
  where
    by : (o : Option Place) → IsRead (finished_at s o).1
    by (Some opener) = tt
    by None = tt

told : {A : Type 0} (answer : Result A ReadFault) → IsRead answer → IfSome (fault_of answer) IsOfTokens
told (Ok a) h = tt
told (Err f) h = h

pub of_tokens : {s : State} {cs : List ℕ} {ts : List Token} {f : Option ReadFault} → Reads s cs ts f → IfSome f IsOfTokens
of_tokens {s = s} (ends {answer = answer} e are is) = subst (λ (g : Option ReadFault). IfSome g IsOfTokens) is (told answer (subst (λ (p : Answer (Unit {0})). IsRead p.1) e (finished_read s)))
of_tokens {s = s} {cs = c ∷ cs} (stops e are is) = subst (λ (g : Option ReadFault). IfSome g IsOfTokens) is (subst (λ (p : Answer ℕ). IsRead p.1) e (step_read s c cs))
of_tokens (goes_on e more) = of_tokens more
