-- What parsing all tokens answers, and where the first unexpected one stands.
use Rattle.std.proofs.Common.{Ok, Err, Result, ◌≡◌, ◌-◌, ◌≤◌, ◌<◌, ℕ, List, [], ◌∷◌, ◌++◌, length, take, drop, arith, refl, sym, ap, subst, ◌∙◌}
use Rattle.std.proofs.lemmas.List.{length-map, length-append, drop-map, take-append-drop}
use Rattle.std.proofs.Math.Seq.{drop-append_seam}
use Rattle.dcx_shape.specs.declared.place.Place.{Place}
use Rattle.dcx_tokens.specs.declared.token.Token.{Token}
use Rattle.dcx_tokens.specs.declared.fault.ReadFault.{ReadFault}
use Rattle.dcx_tokens.specs.declared.fault.ReadFault.TheVariants as fault
use Rattle.dcx_tokens.specs.File.{IsText, IsNoText}
use Rattle.dcx_tokens.specs.Lexed.{Lexes}
use Rattle.dcx_tokens.specs.Position.{end_of}
use Rattle.dcx_tokens.proofs.Faults.{of_tokens}
use Rattle.dcx_read.specs.declared.front.Stop.{Stop}
use Rattle.dcx_read.specs.declared.front.Stop.TheVariants as stops
use Rattle.dcx_syntax.specs.declared.tree.Script.{Script}
use Rattle.dcx_syntax.specs.Terminal.{Terminal}
use Rattle.dcx_read.specs.Terminals.{terminal_of, terminals}
use Rattle.dcx_syntax.specs.Statements.{Lines, trimmed_all}
use Rattle.dcx_read.specs.Moves.{lines_s}
use Rattle.dcx_read.specs.Steps.{Gives, Stops}
use Rattle.dcx_read.specs.Whole.{IsUnexpected}
use Rattle.dcx_syntax.specs.View.{script_view}
use Rattle.dcx_read.specs.Parses.{IsTree, ReadsScript, stop_fault, Parses, HasTokens, IsReading, no_text, no_tokens, first_place, IsUnexpectedAt}
use Rattle.dcx_read.proofs.Whole.{read-whole, read-more, read-stops}

same-rest : (text : List ℕ) (ts rest : List Token) (front : List Terminal) → terminals text ts ≡ front ++ terminals text rest → terminals text (drop (length ts - length rest) ts) ≡ terminals text rest
same-rest text ts rest front e =
    let a = length-map ts (terminal_of text) in
    let b = length-map rest (terminal_of text) in
    let d : length (terminals text ts) ≡ length (front ++ terminals text rest) = ap length e in
    let k = length-append front (terminals text rest) in
    let count : length ts - length rest ≡ length front = omega (arith, a, b, d, k) in
    sym (drop-map (terminal_of text) (length ts - length rest) ts) ∙ ap (drop (length ts - length rest)) e ∙ ap (λ n. drop n (front ++ terminals text rest)) count
    ∙ drop-append_seam front (terminals text rest)

place-found : (text : List ℕ) (ts rest : List Token) (end place : Place) → IsUnexpected (terminals text ts) (terminals text rest)
    → place ≡ first_place (drop (length ts - length rest) ts) end → IsUnexpectedAt text ts end place
place-found text ts rest end place u e = record {
  before = take (length ts - length rest) ts;
  rest = drop (length ts - length rest) ts;
  parts = sym (take-append-drop (length ts - length rest) ts);
  unexpected = subst (λ (us : List Terminal). IsUnexpected (terminals text ts) us) (sym (same-rest text ts rest u.front u.parts)) u;
  at = e;
}

-- reading stops at a token
pub script-stops : (text : List ℕ) (ts : List Token) (e : Stop) → Stops lines_s text (terminals text ts) e → ReadsScript text ts (Err e)
script-stops text ts stops.Memory h = tt
script-stops text ts (stops.At rest) h = read-stops (terminals text ts) (terminals text rest.now) h

-- lines are read, and tokens are left
pub script-more : (text : List ℕ) (ts rest : List Token) (x : Lines) → Gives lines_s (terminals text ts) x (terminals text rest) → 1 ≤ length rest
    → IsUnexpected (terminals text ts) (terminals text rest)
script-more text ts [] x g n = absurd (omega arith)
script-more text ts (t ∷ rest) x g n = read-more (terminals text ts) (terminals text rest) (terminal_of text t) x g

-- lines are read, and no token is left
pub script-whole : (text : List ℕ) (ts rest : List Token) (x : Lines) (s : Script) → Gives lines_s (terminals text ts) x (terminals text rest) → length rest < 1
    → script_view s ≡ trimmed_all x → IsTree text ts s
script-whole text ts [] x s g n e = record { tree = x; spelled = read-whole (terminals text ts) x g; kept = e }
script-whole text ts (t ∷ rest) x s g n e = absurd (omega arith)

pub stop-parses : (text : List ℕ) (ts : List Token) (end : Place) (e : Stop) (f : ReadFault) → f ≡ stop_fault e ts end → ReadsScript text ts (Err e) → Parses text ts end (Err f)
stop-parses text ts end stops.Memory f h r = rw h tt
stop-parses text ts end (stops.At rest) f h r = rw h (place-found text ts rest.now end _ r refl)

-- the bytes are no text
pub text-reads : (bytes : List ℕ) (f : ReadFault) → IsNoText bytes f → IsReading bytes (Err f)
text-reads bytes fault.Memory h = tt
text-reads bytes (fault.TooLong p) h = no_text h
text-reads bytes (fault.NotText p) h = no_text h
text-reads bytes (fault.Unexpected p) h = absurd h
text-reads bytes (fault.BadChar p) h = absurd h
text-reads bytes (fault.BadNumber p) h = absurd h
text-reads bytes (fault.Unclosed p) h = absurd h
text-reads bytes (fault.Indent p) h = absurd h
text-reads bytes (fault.TooDeep p) h = absurd h

-- the first fault of the tokens
pub lex-reads : (bytes : List ℕ) (f : ReadFault) → Lexes bytes (Err f) → IsText bytes → IsReading bytes (Err f)
lex-reads bytes fault.Memory h t = tt
lex-reads bytes (fault.TooLong p) h t = absurd (of_tokens h.1)
lex-reads bytes (fault.NotText p) h t = absurd (of_tokens h.1)
lex-reads bytes (fault.Unexpected p) h t = absurd (of_tokens h.1)
lex-reads bytes (fault.BadChar p) h t = no_tokens h.0 t h.1
lex-reads bytes (fault.BadNumber p) h t = no_tokens h.0 t h.1
lex-reads bytes (fault.Unclosed p) h t = no_tokens h.0 t h.1
lex-reads bytes (fault.Indent p) h t = no_tokens h.0 t h.1
lex-reads bytes (fault.TooDeep p) h t = no_tokens h.0 t h.1

-- the tokens are parsed
pub parse-reads : (bytes : List ℕ) (ts : List Token) (end : Place) (r : Result Script ReadFault) → HasTokens bytes ts → end ≡ end_of bytes → Parses bytes ts end r → IsReading bytes r
parse-reads bytes ts end (Ok s) t e h = (ts, (t, h))
parse-reads bytes ts end (Err fault.Memory) t e h = tt
parse-reads bytes ts end (Err (fault.Unexpected p)) t e h = (ts, (t, subst (λ q. IsUnexpectedAt bytes ts q p) e h))
parse-reads bytes ts end (Err (fault.TooLong p)) t e h = absurd h
parse-reads bytes ts end (Err (fault.NotText p)) t e h = absurd h
parse-reads bytes ts end (Err (fault.BadChar p)) t e h = absurd h
parse-reads bytes ts end (Err (fault.BadNumber p)) t e h = absurd h
parse-reads bytes ts end (Err (fault.Unclosed p)) t e h = absurd h
parse-reads bytes ts end (Err (fault.Indent p)) t e h = absurd h
parse-reads bytes ts end (Err (fault.TooDeep p)) t e h = absurd h
