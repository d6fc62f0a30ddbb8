-- Tokens that are read up to a fault are those with which lines begin.
use Rattle.std.proofs.Common.{◌≡◌, inl, inr, ℕ, zero, suc, ◌+◌, ◌-◌, List, [], ◌∷◌, ◌++◌, length, take, replicate, Option, Some, refl, sym, ap, ◌∙◌, subst, append_assoc, arith}
use Rattle.std.specs.Prelude.{Err}
use Rattle.std.specs.List.{All}
use Rattle.std.proofs.lemmas.List.Elements.{All-nil, All-cons, All-replicate}
use Rattle.dcx_shape.specs.declared.place.Place.{Place}
use Rattle.dcx_tokens.specs.declared.fault.ReadFault.{ReadFault}
use Rattle.dcx_tokens.specs.declared.token.Symbol.TheVariants as symbol
use Rattle.dcx_tokens.specs.declared.token.Token.{Token}
use Rattle.dcx_tokens.specs.declared.token.TokenKind.TheVariants as kind
use Rattle.dcx_tokens.specs.Front.{line_end_len}
use Rattle.dcx_tokens.specs.Laws.{brackets_left}
use Rattle.dcx_tokens.specs.Reading.{Reads, ends, stops, goes_on, IsLexed}
use Rattle.dcx_tokens.specs.State.{State, line_ended, step}
use Rattle.dcx_token_laws.specs.Lines.{IsOfWords, depth_of, kinds, IsTogether, AreLines, ended, line, Turns}
use Rattle.dcx_token_laws.proofs.Depths.{Stage, within, leads, closing, IsLined, turned, kinds-replicate, next}
use Rattle.dcx_token_laws.proofs.Forms.{IsFormed, begun_is, turns}
use Rattle.dcx_token_laws.proofs.Rising.{IsRising}
use Rattle.dcx_token_laws.proofs.Steps.{stepped, line_end_front}
use Rattle.dcx_token_laws.proofs.Stopped.{EndIf, end_stops}
use Rattle.dcx_token_laws.proofs.Stops.{Stops, at_once, begun, stopped, never_err}

-- ---- tokens that end what is open
closer : ℕ → Token
closer row = record { kind = kind.Sign symbol.CloseRound; start = 0; end = 0; place = record { line = row; column = 1 } }

line_end : ℕ → Token
line_end row = record { kind = kind.Newline; start = 0; end = 0; place = record { line = row; column = 1 } }

last : Token
last = record { kind = kind.Dedent; start = 0; end = 0; place = record { line = 1; column = 1 } }

all_closed : (row n : ℕ) → brackets_left n (replicate n (closer row)) ≡ 0
unfolding closer
all_closed row zero = refl
all_closed row (suc n) = ap (λ m. brackets_left m (replicate n (closer row))) (omega arith) ∙ all_closed row n

all_together : (row n b : ℕ) → IsTogether row b (replicate n (closer row) ++ line_end row ∷ [])
unfolding closer line_end
all_together row zero b = (inl refl, tt)
all_together row (suc n) b = (inl refl, all_together row n (b - 1))

all_last : (n : ℕ) → kinds (replicate n last) ≡ replicate n kind.Dedent
unfolding last
all_last n = kinds-replicate n last

-- what is read goes on with them
record Completes (s : State) (cs : List ℕ) (ts : List Token) (stage : Stage s cs) : Type 0 where
  more : List Token
  lined : IsLined s cs (ts ++ more) stage

complete : (s : State) (cs : List ℕ) (stage : Stage s cs) → Completes s cs s.tokens stage
unfolding closer line_end
complete s cs (within row is here) =
    let n = length s.brackets in
    let new = replicate n (closer row) ++ line_end row ∷ replicate (length s.indents) last in
    record {
      more = new;
      lined = record {
        new = new;
        tokens = refl;
        goes = record {
          more = replicate n (closer row);
          end = line_end row;
          behind = replicate (length s.indents) last;
          are = refl;
          words = All-replicate (λ t. IsOfWords t.kind) n (closer row) tt;
          closed = all_closed row n;
          together = all_together row n n;
          newline = refl;
          lines = ended (all_last (length s.indents));
        };
      };
    }
complete s cs (leads blanks is none column last_one) =
    record { more = replicate (length s.indents) last; lined = record { new = replicate (length s.indents) last; tokens = refl; goes = ended (all_last (length s.indents)) } }
complete s cs (closing blanks is none end) =
    record { more = replicate (length s.indents) last; lined = record { new = replicate (length s.indents) last; tokens = refl; goes = ended (all_last (length s.indents)) } }

-- behind the marks of a line comes a token of it
first_word : Place → Token
first_word place = record { kind = kind.Name; start = 0; end = 0; place = place }

first_end : Place → Token
first_end place = record { kind = kind.Newline; start = 0; end = 0; place = place }

marks_complete : (s t : State) (blocks : List ℕ) (marks : List Token) (depth : ℕ) → s.at.place.column ≡ 1 + depth → t.tokens ≡ s.tokens ++ marks
    → All (λ m. m.place ≡ s.at.place) marks → Turns s.indents depth (kinds marks) blocks →
    (more : List Token) × (new : List Token) × (t.tokens ++ more ≡ s.tokens ++ new) × AreLines s.indents new
unfolding first_word first_end
marks_complete s t blocks marks depth column tokens places turns_so =
    let first = first_word s.at.place in
    let end = first_end s.at.place in
    let ds = replicate (length blocks) last in
    let depth_is : depth ≡ depth_of first = omega (arith, column) in
    let made = line marks first [] end ds (subst (λ d. Turns s.indents d (kinds marks) blocks) depth_is turns_so) places
    (All-cons (λ u. IsOfWords u.kind) first [] tt (All-nil (λ u. IsOfWords u.kind))) refl (inl refl, tt) refl (ended (all_last (length blocks))) in (
      first ∷ end ∷ ds,
      marks ++ first ∷ end ∷ ds,
      ap (λ us. us ++ first ∷ end ∷ ds) tokens
          ∙ append_assoc s.tokens marks (first ∷ end ∷ ds),
      subst (AreLines s.indents) (append_assoc marks (first ∷ []) (end ∷ ds)) made,
    )

-- ---- a whole reading
stop_completes : (s t : State) (c : ℕ) (cs : List ℕ) (f : ReadFault) (stage : Stage s (c ∷ cs)) → IsRising 0 s.indents → IsFormed s → step s c cs ≡ (t, Err f) → Completes s (c ∷ cs) t.tokens stage
stop_completes s t c cs f stage rising formed e = by (stopped s t c cs f formed e) stage
  where
    as_it_was : (here : Stage s (c ∷ cs)) → t ≡ s → Completes s (c ∷ cs) t.tokens here
    as_it_was here same = subst (λ (w : State). Completes s (c ∷ cs) w.tokens here) (sym same) (complete s (c ∷ cs) here)

    by : Stops s t → (here : Stage s (c ∷ cs)) → Completes s (c ∷ cs) t.tokens here
    by (at_once same) here = as_it_was here same
    by (begun first) (within row is here) = as_it_was (within row is here) (begun_is s t is first)
    by (begun first) (leads blanks is none column last_one) =
        let it = turned s c cs 0 rising blanks is none t (turns s t blanks is first) in
        let made = marks_complete s t t.indents it.marks (length blanks) column it.tokens it.places it.turns_so in
        record { more = made.0; lined = record { new = made.1; tokens = made.2; goes = made.3 } }
    by (begun first) (closing blanks is none end) = absurd (never_err (line_ended s s.line (take (line_end_len c) (c ∷ cs))) t (line_end_len c) f (sym (line_end_front s c cs end) ∙ e))

stage_formed : (s : State) (cs : List ℕ) → Stage s cs → IsFormed s
stage_formed s cs (within row is here) = inl is
stage_formed s cs (leads blanks is none column last_one) = inr (blanks, is)
stage_formed s cs (closing blanks is none end) = inr (blanks, is)

reads_complete : {s : State} {cs : List ℕ} {ts : List Token} {g : Option ReadFault} (f : ReadFault) (stage : Stage s cs) → IsRising 0 s.indents → g ≡ Some f → Reads s cs ts g → Completes s cs ts stage
reads_complete {s = s} f stage rising some (ends {t = t} e are is) =
    let end = subst (EndIf s f) e (end_stops s f) (is ∙ some) in
    subst (λ us. Completes s [] us stage) (end.left ∙ are) (complete s [] stage)
reads_complete {s = s} {cs = c ∷ cs} f stage rising some (stops {t = t} {f = h} e are is) =
    subst (λ us. Completes s (c ∷ cs) us stage) are (stop_completes s t c cs h stage rising (stage_formed s (c ∷ cs) stage) e)
reads_complete {s = s} {cs = c ∷ cs} {ts = ts} f stage rising some (goes_on {t = t} {n = n} e more) =
    let one = next s t c cs n rising stage (stepped s t c cs n e) in
    let rest = reads_complete f one.here one.rising some more in
    record { more = rest.more; lined = one.before (ts ++ rest.more) rest.lined }

pub lines_begin : (text : List ℕ) (ts : List Token) (f : ReadFault) → IsLexed text ts (Some f) → (more : List Token) × AreLines [] (ts ++ more)
lines_begin text ts f lexed =
    let all = reads_complete f (leads [] refl refl refl tt) tt refl lexed in
    (all.more, subst (AreLines []) (sym all.lined.tokens) all.lined.goes)
