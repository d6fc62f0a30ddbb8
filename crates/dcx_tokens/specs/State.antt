-- What is read so far, and what each line end, blank, comment and token changes.
use Rattle.std.specs.Prelude.{ℕ, ◌+◌, ◌-◌, Bool, false, ◌==◌, nat_le, if◌then◌else◌, List, [], ◌∷◌, ◌++◌, length, take, replicate, slice_get, Option, Some, None, Result, Ok, Err}
use Rattle.dcx_shape.specs.declared.place.Place.{Place}
use Rattle.dcx_tokens.specs.declared.fault.ReadFault.{ReadFault}
use Rattle.dcx_tokens.specs.declared.fault.ReadFault.TheVariants as fault
use Rattle.dcx_tokens.specs.declared.front.Front.{Front}
use Rattle.dcx_tokens.specs.declared.front.Front.TheVariants as fronts
use Rattle.dcx_tokens.specs.declared.position.Position.{Position}
use Rattle.dcx_tokens.specs.declared.reader.Line.{Line}
use Rattle.dcx_tokens.specs.declared.reader.Line.TheVariants.{Lead, Begun}
use Rattle.dcx_tokens.specs.declared.token.Symbol.{Symbol}
use Rattle.dcx_tokens.specs.declared.token.Token.{Token}
use Rattle.dcx_tokens.specs.declared.token.TokenKind.{TokenKind}
use Rattle.dcx_tokens.specs.declared.token.TokenKind.TheVariants as kind
use Rattle.dcx_tokens.specs.Front.{run_of, is_blank, tab_among, line_end_len, up_to_line_end, front_at}
use Rattle.dcx_tokens.specs.Layout.{is_deeper, is_standing, kept, opens, closes}
use Rattle.dcx_tokens.specs.Lexeme.{token_at}
use Rattle.dcx_tokens.specs.Position.{moved_over, line_behind, start_of_text}

-- the tokens so far, the indentations that stand, outermost first, the places of the brackets that are open, outermost
-- first, how far the line is read, and the position of the next character
pub record State : Type 0 where
  pub tokens : List Token
  pub indents : List ℕ
  pub brackets : List Place
  pub line : Line
  pub at : Position

-- What a step leaves, and what it answers or which fault it meets.
abbrev pub Answer : Type 0 → Type 0
Answer A = State × Result A ReadFault

-- the next step, unless there is a fault
abbrev pub and_then : {A B : Type 0} → Answer A → (State → A → Answer B) → Answer B
and_then (s, Ok a) next = next s a
and_then (s, Err f) next = (s, Err f)

-- ---- positions and tokens
abbrev pub moved : State → List ℕ → State
moved s cs = record s { at = moved_over s.at cs }

-- a token of these characters
abbrev pub put : State → TokenKind → List ℕ → State
put s kind cs =
    let behind = moved_over s.at cs in
    record s { tokens = s.tokens ++ record { kind = kind; start = s.at.offset; end = behind.offset; place = s.at.place } ∷ []; at = behind }

-- the end of an indentation, at this place
abbrev pub dedent_at : State → Place → Token
dedent_at s place = record { kind = kind.Dedent; start = s.at.offset; end = s.at.offset; place = place }

-- 64 brackets and indentations are open
abbrev pub is_full : State → Bool
is_full s = nat_le 64 (length s.indents + length s.brackets)

-- ---- the first token of a line
-- a deeper indentation stands from now on
abbrev pub indented : State → ℕ → Answer (Unit {0})
indented s spaces =
    if is_full s then (s, Err (fault.TooDeep s.at.place))
    else (let t = put s kind.Indent [] in (record t { indents = s.indents ++ spaces ∷ []; line = Begun }, Ok tt))

-- those that are deeper end
abbrev pub dedented : State → ℕ → State
dedented s spaces = record s {
  tokens = s.tokens ++ replicate (length s.indents - length (kept s.indents spaces)) (dedent_at s s.at.place);
  indents = kept s.indents spaces;
  line = Begun;
}

-- the first token of a line comes behind so many blanks, with a tab among them or not
abbrev pub begin_line : State → ℕ → Bool → Answer (Unit {0})
begin_line s spaces has_tab =
    if has_tab then (s, Err (fault.Indent s.at.place))
    else (if is_deeper s.indents spaces then indented s spaces
    else (if is_standing s.indents spaces then (dedented s spaces, Ok tt)
    else (s, Err (fault.Indent s.at.place))))

abbrev pub line_begun_at : State → Line → Answer (Unit {0})
line_begun_at s Begun = (s, Ok tt)
line_begun_at s (Lead spaces has_tab) = begin_line s spaces has_tab

abbrev pub line_begun : State → Answer (Unit {0})
line_begun s = line_begun_at s s.line

-- ---- brackets
-- a closing bracket closes the innermost open one, whatever its kind
abbrev pub nested_by : State → Symbol → Answer (Unit {0})
nested_by s symbol =
    if opens symbol then (if is_full s then (s, Err (fault.TooDeep s.at.place)) else (record s { brackets = s.brackets ++ s.at.place ∷ [] }, Ok tt))
    else (if closes symbol then (record s { brackets = take (length s.brackets - 1) s.brackets }, Ok tt)
    else (s, Ok tt))

abbrev pub nested : State → TokenKind → Answer (Unit {0})
nested s (kind.Sign symbol) = nested_by s symbol
nested s _ = (s, Ok tt)

-- ---- what stands in front
-- a token: first its line begins, then it is read, then it opens or closes a bracket
abbrev pub token_read : State → Front → ℕ → List ℕ → Answer ℕ
token_read s front c cs =
    and_then (line_begun s) (λ t _.
    and_then (t, token_at t.at.place front c cs) (λ u token.
    and_then (nested u token.0) (λ v _.
    (put v token.0 (take token.1 (c ∷ cs)), Ok token.1))))

-- blanks in front of the first token of a line are its indentation
abbrev pub led : Line → List ℕ → Line
led Begun blanks = Begun
led (Lead spaces has_tab) blanks = Lead (length blanks) (tab_among blanks)

abbrev pub blanks_read : State → ℕ → List ℕ → Answer ℕ
blanks_read s c cs =
    let n = 1 + run_of is_blank cs in
    (record s { line = led s.line (take n (c ∷ cs)); at = moved_over s.at (take n (c ∷ cs)) }, Ok n)

abbrev pub comment_read : State → ℕ → List ℕ → Answer ℕ
comment_read s c cs = let n = 1 + up_to_line_end cs in (moved s (take n (c ∷ cs)), Ok n)

-- a line with a token ends outside brackets; one without counts for nothing
abbrev pub line_ended : State → Line → List ℕ → State
line_ended s Begun end = if length s.brackets == 0 then record (put s kind.Newline end) { line = Lead 0 false } else moved s end
line_ended s (Lead spaces has_tab) end = record (moved s end) { line = Lead 0 false }

abbrev pub line_end_read : State → ℕ → List ℕ → Answer ℕ
line_end_read s c cs = let n = line_end_len c in (line_ended s s.line (take n (c ∷ cs)), Ok n)

abbrev pub front_read : State → Front → ℕ → List ℕ → Answer ℕ
front_read s fronts.LineEnd c cs = line_end_read s c cs
front_read s fronts.Blank c cs = blanks_read s c cs
front_read s fronts.Comment c cs = comment_read s c cs
front_read s fronts.Other c cs = (s, Err (fault.BadChar s.at.place))
front_read s fronts.Name c cs = token_read s fronts.Name c cs
front_read s fronts.Number c cs = token_read s fronts.Number c cs
front_read s fronts.Text c cs = token_read s fronts.Text c cs
front_read s (fronts.Sign symbol) c cs = token_read s (fronts.Sign symbol) c cs

-- what stands in front is read: how many characters it has, or which fault is met
unfoldable pub step : State → ℕ → List ℕ → Answer ℕ
step s c cs = front_read s (front_at c cs) c cs

-- ---- the end of the text
-- a missing line end is supplied
abbrev pub line_supplied : State → Line → State
line_supplied s Begun = put s kind.Newline []
line_supplied s (Lead spaces has_tab) = s

-- all indentations end on the line behind the last
abbrev pub all_ended : State → State
all_ended s = record s {
  tokens = s.tokens ++ replicate (length s.indents) (dedent_at s (line_behind s.at.place));
  indents = [];
}

abbrev pub finished_at : State → Option Place → Answer (Unit {0})
finished_at s (Some opener) = (s, Err (fault.Unclosed opener))
finished_at s None = (all_ended (line_supplied s s.line), Ok tt)

-- the innermost bracket that is still open is not closed
unfoldable pub finished : State → Answer (Unit {0})
finished s = finished_at s (slice_get s.brackets (length s.brackets - 1))

-- nothing is read yet
abbrev pub start : State
start = record { tokens = []; indents = []; brackets = []; line = Lead 0 false; at = start_of_text }
