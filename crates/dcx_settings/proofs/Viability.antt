-- Every good state leads to good settings, so the first token that may not follow is the first that is unexpected.
use Rattle.std.proofs.Common.{◌≡◌, ◌≢◌, ℕ, zero, suc, ◌+◌, ◌-◌, ◌<◌, ◌≤◌, Bool, true, false, List, [], ◌∷◌, ◌++◌, map}
use Rattle.std.proofs.Common.{length, replicate, None, Result, Ok, Err, refl, sym, ap, ◌∙◌, subst, arith, append_assoc, pos}
use Rattle.std.specs.Prelude.{bytes_eq}
use Rattle.std.proofs.lemmas.Slice.Eq.{bytes_eq-Decides}
use Rattle.std.proofs.lemmas.Bool.{eq-eqb}
use Rattle.std.proofs.lemmas.List.{append-nil, length-append, length-replicate}
use Rattle.dcx_settings.specs.Terminal.{Terminal, name, digits, slash, equal, comma, open_square, close_square, close_curly, newline}
use Rattle.dcx_settings.specs.Grammar.{integer, quotient, Number, number_text, Value, one, row, matrix, preceded, Item, Line}
use Rattle.dcx_settings.specs.Grammar.{nothing, items, settings_text, names_of, is_among, Every, IsGoodNumber, IsGoodLine}
use Rattle.dcx_settings.specs.Reading.{AreSpelled, GoesOn, IsUnexpected}
use Rattle.dcx_settings.specs.Machine.{Part, start, negated, whole_read, divided, complete, Outer, no_matrix, rows_before, Context, alone, in_row, Phase, fresh, opened, closed, next_item}
use Rattle.dcx_settings.specs.Machine.{named, assigned, bracket, number, row_closed, next_row, ended, State, at, number_of, with_item, limit, may_end, row_ended, step, go, run}
use Rattle.dcx_settings.proofs.Soundness.{state_text, IsGoodContext, IsGoodPhase, IsGoodState, Leads, IsLed, run_sound, rows_outer}
use Rattle.dcx_settings.proofs.Completeness.{part_of, Ends, number_ends, run_row, run_lines}

-- tokens that complete a state
record Completes (s : State) : Type 0 where
  more : List Terminal
  lines : List Line
  run_is : run more s ≡ Ok (at lines fresh)

behind : (s u : State) (front : List Terminal) → ((more : List Terminal) → run (front ++ more) s ≡ run more u) → Completes u → Completes s
behind s u front e c = record { more = front ++ c.more; lines = c.lines; run_is = e c.more ∙ c.run_is }

module _ (lines : List Line) (is : List Item) (n : List ℕ) where
  ended_completes : (v : Value) → Completes (at lines (ended is n v))
  ended_completes v = record { more = newline ∷ []; lines = lines ++ items (with_item is n v) ∷ []; run_is = refl }

  closed_completes : (rows : List (List Number)) → Completes (at lines (row_closed is n rows))
  closed_completes rows = behind _ (at lines (ended is n (matrix rows))) (close_square ∷ []) (λ more. refl) (ended_completes (matrix rows))

  row_completes : (o : Outer) (xs : List Number) → Completes (at lines (row_ended is n o xs))
  row_completes no_matrix xs = ended_completes (row xs)
  row_completes (rows_before rows) xs = closed_completes (rows ++ xs ∷ [])

  abbrev some_number : Number
  some_number = number_of false (integer (pos 1))

  many_numbers : (k : ℕ) → Every IsGoodNumber (replicate k some_number)
  many_numbers zero = tt
  many_numbers (suc k) = (tt, many_numbers k)

  -- so many numbers are lacking to a row that may end
  lacking : Outer → ℕ → ℕ
  lacking no_matrix k = 0
  lacking (rows_before []) k = 0
  lacking (rows_before (r ∷ rs)) k = length r - k

  filled : (o : Outer) (xs : List Number) (x : Number) → length xs + 1 ≤ limit o
      → (length xs + 1 + lacking o (length xs + 1) ≤ limit o) × (may_end o (length (xs ++ x ∷ replicate (lacking o (length xs + 1)) some_number)) ≡ true)
  unfolding lacking
  filled no_matrix xs x h = (omega (arith, h), refl)
  filled (rows_before []) xs x h = (omega (arith, h), refl)
  filled (rows_before (r ∷ rs)) xs x h =
      let k = length r - (length xs + 1) in
      let e = length-append xs (x ∷ replicate k some_number) in
      let f = length-replicate k some_number in
      (omega (arith, h), eq-eqb (length (xs ++ x ∷ replicate k some_number)) (length r) (omega (arith, e, f, h)))

  number_completes : (c : Context) (x : Number) (part : Part) → Ends lines is n c part x → IsGoodContext c → Completes (at lines (number is n c part))
  number_completes alone x part e g = record {
    more = newline ∷ [];
    lines = lines ++ items (with_item is n (one x)) ∷ [];
    run_is = ap (λ o. go (run []) o (newline ∷ [])) (e newline apart);
  }
    where
      apart : newline ≢ slash
      apart e = cc
  number_completes (in_row o xs) x part e g =
      let ys = replicate (lacking o (length xs + 1)) some_number in
      let f = filled o xs x g.2 in
      let l = length-replicate (lacking o (length xs + 1)) some_number in
      behind _ (at lines (row_ended is n o (xs ++ x ∷ ys))) (preceded comma (map number_text ys) ++ close_square ∷ [])
      (λ more. ap (λ us. run us (at lines (number is n (in_row o xs) part))) (append_assoc (preceded comma (map number_text ys)) (close_square ∷ []) more)
      ∙ run_row lines is n o xs x part e ys (many_numbers (lacking o (length xs + 1))) (let h = f.0 in omega (arith, l, h)) f.1 more)
      (row_completes o (xs ++ x ∷ ys))

  read_completes : (c : Context) (x : Number) → IsGoodContext c → Completes (at lines (number is n c (part_of x)))
  read_completes c x g = number_completes c x (part_of x) (number_ends lines is n c x) g

  part_completes : (c : Context) (part : Part) → IsGoodContext c → Completes (at lines (number is n c part))
  part_completes c start g = behind _ (at lines (number is n c (part_of some_number))) (digits (pos 1) ∷ []) (λ more. refl) (read_completes c some_number g)
  part_completes c negated g = behind _ (at lines (number is n c (part_of (number_of true (integer (pos 1)))))) (digits (pos 1) ∷ []) (λ more. refl)
      (read_completes c (number_of true (integer (pos 1))) g)
  part_completes c (whole_read s f) g = read_completes c (number_of s (integer f)) g
  part_completes c (divided s f) g = behind _ (at lines (number is n c (part_of (number_of s (quotient f (pos 1)))))) (digits (pos 1) ∷ []) (λ more. refl)
      (read_completes c (number_of s (quotient f (pos 1))) g)
  part_completes c (complete x) g = number_completes c x (complete x) (λ t h. refl) g

  assigned_completes : Completes (at lines (assigned is n))
  assigned_completes = behind _ (at lines (number is n alone (part_of some_number))) (digits (pos 1) ∷ []) (λ more. refl) (read_completes alone some_number tt)

-- a name that isn't among these: it is longer than each
longest : List (List ℕ) → ℕ
longest [] = 0
longest (n ∷ ns) = length n + longest ns

long_name : ℕ → List ℕ
long_name k = replicate (suc k) 97

apart_by_length : (m n : List ℕ) → length m < length n → bytes_eq m n ≡ false
apart_by_length m n h = by (bytes_eq m n) refl
  where
    by : (b : Bool) → bytes_eq m n ≡ b → b ≡ false
    by true e = let same : m ≡ n = (bytes_eq-Decides m n).0 e in absurd (omega (arith, h, ap length same))
    by false e = refl

none_among : (ms : List (List ℕ)) (n : List ℕ) → longest ms < length n → is_among ms n ≡ false
unfolding longest
none_among [] n h = refl
none_among (m ∷ ms) n h = rw (apart_by_length m n (omega (arith, h)), none_among ms n (omega (arith, h))) refl

new_name : (ns : List (List ℕ)) → (n : List ℕ) × (is_among ns n ≡ false)
unfolding long_name
new_name ns = let e = length-replicate {A = ℕ} (suc (longest ns)) 97 in (long_name (longest ns), none_among ns (long_name (longest ns)) (omega (arith, e)))

next_row_completes : (lines : List Line) (is : List Item) (n : List ℕ) (rows : List (List Number)) → IsGoodPhase (next_row is n rows) → Completes (at lines (next_row is n rows))
next_row_completes lines is n rows g = behind _ (at lines (number is n (in_row (rows_before rows) []) start)) (open_square ∷ []) (λ more. refl)
    (part_completes lines is n (in_row (rows_before rows) []) start (rows_outer rows g.1 g.2))

-- every good state can be completed
completes : (lines : List Line) (phase : Phase) → IsGoodPhase phase → Completes (at lines phase)
completes lines fresh g = record { more = []; lines = lines; run_is = refl }
completes lines opened g = record { more = close_curly ∷ newline ∷ []; lines = lines ++ nothing ∷ []; run_is = refl }
completes lines closed g = record { more = newline ∷ []; lines = lines ++ nothing ∷ []; run_is = refl }
completes lines (next_item is) g =
    let n = new_name (names_of is) in
    behind _ (at lines (named is n.0)) (name n.0 ∷ []) (λ more. rw n.1 refl) (behind _ (at lines (assigned is n.0)) (equal ∷ []) (λ more. refl) (assigned_completes lines is n.0))
completes lines (named is n) g = behind _ (at lines (assigned is n)) (equal ∷ []) (λ more. refl) (assigned_completes lines is n)
completes lines (assigned is n) g = assigned_completes lines is n
completes lines (bracket is n) g = behind _ (at lines (number is n (in_row no_matrix []) (part_of (number_of false (integer (pos 1)))))) (digits (pos 1) ∷ []) (λ more. refl)
    (read_completes lines is n (in_row no_matrix []) (number_of false (integer (pos 1))) (tt, tt, omega arith))
completes lines (number is n c part) g = part_completes lines is n c part g.1
completes lines (row_closed is n rows) g = closed_completes lines is n rows
completes lines (next_row is n rows) g = next_row_completes lines is n rows g
completes lines (ended is n v) g = ended_completes lines is n v

-- ---- the whole
abbrev pub begin : State
begin = at [] fresh

begin_good : IsGoodState begin
begin_good = record { lines = tt; phase = tt }

-- a good state's lines are spelled so
spelled : (lines : List Line) → IsGoodState (at lines fresh) → (ts : List Terminal) → state_text (at lines fresh) ≡ ts → AreSpelled ts lines
spelled lines g ts e = record { good = g.lines; text = sym (append-nil (settings_text lines)) ∙ e }

abbrev pub IsRead : List Terminal → Result State (List Terminal) → Type 0
IsRead ts (Ok s) = Leads begin ts s
IsRead ts (Err rest) = IsUnexpected ts rest

-- where a completed state is reached, some good lines begin so
module _ (ts front rest : List Terminal) (s : State) (parts : ts ≡ front ++ rest) (l : Leads begin front s) where
  completed : Completes s → (never : (others : List Line) → Every IsGoodLine others → GoesOn (settings_text others) front rest → ⊥) → IsUnexpected ts rest
  completed c never =
      let all : run (front ++ c.more) begin ≡ Ok (at c.lines fresh) = l.run_is c.more ∙ c.run_is in
      let led : IsLed begin (front ++ c.more) (Ok (at c.lines fresh)) = subst (IsLed begin (front ++ c.more)) all (run_sound (front ++ c.more) begin begin_good) in
      record {
        front = front;
        parts = parts;
        lines = c.lines;
        good = led.good.lines;
        more = c.more;
        begun = sym (append-nil (settings_text c.lines)) ∙ led.text;
        never = never;
      }

  pub unexpected : (never : (others : List Line) → Every IsGoodLine others → GoesOn (settings_text others) front rest → ⊥) → IsUnexpected ts rest
  unexpected never = completed (completes s.lines s.phase l.good.phase) never

ok_apart : (s : State) (ts : List Terminal) → Ok s ≡ Err ts → ⊥
ok_apart s ts e = cc

-- behind the front no good lines go on with the token
pub stops_unexpected : (ts front rest : List Terminal) (t : Terminal) (s : State) → ts ≡ front ++ t ∷ rest → Leads begin front s → step s.lines s.phase t ≡ None → IsUnexpected ts (t ∷ rest)
stops_unexpected ts front rest t s parts l none = unexpected ts front (t ∷ rest) s parts l never
  where
    never : (others : List Line) → Every IsGoodLine others → (more : List Terminal) × (settings_text others ≡ front ++ t ∷ more) → ⊥
    never others g h =
        let stops : run (front ++ t ∷ h.0) begin ≡ Err (t ∷ h.0) = l.run_is (t ∷ h.0) ∙ ap (λ o. go (run h.0) o (t ∷ h.0)) none in
        let reads : run (front ++ t ∷ h.0) begin ≡ Ok (at others fresh) = ap (λ us. run us begin) (sym h.1) ∙ run_lines [] others g in
        ok_apart (at others fresh) (t ∷ h.0) (sym reads ∙ stops)

same_state : (r : Result State (List Terminal)) (s u : State) → r ≡ Ok s → r ≡ Ok u → s ≡ u
same_state r s u e f = cc

-- at the end of the tokens a line is begun
pub ends_unexpected : (ts : List Terminal) (s : State) → Leads begin ts s → (s.phase ≡ fresh → ⊥) → IsUnexpected ts []
ends_unexpected ts s l begun = unexpected ts ts [] s (sym (append-nil ts)) l never
  where
    never : (others : List Line) → Every IsGoodLine others → settings_text others ≡ ts → ⊥
    never others g h =
        let here : run ts begin ≡ Ok s = ap (λ us. run us begin) (sym (append-nil ts)) ∙ l.run_is [] in
        let reads : run ts begin ≡ Ok (at others fresh) = ap (λ us. run us begin) (sym h) ∙ run_lines [] others g in
        begun (ap (λ (u : State). u.phase) (same_state (run ts begin) s (at others fresh) here reads))

-- tokens spell one list of good lines at most
pub one_spelling : (ts : List Terminal) (lines others : List Line) → AreSpelled ts lines → AreSpelled ts others → lines ≡ others
one_spelling ts lines others h k =
    let e : run ts begin ≡ Ok (at lines fresh) = ap (λ us. run us begin) (sym h.text) ∙ run_lines [] lines h.good in
    let f : run ts begin ≡ Ok (at others fresh) = ap (λ us. run us begin) (sym k.text) ∙ run_lines [] others k.good in
    ap (λ (u : State). u.lines) (same_state (run ts begin) (at lines fresh) (at others fresh) e f)

-- the lines that are read at the end of the tokens
pub read_spelled : (ts : List Terminal) (lines : List Line) → Leads begin ts (at lines fresh) → AreSpelled ts lines
read_spelled ts lines l = spelled lines l.good ts l.text

-- tokens lead from the beginning to a state, or the first that may not follow is unexpected
pub read_at : (ts : List Terminal) (r : Result State (List Terminal)) → run ts begin ≡ r → IsRead ts r
read_at ts (Ok s) e = subst (IsLed begin ts) e (run_sound ts begin begin_good)
read_at ts (Err []) e = absurd (subst (IsLed begin ts) e (run_sound ts begin begin_good))
read_at ts (Err (t ∷ rest)) e = let l = subst (IsLed begin ts) e (run_sound ts begin begin_good) in stops_unexpected ts l.1 rest t l.0 l.2 l.3 l.4
