-- Good settings are read from their spelling.
use Rattle.std.proofs.Common.{◌≡◌, ◌≢◌, ℕ, suc, ◌+◌, ◌*◌, ◌<◌, ◌≤◌, Bool, true, false, List, [], ◌∷◌, ◌++◌, map, length, Ok, refl, sym, ap, ◌∙◌, subst, arith, append_assoc, ℤ, pos}
use Rattle.std.specs.Prelude.{nat_le, not, ◌&&◌}
use Rattle.std.proofs.lemmas.Bool.{le-leb, eq-eqb}
use Rattle.std.proofs.lemmas.List.{append-nil, map-append, length-append}
use Rattle.dcx_settings.specs.Terminal.{Terminal, name, digits, decimal, minus, slash, equal, comma, semicolon, open_square, close_square, newline}
use Rattle.dcx_settings.specs.Grammar.{Size, integer, point, quotient, size_text, sign_text, Number, number_text, Value, one, row, matrix}
use Rattle.dcx_settings.specs.Grammar.{preceded, separated, row_text, value_text, Item, item_text, Line, nothing, items, line_text, settings_text}
use Rattle.dcx_settings.specs.Grammar.{names_of, row_length, is_among, are_new, Every, IsGoodSize, IsGoodNumber, IsGoodRow, IsGoodValue, IsGoodLine}
use Rattle.dcx_settings.specs.Machine.{Part, start, whole_read, complete, Outer, no_matrix, rows_before, Context, alone, in_row, Phase, fresh, named, assigned, bracket, number}
use Rattle.dcx_settings.specs.Machine.{row_closed, ended, at, number_of, number_begun, reading, value_read, limit, may_end, row_ended, number_read, in_number, step, go, run}
use Rattle.dcx_settings.proofs.Facts.{every_more, not_zero}

-- ---- numbers
-- how far a number is read at its end: digits may go on
abbrev pub part_by : Bool → Size → Part
part_by s (integer f) = whole_read s f
part_by s (point f) = complete (number_of s (point f))
part_by s (quotient n d) = complete (number_of s (quotient n d))

abbrev pub part_of : Number → Part
part_of x = part_by x.is_negative x.size

-- a token that may begin a number
abbrev pub begins_number : Terminal → Bool
begins_number minus = true
begins_number (digits f) = true
begins_number (decimal f) = true
begins_number t = false

-- at this phase a number may begin
abbrev pub Awaits : List Line → List Item → List ℕ → Context → Phase → Type 0
Awaits lines is n c phase = (t : Terminal) → begins_number t ≡ true → step lines phase t ≡ reading lines is n c (number_begun t)

module _ (lines : List Line) (is : List Item) (n : List ℕ) (c : Context) where
  run_divisor : (s : Bool) (f d : ℤ) → (d ≡ pos 0 → ⊥) → (ts : List Terminal)
      → run (slash ∷ digits d ∷ ts) (at lines (number is n c (whole_read s f))) ≡ run ts (at lines (number is n c (part_by s (quotient f d))))
  run_divisor s f d h ts = rw (not_zero d h) refl

  run_begun : (phase : Phase) → Awaits lines is n c phase → (s : Bool) (size : Size) → IsGoodSize size → (ts : List Terminal)
      → run (sign_text s ++ size_text size ++ ts) (at lines phase) ≡ run ts (at lines (number is n c (part_by s size)))
  run_begun phase a true (integer f) g ts = rw (a minus refl) refl
  run_begun phase a true (point f) g ts = rw (a minus refl) refl
  run_begun phase a true (quotient f d) g ts = rw (a minus refl) (run_divisor true f d g ts)
  run_begun phase a false (integer f) g ts = rw (a (digits f) refl) refl
  run_begun phase a false (point f) g ts = rw (a (decimal f) refl) refl
  run_begun phase a false (quotient f d) g ts = rw (a (digits f) refl) (run_divisor false f d g ts)

  pub run_number : (phase : Phase) → Awaits lines is n c phase → (x : Number) → IsGoodNumber x → (ts : List Terminal)
      → run (number_text x ++ ts) (at lines phase) ≡ run ts (at lines (number is n c (part_of x)))
  run_number phase a x g ts = run_begun phase a x.is_negative x.size g ts

  -- a number ends at any token but a slash
  number_ends_by : (s : Bool) (size : Size) (t : Terminal) → t ≢ slash → in_number lines is n c (part_by s size) t ≡ number_read lines is n c (number_of s size) t
  number_ends_by s (integer f) slash h = absurd (h refl)
  number_ends_by s (integer f) t h = refl
  number_ends_by s (point f) t h = refl
  number_ends_by s (quotient f d) t h = refl

  pub number_ends : (x : Number) (t : Terminal) → t ≢ slash → in_number lines is n c (part_of x) t ≡ number_read lines is n c x t
  number_ends x t h = number_ends_by x.is_negative x.size t h

-- at any token but a slash the part is number x, at its end
abbrev pub Ends : List Line → List Item → List ℕ → Context → Part → Number → Type 0
Ends lines is n c part x = (t : Terminal) → t ≢ slash → in_number lines is n c part t ≡ number_read lines is n c x t

comma_apart : comma ≢ slash
comma_apart e = cc

close_apart : close_square ≢ slash
close_apart e = cc

-- ---- rows
module _ (lines : List Line) (is : List Item) (n : List ℕ) (o : Outer) where
  starts : (xs : List Number) → Awaits lines is n (in_row o xs) (number is n (in_row o xs) start)
  starts xs t h = refl

  -- behind number x of a row the others follow
  pub run_row : (xs : List Number) (x : Number) (part : Part) → Ends lines is n (in_row o xs) part x → (ys : List Number) → Every IsGoodNumber ys
      → length xs + 1 + length ys ≤ limit o → may_end o (length (xs ++ x ∷ ys)) ≡ true
      → (ts : List Terminal) → run (preceded comma (map number_text ys) ++ close_square ∷ ts) (at lines (number is n (in_row o xs) part)) ≡ run ts (at lines (row_ended is n o (xs ++ x ∷ ys)))
  run_row xs x part h [] g l e ts = rw (h close_square close_apart, e) refl
  run_row xs x part h (y ∷ ys) g l e ts =
      let more = length-append xs (x ∷ []) in
      let room : nat_le (length (xs ++ x ∷ []) + 1) (limit o) ≡ true = le-leb _ _ (omega (arith, more, l)) in
      let joined : (xs ++ x ∷ []) ++ y ∷ ys ≡ xs ++ x ∷ y ∷ ys = append_assoc xs (x ∷ []) (y ∷ ys) in
      rw (h comma comma_apart, room)
      (ap (λ us. run us (at lines (number is n (in_row o (xs ++ x ∷ [])) start))) (append_assoc (number_text y) (preceded comma (map number_text ys)) (close_square ∷ ts))
      ∙ run_number lines is n (in_row o (xs ++ x ∷ [])) (number is n (in_row o (xs ++ x ∷ [])) start) (starts (xs ++ x ∷ [])) y g.0 (preceded comma (map number_text ys) ++ close_square ∷ ts)
      ∙ run_row (xs ++ x ∷ []) y (part_of y) (number_ends lines is n (in_row o (xs ++ x ∷ [])) y) ys g.1 (omega (arith, more, l)) (subst (λ zs. may_end o (length zs) ≡ true) (sym joined) e) ts
      ∙ ap (λ zs. run ts (at lines (row_ended is n o zs))) joined)

  -- a row behind its bracket
  pub run_whole_row : (phase : Phase) → Awaits lines is n (in_row o []) phase → (xs : List Number) → IsGoodRow xs → length xs ≤ limit o → may_end o (length xs) ≡ true
      → (ts : List Terminal) → run (separated comma (map number_text xs) ++ close_square ∷ ts) (at lines phase) ≡ run ts (at lines (row_ended is n o xs))
  run_whole_row phase a [] g l e ts = absurd (let h = g.some in omega (arith, h))
  run_whole_row phase a (x ∷ xs) g l e ts =
      ap (λ us. run us (at lines phase)) (append_assoc (number_text x) (preceded comma (map number_text xs)) (close_square ∷ ts))
      ∙ run_number lines is n (in_row o []) phase a x g.numbers.0 (preceded comma (map number_text xs) ++ close_square ∷ ts)
      ∙ run_row [] x (part_of x) (number_ends lines is n (in_row o []) x) xs g.numbers.1 (omega (arith, l)) e ts

-- ---- matrices
-- rows of one length, with room for another of it
record HaveRoom (w : ℕ) (rows : List (List Number)) (more : ℕ) : Type 0 where
  widths : Every (λ r. length r ≡ w) rows
  fits : (length rows + more) * w ≤ 20000

row_limit : (w : ℕ) (rows : List (List Number)) (more : ℕ) → HaveRoom w rows (suc more) → w ≤ limit (rows_before rows)
row_limit w [] more h = let f = h.fits in fits more w f
  where
    fits : (m w : ℕ) → (0 + suc m) * w ≤ 20000 → w ≤ 20000
    fits m w h = grind arith
row_limit w (r ∷ rs) more h = let e = h.widths.0 in omega (arith, e)

row_may_end : (w : ℕ) (rows : List (List Number)) → Every (λ r. length r ≡ w) rows → may_end (rows_before rows) w ≡ true
row_may_end w [] h = refl
row_may_end w (r ∷ rs) h = eq-eqb w (length r) (sym h.0)

row_length_is : (w : ℕ) (rows : List (List Number)) → 0 < length rows → Every (λ r. length r ≡ w) rows → row_length rows ≡ w
row_length_is w [] l h = absurd (omega arith)
row_length_is w (r ∷ rs) l h = h.0

less_room : (k m w : ℕ) → (k + suc m) * w ≤ 20000 → (k + 1) * w ≤ 20000
less_room k m w h = grind arith

one_more : (w : ℕ) (rows : List (List Number)) (r : List Number) (more : ℕ) → HaveRoom w rows (suc more) → length r ≡ w → HaveRoom w (rows ++ r ∷ []) more
one_more w rows r more h e = record {
  widths = every_more (λ q. length q ≡ w) rows r h.widths e;
  fits = let f = h.fits in let l = length-append rows (r ∷ []) in rw l (moved (length rows) more w f);
}
  where
    moved : (k m w : ℕ) → (k + suc m) * w ≤ 20000 → (k + 1 + m) * w ≤ 20000
    moved k m w h = let e : k + suc m ≡ k + 1 + m = omega arith in subst (λ x. x * w ≤ 20000) e h

module _ (lines : List Line) (is : List Item) (n : List ℕ) where
  -- a row of a matrix, behind its bracket
  run_inner : (w : ℕ) (rows : List (List Number)) (more : ℕ) (r : List Number) → HaveRoom w rows (suc more) → IsGoodRow r → length r ≡ w
      → (ts : List Terminal) → run (separated comma (map number_text r) ++ close_square ∷ ts) (at lines (number is n (in_row (rows_before rows) []) start))
      ≡ run ts (at lines (row_closed is n (rows ++ r ∷ [])))
  run_inner w rows more r h g e ts =
      let l = row_limit w rows more h in
      run_whole_row lines is n (rows_before rows) (number is n (in_row (rows_before rows) []) start) (starts lines is n (rows_before rows) []) r g (omega (arith, e, l))
      (subst (λ k. may_end (rows_before rows) k ≡ true) (sym e) (row_may_end w rows h.widths)) ts

  -- behind a row the others follow
  run_rows : (w : ℕ) (rows more : List (List Number)) → 0 < length rows → HaveRoom w rows (length more) → Every (λ r. IsGoodRow r × (length r ≡ w)) more
      → (ts : List Terminal) → run (preceded comma (map row_text more) ++ close_square ∷ ts) (at lines (row_closed is n rows)) ≡ run ts (at lines (ended is n (matrix (rows ++ more))))
  run_rows w rows [] some h g ts = ap (λ rs. run ts (at lines (ended is n (matrix rs)))) (sym (append-nil rows))
  run_rows w rows (r ∷ rs) some h g ts =
      let f = h.fits in
      let room : nat_le ((length rows + 1) * row_length rows) 20000 ≡ true = rw (row_length_is w rows some h.widths) (le-leb _ _ (less_room (length rows) (length rs) w f)) in
      let l = length-append rows (r ∷ []) in
      rw room
      (ap (λ us. run us (at lines (number is n (in_row (rows_before rows) []) start))) (inner (separated comma (map number_text r)) (preceded comma (map row_text rs)) (close_square ∷ ts))
      ∙ run_inner w rows (length rs) r h g.0.0 g.0.1 (preceded comma (map row_text rs) ++ close_square ∷ ts)
      ∙ run_rows w (rows ++ r ∷ []) rs (omega (arith, l)) (one_more w rows r (length rs) h g.0.1) g.1 ts
      ∙ ap (λ qs. run ts (at lines (ended is n (matrix qs)))) (append_assoc rows (r ∷ []) rs))
    where
      inner : (a b c : List Terminal) → ((a ++ close_square ∷ []) ++ b) ++ c ≡ a ++ (close_square ∷ (b ++ c))
      inner a b c = simp append_assoc

  -- ---- values
  equal_awaits : Awaits lines is n alone (assigned is n)
  equal_awaits minus h = refl
  equal_awaits (digits f) h = refl
  equal_awaits (decimal f) h = refl
  equal_awaits t h = cc

  bracket_awaits : Awaits lines is n (in_row no_matrix []) (bracket is n)
  bracket_awaits minus h = refl
  bracket_awaits (digits f) h = refl
  bracket_awaits (decimal f) h = refl
  bracket_awaits t h = cc

  -- a value, and a token that isn't a slash
  pub run_value : (v : Value) → IsGoodValue v → (t : Terminal) → t ≢ slash → (ts : List Terminal)
      → run (value_text v ++ t ∷ ts) (at lines (assigned is n)) ≡ go (run ts) (value_read lines is n v t) (t ∷ ts)
  run_value (one x) g t h ts = run_number lines is n alone (assigned is n) equal_awaits x g (t ∷ ts) ∙ ap (λ o. go (run ts) o (t ∷ ts)) (number_ends lines is n alone x t h)
  run_value (row xs) g t h ts =
      ap (λ us. run us (at lines (bracket is n))) (append_assoc (separated comma (map number_text xs)) (close_square ∷ []) (t ∷ ts))
      ∙ run_whole_row lines is n no_matrix (bracket is n) bracket_awaits xs g.0 g.1 refl (t ∷ ts)
  run_value (matrix []) g t h ts = absurd (let s = g.1.some in omega (arith, s))
  run_value (matrix (r ∷ rs)) g t h ts =
      let w = g.0 in
      let few = g.2 in
      let same = g.1.rows_are.0.1 in
      ap (λ us. run us (at lines (bracket is n))) (outer (separated comma (map number_text r)) (preceded comma (map row_text rs)) (t ∷ ts))
      ∙ run_inner w [] (length rs) r (record { widths = tt; fits = subst (λ k. k * w ≤ 20000) (omega arith) few }) g.1.rows_are.0.0 same (preceded comma (map row_text rs) ++ close_square ∷ t ∷ ts)
      ∙ run_rows w (r ∷ []) rs (omega arith) (record { widths = (same, tt); fits = subst (λ k. k * w ≤ 20000) (omega arith) few }) g.1.rows_are.1 (t ∷ ts)
    where
      outer : (a b c : List Terminal) → (((open_square ∷ (a ++ close_square ∷ [])) ++ b) ++ close_square ∷ []) ++ c ≡ open_square ∷ (a ++ (close_square ∷ (b ++ close_square ∷ c)))
      outer a b c = simp append_assoc

semicolon_apart : semicolon ≢ slash
semicolon_apart e = cc

newline_apart : newline ≢ slash
newline_apart e = cc

-- ---- lines
not_first : (before : List (List ℕ)) (n : List ℕ) (ns : List (List ℕ)) → are_new before (n ∷ ns) ≡ true → is_among before n ≡ false
not_first before n ns h = by (is_among before n) refl h
  where
    by : (b : Bool) → is_among before n ≡ b → not b && are_new (before ++ n ∷ []) ns ≡ true → is_among before n ≡ false
    by true e h = cc
    by false e h = e

new_rest : (before : List (List ℕ)) (n : List ℕ) (ns : List (List ℕ)) → are_new before (n ∷ ns) ≡ true → are_new (before ++ n ∷ []) ns ≡ true
new_rest before n ns h = by (not (is_among before n)) h
  where
    by : (b : Bool) → b && are_new (before ++ n ∷ []) ns ≡ true → are_new (before ++ n ∷ []) ns ≡ true
    by true h = h
    by false h = cc

module _ (lines : List Line) where
  -- behind the name of an item the line goes on
  run_item : (is : List Item) (i : Item) (more : List Item) → Every (λ j. IsGoodValue j.value) (i ∷ more) → are_new (names_of is) (names_of (i ∷ more)) ≡ true
      → (ts : List Terminal) → run (equal ∷ (value_text i.value ++ (preceded semicolon (map item_text more) ++ newline ∷ ts))) (at lines (named is i.called))
      ≡ run ts (at (lines ++ items (is ++ i ∷ more) ∷ []) fresh)
  run_item is i [] g h ts = run_value lines is i.called i.value g.0 newline newline_apart ts
  run_item is i (j ∷ more) g h ts =
      let rest = new_rest (names_of is) i.called (names_of (j ∷ more)) h in
      let joined : names_of is ++ i.called ∷ [] ≡ names_of (is ++ i ∷ []) = sym (map-append (λ (k : Item). k.called) is (i ∷ [])) in
      let new : are_new (names_of (is ++ i ∷ [])) (names_of (j ∷ more)) ≡ true = subst (λ ns. are_new ns (names_of (j ∷ more)) ≡ true) joined rest in
      let first : is_among (names_of (is ++ i ∷ [])) j.called ≡ false = not_first (names_of (is ++ i ∷ [])) j.called (names_of more) new in
      ap (λ us. run (value_text i.value ++ semicolon ∷ name j.called ∷ equal ∷ us) (at lines (assigned is i.called)))
      (append_assoc (value_text j.value) (preceded semicolon (map item_text more)) (newline ∷ ts))
      ∙ run_value lines is i.called i.value g.0 semicolon semicolon_apart (name j.called ∷ equal ∷ (value_text j.value ++ (preceded semicolon (map item_text more) ++ newline ∷ ts)))
      ∙ rw first (run_item (is ++ i ∷ []) j more g.1 new ts ∙ ap (λ js. run ts (at (lines ++ items js ∷ []) fresh)) (append_assoc is (i ∷ []) (j ∷ more)))

  run_line : (line : Line) → IsGoodLine line → (ts : List Terminal) → run (line_text line ++ ts) (at lines fresh) ≡ run ts (at (lines ++ line ∷ []) fresh)
  run_line nothing g ts = refl
  run_line (items []) g ts = absurd (let s = g.some in omega (arith, s))
  run_line (items (i ∷ is)) g ts =
      ap (λ us. run us (at lines fresh)) (apart (value_text i.value) (preceded semicolon (map item_text is)) ts)
      ∙ run_item [] i is g.values g.distinct ts
    where
      apart : (a b c : List Terminal) → (((name i.called ∷ equal ∷ a) ++ b) ++ newline ∷ []) ++ c ≡ name i.called ∷ equal ∷ (a ++ (b ++ newline ∷ c))
      apart a b c = simp append_assoc

pub run_lines : (lines more : List Line) → Every IsGoodLine more → run (settings_text more) (at lines fresh) ≡ Ok (at (lines ++ more) fresh)
run_lines lines [] g = ap (λ ls. Ok (at ls fresh)) (sym (append-nil lines))
run_lines lines (line ∷ more) g = run_line lines line g.0 (settings_text more) ∙ run_lines (lines ++ line ∷ []) more g.1 ∙ ap (λ ls. Ok (at ls fresh)) (append_assoc lines (line ∷ []) more)
