-- Reading the rows of a matrix, step by step.
use Rattle.std.proofs.Common.{◌≡◌, ℕ, ◌+◌, ◌*◌, ◌<◌, ◌≤◌, true, List, [], ◌∷◌, ◌++◌, map, length, Some, None, Err, refl, sym, ap, ap₂, ◌∙◌, subst, arith, mul-pos}
use Rattle.std.specs.Prelude.{◌==◌}
use Rattle.std.proofs.lemmas.Bool.{le-leb, lt-leb}
use Rattle.std.proofs.lemmas.Bool.Decides.{nat_tests}
use Rattle.std.proofs.lemmas.List.{length-append, map-append, append-nil, append_assoc}
use Rattle.dcx_frac.specs.declared.fraction.Frac.{Frac}
use Rattle.dcx_frac.specs.Frac.{value}
use Rattle.dcx_shape.specs.Sides.{HasFewEntries}
use Rattle.dcx_shape.specs.declared.shape.Sides.TheVariants.{Matrix}
use Rattle.dcx_tokens.specs.declared.token.Token.{Token}
use Rattle.dcx_settings.specs.Terminal.{Terminal, comma, open_square, close_square, terminals}
use Rattle.dcx_settings.specs.Grammar.{Number, Item, Line, Every, IsGoodRow, row_length, AreGoodRows, matrix}
use Rattle.dcx_settings.specs.Machine.{at, start, in_row, rows_before, row_closed, next_row, ended, before_row, when}
use Rattle.dcx_settings.specs.Meaning.{number_value, joined}
use Rattle.dcx_settings.specs.declared.stop.Stop.{Stop}
use Rattle.dcx_settings.specs.declared.stop.Stop.TheVariants.{Memory, At}
use Rattle.dcx_settings.specs.Steps.{further, read, read_by, Lacks, number_from, HasWidth, IsRowRead, RowStopsAt, IsStopAt, AreRowsRead, RowsStopAt}
use Rattle.dcx_settings.proofs.Numbers.{read_part}
use Rattle.dcx_settings.proofs.Facts.{every_more}
use Rattle.dcx_settings.proofs.Rows.{same_length}

-- the first row
pub rows_first : (us rest : List Terminal) (fs : List Frac) → IsRowRead None us fs rest → AreRowsRead (length fs) 1 us fs rest
rows_first us rest fs h =
    let e = same_length h.numbers fs h.numbers_are in
    let f = h.few in
    record {
      rows = h.numbers ∷ [];
      good = record { some = omega arith; rows_are = ((h.good, sym e), tt) };
      counted = refl;
      numbers_are = h.numbers_are ∙ ap (map number_value) (sym (append-nil h.numbers));
      few = omega (arith, e, f);
      reads = λ lines is n. h.reads lines is n (rows_before []) tt;
    }

pub row_length_is : (w : ℕ) (rows : List (List Number)) → AreGoodRows w rows → row_length rows ≡ w
row_length_is w [] h = let s = h.some in absurd (omega (arith, s))
row_length_is w (r ∷ rs) h = h.rows_are.0.1

stands : (w : ℕ) (rows : List (List Number)) → AreGoodRows w rows → HasWidth (rows_before rows) (Some w)
stands w [] h = let s = h.some in absurd (omega (arith, s))
stands w (r ∷ rs) h = h.rows_are.0.1

pub total : (w : ℕ) (rows : List (List Number)) → Every (λ xs. IsGoodRow xs × (length xs ≡ w)) rows → length (joined rows) ≡ length rows * w
total w [] h = grind arith
total w (r ∷ rs) h =
    let e = length-append r (joined rs) in
    let d = h.0.1 in
    let more = total w rs h.1 in
    grind (arith, e, d, more)

joined_more : (rows : List (List Number)) (r : List Number) → joined (rows ++ r ∷ []) ≡ joined rows ++ r
joined_more [] r = append-nil r
joined_more (q ∷ rows) r = ap (λ xs. q ++ xs) (joined_more rows r) ∙ sym (append_assoc q (joined rows) r)

module _ (w k : ℕ) (us : List Terminal) (fs : List Frac) (from : List Terminal) (h : AreRowsRead w k us fs from) where
  -- there are so many numbers
  pub rows_total : length fs ≡ length h.rows * w
  rows_total = same_length (joined h.rows) fs h.numbers_are ∙ total w h.rows h.good.rows_are

  module _ (rest : List Terminal) (e : from ≡ comma ∷ rest) where
    room : length fs + w ≤ 20000 → (length h.rows + 1) * row_length h.rows ≤ 20000
    room r = let t = rows_total in let v = row_length_is w h.rows h.good in within (length h.rows) w (row_length h.rows) v (omega (arith, r, t))
      where
        within : (a b c : ℕ) → c ≡ b → a * b + b ≤ 20000 → (a + 1) * c ≤ 20000
        within a b c e l = grind arith

    full : 20000 < length fs + w → 20000 < (length h.rows + 1) * row_length h.rows
    full r = let t = rows_total in let v = row_length_is w h.rows h.good in within (length h.rows) w (row_length h.rows) v (omega (arith, r, t))
      where
        within : (a b c : ℕ) → c ≡ b → 20000 < a * b + b → 20000 < (a + 1) * c
        within a b c e l = grind arith

    -- a comma goes on where there is room for a row
    row_goes : length fs + w ≤ 20000 → (lines : List Line) (is : List Item) (n : List ℕ)
        → read_by (number_from lines is n (in_row (rows_before []) [])) us ≡ read_by (before_row lines is n h.rows) rest
    row_goes r lines is n =
        h.reads lines is n ∙ ap (λ ts. read ts (at lines (row_closed is n h.rows))) e
        ∙ ap (λ b. further (read rest) (when b (at lines (next_row is n h.rows))) (comma ∷ rest)) (le-leb _ _ (room r))
        ∙ begins rest
      where
        begins : (ts : List Terminal) → read ts (at lines (next_row is n h.rows)) ≡ read_by (before_row lines is n h.rows) ts
        begins [] = refl
        begins (t ∷ ts) = refl

    -- and stops where there is none
    pub rows_full : 20000 < length fs + w → (lines : List Line) (is : List Item) (n : List ℕ) → read_by (number_from lines is n (in_row (rows_before []) [])) us ≡ Err from
    rows_full r lines is n =
        h.reads lines is n ∙ ap (λ ts. read ts (at lines (row_closed is n h.rows))) e
        ∙ ap (λ b. further (read rest) (when b (at lines (next_row is n h.rows))) (comma ∷ rest)) (lt-leb _ _ (full r)) ∙ ap Err (sym e)

    -- no bracket behind the comma
    rows_unopened : length fs + w ≤ 20000 → Lacks open_square rest → (lines : List Line) (is : List Item) (n : List ℕ) → read_by (number_from lines is n (in_row (rows_before []) [])) us ≡ Err rest
    rows_unopened r l lines is n = row_goes r lines is n ∙ stops rest l
      where
        stops : (ts : List Terminal) → Lacks open_square ts → read_by (before_row lines is n h.rows) ts ≡ Err ts
        stops [] l = refl
        stops (open_square ∷ ts) l = absurd (l ts refl)
        stops (t ∷ ts) l = refl

    pub rows_unopened_at : (text : List ℕ) (ts : List Token) → rest ≡ terminals text ts → length fs + w ≤ 20000 → (s : Stop) → IsStopAt ts s → Lacks open_square rest → RowsStopAt text us s
    rows_unopened_at text ts d r Memory at l = tt
    rows_unopened_at text ts d r (At there) at l = λ lines is n. rows_unopened r l lines is n ∙ ap Err (d ∙ ap (terminals text) (sym at))

    module _ (r : length fs + w ≤ 20000) (inner : List Terminal) (o : rest ≡ open_square ∷ inner) where
      row_begins : (lines : List Line) (is : List Item) (n : List ℕ)
          → read_by (number_from lines is n (in_row (rows_before []) [])) us ≡ read_by (number_from lines is n (in_row (rows_before h.rows) [])) inner
      row_begins lines is n = row_goes r lines is n ∙ ap (read_by (before_row lines is n h.rows)) o ∙ read_part lines is n (in_row (rows_before h.rows) []) start inner

      -- one more row
      pub rows_more : (gs : List Frac) (behind : List Terminal) → IsRowRead (Some w) inner gs behind → AreRowsRead w (k + 1) us (fs ++ gs) behind
      rows_more gs behind g =
          let l = length-append h.rows (g.numbers ∷ []) in
          let c = h.counted in
          let same : length g.numbers ≡ w = equal _ _ g.full in
          let t = rows_total in
          record {
            rows = h.rows ++ g.numbers ∷ [];
            good = record { some = omega (arith, l); rows_are = every_more (λ xs. IsGoodRow xs × (length xs ≡ w)) h.rows g.numbers h.good.rows_are (g.good, same) };
            counted = omega (arith, l, c);
            numbers_are = map-append value fs gs ∙ ap₂ (λ a b. a ++ b) h.numbers_are g.numbers_are ∙ sym (map-append number_value (joined h.rows) g.numbers)
                ∙ ap (map number_value) (sym (joined_more h.rows g.numbers));
            few = within (length h.rows) (length (h.rows ++ g.numbers ∷ [])) w (omega (arith, l)) (omega (arith, r, t));
            reads = λ lines is n. row_begins lines is n ∙ g.reads lines is n (rows_before h.rows) (stands w h.rows h.good);
          }
        where
          equal : (a b : ℕ) → a == b ≡ true → a ≡ b
          equal a b e = grind (arith, nat_tests)

          within : (a c b : ℕ) → c ≡ a + 1 → a * b + b ≤ 20000 → c * b ≤ 20000
          within a c b e l = let d : (a + 1) * b ≤ 20000 = grind arith in subst (λ z. z * b ≤ 20000) (sym e) d

      -- the row stops
      pub rows_stop : (text : List ℕ) (s : Stop) → RowStopsAt (Some w) text inner s → RowsStopAt text us s
      rows_stop text Memory g = tt
      rows_stop text (At there) g = λ lines is n. row_begins lines is n ∙ g lines is n (rows_before h.rows) (stands w h.rows h.good)

  -- the matrix ends
  pub rows_close : (rest : List Terminal) → from ≡ close_square ∷ rest → (lines : List Line) (is : List Item) (n : List ℕ)
      → read_by (number_from lines is n (in_row (rows_before []) [])) us ≡ read rest (at lines (ended is n (matrix h.rows)))
  rows_close rest e lines is n = h.reads lines is n ∙ ap (λ ts. read ts (at lines (row_closed is n h.rows))) e

  -- it goes on with neither a comma nor a bracket
  pub rows_open : Lacks comma from → Lacks close_square from → (lines : List Line) (is : List Item) (n : List ℕ) → read_by (number_from lines is n (in_row (rows_before []) [])) us ≡ Err from
  rows_open c l lines is n = h.reads lines is n ∙ other from c l
    where
      other : (ts : List Terminal) → Lacks comma ts → Lacks close_square ts → read ts (at lines (row_closed is n h.rows)) ≡ Err ts
      other [] c l = refl
      other (comma ∷ ts) c l = absurd (c ts refl)
      other (close_square ∷ ts) c l = absurd (l ts refl)
      other (t ∷ ts) c l = refl

-- the bounds of the sides and of the numbers
module _ (w k : ℕ) (us : List Terminal) (fs : List Frac) (from : List Terminal) (h : AreRowsRead w k us fs from) where
  pub rows_wide : 0 < w
  rows_wide = some w h.rows h.good
    where
      some : (w : ℕ) (rows : List (List Number)) → AreGoodRows w rows → 0 < w
      some w [] g = let s = g.some in absurd (omega (arith, s))
      some w (r ∷ rs) g = let s = g.rows_are.0.0.some in let e = g.rows_are.0.1 in omega (arith, s, e)

  pub rows_some : 0 < k
  rows_some = let s = h.good.some in let c = h.counted in omega (arith, s, c)

  product_few : k * w ≤ 20000
  product_few = subst (λ a. a * w ≤ 20000) h.counted h.few

  pub width_few : w ≤ 20000
  width_few = within k w rows_some product_few
    where
      within : (a b : ℕ) → 0 < a → a * b ≤ 20000 → b ≤ 20000
      within a b s l = grind arith

  pub count_few : k ≤ 20000
  count_few = within k w rows_wide product_few
    where
      within : (a b : ℕ) → 0 < b → a * b ≤ 20000 → a ≤ 20000
      within a b s l = grind arith

  pub rows_entries : HasFewEntries (Matrix k w)
  rows_entries = record { some = mul-pos {m = k} {n = w} rows_some rows_wide; most = product_few }
