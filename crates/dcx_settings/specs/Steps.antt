-- What the functions that read settings answer, against reading token by token.
use Rattle.std.specs.Prelude.{◌≡◌, ◌≤◌, ◌+◌, ◌*◌, ◌==◌, ⊤, ℕ, List, [], ◌∷◌, ◌++◌, length, Bool, true, false, Option, Some, None, Result, Ok, Err, ℤ, pos, ◌≤ℤ◌}
use Rattle.std.proofs.Common.{Bor}
use Rattle.std.specs.Ordering.{nat_cmp}
use Rattle.std.specs.Cmp.Lexicographic.{slice_cmp}
use Rattle.std.specs.BTreeSet.{BTreeSet, contains}
use Rattle.dcx_frac.specs.declared.fraction.Frac.{Frac}
use Rattle.dcx_frac.specs.Frac.{value}
use Rattle.dcx_shape.specs.declared.shape.Shape.{Shape}
use Rattle.dcx_shape.specs.Shape.{sides_of}
use Rattle.dcx_tokens.specs.declared.token.Token.{Token}
use Rattle.dcx_settings.specs.declared.settings.SettingItem.{SettingItem}
use Rattle.dcx_settings.specs.declared.role.Role.{Role}
use Rattle.dcx_settings.specs.declared.role.Role.TheVariants as roles
use Rattle.dcx_settings.specs.declared.role.Mark.{Mark}
use Rattle.dcx_settings.specs.declared.role.Mark.TheVariants as marks
use Rattle.dcx_settings.specs.declared.stop.Stop.{Stop}
use Rattle.dcx_settings.specs.declared.stop.Stop.TheVariants.{Memory, At}
use Rattle.dcx_settings.specs.Terminal.{Terminal, name, digits, decimal, minus, slash, equal, comma, semicolon, open_square, close_square, open_curly, close_curly, newline, other, terminals}
use Rattle.dcx_settings.specs.Grammar.{Number, Line, Item, Value, Every, IsGoodNumber, IsGoodRow, AreGoodRows, IsGoodValue, AreGoodItems, IsGoodLine, names_of, is_among}
use Rattle.dcx_settings.specs.Machine.{
  State,
  at,
  Phase,
  fresh,
  next_item,
  named,
  number,
  Context,
  in_row,
  start,
  Outer,
  no_matrix,
  rows_before,
  number_begun,
  size_begun,
  divisor_read,
  whole_read_on,
  reading,
  number_read,
  value_read,
  row_ended,
  row_closed,
  step,
}
use Rattle.dcx_settings.specs.Meaning.{number_value, AreNumbers, joined, value_sides, value_numbers, IsItemOf, AreItemsOf, IsLineOf, AreLinesOf}

-- ---- reading to the end
-- the tokens may end at the beginning of a line alone
abbrev pub at_end : List Line → Phase → Result (List Line) (List Terminal)
at_end lines fresh = Ok lines
at_end lines phase = Err []

abbrev pub further : (State → Result (List Line) (List Terminal)) → Option State → List Terminal → Result (List Line) (List Terminal)
further next (Some s) here = next s
further next None here = Err here

-- the lines that are read from a state on, or the tokens from the first one on that may not follow
abbrev pub read : List Terminal → State → Result (List Line) (List Terminal)
read [] s = at_end s.lines s.phase
read (t ∷ ts) s = further (read ts) (step s.lines s.phase t) (t ∷ ts)

-- reading goes on where this answers what stands behind each token
abbrev pub read_by : (Terminal → Option State) → List Terminal → Result (List Line) (List Terminal)
read_by next [] = Err []
read_by next (t ∷ ts) = further (read ts) (next t) (t ∷ ts)

-- ---- tokens
abbrev pub mark_terminal : Mark → Terminal
mark_terminal marks.Minus = minus
mark_terminal marks.Slash = slash
mark_terminal marks.Equal = equal
mark_terminal marks.Comma = comma
mark_terminal marks.Semicolon = semicolon
mark_terminal marks.OpenSquare = open_square
mark_terminal marks.CloseSquare = close_square
mark_terminal marks.OpenCurly = open_curly
mark_terminal marks.CloseCurly = close_curly
mark_terminal marks.Newline = newline

abbrev pub terminal : Role → List ℕ → Terminal
terminal roles.Name bytes = name bytes
terminal (roles.Digits f) bytes = digits f.num
terminal (roles.Decimal f) bytes = decimal f
terminal (roles.Sign m) bytes = mark_terminal m
terminal roles.Other bytes = other

-- a whole number of at least 0
pub record IsWhole (f : Frac) : Type 0 where
  pub den : f.den ≡ pos 1
  pub num : pos 0 ≤ℤ f.num

abbrev pub HasWhole : Role → Type 0
HasWhole (roles.Digits f) = IsWhole f
HasWhole _ = ⊤

-- the token isn't first
abbrev pub Lacks : Terminal → List Terminal → Type 0
Lacks t us = (ts : List Terminal) → us ≡ t ∷ ts → ⊥

abbrev pub LacksName : List Terminal → Type 0
LacksName us = (bytes : List ℕ) → Lacks (name bytes) us

abbrev pub LacksDigits : List Terminal → Type 0
LacksDigits us = (n : ℤ) → Lacks (digits n) us

abbrev pub LacksDecimal : List Terminal → Type 0
LacksDecimal us = (f : Frac) → Lacks (decimal f) us

-- reading stops at these tokens
abbrev pub IsStopAt : List Token → Stop → Type 0
IsStopAt ts Memory = ⊥
IsStopAt ts (At rest) = rest.now ≡ ts

-- ---- what is read
-- whatever stands before it, these tokens are a number that is written so, and the rest goes on behind it
pub record IsNumberRead (from : List Line → List Item → List ℕ → Context → Terminal → Option State) (us : List Terminal) (f : Frac) (rest : List Terminal) : Type 0 where
  pub number : Number
  pub good : IsGoodNumber number
  pub value_is : value f ≡ number_value number
  pub reads : (lines : List Line) (is : List Item) (n : List ℕ) (c : Context) → read_by (from lines is n c) us ≡ read_by (number_read lines is n c number) rest

-- whatever stands before it, reading stops at the rest
abbrev pub StopsAt : (from : List Line → List Item → List ℕ → Context → Terminal → Option State) → List ℕ → List Terminal → Stop → Type 0
StopsAt from text us Memory = ⊤
StopsAt from text us (At rest) = (lines : List Line) (is : List Item) (n : List ℕ) (c : Context) → read_by (from lines is n c) us ≡ Err (terminals text rest.now)

-- behind a sign, digits, digits and a slash
abbrev pub number_from : List Line → List Item → List ℕ → Context → Terminal → Option State
number_from lines is n c t = reading lines is n c (number_begun t)

abbrev pub size_from : Bool → List Line → List Item → List ℕ → Context → Terminal → Option State
size_from s lines is n c t = reading lines is n c (size_begun s t)

abbrev pub digits_from : Bool → ℤ → List Line → List Item → List ℕ → Context → Terminal → Option State
digits_from s f lines is n c t = whole_read_on lines is n c s f t

abbrev pub divisor_from : Bool → ℤ → List Line → List Item → List ℕ → Context → Terminal → Option State
divisor_from s f lines is n c t = reading lines is n c (divisor_read s f t)

-- ---- rows
-- how many numbers a row may have: rows of a matrix behind the first are as long as it
abbrev pub most_numbers : Option ℕ → ℕ
most_numbers None = 20000
most_numbers (Some w) = w

abbrev pub is_full_row : Option ℕ → ℕ → Bool
is_full_row None k = true
is_full_row (Some w) k = k == w

-- a row of this width stands here
abbrev pub HasWidth : Outer → Option ℕ → Type 0
HasWidth no_matrix None = ⊤
HasWidth no_matrix (Some w) = ⊥
HasWidth (rows_before []) None = ⊤
HasWidth (rows_before []) (Some w) = ⊥
HasWidth (rows_before (r ∷ rs)) None = ⊥
HasWidth (rows_before (r ∷ rs)) (Some w) = length r ≡ w

-- the tokens up to the rest are the numbers of a row so far
pub record IsRowBegun (width : Option ℕ) (us : List Terminal) (fs : List Frac) (rest : List Terminal) : Type 0 where
  pub before : List Number
  pub last : Number
  pub good : Every IsGoodNumber (before ++ last ∷ [])
  pub numbers_are : AreNumbers (before ++ last ∷ []) fs
  pub few : length before + 1 ≤ most_numbers width
  pub reads : (lines : List Line) (is : List Item) (n : List ℕ) (o : Outer) → HasWidth o width
      → read_by (number_from lines is n (in_row o [])) us ≡ read_by (number_read lines is n (in_row o before) last) rest

-- the tokens up to the rest are a row, behind its bracket
pub record IsRowRead (width : Option ℕ) (us : List Terminal) (fs : List Frac) (rest : List Terminal) : Type 0 where
  pub numbers : List Number
  pub good : IsGoodRow numbers
  pub numbers_are : AreNumbers numbers fs
  pub few : length numbers ≤ most_numbers width
  pub full : is_full_row width (length numbers) ≡ true
  pub reads : (lines : List Line) (is : List Item) (n : List ℕ) (o : Outer) → HasWidth o width → read_by (number_from lines is n (in_row o [])) us ≡ read rest (at lines (row_ended is n o numbers))

abbrev pub RowStopsAt : Option ℕ → List ℕ → List Terminal → Stop → Type 0
RowStopsAt width text us Memory = ⊤
RowStopsAt width text us (At rest) =
    (lines : List Line) (is : List Item) (n : List ℕ) (o : Outer) → HasWidth o width → read_by (number_from lines is n (in_row o [])) us ≡ Err (terminals text rest.now)

-- ---- matrices
-- the tokens up to the rest are rows of a matrix, behind both brackets of the first
pub record AreRowsRead (width : ℕ) (count : ℕ) (us : List Terminal) (fs : List Frac) (rest : List Terminal) : Type 0 where
  pub rows : List (List Number)
  pub good : AreGoodRows width rows
  pub counted : length rows ≡ count
  pub numbers_are : AreNumbers (joined rows) fs
  pub few : length rows * width ≤ 20000
  pub reads : (lines : List Line) (is : List Item) (n : List ℕ) → read_by (number_from lines is n (in_row (rows_before []) [])) us ≡ read rest (at lines (row_closed is n rows))

abbrev pub RowsStopAt : List ℕ → List Terminal → Stop → Type 0
RowsStopAt text us Memory = ⊤
RowsStopAt text us (At rest) = (lines : List Line) (is : List Item) (n : List ℕ) → read_by (number_from lines is n (in_row (rows_before []) [])) us ≡ Err (terminals text rest.now)

-- ---- values
-- the tokens up to the rest are a value, from this phase on
pub record IsValueRead (from : List Item → List ℕ → Phase) (us : List Terminal) (shape : Shape) (fs : List Frac) (rest : List Terminal) : Type 0 where
  pub value : Value
  pub good : IsGoodValue value
  pub sides : sides_of shape ≡ value_sides value
  pub numbers_are : AreNumbers (value_numbers value) fs
  pub reads : (lines : List Line) (is : List Item) (n : List ℕ) → read us (at lines (from is n)) ≡ read_by (value_read lines is n value) rest

abbrev pub ValueStopsAt : (from : List Item → List ℕ → Phase) → List ℕ → List Terminal → Stop → Type 0
ValueStopsAt from text us Memory = ⊤
ValueStopsAt from text us (At rest) = (lines : List Line) (is : List Item) (n : List ℕ) → read us (at lines (from is n)) ≡ Err (terminals text rest.now)

-- behind the first two brackets of a matrix
abbrev pub matrix_begun : List Item → List ℕ → Phase
matrix_begun is n = number is n (in_row (rows_before []) []) start

-- ---- items
-- the set's keys are these names
abbrev pub HasNames : BTreeSet (Bor (List ℕ)) → List (List ℕ) → Type 0
HasNames set names = (n : Bor (List ℕ)) → contains (λ x y. slice_cmp nat_cmp x.now y.now) set n ≡ is_among names n.now

-- the tokens up to the rest are an item, behind its name
pub record IsItemRead (n : List ℕ) (us : List Terminal) (item : SettingItem) (rest : List Terminal) : Type 0 where
  pub value : Value
  pub good : IsGoodValue value
  pub name_is : item.name ≡ n
  pub item_is : IsItemOf (record { called = n; value = value }) item
  pub reads : (lines : List Line) (is : List Item) → read us (at lines (named is n)) ≡ read_by (value_read lines is n value) rest

abbrev pub ItemStopsAt : List ℕ → List ℕ → List Terminal → Stop → Type 0
ItemStopsAt n text us Memory = ⊤
ItemStopsAt n text us (At rest) = (lines : List Line) (is : List Item) → read us (at lines (named is n)) ≡ Err (terminals text rest.now)

-- the tokens up to the rest are an item whose name isn't among those before
pub record IsNewItemRead (set : BTreeSet (Bor (List ℕ))) (us : List Terminal) (item : SettingItem) (rest : List Terminal) : Type 0 where
  pub called : List ℕ
  pub value : Value
  pub good : IsGoodValue value
  pub item_is : IsItemOf (record { called = called; value = value }) item
  pub new : (names : List (List ℕ)) → HasNames set names → is_among names called ≡ false
  pub reads : (lines : List Line) (is : List Item) → HasNames set (names_of is) → read us (at lines (next_item is)) ≡ read_by (value_read lines is called value) rest

abbrev pub NewItemStopsAt : BTreeSet (Bor (List ℕ)) → List ℕ → List Terminal → Stop → Type 0
NewItemStopsAt set text us Memory = ⊤
NewItemStopsAt set text us (At rest) = (lines : List Line) (is : List Item) → HasNames set (names_of is) → read us (at lines (next_item is)) ≡ Err (terminals text rest.now)

-- one name more
abbrev pub GainsName : BTreeSet (Bor (List ℕ)) → BTreeSet (Bor (List ℕ)) → List ℕ → Type 0
GainsName old new n = (names : List (List ℕ)) → HasNames old names → HasNames new (names ++ n ∷ [])

-- ---- lines
-- the tokens up to the rest are items of a line so far
pub record AreItemsRead (set : BTreeSet (Bor (List ℕ))) (us : List Terminal) (found : List SettingItem) (rest : List Terminal) : Type 0 where
  pub before : List Item
  pub last : Item
  pub good : AreGoodItems (before ++ last ∷ [])
  pub items_are : AreItemsOf (before ++ last ∷ []) found
  pub names : HasNames set (names_of (before ++ last ∷ []))
  pub reads : (lines : List Line) → read us (at lines (next_item [])) ≡ read_by (value_read lines before last.called last.value) rest

-- the tokens up to the rest are a line
pub record IsLineRead (us : List Terminal) (line : List SettingItem) (rest : List Terminal) : Type 0 where
  pub is_line : Line
  pub good : IsGoodLine is_line
  pub line_is : IsLineOf is_line line
  pub reads : (lines : List Line) → read us (at lines fresh) ≡ read rest (at (lines ++ is_line ∷ []) fresh)

abbrev pub LineStopsAt : List ℕ → List Terminal → Stop → Type 0
LineStopsAt text us Memory = ⊤
LineStopsAt text us (At rest) = (lines : List Line) → read us (at lines fresh) ≡ Err (terminals text rest.now)

-- the tokens up to the rest are lines
pub record AreLinesRead (us : List Terminal) (found : List (List SettingItem)) (rest : List Terminal) : Type 0 where
  pub lines : List Line
  pub lines_are : AreLinesOf lines found
  pub reads : read us (at [] fresh) ≡ read rest (at lines fresh)
