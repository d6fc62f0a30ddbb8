-- Settings are read token by token: what stands after each, and which tokens may follow.
use Rattle.std.proofs.Common.{ℕ, zero, suc, ◌+◌, ◌*◌, Bool, true, false, ℤ, pos, negsuc, List, [], ◌∷◌, ◌++◌, length, Option, Some, None, Result, Ok, Err}
use Rattle.std.specs.Prelude.{nat_le, nat_eq, if◌then◌else◌}
use Rattle.dcx_settings.specs.Terminal.{Terminal, name, digits, decimal, minus, slash, equal, comma, semicolon, open_square, close_square, open_curly, close_curly, newline}
use Rattle.dcx_settings.specs.Grammar.{Size, integer, point, quotient, Number, Value, one, row, matrix, Item, Line, nothing, items, names_of, row_length, is_among}

-- how far a number is read
pub data Part : Type 0 where
  start : Part
  negated : Part
  whole_read : Bool → ℤ → Part
  divided : Bool → ℤ → Part
  complete : Number → Part

-- what a row stands in
pub data Outer : Type 0 where
  no_matrix : Outer
  rows_before : List (List Number) → Outer

-- where a number stands, with the numbers before it
pub data Context : Type 0 where
  alone : Context
  in_row : Outer → List Number → Context

-- how far a line is read, with the items before and the name
pub data Phase : Type 0 where
  fresh : Phase
  opened : Phase
  closed : Phase
  next_item : List Item → Phase
  named : List Item → List ℕ → Phase
  assigned : List Item → List ℕ → Phase
  bracket : List Item → List ℕ → Phase
  number : List Item → List ℕ → Context → Part → Phase
  row_closed : List Item → List ℕ → List (List Number) → Phase
  next_row : List Item → List ℕ → List (List Number) → Phase
  ended : List Item → List ℕ → Value → Phase

-- the lines before, and this one
pub record State : Type 0 where
  pub lines : List Line
  pub phase : Phase

abbrev pub at : List Line → Phase → State
at lines phase = record { lines = lines; phase = phase }

abbrev pub when : Bool → State → Option State
when true s = Some s
when false s = None

-- ---- numbers
abbrev pub is_zero : ℤ → Bool
is_zero (pos zero) = true
is_zero (pos (suc n)) = false
is_zero (negsuc n) = false

abbrev pub number_of : Bool → Size → Number
number_of s size = record { is_negative = s; size = size }

-- a size begins
abbrev pub size_begun : Bool → Terminal → Option Part
size_begun s (digits f) = Some (whole_read s f)
size_begun s (decimal f) = Some (complete (number_of s (point f)))
size_begun s t = None

-- a number begins
abbrev pub number_begun : Terminal → Option Part
number_begun minus = Some negated
number_begun t = size_begun false t

abbrev pub quotient_read : Bool → ℤ → Bool → ℤ → Option Part
quotient_read s n true d = None
quotient_read s n false d = Some (complete (number_of s (quotient n d)))

abbrev pub divisor_read : Bool → ℤ → Terminal → Option Part
divisor_read s n (digits d) = quotient_read s n (is_zero d) d
divisor_read s n t = None

abbrev pub reading : List Line → List Item → List ℕ → Context → Option Part → Option State
reading lines is n c None = None
reading lines is n c (Some part) = Some (at lines (number is n c part))

-- ---- behind a value and a number
abbrev pub with_item : List Item → List ℕ → Value → List Item
with_item is n v = is ++ record { called = n; value = v } ∷ []

abbrev pub value_read : List Line → List Item → List ℕ → Value → Terminal → Option State
value_read lines is n v semicolon = Some (at lines (next_item (with_item is n v)))
value_read lines is n v newline = Some (at (lines ++ items (with_item is n v) ∷ []) fresh)
value_read lines is n v t = None

-- how many numbers a row may have
abbrev pub limit : Outer → ℕ
limit no_matrix = 20000
limit (rows_before []) = 20000
limit (rows_before (r ∷ rs)) = length r

-- whether a row of so many numbers may end
abbrev pub may_end : Outer → ℕ → Bool
may_end no_matrix k = true
may_end (rows_before []) k = true
may_end (rows_before (r ∷ rs)) k = nat_eq k (length r)

abbrev pub row_ended : List Item → List ℕ → Outer → List Number → Phase
row_ended is n no_matrix xs = ended is n (row xs)
row_ended is n (rows_before rows) xs = row_closed is n (rows ++ xs ∷ [])

abbrev pub in_row_read : List Line → List Item → List ℕ → Outer → List Number → Terminal → Option State
in_row_read lines is n o xs comma = when (nat_le (length xs + 1) (limit o)) (at lines (number is n (in_row o xs) start))
in_row_read lines is n o xs close_square = when (may_end o (length xs)) (at lines (row_ended is n o xs))
in_row_read lines is n o xs t = None

abbrev pub number_read : List Line → List Item → List ℕ → Context → Number → Terminal → Option State
number_read lines is n alone x t = value_read lines is n (one x) t
number_read lines is n (in_row o xs) x t = in_row_read lines is n o (xs ++ x ∷ []) t

abbrev pub whole_read_on : List Line → List Item → List ℕ → Context → Bool → ℤ → Terminal → Option State
whole_read_on lines is n c s f slash = Some (at lines (number is n c (divided s f)))
whole_read_on lines is n c s f t = number_read lines is n c (number_of s (integer f)) t

-- ---- the phases
abbrev pub after_fresh : List Line → Terminal → Option State
after_fresh lines (name n) = Some (at lines (named [] n))
after_fresh lines open_curly = Some (at lines opened)
after_fresh lines t = None

abbrev pub after_opened : List Line → Terminal → Option State
after_opened lines close_curly = Some (at lines closed)
after_opened lines t = None

abbrev pub after_closed : List Line → Terminal → Option State
after_closed lines newline = Some (at (lines ++ nothing ∷ []) fresh)
after_closed lines t = None

abbrev pub after_semicolon : List Line → List Item → Terminal → Option State
after_semicolon lines is (name n) = if is_among (names_of is) n then None else Some (at lines (named is n))
after_semicolon lines is t = None

abbrev pub after_name : List Line → List Item → List ℕ → Terminal → Option State
after_name lines is n equal = Some (at lines (assigned is n))
after_name lines is n t = None

abbrev pub after_equal : List Line → List Item → List ℕ → Terminal → Option State
after_equal lines is n open_square = Some (at lines (bracket is n))
after_equal lines is n t = reading lines is n alone (number_begun t)

abbrev pub after_bracket : List Line → List Item → List ℕ → Terminal → Option State
after_bracket lines is n open_square = Some (at lines (number is n (in_row (rows_before []) []) start))
after_bracket lines is n t = reading lines is n (in_row no_matrix []) (number_begun t)

abbrev pub in_number : List Line → List Item → List ℕ → Context → Part → Terminal → Option State
in_number lines is n c start t = reading lines is n c (number_begun t)
in_number lines is n c negated t = reading lines is n c (size_begun true t)
in_number lines is n c (whole_read s f) t = whole_read_on lines is n c s f t
in_number lines is n c (divided s f) t = reading lines is n c (divisor_read s f t)
in_number lines is n c (complete x) t = number_read lines is n c x t

abbrev pub after_row : List Line → List Item → List ℕ → List (List Number) → Terminal → Option State
after_row lines is n rows comma = when (nat_le ((length rows + 1) * row_length rows) 20000) (at lines (next_row is n rows))
after_row lines is n rows close_square = Some (at lines (ended is n (matrix rows)))
after_row lines is n rows t = None

abbrev pub before_row : List Line → List Item → List ℕ → List (List Number) → Terminal → Option State
before_row lines is n rows open_square = Some (at lines (number is n (in_row (rows_before rows) []) start))
before_row lines is n rows t = None

-- what stands behind one more token; None where it may not follow
abbrev pub step : List Line → Phase → Terminal → Option State
step lines fresh t = after_fresh lines t
step lines opened t = after_opened lines t
step lines closed t = after_closed lines t
step lines (next_item is) t = after_semicolon lines is t
step lines (named is n) t = after_name lines is n t
step lines (assigned is n) t = after_equal lines is n t
step lines (bracket is n) t = after_bracket lines is n t
step lines (number is n c part) t = in_number lines is n c part t
step lines (row_closed is n rows) t = after_row lines is n rows t
step lines (next_row is n rows) t = before_row lines is n rows t
step lines (ended is n v) t = value_read lines is n v t

abbrev pub go : (State → Result State (List Terminal)) → Option State → List Terminal → Result State (List Terminal)
go next (Some s) here = next s
go next None here = Err here

-- the state behind tokens, or the tokens from the first one on that may not follow
abbrev pub run : List Terminal → State → Result State (List Terminal)
run [] s = Ok s
run (t ∷ ts) s = go (run ts) (step s.lines s.phase t) (t ∷ ts)
