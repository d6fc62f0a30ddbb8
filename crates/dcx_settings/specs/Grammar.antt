-- The grammar of settings: what a line is, how it is spelled, and which lines are good.
use Rattle.std.specs.Prelude.{◌≡◌, ℕ, ◌*◌, ◌<◌, ◌≤◌, ⊤, Bool, true, false, not, ◌&&◌, IsTrue, List, [], ◌∷◌, ◌++◌, map, length, ℤ, pos, bytes_eq}
use Rattle.std.specs.List.{list_any}
use Rattle.dcx_frac.specs.declared.fraction.Frac.{Frac}
use Rattle.dcx_settings.specs.Terminal.{Terminal, name, digits, decimal, minus, slash, equal, comma, semicolon, open_square, close_square, open_curly, close_curly, newline}

-- ---- numbers: 2, 0.5, -1/3
pub data Size : Type 0 where
  integer : ℤ → Size
  point : Frac → Size
  quotient : (n d : ℤ) → Size

pub record Number : Type 0 where
  pub is_negative : Bool
  pub size : Size

abbrev pub size_text : Size → List Terminal
size_text (integer n) = digits n ∷ []
size_text (point x) = decimal x ∷ []
size_text (quotient n d) = digits n ∷ slash ∷ digits d ∷ []

abbrev pub sign_text : Bool → List Terminal
sign_text true = minus ∷ []
sign_text false = []

abbrev pub number_text : Number → List Terminal
number_text x = sign_text x.is_negative ++ size_text x.size

-- ---- values: a number, [1, 2], [[1, 2], [3, 4]]
pub data Value : Type 0 where
  one : Number → Value
  row : List Number → Value
  matrix : List (List Number) → Value

-- each behind a separator
abbrev pub preceded : Terminal → List (List Terminal) → List Terminal
preceded by [] = []
preceded by (text ∷ texts) = by ∷ (text ++ preceded by texts)

-- one after the other, with a separator between them
abbrev pub separated : Terminal → List (List Terminal) → List Terminal
separated by [] = []
separated by (text ∷ texts) = text ++ preceded by texts

abbrev pub bracketed : List (List Terminal) → List Terminal
bracketed texts = open_square ∷ (separated comma texts ++ close_square ∷ [])

abbrev pub row_text : List Number → List Terminal
row_text xs = bracketed (map number_text xs)

abbrev pub value_text : Value → List Terminal
value_text (one x) = number_text x
value_text (row xs) = row_text xs
value_text (matrix rows) = bracketed (map row_text rows)

-- ---- lines: {}, or p = 1; q = [1, 2]
pub record Item : Type 0 where
  pub called : List ℕ
  pub value : Value

pub data Line : Type 0 where
  nothing : Line
  items : List Item → Line

abbrev pub item_text : Item → List Terminal
item_text i = name i.called ∷ equal ∷ value_text i.value

abbrev pub line_text : Line → List Terminal
line_text nothing = open_curly ∷ close_curly ∷ newline ∷ []
line_text (items is) = separated semicolon (map item_text is) ++ newline ∷ []

abbrev pub settings_text : List Line → List Terminal
settings_text [] = []
settings_text (line ∷ lines) = line_text line ++ settings_text lines

-- ---- what is good
-- each has the property
abbrev pub Every : {A : Type 0} → (A → Type 0) → List A → Type 0
Every P [] = ⊤
Every P (x ∷ xs) = P x × Every P xs

-- nothing is divided by 0
abbrev pub IsGoodSize : Size → Type 0
IsGoodSize (integer n) = ⊤
IsGoodSize (point x) = ⊤
IsGoodSize (quotient n d) = d ≡ pos 0 → ⊥

abbrev pub IsGoodNumber : Number → Type 0
IsGoodNumber x = IsGoodSize x.size

-- numbers, at least one
pub record IsGoodRow (xs : List Number) : Type 0 where
  pub some : 0 < length xs
  pub numbers : Every IsGoodNumber xs

-- the length of the rows
abbrev pub row_length : List (List Number) → ℕ
row_length [] = 0
row_length (r ∷ rs) = length r

-- rows of this length, at least one
pub record AreGoodRows (width : ℕ) (rows : List (List Number)) : Type 0 where
  pub some : 0 < length rows
  pub rows_are : Every (λ xs. IsGoodRow xs × (length xs ≡ width)) rows

-- there are 20,000 numbers at most
abbrev pub IsGoodValue : Value → Type 0
IsGoodValue (one x) = IsGoodNumber x
IsGoodValue (row xs) = IsGoodRow xs × (length xs ≤ 20000)
IsGoodValue (matrix rows) = (width : ℕ) × AreGoodRows width rows × (length rows * width ≤ 20000)

abbrev pub is_among : List (List ℕ) → List ℕ → Bool
is_among names n = list_any (λ m. bytes_eq m n) names

-- no name is among those before it
abbrev pub are_new : (before : List (List ℕ)) → List (List ℕ) → Bool
are_new before [] = true
are_new before (n ∷ ns) = not (is_among before n) && are_new (before ++ n ∷ []) ns

abbrev pub names_of : List Item → List (List ℕ)
names_of is = map (λ i. i.called) is

-- at least one item, and no name twice
pub record AreGoodItems (is : List Item) : Type 0 where
  pub some : 0 < length is
  pub values : Every (λ i. IsGoodValue i.value) is
  pub distinct : IsTrue (are_new [] (names_of is))

abbrev pub IsGoodLine : Line → Type 0
IsGoodLine nothing = ⊤
IsGoodLine (items is) = AreGoodItems is
