-- The words of a command line that are a plain form, and what they ask for.
use Rattle.std.specs.Prelude.{ℕ, Bool, true, false, not, ◌==◌, ◌&&◌, nat_eq, nat_le, if◌then◌else◌, List, [], ◌∷◌, ◌++◌, length, drop, Option, None, Some, option_map, option_and_then, bytes_eq, codes}
use Rattle.std.specs.List.{list_all, starts_with}
use Rattle.std.specs.Char.{is_ascii_digit}
use Rattle.std.specs.Str.Parse.{digits_value}
use Rattle.dcx_words.specs.declared.words.Form.{Form}
use Rattle.dcx_words.specs.declared.words.Form.TheVariants as forms

-- what a plain form asks for
pub data Command : Type 0 where
  check : (script : List ℕ) → Command
  solve : (script : List ℕ) (limit : ℕ) → Command
  resolve : (script settings : List ℕ) (limit : ℕ) (warm : Bool) → Command
  certificate : (script settings : List ℕ) (limit : ℕ) → Command
  certify : (script settings cert : List ℕ) → Command
  migrate : (script settings cert : List ℕ) → Command
  trial : (size limit : ℕ) → Command
  iis : (script settings : List ℕ) (limit : ℕ) → Command
  range : (script settings parameter : List ℕ) (limit : ℕ) → Command

-- ---- numbers
-- one digit or more, and not too many
abbrev pub is_numeral : (longest : ℕ) → List ℕ → Bool
is_numeral longest text = nat_le 1 (length text) && nat_le (length text) longest && list_all is_ascii_digit text

-- the number that at most so many digits spell, where it lies within the bounds
abbrev pub number_within : (longest least most : ℕ) → List ℕ → Option ℕ
number_within longest least most text =
    if is_numeral longest text && nat_le least (digits_value 10 text) && nat_le (digits_value 10 text) most then Some (digits_value 10 text) else None

-- a limit of pivots
abbrev pub limit_of : List ℕ → Option ℕ
limit_of text = number_within 10 0 1000000000 text

-- ---- the option
-- the words beside the option, and the limit
pub record Operands : Type 0 where
  pub words : List (List ℕ)
  pub limit : ℕ

-- the option, whose number is the next word
abbrev pub option_word : List ℕ
option_word = codes "--max-pivots"

-- the front of the option, whose number stands behind it in the same word
abbrev pub option_front : List ℕ
option_front = codes "--max-pivots="

-- the words have no option
abbrev pub unlimited : List (List ℕ) → Operands
unlimited words = record { words = words; limit = 200000 }

-- the option sets the number that the text spells, and these words stand behind it
abbrev pub limited : (text : List ℕ) → List (List ℕ) → Option Operands
limited text words = option_map (λ n. let o : Operands = record { words = words; limit = n } in o) (limit_of text)

abbrev pub limited_by_next : List (List ℕ) → Option Operands
limited_by_next [] = None
limited_by_next (text ∷ words) = limited text words

-- these words stand before the others
abbrev pub put_before : List (List ℕ) → Operands → Operands
put_before front o = record { words = front ++ o.words; limit = o.limit }

-- The first option is taken out of the words. A second one stays among them, where no operand begins with a minus.
abbrev pub without_option : List (List ℕ) → Option Operands
without_option [] = Some (unlimited [])
without_option (word ∷ words) =
    if bytes_eq word option_word then limited_by_next words
    else (if starts_with nat_eq word option_front then limited (drop (length option_front) word) words
    else option_map (put_before (word ∷ [])) (without_option words))

-- ---- the word of a warm `resolve`
abbrev pub warm_word : List ℕ
warm_word = codes "--warm"

-- The first `--warm` is taken out of the words, beside which it is told whether there is one. A second one stays among them, where no
-- operand begins with a minus.
abbrev pub without_warm : List (List ℕ) → List (List ℕ) × Bool
without_warm [] = ([], false)
without_warm (word ∷ words) = if bytes_eq word warm_word then (words, true) else (word ∷ (without_warm words).0, (without_warm words).1)

-- ---- operands
-- a file operand isn't empty and doesn't begin with a minus; nor is or does the name of a parameter
abbrev pub is_file : List ℕ → Bool
is_file [] = false
is_file (b ∷ bs) = not (b == 45)

-- one file
abbrev pub file_of : List (List ℕ) → Option (List ℕ)
file_of (word ∷ []) = if is_file word then Some word else None
file_of words = None

-- two files
abbrev pub files_of : List (List ℕ) → Option (List ℕ × List ℕ)
files_of (first ∷ second ∷ []) = if is_file first && is_file second then Some (first, second) else None
files_of words = None

-- three files, or two and the name of a parameter
abbrev pub three_files_of : List (List ℕ) → Option (List ℕ × List ℕ × List ℕ)
three_files_of (first ∷ second ∷ third ∷ []) = if is_file first && is_file second && is_file third then Some (first, second, third) else None
three_files_of words = None

-- two files, and whether `--warm` stands among them
abbrev pub warm_files_of : List (List ℕ) → Option (List ℕ × List ℕ × Bool)
warm_files_of words = option_map (λ files. (files.0, files.1, (without_warm words).1)) (files_of (without_warm words).0)

-- one size
abbrev pub size_of : List (List ℕ) → Option ℕ
size_of (word ∷ []) = number_within 4 1 1000 word
size_of words = None

-- ---- commands
-- the command of this name that takes the option
abbrev pub limited_command : (name : List ℕ) → Operands → Option Command
limited_command name o =
    if bytes_eq name (codes "solve") then option_map (λ script. solve script o.limit) (file_of o.words)
    else (if bytes_eq name (codes "resolve") then option_map (λ files. resolve files.0 files.1 o.limit files.2) (warm_files_of o.words)
    else (if bytes_eq name (codes "certificate") then option_map (λ files. certificate files.0 files.1 o.limit) (files_of o.words)
    else (if bytes_eq name (codes "trial") then option_map (λ size. trial size o.limit) (size_of o.words)
    else (if bytes_eq name (codes "iis") then option_map (λ files. iis files.0 files.1 o.limit) (files_of o.words)
    else (if bytes_eq name (codes "range") then option_map (λ files. range files.0 files.1 files.2 o.limit) (three_files_of o.words)
    else None)))))

-- what the words ask for, where they are a plain form
abbrev pub command_of : List (List ℕ) → Option Command
command_of [] = None
command_of (name ∷ words) =
    if bytes_eq name (codes "check") then option_map check (file_of words)
    else (if bytes_eq name (codes "certify") then option_map (λ files. certify files.0 files.1 files.2) (three_files_of words)
    else (if bytes_eq name (codes "migrate") then option_map (λ files. migrate files.0 files.1 files.2) (three_files_of words)
    else option_and_then (limited_command name) (without_option words)))

-- what a form that is read asks for
abbrev pub command_in : Form → Command
command_in (forms.Check script) = check script.now
command_in (forms.Solve script limit) = solve script.now limit
command_in (forms.Resolve script settings limit warm) = resolve script.now settings.now limit warm
command_in (forms.Certificate script settings limit) = certificate script.now settings.now limit
command_in (forms.Certify script settings cert) = certify script.now settings.now cert.now
command_in (forms.Migrate script settings cert) = migrate script.now settings.now cert.now
command_in (forms.Trial size limit) = trial size limit
command_in (forms.Iis script settings limit) = iis script.now settings.now limit
command_in (forms.Range script settings parameter limit) = range script.now settings.now parameter.now limit
