-- The syntax trees of lines, one kind for each rule of the grammar, and how each is spelled.
use Rattle.std.specs.Prelude.{ℕ, Option, Some, None, List, [], ◌∷◌, ◌++◌, codes}
use Rattle.dcx_shape.specs.declared.place.Place.{Place}
use Rattle.dcx_syntax.specs.declared.tree.Module.{Module}
use Rattle.dcx_syntax.specs.declared.tree.Module.TheVariants.{Cvxpy, Numpy}
use Rattle.dcx_syntax.specs.declared.tree.Import.{Import}
use Rattle.dcx_syntax.specs.declared.tree.Named.{Named}
use Rattle.dcx_syntax.specs.declared.bracket.Bracket.{Bracket}
use Rattle.dcx_syntax.specs.declared.bracket.Bracket.TheVariants.{Round}
use Rattle.dcx_syntax.specs.Terminal.{Plain, Terminal, opens, closes, plain, name, plus_equal, import, for, print, as_word, in_word, dot, colon, equal, newline, indent, dedent}
use Rattle.dcx_syntax.specs.Expressions.{Expr, named, expr_text}

-- any list of tokens whose brackets match, each with one of its own kind
pub data Balanced : Type 0 where
  nothing : Balanced
  beside : Plain → Balanced → Balanced
  within : Bracket → (place : Place) (inner : Balanced) → Balanced → Balanced

mutual
  -- line = import | NAME "=" expr NEWLINE | NAME "+=" expr NEWLINE | NAME "." "value" "=" expr NEWLINE | expr NEWLINE
  --      | "print" "(" balanced ")" NEWLINE | "for" NAME "in" expr ":" NEWLINE INDENT line { line } DEDENT
  pub data Line : Type 0 where
    importing : Import → Line
    assign : Named → Expr → Line
    add_to : Named → (place : Place) → Expr → Line
    set_value : Named → (place : Place) → Expr → Line
    evaluate : Expr → Line
    prints : (place open_place : Place) → Balanced → Line
    repeats : (place : Place) → Named → Expr → (first : Line) (rest : Lines) → Line

  -- script = { line }
  pub data Lines : Type 0 where
    no_lines : Lines
    lines : Line → Lines → Lines

abbrev pub module_bytes : Module → List ℕ
module_bytes Cvxpy = codes "cvxpy"
module_bytes Numpy = codes "numpy"

-- [ "as" NAME ]
abbrev pub alias_text : Option Named → List Terminal
alias_text None = []
alias_text (Some n) = plain as_word ∷ named n ∷ []

-- import = "import" ( "cvxpy" | "numpy" ) [ "as" NAME ] NEWLINE
abbrev pub import_text : Import → List Terminal
import_text i = plain (import i.place) ∷ plain (name (module_bytes i.module) i.module_place) ∷ (alias_text i.alias ++ plain newline ∷ [])

abbrev pub balanced_text : Balanced → List Terminal
balanced_text nothing = []
balanced_text (beside t rest) = plain t ∷ balanced_text rest
balanced_text (within b p inner rest) = opens b p ∷ (balanced_text inner ++ closes b ∷ balanced_text rest)

abbrev mutual
  pub line_text : Line → List Terminal
  line_text (importing i) = import_text i
  line_text (assign n x) = named n ∷ plain equal ∷ (expr_text x ++ plain newline ∷ [])
  line_text (add_to n p x) = named n ∷ plain (plus_equal p) ∷ (expr_text x ++ plain newline ∷ [])
  line_text (set_value n p x) = named n ∷ plain dot ∷ plain (name (codes "value") p) ∷ plain equal ∷ (expr_text x ++ plain newline ∷ [])
  line_text (evaluate x) = expr_text x ++ plain newline ∷ []
  line_text (prints p q inner) = plain (print p) ∷ opens Round q ∷ (balanced_text inner ++ closes Round ∷ plain newline ∷ [])
  line_text (repeats p n x first rest) =
      plain (for p) ∷ named n ∷ plain in_word ∷ (expr_text x ++ plain colon ∷ plain newline ∷ plain indent ∷ (line_text first ++ (lines_text rest ++ plain dedent ∷ [])))

  pub lines_text : Lines → List Terminal
  lines_text no_lines = []
  lines_text (lines x rest) = line_text x ++ lines_text rest

abbrev mutual
  -- a line without what its calls of print print
  pub trimmed : Line → Line
  trimmed (prints p q inner) = prints p q nothing
  trimmed (repeats p n x first rest) = repeats p n x (trimmed first) (trimmed_all rest)
  trimmed l = l

  pub trimmed_all : Lines → Lines
  trimmed_all no_lines = no_lines
  trimmed_all (lines x rest) = lines (trimmed x) (trimmed_all rest)
