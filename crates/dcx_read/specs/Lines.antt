-- What reading the lines of the code answers, as those of `Statements`.
use Rattle.std.specs.Prelude.{◌≡◌, ◌⊎◌, ℕ, Bool, true, false, List, [], ◌∷◌, Result, Ok, Err}
use Rattle.dcx_tokens.specs.declared.token.Token.{Token}
use Rattle.dcx_shape.specs.declared.place.Place.{Place}
use Rattle.dcx_read.specs.declared.front.Stop.{Stop}
use Rattle.dcx_read.specs.declared.role.Role.{Role}
use Rattle.dcx_read.specs.declared.role.Role.TheVariants as roles
use Rattle.dcx_syntax.specs.declared.tree.Named.{Named}
use Rattle.dcx_read.specs.Role.{role_of}
use Rattle.dcx_syntax.specs.Terminal.{Terminal}
use Rattle.dcx_read.specs.Terminals.{terminals, spelled}
use Rattle.dcx_syntax.specs.Statements.{Balanced, Line, repeats, Lines, trimmed, trimmed_all}
use Rattle.dcx_syntax.specs.declared.tree.Module.{Module}
use Rattle.dcx_syntax.specs.Expressions.{Expr}
use Rattle.dcx_read.specs.Words.{ModuleAt, is_value_word}
use Rattle.dcx_read.specs.Moves.{expr_s, balanced_s, newline_s, line_s, lines_s, dedent_s, trees}
use Rattle.dcx_read.specs.Reading.{Forest}
use Rattle.dcx_read.specs.Steps.{Gives, Progress, Loop, Stops, FrontPair, begins_expr}

-- a line is read, of which what its calls of print print isn't kept
abbrev pub ReadsLine : {X : Type 0} (source : List ℕ) → (X → Line × List Token) → Result X Stop → List Terminal → Type 0
ReadsLine source view (Ok x) us = (t : Line) × (Gives line_s us t (terminals source (view x).1) × ((view x).0 ≡ trimmed t))
ReadsLine source view (Err e) us = Stops line_s source us e

abbrev pub ReadsLines : {X : Type 0} (source : List ℕ) → (X → Lines × List Token) → Result X Stop → List Terminal → Type 0
ReadsLines source view (Ok x) us = (t : Lines) × (Gives lines_s us t (terminals source (view x).1) × ((view x).0 ≡ trimmed_all t))
ReadsLines source view (Err e) us = Stops lines_s source us e

-- tokens whose brackets match are read
abbrev pub ReadsBalanced : {X : Type 0} (source : List ℕ) → (X → List Token) → Result X Stop → List Token → Type 0
ReadsBalanced source view (Ok x) ts = (b : Balanced) × Gives balanced_s (terminals source ts) b (terminals source (view x))
ReadsBalanced source view (Err e) ts = Stops balanced_s source (terminals source ts) e

abbrev pub is_bracket : Role → Bool
is_bracket (roles.Opens b) = true
is_bracket (roles.Closes b) = true
is_bracket r = false

-- the first token is no bracket
pub record FrontPlain (ts rest : List Token) : Type 0 where
  pub token : Token
  pub parts : ts ≡ token ∷ rest
  pub role : is_bracket (role_of token.kind) ≡ false

-- no token but a bracket is first
abbrev pub LacksPlain : List Token → Type 0
LacksPlain ts = (t : Token) (rest : List Token) → ts ≡ t ∷ rest → is_bracket (role_of t.kind) ≡ true

-- tokens whose brackets match stand before the rest
pub record BalancedTo (source : List ℕ) (ts rest : List Token) : Type 0 where
  pub put : Balanced → Balanced
  pub reads : Loop balanced_s balanced_s (terminals source ts) (terminals source rest) put

-- an expression and the line's end are read
abbrev pub ReadsEnded : {X : Type 0} (source : List ℕ) → (X → Expr × List Token) → Result X Stop → List Token → Type 0
ReadsEnded source view (Ok x) ts = (mid : List Token) × (Gives expr_s (terminals source ts) (view x).0 (terminals source mid) × Gives newline_s (terminals source mid) tt (terminals source (view x).1))
ReadsEnded source view (Err e) ts = Stops expr_s source (terminals source ts) e
    ⊎ ((x : Expr) × ((mid : List Token) × (Gives expr_s (terminals source ts) x (terminals source mid) × Stops newline_s source (terminals source mid) e)))

-- the first tokens are this name, a dot, the name `value` at this place, and `=`
pub record FrontValue (source : List ℕ) (ts : List Token) (t : Token) (place : Place) (rest : List Token) : Type 0 where
  pub dotted : List Token
  pub dot_place : Place
  pub word : Token
  pub equal_place : Place
  pub first : FrontPair roles.Dot ts t dot_place dotted
  pub second : FrontPair roles.Equal dotted word equal_place rest
  pub value : is_value_word (spelled source word) ≡ true
  pub at : word.place ≡ place

abbrev pub LacksValue : List ℕ → List Token → Type 0
LacksValue source ts = (t : Token) (place : Place) (rest : List Token) → FrontValue source ts t place rest → ⊥

-- the head of a `for` line is read, up to its first line
abbrev pub ReadsHead : {X : Type 0} (source : List ℕ) (place : Place) → (X → Named × (Expr × List Token)) → Result X Stop → List Terminal → Type 0
ReadsHead source place view (Ok x) us = Progress line_s us (terminals source (view x).1.1) (line_s ∷ lines_s ∷ dedent_s ∷ [])
    (λ ss f. let t : Forest trees (line_s ∷ ss) = (repeats place (view x).0 (view x).1.0 f.0 f.1.0, f.1.1.1) in t)
ReadsHead source place view (Err e) us = Stops line_s source us e

abbrev pub begins_line : Role → Bool
begins_line roles.Import = true
begins_line roles.Print = true
begins_line roles.For = true
begins_line r = begins_expr r

abbrev pub starts_line : List Token → Bool
starts_line [] = false
starts_line (t ∷ ts) = begins_line (role_of t.kind)

abbrev pub module_at : Module → Place → ModuleAt
module_at which place = record { which = which; place = place }

-- the first line of a block, the others and the end of the block are read
abbrev pub ReadsBody : {X : Type 0} (source : List ℕ) → (X → (Line × Lines) × List Token) → Result X Stop → List Terminal → Type 0
ReadsBody source view (Ok x) us = (t : Line) × ((ts : Lines) × ((mid : List Terminal) × ((end : List Terminal) × (((view x).0.0 ≡ trimmed t)
    × (((view x).0.1 ≡ trimmed_all ts) × (Gives line_s us t mid × (Gives lines_s mid ts end × Gives dedent_s end tt (terminals source (view x).1))))))))
ReadsBody source view (Err e) us = (from : List Terminal) (make : Line → Lines → Line)
    → Progress line_s from us (line_s ∷ lines_s ∷ dedent_s ∷ []) (λ ss f. let t : Forest trees (line_s ∷ ss) = (make f.0 f.1.0, f.1.1.1) in t) → Stops line_s source from e
