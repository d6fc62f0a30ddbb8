-- What reading a primary of one token answers, and the end of a list of items.
use Rattle.std.specs.Prelude.{◌≡◌, ℕ, Bool, true, false, List, [], ◌∷◌, Option, Some, None}
use Rattle.dcx_tokens.specs.declared.token.Token.{Token}
use Rattle.dcx_read.specs.declared.role.Role.{Role}
use Rattle.dcx_read.specs.declared.role.Role.TheVariants as roles
use Rattle.dcx_read.specs.Role.{role_of}
use Rattle.dcx_read.specs.Terminals.{terminals}
use Rattle.dcx_read.specs.Moves.{primary_s, Tree}
use Rattle.dcx_read.specs.Steps.{Gives}

-- the first token is this text
pub record FrontText (ts : List Token) (t : Token) (rest : List Token) : Type 0 where
  pub parts : ts ≡ t ∷ rest
  pub role : role_of t.kind ≡ roles.Text

-- the roles that are a primary by themselves
abbrev pub is_leaf : Role → Bool
is_leaf roles.Name = true
is_leaf (roles.Number n) = true
is_leaf roles.Text = true
is_leaf (roles.Truth b) = true
is_leaf roles.None = true
is_leaf r = false

-- a primary of one token, or the first token is none
abbrev pub ReadsLeaf : {X : Type 0} (source : List ℕ) (ts : List Token) → (X → Tree primary_s × List Token) → Option X → Type 0
ReadsLeaf source ts view None = (t : Token) (rest : List Token) → ts ≡ t ∷ rest → is_leaf (role_of t.kind) ≡ false
ReadsLeaf source ts view (Some x) = Gives primary_s (terminals source ts) (view x).0 (terminals source (view x).1)

-- where nothing is listed, a comma stands before the end
abbrev pub EndsByComma : {X : Type 0} → List X → Bool → Type 0
EndsByComma xs comma = xs ≡ [] → comma ≡ true
