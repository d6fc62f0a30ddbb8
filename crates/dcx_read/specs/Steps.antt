-- What the functions of the parser answer, against reading by one token.
use Rattle.std.specs.Prelude.{◌≡◌, ℕ, Bool, true, false, List, [], ◌∷◌, ◌++◌, Option, Some, None, Result, Ok, Err}
use Rattle.dcx_shape.specs.declared.place.Place.{Place}
use Rattle.dcx_tokens.specs.declared.token.Token.{Token}
use Rattle.dcx_read.specs.declared.front.Stop.{Stop}
use Rattle.dcx_read.specs.declared.front.Stop.TheVariants.{Memory, At}
use Rattle.dcx_read.specs.declared.role.Role.{Role}
use Rattle.dcx_read.specs.declared.role.Role.TheVariants as roles
use Rattle.dcx_syntax.specs.declared.bracket.Bracket.TheVariants.{Round, Square}
use Rattle.dcx_syntax.specs.declared.tree.Sign.{Sign}
use Rattle.dcx_syntax.specs.declared.tree.Signed.{Signed}
use Rattle.dcx_read.specs.Role.{role_of}
use Rattle.dcx_syntax.specs.Terminal.{Terminal}
use Rattle.dcx_read.specs.Terminals.{terminals}
use Rattle.dcx_syntax.specs.Expressions.{signs_text}
use Rattle.dcx_read.specs.Reading.{Forest, on_ok, read}
use Rattle.dcx_read.specs.Moves.{Symbol, Tree, trees, grammar}

-- whatever is read after it, the terminals give this tree of s first, and the rest goes on
pub record Gives (s : Symbol) (us : List Terminal) (x : Tree s) (rest : List Terminal) : Type 0 where
  pub reads : (ss : List Symbol) → read grammar us (s ∷ ss) ≡ on_ok (λ f. let p : Forest trees (s ∷ ss) = (x, f) in p) (read grammar rest ss)

-- an s is read from us where the parts are still to be read from rest, and these complete it
pub record Progress (s : Symbol) (us rest : List Terminal) (parts : List Symbol) (join : (ss : List Symbol) → Forest trees (parts ++ ss) → Forest trees (s ∷ ss)) : Type 0 where
  pub reads : (ss : List Symbol) → read grammar us (s ∷ ss) ≡ on_ok (join ss) (read grammar rest (parts ++ ss))

-- the rest of a tree of s is a tree of s'
abbrev pub Loop : (s s' : Symbol) (us rest : List Terminal) (complete : Tree s' → Tree s) → Type 0
Loop s s' us rest complete = Progress s us rest (s' ∷ []) (λ ss f. (complete f.0, f.1))

-- whatever is read after an s, reading stops at the rest
pub record StopsAt (s : Symbol) (us rest : List Terminal) : Type 0 where
  pub reads : (ss : List Symbol) → read grammar us (s ∷ ss) ≡ Err rest

abbrev pub Stops : Symbol → List ℕ → List Terminal → Stop → Type 0
Stops s source us Memory = Unit {0}
Stops s source us (At rest) = StopsAt s us (terminals source rest.now)

abbrev pub Reads : {X : Type 0} (s : Symbol) (source : List ℕ) → (X → Tree s × List Token) → Result X Stop → List Terminal → Type 0
Reads s source view (Ok x) us = Gives s us (view x).0 (terminals source (view x).1)
Reads s source view (Err e) us = Stops s source us e

-- the first token has this role and this place
pub record Front (r : Role) (place : Place) (ts rest : List Token) : Type 0 where
  pub token : Token
  pub parts : ts ≡ token ∷ rest
  pub role : role_of token.kind ≡ r
  pub at : token.place ≡ place

-- no token of this role is first
abbrev pub Lacks : Role → List Token → Type 0
Lacks r ts = (t : Token) (rest : List Token) → ts ≡ t ∷ rest → role_of t.kind ≡ r → ⊥

-- the first token has this role
abbrev pub FrontOf : Role → (ts rest : List Token) → Type 0
FrontOf r ts rest = (place : Place) × Front r place ts rest

-- parsing stops here, since no token of this role is first
abbrev pub Refuses : Role → List Token → Stop → Type 0
Refuses r ts Memory = ⊥
Refuses r ts (At rest) = (rest.now ≡ ts) × Lacks r ts

-- one item of a repetition, or none
abbrev pub ReadsOne : {X : Type 0} (s : Symbol) (source : List ℕ) (none : Tree s) → (X → (Tree s → Tree s) × List Token) → Result (Option X) Stop → List Terminal → Type 0
ReadsOne s source none view (Ok None) us = Gives s us none us
ReadsOne s source none view (Ok (Some x)) us = Loop s s us (terminals source (view x).1) (view x).0
ReadsOne s source none view (Err e) us = Stops s source us e

abbrev pub begins_expr : Role → Bool
begins_expr roles.Name = true
begins_expr (roles.Number n) = true
begins_expr roles.Text = true
begins_expr (roles.Truth b) = true
begins_expr roles.None = true
begins_expr (roles.Signs s) = true
begins_expr (roles.Opens Round) = true
begins_expr (roles.Opens Square) = true
begins_expr r = false

abbrev pub starts_expr : List Token → Bool
starts_expr [] = false
starts_expr (t ∷ ts) = begins_expr (role_of t.kind)

-- signs at the front of the tokens, and none behind them
pub record IsSigns (ts : List Token) (ss : List Signed) (rest : List Token) : Type 0 where
  pub parts : (source : List ℕ) → terminals source ts ≡ signs_text ss ++ terminals source rest
  pub ends : (s : Sign) → Lacks (roles.Signs s) rest

-- the first token is this name
pub record FrontName (ts : List Token) (t : Token) (rest : List Token) : Type 0 where
  pub parts : ts ≡ t ∷ rest
  pub role : role_of t.kind ≡ roles.Name

-- the first token is this name, and the second has this role and this place
pub record FrontPair (r : Role) (ts : List Token) (t : Token) (place : Place) (rest : List Token) : Type 0 where
  pub middle : List Token
  pub name : FrontName ts t middle
  pub second : Front r place middle rest

-- the first two tokens aren't a name and a token of this role
abbrev pub LacksPair : Role → List Token → Type 0
LacksPair r ts = (t : Token) (place : Place) (rest : List Token) → FrontPair r ts t place rest → ⊥

-- what was read, if a token of this role stands behind it, and what stands behind that
abbrev pub Closes : {X Y : Type 0} → Role → (X → Y × List Token) → (result given : Result X Stop) → Type 0
Closes r view (Ok x) (Ok y) = ((view x).0 ≡ (view y).0) × FrontOf r (view y).1 (view x).1
Closes r view (Err e) (Ok y) = Refuses r (view y).1 e
Closes r view (Ok x) (Err d) = ⊥
Closes r view (Err e) (Err d) = e ≡ d

-- this beside what was read
abbrev pub IsBeside : {F U X Y : Type 0} → (X → (F × U) × List Token) → (Y → U × List Token) → F → (result : Result X Stop) (given : Result Y Stop) → Type 0
IsBeside view seen f (Ok x) (Ok y) = ((view x).0.0 ≡ f) × (((view x).0.1 ≡ (seen y).0) × ((view x).1 ≡ (seen y).1))
IsBeside view seen f (Ok x) (Err d) = ⊥
IsBeside view seen f (Err e) (Ok y) = ⊥
IsBeside view seen f (Err e) (Err d) = e ≡ d

-- one item is made of what was read
abbrev pub MakesOne : {A X Y : Type 0} → (X → A × List Token) → (Y → A × List Token) → (result : Result (Option X) Stop) (given : Result Y Stop) → Type 0
MakesOne view seen (Ok (Some x)) (Ok y) = ((view x).0 ≡ (seen y).0) × ((view x).1 ≡ (seen y).1)
MakesOne view seen (Ok None) (Ok y) = ⊥
MakesOne view seen (Ok o) (Err d) = ⊥
MakesOne view seen (Err e) (Ok y) = ⊥
MakesOne view seen (Err e) (Err d) = e ≡ d

-- a tree is made of what was read, unless memory ran out
abbrev pub Makes : {A X Y : Type 0} → (X → A × List Token) → (Y → A × List Token) → (result : Result X Stop) (given : Result Y Stop) → Type 0
Makes view seen (Ok x) (Ok y) = ((view x).0 ≡ (seen y).0) × ((view x).1 ≡ (seen y).1)
Makes view seen (Ok x) (Err d) = ⊥
Makes view seen (Err e) (Ok y) = e ≡ Memory
Makes view seen (Err e) (Err d) = e ≡ d

-- a tree of a is read, and behind it one of b
abbrev pub ReadsPair : {X : Type 0} (a b : Symbol) (source : List ℕ) → (X → (Tree a × Tree b) × List Token) → Result X Stop → List Terminal → Type 0
ReadsPair a b source view (Ok x) us = (mid : List Terminal) × (Gives a us (view x).0.0 mid × Gives b mid (view x).0.1 (terminals source (view x).1))
ReadsPair a b source view (Err e) us = (s : Symbol) (from : List Terminal) (join : (ss : List Symbol) → Forest trees (a ∷ b ∷ ss) → Forest trees (s ∷ ss))
    → Progress s from us (a ∷ b ∷ []) join → Stops s source from e
