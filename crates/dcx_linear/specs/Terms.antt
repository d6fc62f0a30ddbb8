-- Lists of terms with rising keys, none of them 0: what forming such a list key by key gives.
use Rattle.std.specs.Prelude.{◌≡◌, ℕ, ◌<◌, Bool, false, nat_eq, if◌then◌else◌, List, [], ◌∷◌, Option, Some, None, Result, Ok, Err}
use Rattle.std.specs.List.{All}
use Rattle.dcx_math.specs.Rising.{IsRising}
use Rattle.dcx_frac.specs.declared.fraction.Passes.{Passes}

-- the keys rise, and no term is 0
pub record IsSparse {T : Type 0} (key : T → ℕ) (is_zero : T → Bool) (ts : List T) : Type 0 where
  pub rising : IsRising key ts
  pub nonzero : All (λ t. is_zero t ≡ false) ts

-- each key of one list stands behind each of the other
abbrev pub IsBehind : {T : Type 0} → (T → ℕ) → List T → List T → Type 0
IsBehind key ts us = All (λ t. All (λ u. key t < key u) us) ts

-- the term with this key; None stands for 0
abbrev pub term_at : {T : Type 0} → (T → ℕ) → List T → ℕ → Option T
term_at key [] k = None
term_at key (t ∷ ts) k = if nat_eq (key t) k then Some t else term_at key ts k

-- a term that is 0 isn't kept
abbrev pub kept : {T : Type 0} → (T → Bool) → T → Option T
kept is_zero t = if is_zero t then None else Some t

-- what is formed of one term stands there if it isn't 0
abbrev pub Keeps : {T : Type 0} → (T → Bool) → (Result T Passes → Type 0) → Result (Option T) Passes → Type 0
Keeps {T} is_zero Forms (Ok x) = (t : T) × Forms (Ok t) × (x ≡ kept is_zero t)
Keeps is_zero Forms (Err passes) = Forms (Err passes)

-- what stands at a key of a sum, by what stands there in the summands: a sum with 0 forms nothing
abbrev pub SumsAt : {T : Type 0} → (T → Bool) → (T → T → Result T Passes → Type 0) → Option T → Option T → Result (Option T) Passes → Type 0
SumsAt is_zero Sums None u r = r ≡ Ok u
SumsAt is_zero Sums (Some t) None r = r ≡ Ok (Some t)
SumsAt is_zero Sums (Some t) (Some u) r = Keeps is_zero (Sums t u) r

-- what stands at a key where each term is changed
abbrev pub ChangesAt : {T : Type 0} → (T → Bool) → (T → Result T Passes → Type 0) → Option T → Result (Option T) Passes → Type 0
ChangesAt is_zero Changes None r = r ≡ Ok None
ChangesAt is_zero Changes (Some t) r = Keeps is_zero (Changes t) r

-- forming passes at this key, and at none before it
pub record IsFirstPassing {T : Type 0} (Forms : ℕ → Result (Option T) Passes → Type 0) (passes : Passes) : Type 0 where
  pub key : ℕ
  pub here : Forms key (Err passes)
  pub before : (k : ℕ) → k < key → (x : Option T) × Forms k (Ok x)

-- the list has at each key what is formed there; or forming passes first so
abbrev pub FormsKeys : {T : Type 0} → (T → ℕ) → (T → Bool) → (ℕ → Result (Option T) Passes → Type 0) → Result (List T) Passes → Type 0
FormsKeys key is_zero Forms (Ok ts) = IsSparse key is_zero ts × ((k : ℕ) → Forms k (Ok (term_at key ts k)))
FormsKeys key is_zero Forms (Err passes) = IsFirstPassing Forms passes

-- the sum of two lists of terms, formed by rising keys
abbrev pub SumsTerms : {T : Type 0} → (T → ℕ) → (T → Bool) → (T → T → Result T Passes → Type 0) → List T → List T → Result (List T) Passes → Type 0
SumsTerms key is_zero Sums ts us = FormsKeys key is_zero (λ k. SumsAt is_zero Sums (term_at key ts k) (term_at key us k))

-- a list of terms, each changed by rising keys
abbrev pub ChangesTerms : {T : Type 0} → (T → ℕ) → (T → Bool) → (T → Result T Passes → Type 0) → List T → Result (List T) Passes → Type 0
ChangesTerms key is_zero Changes ts = FormsKeys key is_zero (λ k. ChangesAt is_zero Changes (term_at key ts k))
