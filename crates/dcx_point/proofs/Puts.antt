-- What a put does to the pairs.
use Rattle.std.proofs.Common.{◌≡◌, ◌≢◌, ℕ, Bool, true, false, List, [], ◌∷◌, ◌++◌, Some, None, IsSome, refl, sym, ap, ◌∙◌, cond, true≢false}
use Rattle.std.specs.Cmp.Lexicographic.{nat_list_eq_equiv, bytes_decides}
use Rattle.dcx_atom.specs.declared.array.Array.{Array}
use Rattle.dcx_point.specs.Pairs.{Pairs, same_name, names_of, array_of, with_array}
use Rattle.dcx_point.specs.Laws.{HoldsForPuts}

-- a name is the same as itself
pub same_name-refl : (a : List ℕ) → same_name a a ≡ true
same_name-refl a = nat_list_eq_equiv.refl a

-- names are compared either way
pub same_name-sym : (a b : List ℕ) → same_name a b ≡ same_name b a
same_name-sym a b = nat_list_eq_equiv.symm a b

-- the same bytes are one name
pub same_name-true : (a b : List ℕ) → same_name a b ≡ true → a ≡ b
same_name-true a b e = (bytes_decides a b).0 e

-- other bytes are another name
pub same_name-false : (a b : List ℕ) → a ≢ b → same_name a b ≡ false
same_name-false a b ne = by (same_name a b) refl
  where
    by : (t : Bool) → same_name a b ≡ t → t ≡ false
    by true e = absurd (ne (same_name-true a b e))
    by false e = refl

pub found : (pairs : Pairs) (name : List ℕ) (array : Array) → array_of (with_array pairs name array) name ≡ Some array
found [] name array = rw (same_name-refl name) refl
found (p ∷ ps) name array = by (found ps name array) (same_name name p.0) refl
  where
    by : array_of (with_array ps name array) name ≡ Some array → (t : Bool) → same_name name p.0 ≡ t → array_of (cond t ((p.0, array) ∷ ps) (p ∷ with_array ps name array)) name ≡ Some array
    by rest true e = rw e refl
    by rest false e = rw e rest

pub others : (pairs : Pairs) (name other : List ℕ) (array : Array) → name ≢ other → array_of (with_array pairs name array) other ≡ array_of pairs other
others [] name other array ne = rw (same_name-false other name (λ e. ne (sym e))) refl
others (p ∷ ps) name other array ne = by (others ps name other array ne) (same_name name p.0) refl
  where
    unlike : name ≡ p.0 → other ≢ p.0
    unlike e f = ne (e ∙ sym f)

    by : array_of (with_array ps name array) other ≡ array_of ps other → (t : Bool) → same_name name p.0 ≡ t →
        array_of (cond t ((p.0, array) ∷ ps) (p ∷ with_array ps name array)) other ≡ array_of (p ∷ ps) other
    by rest true e = rw (same_name-false other p.0 (unlike (same_name-true name p.0 e))) refl
    by rest false e = ap (λ r. cond (same_name other p.0) (Some p.1) r) rest

pub present : (pairs : Pairs) (name : List ℕ) (array : Array) → IsSome (array_of pairs name) → names_of (with_array pairs name array) ≡ names_of pairs
present [] name array h = absurd (true≢false (sym h))
present (p ∷ ps) name array h = by (present ps name array) (same_name name p.0) refl
  where
    by : (IsSome (array_of ps name) → names_of (with_array ps name array) ≡ names_of ps) → (t : Bool) → same_name name p.0 ≡ t
        → names_of (cond t ((p.0, array) ∷ ps) (p ∷ with_array ps name array)) ≡ names_of (p ∷ ps)
    by rest true e = refl
    by rest false e = ap (λ r. p.0 ∷ r) (rest (rw e at h))

pub absent : (pairs : Pairs) (name : List ℕ) (array : Array) → array_of pairs name ≡ None → with_array pairs name array ≡ pairs ++ (name, array) ∷ []
absent [] name array h = refl
absent (p ∷ ps) name array h = by (absent ps name array) (same_name name p.0) refl
  where
    by : (array_of ps name ≡ None → with_array ps name array ≡ ps ++ (name, array) ∷ []) → (t : Bool) → same_name name p.0 ≡ t
        → cond t ((p.0, array) ∷ ps) (p ∷ with_array ps name array) ≡ (p ∷ ps) ++ (name, array) ∷ []
    by rest true e = let g = rw e at h in cc
    by rest false e = ap (λ r. p ∷ r) (rest (rw e at h))

pub puts_hold : HoldsForPuts
puts_hold = record { found = found; others = others; present = present; absent = absent }
