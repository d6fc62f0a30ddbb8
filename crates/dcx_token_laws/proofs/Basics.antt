-- Tests of characters and numbers, and constructors that differ or are the same.
use Rattle.std.proofs.Common.{◌≡◌, ◌≢◌, ℕ, ◌<◌, Bool, true, false, eqb, List, [], ◌∷◌, ◌++◌, Option, Some, None, refl, sym, ◌∙◌, arith}
use Rattle.std.proofs.lemmas.Bool.Decides.{nat_tests}
use Rattle.dcx_tokens.specs.Front.{ends_line}

pub never_both : (b : Bool) → b ≡ true → b ≡ false → ⊥
never_both b e f = cc

-- a line feed ends a line, whatever comes behind it
pub feed_ends : (cs : List ℕ) → ends_line 10 cs ≡ true
feed_ends [] = refl
feed_ends (c ∷ cs) = refl

pub not_zero : (n : ℕ) → eqb n 0 ≡ false → 0 < n
not_zero n e = grind (arith, nat_tests)

pub some_is : {A : Type 0} (a : A) (o : Option A) → Some a ≡ o → o ≢ None
some_is a o e none = let no : ◌≡◌ {A = Option _} (Some a) None = e ∙ none in cc

-- ---- lists
pub nil_not : {A : Type 0} (x : A) (xs : List A) → ◌≡◌ {A = List A} [] (x ∷ xs) → ⊥
nil_not x xs e = cc

pub head_is : {A : Type 0} (x y : A) (xs ys : List A) → ◌≡◌ {A = List A} (x ∷ xs) (y ∷ ys) → x ≡ y
head_is x y xs ys e = cc

pub tail_is : {A : Type 0} (x y : A) (xs ys : List A) → ◌≡◌ {A = List A} (x ∷ xs) (y ∷ ys) → xs ≡ ys
tail_is x y xs ys e = cc

pub right_nil : (xs ys : List ℕ) → xs ++ ys ≡ [] → ys ≡ []
right_nil [] ys e = e
right_nil (x ∷ xs) ys e = absurd (nil_not x (xs ++ ys) (sym e))
