-- Lists that are made one after the other, and the numbers of a list.
use Rattle.std.proofs.Common.{◌≡◌, ⊎_elim, subst, IsOk, ◌*◌, ℕ, zero, suc, ◌+◌, ◌<◌, ◌≤◌, arith, List, [], ◌∷◌, ◌++◌, map, length, get_or, take, drop, refl, sym, ap, ap₂, ◌∙◌, pos}
use Rattle.std.proofs.lemmas.List.{map-append, length-map, take_more}
use Rattle.dcx_math.specs.Rational.{ℚ, whole}
use Rattle.dcx_math.specs.Sums.{rat_at}
use Rattle.dcx_math.proofs.Sums.{rat_at-left}
use Rattle.dcx_frac.specs.declared.fraction.Frac.{Frac}
use Rattle.dcx_frac.specs.Frac.{value}
use Rattle.dcx_atom.specs.declared.flags.Bend.{Bend}
use Rattle.dcx_atom.specs.Arrays.{list_below, joined_below, number_at}
use Rattle.dcx_atom.specs.Formed.{sum_in_order}
use Rattle.dcx_atom.specs.Farthest.{farther, extreme_from, extreme}
use Rattle.dcx_atom.proofs.FormedSums.{sum_in_order-one}
use Rattle.dcx_atom.proofs.BoundRows.{list_below-first, length-joined, below_or_last}

-- one more of a list
pub list_below-next : {A : Type 0} (n : ℕ) (f : ℕ → A) → list_below (n + 1) f ≡ list_below n f ++ f n ∷ []
list_below-next n f = let e : n + 1 ≡ suc n = omega arith in rw e refl

-- one more part of a list
pub joined_below-next : {A : Type 0} (n : ℕ) (f : ℕ → List A) → joined_below (n + 1) f ≡ joined_below n f ++ f n
joined_below-next n f = let e : n + 1 ≡ suc n = omega arith in rw e refl

-- a list that is that of the first n, with one more at its end
pub list_below-push : {A B : Type 0} (n : ℕ) (f : ℕ → B) (g : A → B) (xs : List A) (x : A) → map g xs ≡ list_below n f → g x ≡ f n → map g (xs ++ x ∷ []) ≡ list_below (n + 1) f
list_below-push n f g xs x e h = map-append g xs (x ∷ []) ∙ rw (e, h, list_below-next) refl

-- the numbers of a list
pub list_below-numbers : (xs : List Frac) → list_below (length xs) (number_at xs) ≡ map value xs
list_below-numbers [] = refl
list_below-numbers (x ∷ xs) = list_below-first (length xs) (number_at (x ∷ xs)) ∙ ap (λ ys. value x ∷ ys) (list_below-numbers xs)

-- a fraction of a list is the number there
pub number_is : (xs : List Frac) (j : ℕ) (x : Frac) → j < length xs → x ≡ get_or xs j x → value x ≡ number_at xs j
number_is [] j x b e = absurd (omega arith)
number_is (y ∷ ys) zero x b e = ap value e
number_is (y ∷ ys) (suc j) x b e = number_is ys j x (omega arith) e

-- past the end of a list stands 0
pub number_past : (xs : List Frac) (j : ℕ) → length xs ≤ j → number_at xs j ≡ whole (pos 0)
number_past [] j h = refl
number_past (x ∷ xs) zero h = absurd (omega arith)
number_past (x ∷ xs) (suc j) h = number_past xs j (omega arith)

-- a list is as long as one that it is mapped to
pub length-same : {A B C : Type 0} (f : A → C) (g : B → C) (xs : List A) (ys : List B) → map f xs ≡ map g ys → length xs ≡ length ys
length-same f g xs ys e = sym (length-map xs f) ∙ ap length e ∙ length-map ys g

-- number j of a list that is made so
pub rat_at-list_below : (n : ℕ) (f : ℕ → ℚ) (j : ℕ) → j < n → rat_at (list_below n f) j ≡ f j
rat_at-list_below zero f j h = absurd (omega arith)
rat_at-list_below (suc n) f zero h = ap (λ xs. rat_at xs 0) (list_below-first n f)
rat_at-list_below (suc n) f (suc j) h = ap (λ xs. rat_at xs (suc j)) (list_below-first n f) ∙ rat_at-list_below n (λ i. f (suc i)) j (omega arith)

-- and item j of one
pub get_or-list_below : {A : Type 0} (n : ℕ) (f : ℕ → A) (j : ℕ) (d : A) → j < n → get_or (list_below n f) j d ≡ f j
get_or-list_below zero f j d b = absurd (omega arith)
get_or-list_below (suc n) f zero d b = ap (λ xs. get_or xs 0 d) (list_below-first n f)
get_or-list_below (suc n) f (suc j) d b = ap (λ xs. get_or xs (suc j) d) (list_below-first n f) ∙ get_or-list_below n (λ i. f (suc i)) j d (omega arith)

-- number r of the list from place s on
pub number_at-drop : (xs : List Frac) (s r : ℕ) → number_at (drop s xs) r ≡ number_at xs (s + r)
number_at-drop xs zero r = let e : 0 + r ≡ r = omega arith in rw e refl
number_at-drop [] (suc s) r = refl
number_at-drop (x ∷ xs) (suc s) r = let e : suc s + r ≡ suc (s + r) = omega arith in number_at-drop xs s r ∙ rw e refl

-- number r of the first n
pub number_at-take : (xs : List Frac) (n r : ℕ) → r < n → number_at (take n xs) r ≡ number_at xs r
number_at-take xs zero r h = absurd (omega arith)
number_at-take [] (suc n) r h = refl
number_at-take (x ∷ xs) (suc n) zero h = refl
number_at-take (x ∷ xs) (suc n) (suc r) h = number_at-take xs n r (omega arith)

-- number j of a list that is made number by number
pub number_at-map : (g : ℚ → ℚ) (xs ys : List Frac) → map value ys ≡ map (λ x. g (value x)) xs → (j : ℕ) → j < length xs → number_at ys j ≡ g (number_at xs j)
number_at-map g xs ys e j h = ap (λ zs. rat_at zs j) e ∙ by xs j h
  where
    by : (xs : List Frac) (j : ℕ) → j < length xs → rat_at (map (λ x. g (value x)) xs) j ≡ g (number_at xs j)
    by [] j h = absurd (omega arith)
    by (x ∷ xs) zero h = refl
    by (x ∷ xs) (suc j) h = by xs j (omega arith)

-- lists made of the same
pub list_below-same : {A : Type 0} (n : ℕ) (f g : ℕ → A) → ((i : ℕ) → i < n → f i ≡ g i) → list_below n f ≡ list_below n g
list_below-same zero f g h = refl
list_below-same (suc n) f g h = ap₂ (λ xs x. xs ++ x ∷ []) (list_below-same n f g (λ i b. h i (omega arith))) (h n (omega arith))

-- and joined
pub joined_below-same : {A : Type 0} (n : ℕ) (f g : ℕ → List A) → ((i : ℕ) → i < n → f i ≡ g i) → joined_below n f ≡ joined_below n g
joined_below-same zero f g h = refl
joined_below-same (suc n) f g h = ap₂ (λ xs ys. xs ++ ys) (joined_below-same n f g (λ i b. h i (omega arith))) (h n (omega arith))

rat_at-right : (xs ys : List ℚ) (j : ℕ) → rat_at (xs ++ ys) (length xs + j) ≡ rat_at ys j
rat_at-right [] ys j = let e : 0 + j ≡ j = omega arith in ap (rat_at ys) e
rat_at-right (x ∷ xs) ys j = let e : length (x ∷ xs) + j ≡ suc (length xs + j) = omega arith in ap (rat_at ((x ∷ xs) ++ ys)) e ∙ rat_at-right xs ys j

-- place i of part k is among all places
pub among_parts : (k i n size : ℕ) → k < size → i < n → k * n + i < size * n
among_parts k i n size h b = grind arith

-- ---- the greatest and the least of a list
extreme_from-next : (bend : Bend) (x : ℚ) (ys : List ℚ) (y : ℚ) → extreme_from bend x (ys ++ y ∷ []) ≡ farther bend (extreme_from bend x ys) y
extreme_from-next bend x [] y = refl
extreme_from-next bend x (z ∷ zs) y = extreme_from-next bend (farther bend x z) zs y

-- the farthest of one more
pub one_farther : {A : Type 0} (bend : Bend) (x : ℚ) (f : A → ℚ) (others : List A) (i : ℕ) (y : A) → i < length others → y ≡ get_or others i y →
    extreme_from bend x (map f (take (i + 1) others)) ≡ farther bend (extreme_from bend x (map f (take i others))) (f y)
one_farther bend x f others i y h e =
    ap (λ ys. extreme_from bend x (map f ys)) (take_more others i y h) ∙ ap (extreme_from bend x) (map-append f (take i others) (get_or others i y ∷ []))
    ∙ extreme_from-next bend x (map f (take i others)) (f (get_or others i y)) ∙ ap (λ z. farther bend (extreme_from bend x (map f (take i others))) (f z)) (sym e)

-- the first of a list and the others
pub first_and_others : {A : Type 0} (bend : Bend) (f : A → ℚ) (args : List A) (x : A) → 0 < length args → x ≡ get_or args 0 x →
    extreme_from bend (f x) (map f (drop 1 args)) ≡ extreme bend (map f args)
first_and_others bend f [] x h e = absurd (omega arith)
first_and_others bend f (y ∷ ys) x h e = ap (λ z. extreme_from bend (f z) (map f ys)) e

-- of one number of a list nothing is formed
pub one_forms : (fs : List Frac) (j : ℕ) → j < length fs → IsOk (sum_in_order (number_at fs j ∷ []))
one_forms [] j h = absurd (omega arith)
one_forms (f ∷ fs) zero h = rw (sum_in_order-one f) refl
one_forms (f ∷ fs) (suc j) h = one_forms fs j (omega arith)

-- ---- lists that are made several at a time
-- number i of part k, of parts of n numbers each
pub rat_at-joined : (size n : ℕ) (f : ℕ → List ℚ) → ((k : ℕ) → length (f k) ≡ n) → (k i : ℕ) → k < size → i < n → rat_at (joined_below size f) (k * n + i) ≡ rat_at (f k) i
rat_at-joined zero n f h k i b c = absurd (omega arith)
rat_at-joined (suc size) n f h k i b c = ⊎_elim (λ l. before l (rat_at-joined size n f h k i l c)) last (below_or_last k size b)
  where
    len : length (joined_below size f) ≡ size * n
    len = length-joined size n f h

    before : k < size → rat_at (joined_below size f) (k * n + i) ≡ rat_at (f k) i → rat_at (joined_below size f ++ f size) (k * n + i) ≡ rat_at (f k) i
    before l e = rat_at-left (joined_below size f) (f size) (k * n + i) (subst (λ m. k * n + i < m) (sym len) (among_parts k i n size l c)) ∙ e

    last : k ≡ size → rat_at (joined_below size f ++ f size) (k * n + i) ≡ rat_at (f k) i
    last e =
        ap (λ m. rat_at (joined_below size f ++ f size) (m * n + i)) e ∙ ap (λ m. rat_at (joined_below size f ++ f size) (m + i)) (sym len)
        ∙ rat_at-right (joined_below size f) (f size) i ∙ ap (λ m. rat_at (f m) i) (sym e)
