-- A list that is sorted from the farthest number on is the falling order of its numbers, as the call counts them.
use Rattle.std.proofs.Common.{◌≡◌, ◌↔◌, ◌⊎◌, inl, inr, ℕ, suc, ◌+◌, ◌<◌, arith, Bool, true, false, if◌then◌else◌, List, [], ◌∷◌, map, length, take, get_or, All, refl, sym, ap, ap₂, ◌∙◌, subst}
use Rattle.std.specs.declared.cmp.Ordering.{Ordering}
use Rattle.std.specs.declared.cmp.Ordering.TheVariants.{Less, Equal, Greater}
use Rattle.std.specs.Ordering.{is_lt}
use Rattle.std.specs.Cmp.{IsStrictWeakOrder}
use Rattle.std.specs.List.{sum_by}
use Rattle.std.specs.List.Sorted.{IsPermutation, IsSortedBy}
use Rattle.std.proofs.lemmas.List.{length-map, take-map}
use Rattle.std.proofs.lemmas.List.Sums.{sum_by-cons}
use Rattle.std.proofs.lemmas.List.Sorted.{sum_by-IsPermutation, IsPermutation-map}
use Rattle.std.proofs.lemmas.List.Elements.{All-head, All-tail, All-cons, All-nil, All-weaker}
use Rattle.dcx_math.specs.Rational.{ℚ, neg_ℚ, rat_le, rat_lt, ◌≤ℚ◌, ◌<ℚ◌}
use Rattle.dcx_math.proofs.Orders.{≤ℚ_refl, ≤ℚ_trans, ≤ℚ_antisym, ≤ℚ-or-<ℚ, <ℚ-≤ℚ, <ℚ-not, ≤ℚ-<ℚ_trans, neg_ℚ-<ℚ, neg_ℚ-≤ℚ, neg_ℚ-neg_ℚ}
use Rattle.dcx_math.proofs.Ratios.{IsTrue-rat_le}
use Rattle.dcx_frac.specs.declared.fraction.Frac.{Frac}
use Rattle.dcx_frac.specs.Frac.{value}
use Rattle.dcx_atom.specs.declared.flags.Bend.{Bend}
use Rattle.dcx_atom.specs.Arrays.{list_below, number_at}
use Rattle.dcx_atom.specs.Bounding.{outward}
use Rattle.dcx_atom.proofs.BoundRows.{map-list_below}
use Rattle.dcx_atom.proofs.FirstStops.{rat_le-greater}
use Rattle.dcx_atom.proofs.Lists.{list_below-numbers}
use Rattle.dcx_fold.specs.Sorted.{insert, falling, IsFalling, falling-falls, length-falling}
use Rattle.dcx_fold.specs.Largest.{chosen}
use Rattle.dcx_fold.specs.LargestLaws.{turned_twice}
use Rattle.dcx_math.proofs.Lists.{map-map}

-- ---- counts
-- 1 where x is at least q
abbrev one_from : ℚ → ℚ → ℕ
one_from q x = if rat_le q x then 1 else 0

abbrev count_from : ℚ → List ℚ → ℕ
count_from q [] = 0
count_from q (x ∷ xs) = one_from q x + count_from q xs

count_insert : (q x : ℚ) (ys : List ℚ) → count_from q (insert x ys) ≡ one_from q x + count_from q ys
count_insert q x [] = refl
count_insert q x (y ∷ ys) = by (rat_le y x) (count_insert q x ys)
  where
    by : (b : Bool) → count_from q (insert x ys) ≡ one_from q x + count_from q ys → count_from q (if b then x ∷ y ∷ ys else y ∷ insert x ys) ≡ one_from q x + (one_from q y + count_from q ys)
    by true e = refl
    by false e = more (one_from q x) (one_from q y) (count_from q (insert x ys)) (count_from q ys) e
      where
        more : (a b c d : ℕ) → c ≡ a + d → b + c ≡ a + (b + d)
        more a b c d e = omega (arith, e)

count_falling : (q : ℚ) (xs : List ℚ) → count_from q (falling xs) ≡ count_from q xs
count_falling q [] = refl
count_falling q (x ∷ xs) = count_insert q x (falling xs) ∙ ap (λ n. one_from q x + n) (count_falling q xs)

count_sum : (q : ℚ) (xs : List ℚ) → sum_by (one_from q) xs ≡ count_from q xs
count_sum q [] = refl
count_sum q (x ∷ xs) = sum_by-cons (one_from q) x xs ∙ ap (λ n. one_from q x + n) (count_sum q xs)

counts_itself : (x : ℚ) → one_from x x ≡ 1
counts_itself x = rw ((IsTrue-rat_le x x).1 (≤ℚ_refl x)) refl

none_from : (q : ℚ) (xs : List ℚ) → All (λ x. x <ℚ q) xs → count_from q xs ≡ 0
none_from q [] h = refl
none_from q (x ∷ xs) h =
    ap₂ (λ a b. a + b) (none_of_one q x (rat_le-greater {x = q} {y = x} (All-head (λ x. x <ℚ q) x xs h))) (none_from q xs (All-tail (λ x. x <ℚ q) x xs h))
  where
    none_of_one : (q x : ℚ) → rat_le q x ≡ false → one_from q x ≡ 0
    none_of_one q x e = rw e refl

-- the first of one list isn't above that of another with the same counts
first_within : (x y : ℚ) (xs ys : List ℚ) → IsFalling (y ∷ ys) → count_from x (x ∷ xs) ≡ count_from x (y ∷ ys) → x ≤ℚ y
first_within x y xs ys f e = by (≤ℚ-or-<ℚ x y)
  where
    by : (x ≤ℚ y) ⊎ (y <ℚ x) → x ≤ℚ y
    by (inl h) = h
    by (inr h) =
        let none = none_from x (y ∷ ys) (All-cons (λ z. z <ℚ x) y ys h (All-weaker (λ z. z ≤ℚ y) (λ z. z <ℚ x) (λ z p. ≤ℚ-<ℚ_trans p h) ys f.0)) in
        absurd (omega (arith, counts_itself x, e, none))

-- lists in falling order with the same counts are the same
one_falling : (xs ys : List ℚ) → IsFalling xs → IsFalling ys → ((q : ℚ) → count_from q xs ≡ count_from q ys) → xs ≡ ys
one_falling [] [] f g e = refl
one_falling [] (y ∷ ys) f g e = absurd (omega (arith, counts_itself y, e y))
one_falling (x ∷ xs) [] f g e = absurd (omega (arith, counts_itself x, e x))
one_falling (x ∷ xs) (y ∷ ys) f g e =
    let same : x ≡ y = ≤ℚ_antisym (first_within x y xs ys g (e x)) (first_within y x ys xs f (sym (e y))) in
    ap₂ ◌∷◌ same (one_falling xs ys f.1 g.1 (λ q. rest (one_from q x) (one_from q y) (count_from q xs) (count_from q ys) (ap (one_from q) same) (e q)))
  where
    rest : (a b m n : ℕ) → a ≡ b → a + m ≡ b + n → m ≡ n
    rest a b m n s e = omega (arith, s, e)

-- the falling order of numbers, in whatever order they come
falling_is : (xs ys : List ℚ) → IsPermutation xs ys → IsFalling ys → ys ≡ falling xs
falling_is xs ys p f =
    one_falling ys (falling xs) f (falling-falls xs)
    (λ q. sym (count_sum q ys) ∙ sum_by-IsPermutation (one_from q) xs ys p ∙ count_sum q xs ∙ sym (count_falling q xs))

-- ---- the order by which the code sorts
lt_true : (x y : ℚ) → rat_lt x y ≡ true → x <ℚ y
lt_true x y e = record { lt = rw e tt }

lt_false : (x y : ℚ) → rat_lt x y ≡ false → y ≤ℚ x
lt_false x y e = by (≤ℚ-or-<ℚ y x)
  where
    by : (y ≤ℚ x) ⊎ (x <ℚ y) → y ≤ℚ x
    by (inl h) = h
    by (inr h) = let k = rw e at h.lt in absurd k

false_lt : (x y : ℚ) → y ≤ℚ x → rat_lt x y ≡ false
false_lt x y h = by (rat_lt x y) refl
  where
    by : (b : Bool) → rat_lt x y ≡ b → rat_lt x y ≡ false
    by true e = absurd (<ℚ-not (lt_true x y e) h)
    by false e = e

-- an answer of a comparison tells whether the number is less
pub answer_is : (r : Ordering) (x y : ℚ) → (r ≡ Less) ↔ (x <ℚ y) → is_lt r ≡ rat_lt x y
answer_is Less x y h = by (rat_lt x y) refl
  where
    by : (b : Bool) → rat_lt x y ≡ b → true ≡ rat_lt x y
    by true e = sym e
    by false e = let k = rw e at (h.0 refl).lt in absurd k
answer_is Equal x y h = by (rat_lt x y) refl
  where
    by : (b : Bool) → rat_lt x y ≡ b → false ≡ rat_lt x y
    by true e = let k = h.1 (lt_true x y e) in cc
    by false e = sym e
answer_is Greater x y h = by (rat_lt x y) refl
  where
    by : (b : Bool) → rat_lt x y ≡ b → false ≡ rat_lt x y
    by true e = let k = h.1 (lt_true x y e) in cc
    by false e = sym e

-- turning both numbers swaps them
pub turned_lt : (x y : ℚ) → rat_lt x y ≡ rat_lt (neg_ℚ y) (neg_ℚ x)
turned_lt x y = by (rat_lt x y) refl
  where
    back : neg_ℚ y <ℚ neg_ℚ x → x <ℚ y
    back h = subst (λ a. a <ℚ y) (neg_ℚ-neg_ℚ x) (subst (λ b. neg_ℚ (neg_ℚ x) <ℚ b) (neg_ℚ-neg_ℚ y) (neg_ℚ-<ℚ h))

    by : (b : Bool) → rat_lt x y ≡ b → rat_lt x y ≡ rat_lt (neg_ℚ y) (neg_ℚ x)
    by true e = e ∙ sym (is_true (neg_ℚ y) (neg_ℚ x) (neg_ℚ-<ℚ (lt_true x y e)))
      where
        is_true : (a b : ℚ) → a <ℚ b → rat_lt a b ≡ true
        is_true a b h = which (rat_lt a b) refl
          where
            which : (c : Bool) → rat_lt a b ≡ c → rat_lt a b ≡ true
            which true e = e
            which false e = let k = rw e at h.lt in absurd k
    by false e = e ∙ sym (false_lt (neg_ℚ y) (neg_ℚ x) (≤ℚ_flip_neg x y (lt_false x y e)))
      where
        ≤ℚ_flip_neg : (x y : ℚ) → y ≤ℚ x → neg_ℚ x ≤ℚ neg_ℚ y
        ≤ℚ_flip_neg x y h = neg_ℚ-≤ℚ h

-- one number goes before another where it is farther
abbrev pub goes_before : Bend → Frac → Frac → Bool
goes_before bend x y = rat_lt (outward bend (value y)) (outward bend (value x))

pub goes_before-ordered : (bend : Bend) → IsStrictWeakOrder (goes_before bend)
goes_before-ordered bend = record {
  one_way = λ x y e. false_lt (outward bend (value x)) (outward bend (value y)) (<ℚ-≤ℚ (lt_true (outward bend (value y)) (outward bend (value x)) e));
  chain = λ x y z e f. false_lt (outward bend (value z)) (outward bend (value x))
      (≤ℚ_trans (lt_false (outward bend (value y)) (outward bend (value x)) e) (lt_false (outward bend (value z)) (outward bend (value y)) f));
}

falling_of : (f : Frac → ℚ) (xs : List Frac) → ((k : ℕ) (d : Frac) → suc k < length xs → f (get_or xs (suc k) d) ≤ℚ f (get_or xs k d)) → IsFalling (map f xs)
falling_of f [] h = tt
falling_of f (x ∷ []) h = (All-nil (λ y. y ≤ℚ f x), tt)
falling_of f (x ∷ y ∷ ys) h =
    let rest = falling_of f (y ∷ ys) (λ k d b. h (suc k) d (omega arith)) in
    let l = h 0 x (omega arith) in
    (All-cons (λ z. z ≤ℚ f x) (f y) (map f ys) l (All-weaker (λ z. z ≤ℚ f y) (λ z. z ≤ℚ f x) (λ z p. ≤ℚ_trans p l) (map f ys) rest.0), rest)

map-same : {A B : Type 0} (f g : A → B) (xs : List A) → ((x : A) → f x ≡ g x) → map f xs ≡ map g xs
map-same f g [] h = refl
map-same f g (x ∷ xs) h = ap₂ ◌∷◌ (h x) (map-same f g xs h)

-- a list that is sorted so
pub sorted_is : (bend : Bend) (xs ys : List Frac) → IsPermutation xs ys → IsSortedBy (goes_before bend) ys → map value ys ≡ map (outward bend) (falling (map (λ x. outward bend (value x)) xs))
sorted_is bend xs ys p s =
    let f = λ (x : Frac). outward bend (value x) in
    let falls : IsFalling (map f ys) = falling_of f ys (λ k d b.
    let e : k + 1 ≡ suc k = omega arith in
    lt_false (f (get_or ys k d)) (f (get_or ys (suc k) d)) (subst (λ m. goes_before bend (get_or ys m d) (get_or ys k d) ≡ false) e (s k d (omega arith) (omega arith)))) in
    sym (map-map f (outward bend) ys ∙ map-same (λ x. outward bend (f x)) value ys (λ x. turned_twice bend (value x)))
    ∙ ap (map (outward bend)) (falling_is (map f xs) (map f ys) (IsPermutation-map f xs ys p) falls)

numbers_turned : (bend : Bend) (xs : List Frac) → map (λ x. outward bend (value x)) xs ≡ list_below (length xs) (λ i. outward bend (number_at xs i))
numbers_turned bend xs = sym (map-map value (outward bend) xs) ∙ ap (map (outward bend)) (sym (list_below-numbers xs)) ∙ map-list_below (length xs) (number_at xs) (outward bend)

-- the first of a sorted list are those that are chosen
pub first_chosen : (bend : Bend) (k : ℕ) (xs ys zs : List Frac) → map value ys ≡ map (outward bend) (falling (map (λ x. outward bend (value x)) xs)) → zs ≡ take k ys
    → map value zs ≡ chosen bend k (length xs) (number_at xs)
first_chosen bend k xs ys zs e t =
    ap (map value) t ∙ sym (take-map value k ys) ∙ ap (take k) e ∙ take-map (outward bend) k (falling (map (λ x. outward bend (value x)) xs))
    ∙ ap (λ ws. map (outward bend) (take k (falling ws))) (numbers_turned bend xs)

pub sorted_length : (bend : Bend) (xs ys : List Frac) → map value ys ≡ map (outward bend) (falling (map (λ x. outward bend (value x)) xs)) → length ys ≡ length xs
sorted_length bend xs ys e =
    sym (length-map ys value) ∙ ap length e ∙ length-map (falling (map (λ x. outward bend (value x)) xs)) (outward bend)
    ∙ length-falling (map (λ x. outward bend (value x)) xs) ∙ length-map xs (λ x. outward bend (value x))
