-- Sets that flags tell, and the numbers of the flags that are set.
use Rattle.std.proofs.Common.{◌≡◌, ◌≢◌, ℕ, zero, suc, ◌+◌, ◌<◌, ◌≤◌, arith, Bool, true, false, if◌then◌else◌, IsTrue, List, [], ◌∷◌, ◌++◌, All, length, take, set}
use Rattle.std.proofs.Common.{get_or, replicate, refl, sym, ap, ◌∙◌, subst, add-zero, append_assoc, append-nil, get_or-set_same, get_or-set_other}
use Rattle.std.specs.Prelude.{◌||◌}
use Rattle.std.specs.List.{AllZip}
use Rattle.std.proofs.Math.Path.{fun_ext}
use Rattle.std.proofs.lemmas.Bool.{eq-eqb, ne_eqb}
use Rattle.std.proofs.lemmas.List.{get_or_default, set-set, set-get_or, take-set-le, length-set}
use Rattle.std.proofs.lemmas.List.Elements.{All-nil, All-cons, All-head, All-tail}
use Rattle.dcx_math.specs.Rising.{IsRising}
use Rattle.dcx_right.specs.ConstraintSets.{every_constraint, set_of, left_beside}
use Rattle.dcx_right.proofs.ConstraintSets.{beside_is}
use Rattle.dcx_iis.specs.Steps.{flagged}
use Rattle.dcx_iis.specs.Runs.{numbers_from}

-- ---- sets that flags tell
all_flags : (n k : ℕ) → flagged (replicate n true) k ≡ true
all_flags zero k = refl
all_flags (suc n) zero = refl
all_flags (suc n) (suc k) = all_flags n k

-- a flag that is read is the one that is told
pub flag_read : (flags : List Bool) (i : ℕ) (d : Bool) → i < length flags → flagged flags i ≡ get_or flags i d
flag_read flags i d l = get_or_default flags i true d l

-- flags that are all set tell all constraints
pub flagged_all : (flags : List Bool) (n : ℕ) → flags ≡ replicate n true → flagged flags ≡ every_constraint
flagged_all flags n e = ap flagged e ∙ fun_ext (λ k. all_flags n k)

-- a flag that is cleared leaves what is left beside its constraint, where all flags behind it are set
pub flagged_cleared : (flags : List Bool) (i : ℕ) → i < length flags → ((k : ℕ) → i ≤ k → IsTrue (flagged flags k)) → flagged (set flags i false) ≡ left_beside (flagged flags) i
flagged_cleared flags i l later =
    beside_is (flagged flags) (flagged (set flags i false)) i
    (λ k m. get_or-set_other flags i k false true (λ e. omega (arith, e, m)))
    (get_or-set_same flags i false true l)
    (λ k m. get_or-set_other flags i k false true (λ e. omega (arith, e, m)) ∙ later k (omega (arith, m)))

-- a flag that is cleared and set again is as before
pub flags_restored : (flags : List Bool) (i : ℕ) → IsTrue (flagged flags i) → set (set flags i false) i true ≡ flags
flags_restored flags i t = set-set flags i false true ∙ ap (set flags i) (sym t) ∙ set-get_or flags i true

-- ---- their numbers
numbers_push : (i : ℕ) (flags : List Bool) (b : Bool) → numbers_from i (flags ++ b ∷ []) ≡ numbers_from i flags ++ (if b then (i + length flags) ∷ [] else [])
numbers_push i [] b = append-nil (if b then i ∷ [] else []) ∙ ap (λ n. if b then n ∷ [] else []) (sym (add-zero i))
numbers_push i (c ∷ flags) b =
    let q : suc i + length flags ≡ i + suc (length flags) = omega arith in
    ap (λ rest. (if c then i ∷ [] else []) ++ rest) (numbers_push (suc i) flags b ∙ ap (λ n. numbers_from (suc i) flags ++ (if b then n ∷ [] else [])) q)
    ∙ sym (append_assoc (if c then i ∷ [] else []) (numbers_from (suc i) flags) (if b then (i + suc (length flags)) ∷ [] else []))

take_next : (flags : List Bool) (i : ℕ) → i < length flags → take (suc i) flags ≡ take i flags ++ get_or flags i true ∷ []
take_next [] i l = absurd (omega (arith, l))
take_next (b ∷ flags) zero l = refl
take_next (b ∷ flags) (suc i) l = ap (λ rest. b ∷ rest) (take_next flags i (omega (arith, l)))

take_count : (flags : List Bool) (i : ℕ) → i ≤ length flags → length (take i flags) ≡ i
take_count flags zero l = refl
take_count [] (suc i) l = absurd (omega (arith, l))
take_count (b ∷ flags) (suc i) l = ap suc (take_count flags i (omega (arith, l)))

-- one more flag
pub numbers_next : (flags : List Bool) (i : ℕ) → i < length flags → numbers_from 0 (take (suc i) flags) ≡ numbers_from 0 (take i flags) ++ (if flagged flags i then i ∷ [] else [])
numbers_next flags i l =
    ap (numbers_from 0) (take_next flags i l)
    ∙ numbers_push 0 (take i flags) (get_or flags i true)
    ∙ ap (λ n. numbers_from 0 (take i flags) ++ (if get_or flags i true then n ∷ [] else []))
    (let count = take_count flags i (omega (arith, l)) in let q : 0 + length (take i flags) ≡ i = omega (arith, count) in q)

pub numbers_stay : (flags : List Bool) (i : ℕ) → i < length flags → IsTrue (flagged flags i) → numbers_from 0 (take (suc i) flags) ≡ numbers_from 0 (take i flags) ++ i ∷ []
numbers_stay flags i l t = numbers_next flags i l ∙ ap (λ (b : Bool). numbers_from 0 (take i flags) ++ (if b then i ∷ [] else [])) t

pub numbers_cleared : (flags : List Bool) (i : ℕ) → i < length flags → numbers_from 0 (take (suc i) (set flags i false)) ≡ numbers_from 0 (take i flags)
numbers_cleared flags i l =
    let count : i < length (set flags i false) = subst (λ n. i < n) (sym (length-set flags i false)) l in
    numbers_next (set flags i false) i count
    ∙ ap (λ (b : Bool). numbers_from 0 (take i (set flags i false)) ++ (if b then i ∷ [] else [])) (get_or-set_same flags i false true l)
    ∙ append-nil (numbers_from 0 (take i (set flags i false)))
    ∙ ap (numbers_from 0) (take-set-le i flags i false (omega arith))

-- they are within the flags
below_one : (P : ℕ → Type 0) (b : Bool) (i : ℕ) (rest : List ℕ) → P i → All P rest → All P ((if b then i ∷ [] else []) ++ rest)
below_one P true i rest p h = All-cons P i rest p h
below_one P false i rest p h = h

pub numbers_above : (i j : ℕ) (flags : List Bool) → j ≤ i → All (λ k. j ≤ k) (numbers_from i flags)
numbers_above i j [] l = All-nil (λ k. j ≤ k)
numbers_above i j (b ∷ flags) l = below_one (λ k. j ≤ k) b i (numbers_from (suc i) flags) l (numbers_above (suc i) j flags (omega (arith, l)))

pub numbers_below : (i n : ℕ) (flags : List Bool) → i + length flags ≤ n → All (λ k. k < n) (numbers_from i flags)
numbers_below i n [] l = All-nil (λ k. k < n)
numbers_below i n (b ∷ flags) l = below_one (λ k. k < n) b i (numbers_from (suc i) flags) (omega (arith, l)) (numbers_below (suc i) n flags (omega (arith, l)))

-- they rise
rising_one : (b : Bool) (i : ℕ) (rest : List ℕ) → All (λ k. suc i ≤ k) rest → IsRising (λ k. k) rest → IsRising (λ k. k) ((if b then i ∷ [] else []) ++ rest)
rising_one true i rest above h = (above, h)
rising_one false i rest above h = h

pub numbers_rise : (i : ℕ) (flags : List Bool) → IsRising (λ k. k) (numbers_from i flags)
numbers_rise i [] = tt
numbers_rise i (b ∷ flags) = rising_one b i (numbers_from (suc i) flags) (numbers_above (suc i) (suc i) flags (omega arith)) (numbers_rise (suc i) flags)

-- ---- the set of these numbers
among_one : (b : Bool) (i k : ℕ) (rest : List ℕ) → i ≢ k → set_of ((if b then i ∷ [] else []) ++ rest) k ≡ set_of rest k
among_one true i k rest n = ap (λ (t : Bool). t || set_of rest k) (ne_eqb k i (λ e. n (sym e)))
among_one false i k rest n = refl

not_among : (i k : ℕ) (flags : List Bool) → k < i → set_of (numbers_from i flags) k ≡ false
not_among i k [] l = refl
not_among i k (b ∷ flags) l = among_one b i k (numbers_from (suc i) flags) (λ e. omega (arith, e, l)) ∙ not_among (suc i) k flags (omega (arith, l))

among_here : (b : Bool) (i : ℕ) (rest : List ℕ) → set_of rest i ≡ false → set_of ((if b then i ∷ [] else []) ++ rest) i ≡ b
among_here true i rest e = ap (λ (t : Bool). t || set_of rest i) (eq-eqb i i refl)
among_here false i rest e = e

among_from : (i k : ℕ) (flags : List Bool) → k < length flags → set_of (numbers_from i flags) (i + k) ≡ get_or flags k true
among_from i k [] l = absurd (omega (arith, l))
among_from i zero (b ∷ flags) l =
    ap (set_of (numbers_from i (b ∷ flags))) (add-zero i) ∙ among_here b i (numbers_from (suc i) flags) (not_among (suc i) i flags (omega arith))
among_from i (suc k) (b ∷ flags) l =
    let q : i + suc k ≡ suc i + k = omega arith in
    among_one b i (i + suc k) (numbers_from (suc i) flags) (λ e. omega (arith, e))
    ∙ ap (set_of (numbers_from (suc i) flags)) q
    ∙ among_from (suc i) k flags (omega (arith, l))

-- it has the constraints whose flags are set, and none beyond the flags
pub among_is : (flags : List Bool) (k : ℕ) → k < length flags → set_of (numbers_from 0 flags) k ≡ flagged flags k
among_is flags k l = let q : k ≡ 0 + k = omega arith in ap (set_of (numbers_from 0 flags)) q ∙ among_from 0 k flags l

-- ---- lists of which each has its own of another
module _ {A B : Type 0} where
  pub zip_push : (R : A → B → Type 0) (xs : List A) (ys : List B) (x : A) (y : B) → AllZip R xs ys → R x y → AllZip R (xs ++ x ∷ []) (ys ++ y ∷ [])
  zip_push R [] [] x y h r = (r, tt)
  zip_push R [] (z ∷ ys) x y h r = absurd h
  zip_push R (z ∷ xs) [] x y h r = absurd h
  zip_push R (z ∷ xs) (w ∷ ys) x y h r = (h.0, zip_push R xs ys x y h.1 r)

  pub zip_weaker : (P : A → Type 0) (R S : A → B → Type 0) → ((x : A) (y : B) → P x → R x y → S x y) → (xs : List A) (ys : List B) → All P xs → AllZip R xs ys → AllZip S xs ys
  zip_weaker P R S f [] [] all h = h
  zip_weaker P R S f [] (y ∷ ys) all h = absurd h
  zip_weaker P R S f (x ∷ xs) [] all h = absurd h
  zip_weaker P R S f (x ∷ xs) (y ∷ ys) all h = (f x y (All-head P x xs all) h.0, zip_weaker P R S f xs ys (All-tail P x xs all) h.1)
