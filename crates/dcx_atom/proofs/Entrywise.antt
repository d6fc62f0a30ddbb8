-- Entries that are formed one after the other, and sums of products in order: what comes with one more.
use Rattle.std.proofs.Common.{◌≡◌, ℕ, zero, suc, ◌+◌, ◌<◌, arith, List, [], ◌∷◌, ◌++◌, map, length, take, drop, get_or, refl, sym, ap, ◌∙◌, subst, Result, Ok, Err, IsOk, IfOk}
use native.Mathlib.Decide.{dec_lt}
use Rattle.std.proofs.lemmas.List.{take-append-drop, take_more}
use Rattle.dcx_math.specs.Rational.{◌+ℚ◌, ◌*ℚ◌}
use Rattle.dcx_math.specs.Sums.{rat_sum_by}
use Rattle.dcx_math.proofs.Orders.{+ℚ_idr, +ℚ_assoc}
use Rattle.dcx_frac.specs.declared.fraction.Frac.{Frac}
use Rattle.dcx_frac.specs.declared.fraction.Passes.{Passes}
use Rattle.dcx_frac.specs.Frac.{value}
use Rattle.dcx_frac.specs.Results.{sum_of, product_of}
use Rattle.dcx_frac.proofs.Results.{sum_of_is, product_of_is}
use Rattle.dcx_atom.specs.Arrays.{list_below}
use Rattle.dcx_atom.specs.Formed.{zero_frac, and_then}
use Rattle.dcx_atom.specs.Entrywise.{added_product, products_from, AreFormed, IsFirst}
use Rattle.dcx_atom.proofs.BoundRows.{list_below-first}
use Rattle.dcx_atom.proofs.Lists.{list_below-same}

-- ---- sums of products
-- one more product
pub products_from-append : (s : Frac) (fs : List (Frac × Frac)) (f : Frac × Frac) → products_from s (fs ++ f ∷ []) ≡ and_then (products_from s fs) (λ t. added_product t f)
products_from-append s [] f = by (added_product s f)
  where
    by : (r : Result Frac Passes) → and_then r (λ t. Ok t) ≡ r
    by (Ok t) = refl
    by (Err passes) = refl
products_from-append s (g ∷ fs) f = by (added_product s g) (λ t. products_from-append t fs f)
  where
    by : (r : Result Frac Passes) → ((t : Frac) → products_from t (fs ++ f ∷ []) ≡ and_then (products_from t fs) (λ u. added_product u f)) →
        and_then r (λ t. products_from t (fs ++ f ∷ [])) ≡ and_then (and_then r (λ t. products_from t fs)) (λ u. added_product u f)
    by (Ok t) rest = rest t
    by (Err passes) rest = refl

-- what stopped stays stopped
pub products_from-stopped : (s : Frac) (fs gs : List (Frac × Frac)) (passes : Passes) → products_from s fs ≡ Err passes → products_from s (fs ++ gs) ≡ Err passes
products_from-stopped s [] gs passes e = cc
products_from-stopped s (f ∷ fs) gs passes e = by (added_product s f) (λ t. products_from-stopped t fs gs passes) e
  where
    by : (r : Result Frac Passes) → ((t : Frac) → products_from t fs ≡ Err passes → products_from t (fs ++ gs) ≡ Err passes) →
        and_then r (λ t. products_from t fs) ≡ Err passes → and_then r (λ t. products_from t (fs ++ gs)) ≡ Err passes
    by (Ok t) rest e = rest t e
    by (Err p) rest e = e

-- the next of a list
pub products_from-next : (s : Frac) (fs : List (Frac × Frac)) (i : ℕ) (d : Frac × Frac) (t : Frac) → i < length fs → products_from s (take i fs) ≡ Ok t →
    products_from s (take (i + 1) fs) ≡ added_product t (get_or fs i d)
products_from-next s fs i d t b e =
    ap (products_from s) (take_more fs i d b) ∙ products_from-append s (take i fs) (get_or fs i d) ∙ ap (λ r. and_then r (λ u. added_product u (get_or fs i d))) e

pub products_from-within : (s : Frac) (fs : List (Frac × Frac)) (i : ℕ) (passes : Passes) → products_from s (take i fs) ≡ Err passes → products_from s fs ≡ Err passes
products_from-within s fs i passes e = ap (products_from s) (sym (take-append-drop i fs)) ∙ products_from-stopped s (take i fs) (drop i fs) passes e

-- a sum with one more product is exact
pub added_exact : (s : Frac) (f : Frac × Frac) → IfOk (added_product s f) (λ t. value t ≡ value s +ℚ value f.0 *ℚ value f.1)
added_exact s f = by (product_of f.0 f.1) (product_of_is f.0 f.1).exact
  where
    last : (p : Frac) → value p ≡ value f.0 *ℚ value f.1 → (r : Result Frac Passes) → IfOk r (λ t. value t ≡ value s +ℚ value p) → IfOk r (λ t. value t ≡ value s +ℚ value f.0 *ℚ value f.1)
    last p e (Ok t) h = h ∙ ap (λ x. value s +ℚ x) e
    last p e (Err passes) h = h

    by : (r : Result Frac Passes) → IfOk r (λ p. value p ≡ value f.0 *ℚ value f.1) → IfOk (and_then r (sum_of s)) (λ t. value t ≡ value s +ℚ value f.0 *ℚ value f.1)
    by (Ok p) e = last p e (sum_of s p) (sum_of_is s p).exact
    by (Err passes) e = e

-- the sum is exact
pub products_from-exact : (s : Frac) (fs : List (Frac × Frac)) → IfOk (products_from s fs) (λ t. value t ≡ value s +ℚ rat_sum_by (λ f. value f.0 *ℚ value f.1) fs)
products_from-exact s [] = sym (+ℚ_idr (value s))
products_from-exact s (f ∷ fs) = by (added_product s f) (added_exact s f) (λ t. products_from-exact t fs)
  where
    last : (t : Frac) → value t ≡ value s +ℚ value f.0 *ℚ value f.1 → (r : Result Frac Passes) → IfOk r (λ u. value u ≡ value t +ℚ rat_sum_by (λ g. value g.0 *ℚ value g.1) fs) →
        IfOk r (λ u. value u ≡ value s +ℚ (value f.0 *ℚ value f.1 +ℚ rat_sum_by (λ g. value g.0 *ℚ value g.1) fs))
    last t e (Ok u) h = h ∙ ap (λ x. x +ℚ rat_sum_by (λ g. value g.0 *ℚ value g.1) fs) e ∙ +ℚ_assoc (value s) (value f.0 *ℚ value f.1) (rat_sum_by (λ g. value g.0 *ℚ value g.1) fs)
    last t e (Err passes) h = h

    by : (r : Result Frac Passes) → IfOk r (λ t. value t ≡ value s +ℚ value f.0 *ℚ value f.1) →
        ((t : Frac) → IfOk (products_from t fs) (λ u. value u ≡ value t +ℚ rat_sum_by (λ g. value g.0 *ℚ value g.1) fs)) →
        IfOk (and_then r (λ t. products_from t fs)) (λ u. value u ≡ value s +ℚ (value f.0 *ℚ value f.1 +ℚ rat_sum_by (λ g. value g.0 *ℚ value g.1) fs))
    by (Ok t) e rest = last t e (products_from t fs) (rest t)
    by (Err passes) e rest = e

-- ---- entries
-- as many as told
pub formed_count : {E : Type 0} (f : ℕ → Result Frac E) (n : ℕ) (xs : List Frac) → AreFormed f n xs → length xs ≡ n
formed_count f zero [] e = refl
formed_count f zero (x ∷ xs) e = cc
formed_count f (suc n) [] e = let g = e ∙ list_below-first n f in cc
formed_count f (suc n) (x ∷ xs) e =
    let g = e ∙ list_below-first n f in
    let tail : map Ok xs ≡ list_below n (λ i. f (suc i)) = cc in
    ap suc (formed_count (λ i. f (suc i)) n xs tail)

-- each as told
pub formed_entry : {E : Type 0} (f : ℕ → Result Frac E) (n : ℕ) (xs : List Frac) → AreFormed f n xs → (j : ℕ) → j < n → f j ≡ Ok (get_or xs j zero_frac)
formed_entry f zero xs e j b = absurd (omega arith)
formed_entry f (suc n) [] e j b = let g = e ∙ list_below-first n f in cc
formed_entry f (suc n) (x ∷ xs) e zero b = let g = e ∙ list_below-first n f in cc
formed_entry f (suc n) (x ∷ xs) e (suc j) b =
    let g = e ∙ list_below-first n f in
    let tail : map Ok xs ≡ list_below n (λ i. f (suc i)) = cc in
    formed_entry (λ i. f (suc i)) n xs tail j (omega arith)

-- so each is formed
pub formed_before : {E : Type 0} (f : ℕ → Result Frac E) (n : ℕ) (xs : List Frac) → AreFormed f n xs → (j : ℕ) → j < n → IsOk (f j)
formed_before f n xs e j b = rw (formed_entry f n xs e j b) refl

-- entries that are formed alike
pub formed_alike : {E : Type 0} (f g : ℕ → Result Frac E) (n : ℕ) (xs : List Frac) → ((j : ℕ) → j < n → f j ≡ g j) → AreFormed f n xs → AreFormed g n xs
formed_alike f g n xs same e = e ∙ list_below-same n f g same

-- ---- the first entry that isn't formed
pub err_not_ok : {A B : Type 0} (r : Result A B) (e : B) → r ≡ Err e → IsOk r → ⊥
err_not_ok (Ok x) e is ok = cc
err_not_ok (Err f) e is ok = cc

same_err : {A B : Type 0} (r : Result A B) (e f : B) → r ≡ Err e → r ≡ Err f → e ≡ f
same_err r e f h k = cc

-- one place is the first where P doesn't hold
pub one_place : (P : ℕ → Type 0) (i j : ℕ) → ¬ P i → ¬ P j → ((k : ℕ) → k < i → P k) → ((k : ℕ) → k < j → P k) → i ≡ j
one_place P i j a b h g = by (dec_lt i j) (dec_lt j i)
  where
    by : Dec (i < j) → Dec (j < i) → i ≡ j
    by (yes lt) d = absurd (a (g i lt))
    by (no f) (yes lt) = absurd (b (h j lt))
    by (no f) (no g) = omega (arith, f, g)

-- it has one stop
pub one_stop : {E : Type 0} (formed : ℕ → Result Frac E) (size : ℕ) (s t : E) → IsFirst formed size s → IsFirst formed size t → s ≡ t
one_stop formed size s t a b =
    let same : a.entry ≡ b.entry =
    one_place (λ j. IsOk (formed j)) a.entry b.entry (λ ok. err_not_ok (formed a.entry) s a.here ok) (λ ok. err_not_ok (formed b.entry) t b.here ok) a.before b.before in
    same_err (formed b.entry) s t (subst (λ j. formed j ≡ Err s) same a.here) b.here
