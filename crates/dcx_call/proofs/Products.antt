-- Sums of products in order: one more product is added to what was formed of those before it, and the sum is exact.
use Rattle.std.proofs.Common.{◌≡◌, ℕ, zero, suc, ◌+◌, ◌<◌, arith, List, [], ◌∷◌, map, length, take, get_or, All, refl, sym, ap, ap₂, ◌∙◌, Result, Ok, Err, IfOk}
use Rattle.std.proofs.lemmas.List.{length-map}
use Rattle.std.proofs.lemmas.List.Elements.{All-head, All-tail}
use Rattle.dcx_math.specs.Rational.{ℚ, ◌+ℚ◌, ◌*ℚ◌}
use Rattle.dcx_math.specs.Sums.{rat_sum_by}
use Rattle.dcx_math.proofs.Orders.{+ℚ_idl}
use Rattle.dcx_frac.specs.declared.fraction.Frac.{Frac}
use Rattle.dcx_frac.specs.declared.fraction.Passes.{Passes}
use Rattle.dcx_frac.specs.Fits.{IsRepresentable}
use Rattle.dcx_frac.specs.Frac.{value}
use Rattle.dcx_atom.specs.Formed.{zero_frac, frac_at}
use Rattle.dcx_atom.proofs.FormedSums.{value-zero_frac, frac_at-value}
use Rattle.dcx_atom.proofs.Entrywise.{products_from-next, products_from-within, products_from-exact}
use Rattle.dcx_atom.proofs.Fractions.{value-frac_at}
use Rattle.dcx_call.specs.Forming.{added_product, products_from, factors_at, products_in_order}

-- both factors are representable
abbrev pub AreRepresentable : ℚ × ℚ → Type 0
AreRepresentable f = IsRepresentable f.0 × IsRepresentable f.1

factors_exact : (fs : List (ℚ × ℚ)) → All AreRepresentable fs → rat_sum_by (λ f. value f.0 *ℚ value f.1) (map factors_at fs) ≡ rat_sum_by (λ f. f.0 *ℚ f.1) fs
factors_exact [] h = refl
factors_exact (f ∷ fs) h =
    let own = All-head AreRepresentable f fs h in
    ap₂ ◌+ℚ◌ (ap₂ ◌*ℚ◌ (value-frac_at f.0 own.0) (value-frac_at f.1 own.1)) (factors_exact fs (All-tail AreRepresentable f fs h))

pub products_exact : (fs : List (ℚ × ℚ)) → All AreRepresentable fs → IfOk (products_in_order fs) (λ x. value x ≡ rat_sum_by (λ f. f.0 *ℚ f.1) fs)
products_exact fs h = by (products_in_order fs) (products_from-exact zero_frac (map factors_at fs))
  where
    by : (r : Result Frac Passes) → IfOk r (λ t. value t ≡ value zero_frac +ℚ rat_sum_by (λ f. value f.0 *ℚ value f.1) (map factors_at fs)) → IfOk r (λ x. value x ≡ rat_sum_by (λ f. f.0 *ℚ f.1) fs)
    by (Ok t) e = e ∙ ap₂ ◌+ℚ◌ value-zero_frac (factors_exact fs h) ∙ +ℚ_idl (rat_sum_by (λ f. f.0 *ℚ f.1) fs)
    by (Err passes) e = e

-- ---- one more of a list
item_factors : {A : Type 0} (h : A → ℚ × ℚ) (xs : List A) (i : ℕ) (x : A) (d : Frac × Frac) (p q : Frac) → i < length xs → x ≡ get_or xs i x → value p ≡ (h x).0 → value q ≡ (h x).1 →
    get_or (map factors_at (map h xs)) i d ≡ (p, q)
item_factors h [] i x d p q b e hp hq = absurd (omega arith)
item_factors h (y ∷ ys) zero x d p q b e hp hq =
    let first : frac_at (h y).0 ≡ p = ap (λ z. frac_at (h z).0) (sym e) ∙ ap frac_at (sym hp) ∙ frac_at-value p in
    let second : frac_at (h y).1 ≡ q = ap (λ z. frac_at (h z).1) (sym e) ∙ ap frac_at (sym hq) ∙ frac_at-value q in
    λ k. (first k, second k)
item_factors h (y ∷ ys) (suc i) x d p q b e hp hq = item_factors h ys i x d p q (omega arith) e hp hq

-- the sum with the product of item i
pub next_sum : {A : Type 0} (h : A → ℚ × ℚ) (xs : List A) (i : ℕ) (x : A) (p q s : Frac) (r : Result Frac Passes) → i < length xs → x ≡ get_or xs i x → value p ≡ (h x).0 → value q ≡ (h x).1 →
    products_from zero_frac (take i (map factors_at (map h xs))) ≡ Ok s → r ≡ added_product s (p, q) → products_from zero_frac (take (i + 1) (map factors_at (map h xs))) ≡ r
next_sum h xs i x p q s r b e hp hq before is =
    let fs : List (Frac × Frac) = map factors_at (map h xs) in
    let many : length fs ≡ length xs = length-map (map h xs) factors_at ∙ length-map xs h in
    products_from-next zero_frac fs i (p, q) s (omega arith) before ∙ ap (added_product s) (item_factors h xs i x (p, q) p q b e hp hq) ∙ sym is

-- the same where it passes
pub next_passes : {A : Type 0} (h : A → ℚ × ℚ) (xs : List A) (i : ℕ) (passes : Passes) → products_from zero_frac (take (i + 1) (map factors_at (map h xs))) ≡ Err passes →
    products_in_order (map h xs) ≡ Err passes
next_passes h xs i passes e = products_from-within zero_frac (map factors_at (map h xs)) (i + 1) passes e

-- item i of a list is the image of the one that it comes from
pub item_of : {A B : Type 0} (f : A → B) (xs : List A) (i : ℕ) (x : A) → x ≡ get_or xs i x → f x ≡ get_or (map f xs) i (f x)
item_of f [] i x e = refl
item_of f (y ∷ ys) zero x e = ap f e
item_of f (y ∷ ys) (suc i) x e = item_of f ys i x e

-- what stands at a place within a list doesn't depend on the default
pub own_item : {A : Type 0} (xs : List A) (i : ℕ) (d : A) → i < length xs → get_or xs i d ≡ get_or xs i (get_or xs i d)
own_item [] i d b = absurd (omega arith)
own_item (x ∷ xs) zero d b = refl
own_item (x ∷ xs) (suc i) d b = own_item xs i d (omega arith)
