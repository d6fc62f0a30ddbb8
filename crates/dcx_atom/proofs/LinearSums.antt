-- Sums of terms: linear in the arguments, and monotone and of one sign where no coefficient is below 0.
use Rattle.std.proofs.Common.{◌≡◌, inl, inr, ℕ, zero, suc, ◌<◌, arith, Bool, true, false, ◌&&◌, IsTrue, List, [], ◌∷◌, length, All, Some, refl, sym, ap, ap₂, ◌∙◌, subst, pos}
use Rattle.std.proofs.lemmas.List.Elements.{All-head, All-tail, All-cons, All-nil, All-append, All-weaker}
use Rattle.dcx_math.specs.Rational.{ℚ, whole, ◌+ℚ◌, ◌*ℚ◌, ◌≤ℚ◌}
use Rattle.dcx_math.specs.Sums.{IsNonnegative, rat_sum_below}
use Rattle.dcx_math.proofs.Orders.{+ℚ-≤ℚ, *ℚ-≤ℚ, ≤ℚ_refl, ≤ℚ-from_≡, +ℚ_idr, +ℚ-nonnegative, +ℚ-nonpositive}
use Rattle.dcx_math.proofs.Products.{*ℚ-nonnegative, *ℚ-nonpositive}
use Rattle.dcx_math.proofs.Sums.{rat_sum_by-++}
use Rattle.dcx_shape.specs.declared.shape.Sides.{Sides}
use Rattle.dcx_shape.specs.Sides.{entries_of}
use Rattle.dcx_atom.specs.declared.flags.Sign.{Sign}
use Rattle.dcx_atom.specs.declared.flags.Bend.{Bend}
use Rattle.dcx_atom.specs.declared.flags.Bend.TheVariants.{Convex, Concave}
use Rattle.dcx_atom.specs.Arrays.{Entries, list_below}
use Rattle.dcx_atom.specs.Signs.{HasSign, sign_at, IsBeyond, Follows, combination, rises, all_nonneg, all_nonpos, common_sign}
use Rattle.dcx_atom.specs.Linear.{LinearTerm, terms_at, LinearMeaning, IsLinear, KeepsSign, KeepsTrend, ForEachEntry}
use Rattle.dcx_atom.proofs.RowSums.{zero_combination, term_combination}

-- terms at a combination
pub terms_combination : (p q : ℚ) (terms : List LinearTerm) (a b : Entries) → terms_at terms (combination p q a b) ≡ p *ℚ terms_at terms a +ℚ q *ℚ terms_at terms b
terms_combination p q [] a b = zero_combination p q
terms_combination p q (x ∷ terms) a b =
    ap (λ z. x.coefficient *ℚ (p *ℚ a x.argument x.entry +ℚ q *ℚ b x.argument x.entry) +ℚ z) (terms_combination p q terms a b)
    ∙ term_combination p q x.coefficient (a x.argument x.entry) (b x.argument x.entry) (terms_at terms a) (terms_at terms b)

-- the value of a linear call at a combination is the combination of its values
pub value_combination : (m : LinearMeaning) → IsLinear m →
    ForEachEntry m (λ args j. (p q : ℚ) (a b : Entries) → m.value args (combination p q a b) j ≡ p *ℚ m.value args a j +ℚ q *ℚ m.value args b j)
value_combination m law args sides is j below p q a b =
    law args sides is j below (combination p q a b) ∙ terms_combination p q (m.terms args j) a b
    ∙ sym (ap₂ (λ x y. p *ℚ x +ℚ q *ℚ y) (law args sides is j below a) (law args sides is j below b))

-- ---- calls that rise
-- no coefficient is below 0
abbrev pub HasNoNegative : LinearMeaning → Type 0
HasNoNegative m = ForEachEntry m (λ args j. All (λ x. IsNonnegative x.coefficient) (m.terms args j))

-- each term is of an argument that there is
abbrev pub HasOnlyArguments : LinearMeaning → Type 0
HasOnlyArguments m = ForEachEntry m (λ args j. All (λ x. x.argument < length args) (m.terms args j))

-- each term is of the first argument
abbrev pub HasOnlyFirst : LinearMeaning → Type 0
HasOnlyFirst m = ForEachEntry m (λ args j. All (λ x. x.argument ≡ 0) (m.terms args j))

terms-monotone : (terms : List LinearTerm) (a b : Entries) → All (λ x. IsNonnegative x.coefficient) terms → ((i k : ℕ) → a i k ≤ℚ b i k) → terms_at terms a ≤ℚ terms_at terms b
terms-monotone [] a b h k = ≤ℚ_refl (whole (pos 0))
terms-monotone (x ∷ terms) a b h k =
    +ℚ-≤ℚ (*ℚ-≤ℚ (All-head (λ x. IsNonnegative x.coefficient) x terms h) (k x.argument x.entry)) (terms-monotone terms a b (All-tail (λ x. IsNonnegative x.coefficient) x terms h) k)

-- where a call only rises, the entries go beyond
pub follows_rising : (bend : Bend) (x y : ℚ) → Follows bend rises x y → IsBeyond bend x y
follows_rising Convex x y (inl e) = ≤ℚ-from_≡ e
follows_rising Concave x y (inl e) = ≤ℚ-from_≡ (sym e)
follows_rising bend x y (inr (inl h)) = h.1
follows_rising bend x y (inr (inr h)) = let f = h.0 in cc

terms_beyond : (bend : Bend) (terms : List LinearTerm) (a b : Entries) → All (λ x. IsNonnegative x.coefficient) terms → ((i k : ℕ) → IsBeyond bend (a i k) (b i k)) →
    IsBeyond bend (terms_at terms a) (terms_at terms b)
terms_beyond Convex terms a b h k = terms-monotone terms a b h k
terms_beyond Concave terms a b h k = terms-monotone terms b a h k

-- the monotonicity law of a call without a negative coefficient
pub rising_trend : (m : LinearMeaning) → IsLinear m → ((i : ℕ) → m.trend i ≡ rises) → HasNoNegative m → KeepsTrend m
rising_trend m law trend nonneg args sides is j below bend a b f =
    subst (λ x. IsBeyond bend x (m.value args b j)) (sym (law args sides is j below a))
    (subst (λ y. IsBeyond bend (terms_at (m.terms args j) a) y) (sym (law args sides is j below b))
    (terms_beyond bend (m.terms args j) a b (nonneg args sides is j below) (λ i k. follows_rising bend (a i k) (b i k) (subst (λ t. Follows bend t (a i k) (b i k)) (trend i) (f i k)))))

terms-nonneg : (terms : List LinearTerm) (a : Entries) → All (λ x. IsNonnegative x.coefficient) terms → All (λ x. IsNonnegative (a x.argument x.entry)) terms → IsNonnegative (terms_at terms a)
terms-nonneg [] a h k = ≤ℚ_refl (whole (pos 0))
terms-nonneg (x ∷ terms) a h k =
    +ℚ-nonnegative (*ℚ-nonnegative (All-head (λ x. IsNonnegative x.coefficient) x terms h) (All-head (λ x. IsNonnegative (a x.argument x.entry)) x terms k))
    (terms-nonneg terms a (All-tail (λ x. IsNonnegative x.coefficient) x terms h) (All-tail (λ x. IsNonnegative (a x.argument x.entry)) x terms k))

terms-nonpos : (terms : List LinearTerm) (a : Entries) → All (λ x. IsNonnegative x.coefficient) terms → All (λ x. a x.argument x.entry ≤ℚ whole (pos 0)) terms → terms_at terms a ≤ℚ whole (pos 0)
terms-nonpos [] a h k = ≤ℚ_refl (whole (pos 0))
terms-nonpos (x ∷ terms) a h k =
    +ℚ-nonpositive (*ℚ-nonpositive (All-head (λ x. IsNonnegative x.coefficient) x terms h) (All-head (λ x. a x.argument x.entry ≤ℚ whole (pos 0)) x terms k))
    (terms-nonpos terms a (All-tail (λ x. IsNonnegative x.coefficient) x terms h) (All-tail (λ x. a x.argument x.entry ≤ℚ whole (pos 0)) x terms k))

-- a sign that each argument of the terms has
signed : (m : LinearMeaning) → IsLinear m → HasNoNegative m → (args : List Sides) (sides : Sides) (is : m.shape args ≡ Some sides) (j : ℕ) (below : j < entries_of sides) (a : Entries) (s : Sign) →
    All (λ x. HasSign s (a x.argument x.entry)) (m.terms args j) → HasSign s (m.value args a j)
signed m law nonneg args sides is j below a s h = record {
  nonneg = λ t. subst (λ x. whole (pos 0) ≤ℚ x) (sym (law args sides is j below a))
      (terms-nonneg (m.terms args j) a (nonneg args sides is j below)
      (All-weaker (λ x. HasSign s (a x.argument x.entry)) (λ x. IsNonnegative (a x.argument x.entry)) (λ x k. k.nonneg t) (m.terms args j) h));
  nonpos = λ t. subst (λ x. x ≤ℚ whole (pos 0)) (sym (law args sides is j below a))
      (terms-nonpos (m.terms args j) a (nonneg args sides is j below)
      (All-weaker (λ x. HasSign s (a x.argument x.entry)) (λ x. a x.argument x.entry ≤ℚ whole (pos 0)) (λ x k. k.nonpos t) (m.terms args j) h));
}

-- the sign law of a call of one argument that has its sign
pub first_sign : (m : LinearMeaning) → IsLinear m → ((signs : List Sign) → m.sign signs ≡ sign_at signs 0) → HasNoNegative m → HasOnlyFirst m → KeepsSign m
first_sign m law sign nonneg first args sides is j below signs a count have =
    subst (λ s. HasSign s (m.value args a j)) (sym (sign signs))
    (signed m law nonneg args sides is j below a (sign_at signs 0)
    (All-weaker (λ x. x.argument ≡ 0) (λ x. HasSign (sign_at signs 0) (a x.argument x.entry))
    (λ x e. subst (λ i. HasSign (sign_at signs 0) (a i x.entry)) (sym e) (have 0 x.entry)) (m.terms args j) (first args sides is j below)))

nonneg_each : (signs : List Sign) → IsTrue (all_nonneg signs) → (i : ℕ) → i < length signs → IsTrue (sign_at signs i).nonneg
nonneg_each [] e i b = absurd (omega arith)
nonneg_each (s ∷ signs) e i b = by (nonneg_each signs) s.nonneg refl e i b
  where
    by : (IsTrue (all_nonneg signs) → (i : ℕ) → i < length signs → IsTrue (sign_at signs i).nonneg) → (t : Bool) → s.nonneg ≡ t → t && all_nonneg signs ≡ true →
        (i : ℕ) → i < length (s ∷ signs) → IsTrue (sign_at (s ∷ signs) i).nonneg
    by rest true f e zero b = f
    by rest true f e (suc i) b = rest e i (omega arith)
    by rest false f e i b = cc

nonpos_each : (signs : List Sign) → IsTrue (all_nonpos signs) → (i : ℕ) → i < length signs → IsTrue (sign_at signs i).nonpos
nonpos_each [] e i b = absurd (omega arith)
nonpos_each (s ∷ signs) e i b = by (nonpos_each signs) s.nonpos refl e i b
  where
    by : (IsTrue (all_nonpos signs) → (i : ℕ) → i < length signs → IsTrue (sign_at signs i).nonpos) → (t : Bool) → s.nonpos ≡ t → t && all_nonpos signs ≡ true →
        (i : ℕ) → i < length (s ∷ signs) → IsTrue (sign_at (s ∷ signs) i).nonpos
    by rest true f e zero b = f
    by rest true f e (suc i) b = rest e i (omega arith)
    by rest false f e i b = cc

-- the sign law of a call that has the sign of all its arguments
pub shared_sign : (m : LinearMeaning) → IsLinear m → ((signs : List Sign) → m.sign signs ≡ common_sign signs) → HasNoNegative m → HasOnlyArguments m → KeepsSign m
shared_sign m law sign nonneg within args sides is j below signs a count have =
    subst (λ s. HasSign s (m.value args a j)) (sym (sign signs))
    (signed m law nonneg args sides is j below a (common_sign signs)
    (All-weaker (λ x. x.argument < length args) (λ x. HasSign (common_sign signs) (a x.argument x.entry))
    (λ x b. let c : x.argument < length signs = subst (λ n. x.argument < n) (sym count) b in record {
      nonneg = λ t. (have x.argument x.entry).nonneg (nonneg_each signs t x.argument c);
      nonpos = λ t. (have x.argument x.entry).nonpos (nonpos_each signs t x.argument c);
    }) (m.terms args j) (within args sides is j below)))

-- ---- lists of terms by their number
-- what holds of each below n holds of the list
pub All-list_below : {A : Type 0} (P : A → Type 0) (n : ℕ) (f : ℕ → A) → ((i : ℕ) → i < n → P (f i)) → All P (list_below n f)
All-list_below P zero f h = All-nil P
All-list_below P (suc n) f h =
    All-append P (list_below n f) (f n ∷ []) (All-list_below P n f (λ i b. h i (omega arith))) (All-cons P (f n) [] (h n (omega arith)) (All-nil P))

-- the sum of so many terms
pub terms_at-list_below : (n : ℕ) (f : ℕ → LinearTerm) (a : Entries) → terms_at (list_below n f) a ≡ rat_sum_below n (λ i. (f i).coefficient *ℚ a (f i).argument (f i).entry)
terms_at-list_below zero f a = refl
terms_at-list_below (suc n) f a =
    rat_sum_by-++ (λ x. x.coefficient *ℚ a x.argument x.entry) (list_below n f) (f n ∷ [])
    ∙ ap₂ (λ x y. x +ℚ y) (terms_at-list_below n f a) (+ℚ_idr ((f n).coefficient *ℚ a (f n).argument (f n).entry))
