-- What the operations of a range form is exact.
use Rattle.std.proofs.Common.{◌≡◌, ℕ, zero, suc, ◌<◌, ◌≤◌, ◌^◌, Bool, true, false, List, [], ◌∷◌, length, map, Some, Result, Ok}
use Rattle.std.proofs.Common.{Err, IfOk, slice_get, refl, sym, ap, ap₂, ◌∙◌, subst, arith, unsigned_abs}
use Rattle.std.specs.List.{All}
use Rattle.std.proofs.lemmas.List.Elements.{All-cons, All-nil}
use Rattle.std.proofs.lemmas.Option.{none-some, same_Some}
use Rattle.dcx_math.specs.Rational.{ℚ, whole, ◌+ℚ◌, ◌-ℚ◌, ◌*ℚ◌, ◌/ℚ◌, neg_ℚ}
use Rattle.dcx_math.specs.Sums.{rat_sum_by, rat_sum_below}
use Rattle.dcx_math.proofs.Orders.{+ℚ_idl}
use Rattle.dcx_math.proofs.Ring.{ring, reads}
use Rattle.dcx_math.proofs.Sums.{rat_sum_below-first}
use Rattle.dcx_frac.specs.declared.fraction.Frac.{Frac}
use Rattle.dcx_frac.specs.declared.fraction.Passes.{Passes}
use Rattle.dcx_frac.specs.Frac.{value}
use Rattle.dcx_frac.specs.Results.{sum_of, difference_of, product_of, quotient_of}
use Rattle.dcx_frac.proofs.Results.{sum_of_is, difference_of_is, product_of_is, quotient_of_is}
use Rattle.dcx_atom.specs.Formed.{zero_frac, frac_at, and_then}
use Rattle.dcx_atom.proofs.Entrywise.{products_from-exact}
use Rattle.dcx_atom.proofs.FormedSums.{value-zero_frac}
use Rattle.dcx_atom.proofs.Fractions.{value-negative}
use Rattle.dcx_linear.specs.declared.param_form.ParamForm.{ParamForm}
use Rattle.dcx_linear.specs.declared.row.Row.{Row}
use Rattle.dcx_tab.specs.declared.rows.IntRow.{IntRow}
use Rattle.dcx_tab.specs.Table.{Table, entry_at}
use Rattle.dcx_lp_answer.specs.Right.{turned_if}
use Rattle.dcx_lp_answer.proofs.Fractions.{value-whole}
use Rattle.dcx_range.specs.declared.rates.Rate.{Rate}
use Rattle.dcx_range.specs.Coefficients.{coefficient_of}
use Rattle.dcx_range.specs.Operations.{kept_rate, rate_of, rates_of, factors_at, change_at, zero_of, slope_of, constant_of}
use Rattle.dcx_std.specs.WholeRows.{opposite, turned_frac}

-- ---- steps
-- what is formed in two steps is formed in each
pub both_formed : {A B : Type 0} (r : Result A Passes) (f : A → Result B Passes) (y : B) → and_then r f ≡ Ok y → (x : A) × (r ≡ Ok x) × (f x ≡ Ok y)
both_formed (Ok x) f y e = (x, refl, e)
both_formed (Err passes) f y e = absurd cc

-- what holds of what is formed
pub holds_of : {A E : Type 0} (r : Result A E) (P : A → Type 0) (x : A) → IfOk r P → r ≡ Ok x → P x
holds_of {A} {E} r P x h e = subst (λ (z : Result A E). IfOk z P) e h

-- ---- the change of a row of the program
turned_value : (b : Bool) (x : Frac) → value (turned_frac b x) ≡ turned_if b (value x)
turned_value true x = value-negative x
turned_value false x = refl

turned_product : (b : Bool) (f c : ℚ) → turned_if b f *ℚ neg_ℚ c ≡ turned_if b (f *ℚ neg_ℚ c)
turned_product true f c = ring (f ∷ c ∷ []) (search reads depth 30) tt
turned_product false f c = refl

pub rate_value : (k : ℕ) (constant : ParamForm) (int : IntRow) (h : Rate) → rate_of k constant int ≡ Ok h
    → (h.column ≡ int.basic) × (value h.change ≡ turned_if int.negated (value int.factor *ℚ neg_ℚ (value (coefficient_of k constant))))
rate_value k constant int h e =
    let f = turned_frac int.negated int.factor in
    let g = opposite (coefficient_of k constant) in
    let a = both_formed (product_of f g) (λ x. Ok (kept_rate int x)) h e in
    let last = a.2 in
    let d : kept_rate int a.0 ≡ h = cc in (
      ap (λ (z : Rate). z.column) (sym d),
      ap (λ (z : Rate). value z.change) (sym d)
          ∙ holds_of (product_of f g) (λ x. value x ≡ value f *ℚ value g) a.0 (product_of_is f g).exact a.1
          ∙ ap₂ ◌*ℚ◌ (turned_value int.negated int.factor) (value-negative (coefficient_of k constant))
          ∙ turned_product int.negated (value int.factor) (value (coefficient_of k constant)),
    )

-- those of all rows
module _ (k : ℕ) where
  pub rates_length : (rows : List (Row ParamForm)) (ints : List IntRow) (hs : List Rate) → rates_of k rows ints ≡ Ok hs → length rows ≤ length ints → length hs ≡ length rows
  rates_length [] ints hs e l = let d : hs ≡ [] = cc in ap length d
  rates_length (x ∷ rows) [] hs e l = absurd (omega (arith, l))
  rates_length (x ∷ rows) (y ∷ ints) hs e l =
      let a = both_formed (rate_of k x.form.constant y) (λ h. and_then (rates_of k rows ints) (λ rest. Ok (h ∷ rest))) hs e in
      let b = both_formed (rates_of k rows ints) (λ rest. Ok (a.0 ∷ rest)) hs a.2 in
      let last = b.2 in
      let d : hs ≡ a.0 ∷ b.0 = cc in
      ap length d ∙ ap suc (rates_length rows ints b.0 b.1 (omega (arith, l)))

  -- the change of each row is that of its row and its integer row
  pub rate_at : (rows : List (Row ParamForm)) (ints : List IntRow) (hs : List Rate) → rates_of k rows ints ≡ Ok hs → (i : ℕ) (row : Row ParamForm) (int : IntRow) (h : Rate)
      → slice_get rows i ≡ Some row → slice_get ints i ≡ Some int → slice_get hs i ≡ Some h
      → rate_of k row.form.constant int ≡ Ok h
  rate_at [] ints hs e i row int h r s t = absurd (none-some row r)
  rate_at (x ∷ rows) [] hs e i row int h r s t = absurd (none-some int s)
  rate_at (x ∷ rows) (y ∷ ints) hs e zero row int h r s t =
      let a = both_formed (rate_of k x.form.constant y) (λ z. and_then (rates_of k rows ints) (λ rest. Ok (z ∷ rest))) hs e in
      let b = both_formed (rates_of k rows ints) (λ rest. Ok (a.0 ∷ rest)) hs a.2 in
      let last = b.2 in
      let d : hs ≡ a.0 ∷ b.0 = cc in
      ap₂ (λ (z : Row ParamForm) (w : IntRow). rate_of k z.form.constant w) (sym (same_Some x row r)) (sym (same_Some y int s)) ∙ a.1
      ∙ ap Ok (same_Some a.0 h (sym (ap (λ (zs : List Rate). slice_get zs 0) d) ∙ t))
  rate_at (x ∷ rows) (y ∷ ints) hs e (suc i) row int h r s t =
      let a = both_formed (rate_of k x.form.constant y) (λ z. and_then (rates_of k rows ints) (λ rest. Ok (z ∷ rest))) hs e in
      let b = both_formed (rates_of k rows ints) (λ rest. Ok (a.0 ∷ rest)) hs a.2 in
      let last = b.2 in
      let d : hs ≡ a.0 ∷ b.0 = cc in
      rate_at rows ints b.0 b.1 i row int h r s (sym (ap (λ (zs : List Rate). slice_get zs (suc i)) d) ∙ t)

  -- their columns are the first basic columns of the rows
  pub rates_low : (n : ℕ) (rows : List (Row ParamForm)) (ints : List IntRow) (hs : List Rate) → rates_of k rows ints ≡ Ok hs → ((i : ℕ) (int : IntRow) → slice_get ints i ≡ Some int → int.basic < n)
      → All (λ h. h.column < n) hs
  rates_low n [] ints hs e low = let d : [] ≡ hs = cc in subst (All (λ (h : Rate). h.column < n)) d (All-nil (λ (h : Rate). h.column < n))
  rates_low n (x ∷ rows) [] hs e low = let d : [] ≡ hs = cc in subst (All (λ (h : Rate). h.column < n)) d (All-nil (λ (h : Rate). h.column < n))
  rates_low n (x ∷ rows) (y ∷ ints) hs e low =
      let a = both_formed (rate_of k x.form.constant y) (λ z. and_then (rates_of k rows ints) (λ rest. Ok (z ∷ rest))) hs e in
      let b = both_formed (rates_of k rows ints) (λ rest. Ok (a.0 ∷ rest)) hs a.2 in
      let last = b.2 in
      let d : a.0 ∷ b.0 ≡ hs = cc in
      subst (All (λ (h : Rate). h.column < n)) d
      (All-cons (λ (h : Rate). h.column < n) a.0 b.0 (subst (λ j. j < n) (sym (rate_value k x.form.constant y a.0 a.1).0) (low 0 y refl))
      (rates_low n rows ints b.0 b.1 (λ i int s. low (suc i) int s)))

-- ---- the change of a row of a tableau
-- a sum over items, by their places
pub sum_below : {A : Type 0} (f : A → ℚ) (g : ℕ → ℚ) (xs : List A) → ((i : ℕ) (x : A) → slice_get xs i ≡ Some x → f x ≡ g i) → rat_sum_by f xs ≡ rat_sum_below (length xs) g
sum_below f g [] h = refl
sum_below f g (x ∷ xs) h = ap₂ ◌+ℚ◌ (h 0 x refl) (sum_below f (λ i. g (suc i)) xs (λ i y e. h (suc i) y e)) ∙ sym (rat_sum_below-first (length xs) g)

module _ (t : Table) (i : ℕ) (small : (j : ℕ) → unsigned_abs (entry_at t i j) < 2 ^ 127) where
  factors_sum : (hs : List Rate) → rat_sum_by (λ (f : Frac × Frac). value f.0 *ℚ value f.1) (map (factors_at t i) hs) ≡ rat_sum_by (λ (h : Rate). value h.change *ℚ whole (entry_at t i h.column)) hs
  factors_sum [] = refl
  factors_sum (h ∷ hs) = ap₂ ◌+ℚ◌ (ap (λ z. value h.change *ℚ z) (value-whole (entry_at t i h.column) (small h.column))) (factors_sum hs)

  pub change_value : (hs : List Rate) (d : Frac) → change_at t i hs ≡ Ok d → value d ≡ rat_sum_by (λ (h : Rate). value h.change *ℚ whole (entry_at t i h.column)) hs
  change_value hs d e =
      let sum = rat_sum_by (λ (f : Frac × Frac). value f.0 *ℚ value f.1) (map (factors_at t i) hs) in
      holds_of (change_at t i hs) (λ x. value x ≡ value zero_frac +ℚ sum) d (products_from-exact zero_frac (map (factors_at t i) hs)) e
      ∙ ap (λ z. z +ℚ sum) value-zero_frac ∙ +ℚ_idl sum ∙ factors_sum hs

-- ---- ends, slopes and constants
-- the end at which a right side becomes 0
pub end_value : (at right change x : Frac) → zero_of at right change ≡ Ok x → value x ≡ value at -ℚ (value right /ℚ value change)
end_value at right change x e =
    let a = both_formed (quotient_of right change) (λ y. difference_of at y) x e in
    holds_of (difference_of at a.0) (λ z. value z ≡ value at -ℚ value a.0) x (difference_of_is at a.0).exact a.2
    ∙ ap (λ z. value at -ℚ z) (holds_of (quotient_of right change) (λ z. value z ≡ value right /ℚ value change) a.0 (quotient_of_is right change).exact a.1)

pub slope_value : (t : Table) (hs : List Rate) (i : ℕ) (coefficient s : Frac) → unsigned_abs (entry_at t i t.columns) < 2 ^ 127 → slope_of t hs i coefficient ≡ Ok s
    → (d : Frac) × (change_at t i hs ≡ Ok d) × (value s ≡ value d /ℚ whole (entry_at t i t.columns) +ℚ value coefficient)
slope_value t hs i coefficient s small e =
    let lead = frac_at (whole (entry_at t i t.columns)) in
    let a = both_formed (change_at t i hs) (λ d. and_then (quotient_of d lead) (λ y. sum_of y coefficient)) s e in
    let b = both_formed (quotient_of a.0 lead) (λ y. sum_of y coefficient) s a.2 in (
      a.0,
      a.1,
      holds_of (sum_of b.0 coefficient) (λ z. value z ≡ value b.0 +ℚ value coefficient) s (sum_of_is b.0 coefficient).exact b.2
          ∙ ap (λ z. z +ℚ value coefficient) (holds_of (quotient_of a.0 lead) (λ z. value z ≡ value a.0 /ℚ value lead) b.0 (quotient_of_is a.0 lead).exact b.1
          ∙ ap (λ z. value a.0 /ℚ z) (value-whole (entry_at t i t.columns) small)),
    )

pub constant_value : (number slope at c : Frac) → constant_of number slope at ≡ Ok c → value c ≡ value number -ℚ value slope *ℚ value at
constant_value number slope at c e =
    let a = both_formed (product_of slope at) (λ y. difference_of number y) c e in
    holds_of (difference_of number a.0) (λ z. value z ≡ value number -ℚ value a.0) c (difference_of_is number a.0).exact a.2
    ∙ ap (λ z. value number -ℚ z) (holds_of (product_of slope at) (λ z. value z ≡ value slope *ℚ value at) a.0 (product_of_is slope at).exact a.1)
