-- The change of a row's right side, product by product, and the ends, row by row.
use Rattle.std.proofs.Common.{◌≡◌, ◌≢◌, ℕ, ℤ, suc, ◌+◌, ◌<◌, ◌≤◌, true, false, List, length, map, drop, get_or, Result, Ok, sym, ap, ap₂, ◌∙◌, add-one, pos}
use Rattle.std.specs.Prelude.{nat_le}
use Rattle.std.proofs.lemmas.Bool.{le-leb, lt-leb}
use Rattle.std.proofs.Common.{arith}
use Rattle.std.proofs.lemmas.List.{drop_all}
use Rattle.dcx_math.specs.Rational.{whole, rat_eq}
use Rattle.dcx_frac.specs.declared.fraction.Frac.{Frac}
use Rattle.dcx_frac.specs.declared.fraction.Passes.{Passes}
use Rattle.dcx_frac.specs.Frac.{value}
use Rattle.dcx_frac.specs.Results.{quotient_of, sum_of}
use Rattle.dcx_atom.specs.Formed.{frac_at, and_then}
use Rattle.dcx_atom.specs.Entrywise.{added_product, products_from}
use Rattle.dcx_linear.proofs.Formed.{drop_at}
use Rattle.dcx_tab.specs.Rows.{basic_at}
use Rattle.dcx_tab.specs.Table.{Table, entry_at}
use Rattle.dcx_simplex.specs.Whole.{objective_row}
use Rattle.dcx_simplex.specs.Basis.{lead_at}
use Rattle.dcx_simplex.specs.Readable.{IsReadable}
use Rattle.dcx_simplex.proofs.Bounds.{lead_some_of}
use Rattle.dcx_range.specs.declared.rates.Rate.{Rate}
use Rattle.dcx_range.specs.declared.ends.Ends.{Ends}
use Rattle.dcx_range.specs.Operations.{factors_at, change_at, from_on, up_to, with_end, zero_of, ends_by, row_ends, next_ends, ends_from, slope_of}

-- ---- the change of a row
pub change_next : (t : Table) (i : ℕ) (sum : Frac) (hs : List Rate) (n : ℕ) (h : Rate) (entry : Frac) (r : Result Frac Passes) → n < length hs → h ≡ get_or hs n h
    → entry ≡ frac_at (whole (entry_at t i h.column)) → r ≡ added_product sum (h.change, entry)
    → products_from sum (map (factors_at t i) (drop n hs)) ≡ and_then r (λ x. products_from x (map (factors_at t i) (drop (n + 1) hs)))
change_next t i sum hs n h entry r l is e p =
    ap (λ ys. products_from sum (map (factors_at t i) ys)) (drop_at hs n h l is)
    ∙ ap (λ q. and_then q (λ x. products_from x (map (factors_at t i) (drop (n + 1) hs)))) (ap (λ z. added_product sum (h.change, z)) (sym e) ∙ sym p)

pub change_done : (t : Table) (i : ℕ) (sum : Frac) (hs : List Rate) (n : ℕ) → length hs ≤ n → products_from sum (map (factors_at t i) (drop n hs)) ≡ Ok sum
change_done t i sum hs n h = ap (λ ys. products_from sum (map (factors_at t i) ys)) (drop_all n hs h)

-- ---- the ends of a row
module _ (t : Table) (i : ℕ) (at change : Frac) (e : Ends) where
  pub ends_zero : rat_eq (value change) (whole (pos 0)) ≡ true → row_ends t i at change e ≡ Ok e
  ends_zero z = ap (λ b. ends_by t i at change e b (nat_le t.plain (basic_at t.basis i))) z

  pub ends_artificial : rat_eq (value change) (whole (pos 0)) ≡ false → t.plain ≤ basic_at t.basis i → row_ends t i at change e ≡ Ok (up_to at (from_on at e))
  ends_artificial z h = ap₂ (ends_by t i at change e) z (le-leb t.plain (basic_at t.basis i) h)

  pub ends_plain : (right : Frac) (r : Result Frac Passes) → rat_eq (value change) (whole (pos 0)) ≡ false → basic_at t.basis i < t.plain → right ≡ frac_at (whole (entry_at t i (t.columns + 2)))
      → r ≡ zero_of at right change
      → row_ends t i at change e ≡ and_then r (λ x. Ok (with_end change x e))
  ends_plain right r z h f p =
      ap₂ (ends_by t i at change e) z (lt-leb t.plain (basic_at t.basis i) h)
      ∙ ap (λ q. and_then q (λ x. Ok (with_end change x e))) (ap (λ y. zero_of at y change) (sym f) ∙ sym p)

-- ---- the ends of all rows
pub ends_next : (t : Table) (hs : List Rate) (at : Frac) (i n m : ℕ) (e : Ends) (r : Result Ends Passes) → n ≡ suc m → r ≡ next_ends t hs at i e
    → ends_from t hs at i n e ≡ and_then r (λ f. ends_from t hs at (i + 1) m f)
ends_next t hs at i n m e r left is =
    ap (λ k. ends_from t hs at i k e) left ∙ ap₂ (λ x j. and_then x (λ f. ends_from t hs at j m f)) (sym is) (sym (add-one i))

-- ---- the slope
pub slope_steps : (t : Table) (hs : List Rate) (i : ℕ) (coefficient : Frac) (r : Result Frac Passes) (d lead : Frac) (q : Result Frac Passes) → r ≡ change_at t i hs → r ≡ Ok d
    → lead ≡ frac_at (whole (entry_at t i t.columns)) → q ≡ quotient_of d lead
    → slope_of t hs i coefficient ≡ and_then q (λ y. sum_of y coefficient)
slope_steps t hs i coefficient r d lead q e f l p =
    ap (λ z. and_then z (λ x. and_then (quotient_of x (frac_at (whole (entry_at t i t.columns)))) (λ y. sum_of y coefficient))) (sym e ∙ f)
    ∙ ap (λ z. and_then z (λ y. sum_of y coefficient)) (ap (quotient_of d) (sym l) ∙ sym p)

-- the entry of z in the objective row isn't 0
pub positive_lead : (t : Table) → IsReadable t → (i : ℕ) → i + 2 ≡ length t.rows → (z : ℤ) → entry_at t i t.columns ≡ z → whole z ≢ whole (pos 0)
positive_lead t r i size z e w =
    let o : objective_row t ≡ i = omega (arith, size) in
    lead_some_of (lead_at t (objective_row t)) r.lead (ap whole (ap (entry_at t (objective_row t)) r.objective ∙ ap (λ j. entry_at t j t.columns) o ∙ e) ∙ w)
