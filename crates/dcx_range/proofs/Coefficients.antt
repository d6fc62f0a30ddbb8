-- The coefficient of a parameter, term by term, and the changes of rows, one by one.
use Rattle.std.proofs.Common.{◌≡◌, ◌≢◌, ℕ, ◌+◌, ◌<◌, ◌≤◌, List, [], ◌∷◌, ◌++◌, length, drop, get_or, Result, Ok, Err, refl, sym}
use Rattle.std.proofs.Common.{ap, ap₂, ◌∙◌, append_assoc, append-nil, eq-eqb, subst, arith, ◌⊎◌, inl, inr}
use Rattle.std.specs.Prelude.{nat_eq, if◌then◌else◌}
use Rattle.std.proofs.lemmas.Bool.{ne_eqb}
use Rattle.std.proofs.lemmas.Bool.{cases_eq}
use Rattle.std.proofs.lemmas.List.{drop_all, get_or_read}
use Rattle.dcx_frac.specs.declared.fraction.Frac.{Frac}
use Rattle.dcx_frac.specs.declared.fraction.Passes.{Passes}
use Rattle.dcx_frac.specs.Results.{product_of}
use Rattle.dcx_atom.specs.Formed.{and_then}
use Rattle.dcx_linear.specs.declared.param_form.ParamForm.{ParamForm}
use Rattle.dcx_linear.specs.declared.row.Row.{Row}
use Rattle.dcx_tab.specs.declared.rows.IntRow.{IntRow}
use Rattle.dcx_linear.specs.ParamTerms.{HoldsTerms}
use Rattle.dcx_linear.specs.declared.param_term.ParamTerm.{ParamTerm}
use Rattle.dcx_linear.proofs.Formed.{drop_at}
use Rattle.dcx_range.specs.declared.rates.Rate.{Rate}
use Rattle.dcx_range.specs.Coefficients.{coefficient_in, coefficient_of}
use Rattle.dcx_range.specs.Operations.{kept_rate, rate_of, rates_of}
use Rattle.dcx_std.specs.WholeRows.{opposite, turned_frac}

-- the term at a place, or what the terms behind it have
next : (k : ℕ) (ts : List ParamTerm) (i : ℕ) (t : ParamTerm) → i < length ts → t ≡ get_or ts i t
    → coefficient_in k (drop i ts) ≡ (if nat_eq t.position k then t.coefficient else coefficient_in k (drop (i + 1) ts))
next k ts i t lt is = ap (coefficient_in k) (drop_at ts i t lt is)

pub found : (k : ℕ) (ts : List ParamTerm) (i : ℕ) (t : ParamTerm) → i < length ts → t ≡ get_or ts i t → t.position ≡ k → coefficient_in k (drop i ts) ≡ t.coefficient
found k ts i t lt is e = next k ts i t lt is ∙ ap (λ b. if b then t.coefficient else coefficient_in k (drop (i + 1) ts)) (eq-eqb t.position k e)

pub passed : (k : ℕ) (ts : List ParamTerm) (i : ℕ) (t : ParamTerm) → i < length ts → t ≡ get_or ts i t → t.position ≢ k → coefficient_in k (drop i ts) ≡ coefficient_in k (drop (i + 1) ts)
passed k ts i t lt is n = next k ts i t lt is ∙ ap (λ b. if b then t.coefficient else coefficient_in k (drop (i + 1) ts)) (ne_eqb t.position k n)

-- ---- the change of a row
pub rate_is : (k : ℕ) (constant : ParamForm) (int : IntRow) (f g : Frac) (r : Result Frac Passes) → f ≡ turned_frac int.negated int.factor → g ≡ opposite (coefficient_of k constant)
    → r ≡ product_of f g → rate_of k constant int ≡ and_then r (λ h. Ok (kept_rate int h))
rate_is k constant int f g r e d p = sym (ap (λ z. and_then z (λ h. Ok (kept_rate int h))) (p ∙ ap₂ product_of e d))

-- ---- those of all rows: what is done, and then what is left
pub nothing_done : (r : Result (List Rate) Passes) → and_then r (λ hs. Ok ([] ++ hs)) ≡ r
nothing_done (Ok hs) = refl
nothing_done (Err passes) = refl

one_more : (done : List Rate) (h : Rate) (r : Result (List Rate) Passes) → and_then (and_then r (λ hs. Ok (h ∷ hs))) (λ hs. Ok (done ++ hs)) ≡ and_then r (λ hs. Ok ((done ++ h ∷ []) ++ hs))
one_more done h (Ok hs) = ap Ok (sym (append_assoc done (h ∷ []) hs))
one_more done h (Err passes) = refl

module _ (k : ℕ) (rows : List (Row ParamForm)) (ints : List IntRow) (i : ℕ) (row : Row ParamForm) (int : IntRow) (l : i < length rows) (m : i < length ints) (is : row ≡ get_or rows i row)
    (js : int ≡ get_or ints i int) where
  next_rate : rates_of k (drop i rows) (drop i ints) ≡ and_then (rate_of k row.form.constant int) (λ h. and_then (rates_of k (drop (i + 1) rows) (drop (i + 1) ints)) (λ hs. Ok (h ∷ hs)))
  next_rate = ap₂ (rates_of k) (drop_at rows i row l is) (drop_at ints i int m js)

  pub rate_done : (done : List Rate) (h : Rate) → rate_of k row.form.constant int ≡ Ok h
      → and_then (rates_of k (drop i rows) (drop i ints)) (λ hs. Ok (done ++ hs)) ≡ and_then (rates_of k (drop (i + 1) rows) (drop (i + 1) ints)) (λ hs. Ok ((done ++ h ∷ []) ++ hs))
  rate_done done h e =
      ap (λ r. and_then r (λ hs. Ok (done ++ hs))) (next_rate ∙ ap (λ r. and_then r (λ x. and_then (rates_of k (drop (i + 1) rows) (drop (i + 1) ints)) (λ hs. Ok (x ∷ hs)))) e)
      ∙ one_more done h (rates_of k (drop (i + 1) rows) (drop (i + 1) ints))

  pub rate_passes : (done : List Rate) (passes : Passes) → rate_of k row.form.constant int ≡ Err passes → and_then (rates_of k (drop i rows) (drop i ints)) (λ hs. Ok (done ++ hs)) ≡ Err passes
  rate_passes done passes e = ap (λ r. and_then r (λ hs. Ok (done ++ hs))) (next_rate ∙ ap (λ r. and_then r (λ x. and_then (rates_of k (drop (i + 1) rows) (drop (i + 1) ints)) (λ hs. Ok (x ∷ hs)))) e)

pub all_done : (k : ℕ) (rows : List (Row ParamForm)) (ints : List IntRow) (i : ℕ) (done : List Rate) → length rows ≤ i
    → and_then (rates_of k (drop i rows) (drop i ints)) (λ hs. Ok (done ++ hs)) ≡ Ok done
all_done k rows ints i done h = ap (λ rs. and_then (rates_of k rs (drop i ints)) (λ hs. Ok (done ++ hs))) (drop_all i rows h) ∙ ap Ok (append-nil done)

-- ---- in the constants so far, and in one more, entries rise
pub rising_more : (rows : List (Row ParamForm)) (i : ℕ) (row : Row ParamForm) → row ≡ get_or rows i row → HoldsTerms row.form.constant.terms
    → ((k : ℕ) (d : Row ParamForm) → k < i → HoldsTerms (get_or rows k d).form.constant.terms)
    → i < length rows → (k : ℕ) (d : Row ParamForm) → k < i + 1 → HoldsTerms (get_or rows k d).form.constant.terms
rising_more rows i row is here before low k d l = by (cases_eq k i)
  where
    by : (k ≡ i) ⊎ (k ≢ i) → HoldsTerms (get_or rows k d).form.constant.terms
    by (inl e) = subst (λ (z : Row ParamForm). HoldsTerms z.form.constant.terms) (get_or_read rows i row low is d ∙ ap (λ j. get_or rows j d) (sym e)) here
    by (inr n) = before k d (omega (arith, l, n))
