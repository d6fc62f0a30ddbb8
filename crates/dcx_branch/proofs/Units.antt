-- The row of a bound as it is made.
use Rattle.std.proofs.Common.{◌≡◌, ℕ, ◌≤◌, ◌<◌, arith, Bool, true, false, List, [], ◌∷◌, ◌++◌, Some, sym, ap, ap₂, ◌∙◌, subst, pos}
use Rattle.std.specs.Prelude.{ℤ}
use Rattle.std.specs.List.{All}
use Rattle.std.proofs.lemmas.List.Elements.{All-nil, All-cons, All-head, All-tail}
use Rattle.dcx_math.specs.Rational.{whole, neg_ℚ}
use Rattle.dcx_math.proofs.Orders.{<ℚ-≢, neg_ℚ-neg_ℚ, neg_ℚ-zero}
use Rattle.dcx_math.proofs.Products.{zero-<ℚ-one}
use Rattle.dcx_frac.specs.declared.fraction.Frac.{Frac}
use Rattle.dcx_frac.specs.Frac.{value}
use Rattle.dcx_atom.proofs.FormedSums.{frac_at-value}
use Rattle.dcx_linear.specs.declared.form.FormTerm.{FormTerm}
use Rattle.dcx_linear.specs.declared.row.Row.{Row}
use Rattle.dcx_linear.specs.declared.row.RowKind.TheVariants.{AtMost}
use Rattle.dcx_linear.specs.Changes.{zero_test}
use Rattle.dcx_linear.specs.FormTerms.{HoldsUnknowns}
use Rattle.dcx_linear.specs.Widths.{rows_width}
use Rattle.dcx_linear.proofs.ParamForms.{some_is_kept}
use Rattle.dcx_branch.specs.declared.bound.BoundAt.{BoundAt}
use Rattle.dcx_branch.specs.Rows.{unit_row, bound_form, bound_row, bound_rows}

-- ---- one term
pub one_sparse : (t : FormTerm Frac) (xs : List (FormTerm Frac)) → (value t.coefficient ≡ whole (pos 0) → ⊥) → xs ≡ t ∷ [] → HoldsUnknowns (λ (f : Frac). Some f) xs
one_sparse t xs h e =
    subst (HoldsUnknowns (λ (f : Frac). Some f)) (sym e)
    (record {
      rising = (All-nil (λ (u : FormTerm Frac). t.unknown < u.unknown), tt);
      nonzero = All-cons (λ (u : FormTerm Frac). zero_test u.coefficient ≡ false) t [] (some_is_kept t.coefficient h) (All-nil (λ (u : FormTerm Frac). zero_test u.coefficient ≡ false));
    })

pub unit_is : (coefficient : Frac) (unknown : ℕ) (constant : Frac) (terms : List (FormTerm Frac)) → terms ≡ record { unknown = unknown; coefficient = coefficient } ∷ [] →
    (let r : Row Frac = record { kind = AtMost; form = record { constant = constant; terms = terms } } in r) ≡ unit_row (value coefficient) unknown (value constant)
unit_is coefficient unknown constant terms e =
    ap₂ (λ (k : Frac) (ts : List (FormTerm Frac)). let r : Row Frac = record { kind = AtMost; form = record { constant = k; terms = ts } } in r) (sym (frac_at-value constant))
    (e ∙ ap (λ (k : Frac). let t : FormTerm Frac = record { unknown = unknown; coefficient = k } in t ∷ []) (sym (frac_at-value coefficient)))

-- 1 and -1 aren't 0
pub one_some : (x : Frac) → value x ≡ whole (pos 1) → value x ≡ whole (pos 0) → ⊥
one_some x e h = <ℚ-≢ zero-<ℚ-one (sym h ∙ e)

pub minus_one_some : (x y : Frac) → value x ≡ whole (pos 1) → value y ≡ neg_ℚ (value x) → value y ≡ whole (pos 0) → ⊥
minus_one_some x y e f h = one_some x e (sym (neg_ℚ-neg_ℚ (value x)) ∙ ap neg_ℚ (sym f ∙ h) ∙ neg_ℚ-zero)

-- ---- widths
width_append : (xs ys : List (Row Frac)) (n : ℕ) → rows_width xs ≤ n → rows_width ys ≤ n → rows_width (xs ++ ys) ≤ n
width_append [] ys n h k = k
width_append (x ∷ xs) ys n h k = let rest = width_append xs ys n (omega arith) k in omega arith

form_width_is : (upper : Bool) (unknown n : ℕ) (limit : ℤ) → unknown < n → rows_width (bound_form upper unknown limit ∷ []) ≤ n
form_width_is true unknown n limit l = omega arith
form_width_is false unknown n limit l = omega arith

bounds_width : (bs : List BoundAt) (n : ℕ) → All (λ (b : BoundAt). b.place.unknown < n) bs → rows_width (bound_rows bs) ≤ n
bounds_width [] n h = omega arith
bounds_width (b ∷ bs) n h =
    width_append (bound_row b ∷ []) (bound_rows bs) n (form_width_is b.upper b.place.unknown n b.limit (All-head (λ (c : BoundAt). c.place.unknown < n) b bs h))
    (bounds_width bs n (All-tail (λ (c : BoundAt). c.place.unknown < n) b bs h))

-- rows of a node name known unknowns alone
pub node_width : (rows made : List (Row Frac)) (bs : List BoundAt) (n : ℕ) → rows_width rows ≤ n → All (λ (b : BoundAt). b.place.unknown < n) bs → made ≡ rows ++ bound_rows bs → rows_width made ≤ n
node_width rows made bs n h k e = subst (λ (rs : List (Row Frac)). rows_width rs ≤ n) (sym e) (width_append rows (bound_rows bs) n h (bounds_width bs n k))
