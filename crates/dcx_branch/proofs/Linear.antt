-- The rows of a node are those of its linear program.
use Rattle.std.proofs.Common.{◌≡◌, ℕ, Bool, true, false, List, [], ◌∷◌, ◌++◌, map, refl, ap, ap₂, ◌∙◌, lit<}
use Rattle.std.specs.Prelude.{ℤ, pos}
use Rattle.std.specs.List.{All}
use Rattle.std.proofs.Math.Path.{fun_ext}
use Rattle.std.proofs.lemmas.List.{map-append}
use Rattle.std.proofs.lemmas.List.Elements.{All-head, All-tail}
use Rattle.dcx_math.specs.Rational.{ℚ, whole, ◌+ℚ◌, ◌-ℚ◌, ◌*ℚ◌, neg_ℚ}
use Rattle.dcx_math.proofs.Ring.{ring, reads}
use Rattle.dcx_frac.specs.Frac.{value}
use Rattle.dcx_frac.specs.Fits.{Fits}
use Rattle.dcx_atom.specs.Formed.{frac_at}
use Rattle.dcx_atom.proofs.Fractions.{value-frac_at, negative_fits}
use Rattle.dcx_linear.specs.FormTerms.{Unknowns}
use Rattle.dcx_linear.specs.Rows.{RowAt, LinearProgram}
use Rattle.dcx_linear.specs.declared.row.RowKind.TheVariants.{AtMost}
use Rattle.dcx_lp_answer.proofs.Fractions.{whole_fits, value-whole}
use Rattle.dcx_std.specs.Solutions.{row_at, form_number, linear_program}
use Rattle.dcx_postsolve.specs.Programs as mapping
use Rattle.dcx_graph.specs.Program.{Program}
use Rattle.dcx_graph.specs.Answers.{rows_of}
use Rattle.dcx_frac.specs.declared.fraction.Frac.{Frac}
use Rattle.dcx_branch.specs.declared.bound.BoundAt.{BoundAt}
use Rattle.dcx_branch.specs.Rows.{bound_form, bound_row, bound_rows, node_rows}
use Rattle.dcx_branch.specs.Nodes.{excess, bound_number, node_program}

-- the negative of an integer is a fraction
opposite_at : (n : ℤ) → Fits n → value (frac_at (neg_ℚ (whole n))) ≡ neg_ℚ (whole n)
opposite_at n h = value-frac_at (neg_ℚ (whole n)) (negative_fits (whole n) (whole_fits n h))

-- ---- one bound
upper_number : (n y : ℚ) → neg_ℚ n +ℚ (whole (pos 1) *ℚ y +ℚ whole (pos 0)) ≡ y -ℚ n
upper_number n y = ring (n ∷ y ∷ []) (search reads depth 30) tt

lower_number : (n y : ℚ) → n +ℚ (neg_ℚ (whole (pos 1)) *ℚ y +ℚ whole (pos 0)) ≡ n -ℚ y
lower_number n y = ring (n ∷ y ∷ []) (search reads depth 30) tt

form_is : (upper : Bool) (unknown : ℕ) (limit : ℤ) → Fits limit → (u : Unknowns) → form_number (bound_form upper unknown limit).form u ≡ excess upper limit (u unknown)
form_is true unknown limit h u =
    ap₂ (λ c k. c +ℚ (k *ℚ u unknown +ℚ whole (pos 0))) (opposite_at limit h) (value-whole (pos 1) (lit< tt)) ∙ upper_number (whole limit) (u unknown)
form_is false unknown limit h u =
    ap₂ (λ c k. c +ℚ (k *ℚ u unknown +ℚ whole (pos 0))) (value-whole limit h) (opposite_at (pos 1) (lit< tt)) ∙ lower_number (whole limit) (u unknown)

pub kind_is : (upper : Bool) (unknown : ℕ) (limit : ℤ) → (bound_form upper unknown limit).kind ≡ AtMost
kind_is true unknown limit = refl
kind_is false unknown limit = refl

row_is : (b : BoundAt) → Fits b.limit → row_at (bound_row b) ≡ mapping.bound_row (bound_number b)
row_is b h =
    ap₂ (λ kind number. let r : RowAt = record { kind = kind; number = number } in r) (kind_is b.upper b.place.unknown b.limit) (fun_ext (λ u. form_is b.upper b.place.unknown b.limit h u))

-- ---- all rows
rows_are : (bs : List BoundAt) → All (λ (b : BoundAt). Fits b.limit) bs → map row_at (bound_rows bs) ≡ map mapping.bound_row (map bound_number bs)
rows_are [] h = refl
rows_are (b ∷ bs) h = ap₂ ◌∷◌ (row_is b (All-head (λ (c : BoundAt). Fits c.limit) b bs h)) (rows_are bs (All-tail (λ (c : BoundAt). Fits c.limit) b bs h))

pub node_linear : (q : Program Frac) (bs : List BoundAt) → All (λ (b : BoundAt). Fits b.limit) bs → linear_program (node_rows q bs) ≡ node_program (linear_program (rows_of q)) bs
node_linear q bs h =
    ap (λ rows. let l : LinearProgram = record { kinds = q.kinds; rows = rows; objective = form_number q.objective } in l)
    (map-append row_at q.rows (bound_rows bs) ∙ ap (λ rows. map row_at q.rows ++ rows) (rows_are bs h))
