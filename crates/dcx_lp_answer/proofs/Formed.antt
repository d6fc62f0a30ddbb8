-- A multiplier that is formed is the one by which an answer is right for its program.
use Rattle.std.proofs.Common.{◌≡◌, ℕ, zero, suc, Bool, true, false, List, [], ◌∷◌, map, get_or, Some, Ok, Err, refl, sym, ap, ◌∙◌, subst}
use Rattle.std.specs.Prelude.{Result, not, ◌&&◌, IfOk, slice_get}
use Rattle.std.proofs.lemmas.Option.{none-some, same_Some}
use Rattle.dcx_math.specs.Rational.{ℚ, ◌-ℚ◌, ◌*ℚ◌}
use Rattle.dcx_math.specs.Sums.{rat_at}
use Rattle.dcx_math.proofs.Orders.{*ℚ_comm, -ℚ_idr}
use Rattle.dcx_frac.specs.declared.fraction.Frac.{Frac}
use Rattle.dcx_frac.specs.declared.fraction.Passes.{Passes}
use Rattle.dcx_frac.specs.Frac.{value}
use Rattle.dcx_frac.specs.Results.{difference_of, product_of}
use Rattle.dcx_frac.proofs.Results.{difference_of_is, product_of_is}
use Rattle.dcx_atom.specs.Formed.{one_frac, and_then}
use Rattle.dcx_atom.proofs.Fractions.{value-negative, value-one_frac}
use Rattle.dcx_linear.specs.declared.row.RowKind.{RowKind}
use Rattle.dcx_linear.specs.declared.row.RowKind.TheVariants.{AtMost, Equal}
use Rattle.dcx_lp_answer.specs.declared.answer.LpStatus.{LpStatus}
use Rattle.dcx_lp_answer.specs.declared.answer.LpStatus.TheVariants.{Optimal, Infeasible, Unbounded}
use Rattle.dcx_lp_answer.specs.declared.answer.RowNote.{RowNote}
use Rattle.dcx_lp_answer.specs.Notes.{reduced_cost_of, factor_of, was_negated}
use Rattle.dcx_lp_answer.specs.Right.{turned_if, offset}
use Rattle.dcx_lp_answer.specs.Multipliers.{shifted, turned, multiplier_of, is_at_most, FormedIsRight}

-- ---- the two operations
pub product_formed : (x y z : Frac) → product_of x y ≡ Ok z → value z ≡ value x *ℚ value y
product_formed x y z e = subst (λ r. IfOk r (λ f. value f ≡ value x *ℚ value y)) e (product_of_is x y).exact

difference_formed : (x y z : Frac) → difference_of x y ≡ Ok z → value z ≡ value x -ℚ value y
difference_formed x y z e = subst (λ r. IfOk r (λ f. value f ≡ value x -ℚ value y)) e (difference_of_is x y).exact

-- ---- the steps
shifted_is : (status : LpStatus) (kind : RowKind) (x y : Frac) → shifted status kind x ≡ Ok y → value y ≡ value x -ℚ offset status (is_at_most kind)
shifted_is Optimal kind x y e = let same : x ≡ y = cc in ap value (sym same) ∙ sym (-ℚ_idr (value x))
shifted_is Unbounded kind x y e = let same : x ≡ y = cc in ap value (sym same) ∙ sym (-ℚ_idr (value x))
shifted_is Infeasible AtMost x y e = let same : x ≡ y = cc in ap value (sym same) ∙ sym (-ℚ_idr (value x))
shifted_is Infeasible Equal x y e = difference_formed x one_frac y e ∙ ap (λ z. value x -ℚ z) value-one_frac

turned_is : (kind : RowKind) (negated : Bool) (x : Frac) → value (turned kind negated x) ≡ turned_if (not (is_at_most kind) && negated) (value x)
turned_is AtMost negated x = refl
turned_is Equal true x = value-negative x
turned_is Equal false x = refl

-- the multiplier as an exact number
exact : LpStatus → RowKind → RowNote → ℚ
exact status kind n = turned_if (not (is_at_most kind) && n.negated) ((value n.reduced_cost -ℚ offset status (is_at_most kind)) *ℚ value n.factor)

multiplier_is : (status : LpStatus) (kind : RowKind) (n : RowNote) (x : Frac) → multiplier_of status kind n ≡ Ok x → value x ≡ exact status kind n
unfolding exact
multiplier_is status kind n x e = by (shifted status kind n.reduced_cost) refl e
  where
    last : (y z : Frac) → shifted status kind n.reduced_cost ≡ Ok y → product_of n.factor y ≡ Ok z → turned kind n.negated z ≡ x → value x ≡ exact status kind n
    last y z s p t =
        ap value (sym t) ∙ turned_is kind n.negated z
        ∙ ap (turned_if (not (is_at_most kind) && n.negated))
        (product_formed n.factor y z p ∙ *ℚ_comm (value n.factor) (value y) ∙ ap (λ w. w *ℚ value n.factor) (shifted_is status kind n.reduced_cost y s))

    next : (y : Frac) → shifted status kind n.reduced_cost ≡ Ok y → (r : Result Frac Passes) → product_of n.factor y ≡ r → and_then r (λ z. Ok (turned kind n.negated z)) ≡ Ok x
        → value x ≡ exact status kind n
    next y s (Ok z) p g = let t : turned kind n.negated z ≡ x = cc in last y z s p t
    next y s (Err passes) p g = cc

    by : (r : Result Frac Passes) → shifted status kind n.reduced_cost ≡ r → and_then r (λ y. and_then (product_of n.factor y) (λ z. Ok (turned kind n.negated z))) ≡ Ok x
        → value x ≡ exact status kind n
    by (Ok y) s g = next y s (product_of n.factor y) refl g
    by (Err passes) s g = cc

-- ---- at its place
number_at : (f : RowNote → ℚ) (ns : List RowNote) (i : ℕ) (n : RowNote) → slice_get ns i ≡ Some n → rat_at (map f ns) i ≡ f n
number_at f [] i n h = absurd (none-some n h)
number_at f (m ∷ ns) zero n h = ap f (same_Some m n h)
number_at f (m ∷ ns) (suc i) n h = number_at f ns i n h

test_at : (ns : List RowNote) (i : ℕ) (n : RowNote) → slice_get ns i ≡ Some n → get_or (map was_negated ns) i false ≡ n.negated
test_at [] i n h = absurd (none-some n h)
test_at (m ∷ ns) zero n h = ap was_negated (same_Some m n h)
test_at (m ∷ ns) (suc i) n h = test_at ns i n h

pub formed_is_right : FormedIsRight
unfolding exact
formed_is_right kinds a i n kind x at is formed =
    multiplier_is a.status kind n x formed
    ∙ sym (rw (is, number_at reduced_cost_of a.rows i n at, number_at factor_of a.rows i n at, test_at a.rows i n at) refl)
