-- The number of an unknown is read from its columns, and those of the rest from the columns behind them.
use Rattle.std.proofs.Common.{◌≡◌, ℕ, ◌+◌, ◌<◌, ◌≤◌, List, [], ◌∷◌, ◌++◌, length, map, get_or, drop, sym, ap, ◌∙◌, subst, append_assoc, arith, inl, inr, ◌⊎◌, pos}
use Rattle.std.specs.Prelude.{sum_by}
use Rattle.std.proofs.lemmas.List.{map-append, drop_more}
use Rattle.std.proofs.lemmas.List.Sums.{sum_by-cons}
use Rattle.dcx_math.specs.Rational.{ℚ, whole, ◌-ℚ◌, neg_ℚ}
use Rattle.dcx_math.proofs.Orders.{neg_ℚ-from_zero, -ℚ_idr}
use Rattle.dcx_frac.specs.declared.fraction.Frac.{Frac}
use Rattle.dcx_frac.specs.Frac.{value}
use Rattle.dcx_linear.specs.declared.row.UnknownKind.{UnknownKind}
use Rattle.dcx_linear.specs.Size.{columns_for}
use Rattle.dcx_postsolve.specs.Numbers.{unknown_number, numbers_from, AreOneSidedFrom}

-- where the plus column is 0, the unknown is the minus column negated
pub minus_alone : (x y : ℚ) → x ≡ whole (pos 0) → neg_ℚ y ≡ x -ℚ y
minus_alone x y e = sym (neg_ℚ-from_zero y) ∙ ap (λ z. z -ℚ y) (sym e)

-- where it isn't, the minus column is 0
pub plus_alone : (x y : ℚ) → (x ≡ whole (pos 0)) ⊎ (y ≡ whole (pos 0)) → (x ≡ whole (pos 0) → ⊥) → x ≡ x -ℚ y
plus_alone x y (inl e) not = absurd (not e)
plus_alone x y (inr e) not = sym (-ℚ_idr x) ∙ ap (λ z. x -ℚ z) (sym e)

module _ (kinds : List UnknownKind) (i : ℕ) (d : UnknownKind) (lt : i < length kinds) where
  rest_is : drop i kinds ≡ get_or kinds i d ∷ drop (i + 1) kinds
  rest_is = drop_more kinds i d lt

  -- the columns of an unknown are there, and those behind them
  pub columns_there : (next n : ℕ) → next + sum_by columns_for (drop i kinds) ≤ n →
      (next + columns_for (get_or kinds i d) ≤ n) × ((next + columns_for (get_or kinds i d)) + sum_by columns_for (drop (i + 1) kinds) ≤ n)
  columns_there next n h =
      let kind = get_or kinds i d in
      let total : sum_by columns_for (drop i kinds) ≡ columns_for kind + sum_by columns_for (drop (i + 1) kinds) = ap (sum_by columns_for) rest_is
      ∙ sum_by-cons columns_for kind (drop (i + 1) kinds) in
      (omega (arith, total, h), omega (arith, total, h))

  module _ (zs : List ℚ) (next : ℕ) where
    pub sided_there : AreOneSidedFrom zs next (drop i kinds) → AreOneSidedFrom zs next (get_or kinds i d ∷ drop (i + 1) kinds)
    sided_there h = subst (AreOneSidedFrom zs next) rest_is h

    -- one more number
    pub number_next : (xs ys : List Frac) (x : Frac) (all : List ℚ) → value x ≡ unknown_number zs next (get_or kinds i d) → ys ≡ xs ++ x ∷ []
        → map value xs ++ numbers_from zs next (drop i kinds) ≡ all
        → map value ys ++ numbers_from zs (next + columns_for (get_or kinds i d)) (drop (i + 1) kinds) ≡ all
    number_next xs ys x all here pushed before =
        let rest = numbers_from zs (next + columns_for (get_or kinds i d)) (drop (i + 1) kinds) in
        ap (λ l. map value l ++ rest) pushed ∙ ap (λ l. l ++ rest) (map-append value xs (x ∷ [])) ∙ append_assoc (map value xs) (value x ∷ []) rest
        ∙ ap (λ z. map value xs ++ z ∷ rest) here ∙ ap (λ ks. map value xs ++ numbers_from zs next ks) (sym rest_is) ∙ before
