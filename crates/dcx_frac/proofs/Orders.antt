-- Fractions compare as their cross products do.
use Rattle.std.proofs.Common.{◌≡◌, ◌↔◌, ℤ, pos, ◌*ℤ◌, ◌<ℤ◌, sym, ap, ◌∙◌, Ordering, Less, Equal, Greater}
use Rattle.std.specs.Ordering.{MatchOrdering}
use Rattle.std.specs.Ordering.{int_cmp}
use Rattle.std.proofs.lemmas.Cmp.{int_ranked}
use Rattle.std.specs.Cmp.{int_cmp_is, int_ranks}
use Rattle.dcx_math.specs.Integers.{*ℤ_comm}
use Rattle.dcx_math.specs.Rational.{◌<ℚ◌}
use Rattle.dcx_math.proofs.IntegerLaws.{*ℤ-<ℤ}
use Rattle.dcx_math.proofs.Ratios.{ratio-<ℚ-ratio, ratio-≡-ratio}
use Rattle.dcx_frac.specs.declared.fraction.Frac.{Frac}
use Rattle.dcx_frac.specs.Frac.{num_of, den_of, value}

-- over one denominator the numerators decide
pub same_denominator : (a b d : ℤ) → pos 0 <ℤ d → int_cmp a b ≡ int_cmp (a *ℤ d) (b *ℤ d)
same_denominator a b d p = int_cmp_is (a *ℤ d) (b *ℤ d) (int_cmp a b) (scaled (int_cmp a b) (int_ranks a b))
  where
    less : (x y : ℤ) → x <ℤ y → (x *ℤ d) <ℤ (y *ℤ d)
    less x y h = rw (*ℤ_comm x d, *ℤ_comm y d) (*ℤ-<ℤ d x y p h)

    scaled : (r : Ordering) → MatchOrdering r (a <ℤ b) (a ≡ b) (b <ℤ a) → MatchOrdering r ((a *ℤ d) <ℤ (b *ℤ d)) (a *ℤ d ≡ b *ℤ d) ((b *ℤ d) <ℤ (a *ℤ d))
    scaled Less h = less a b h
    scaled Equal h = ap (λ z. z *ℤ d) h
    scaled Greater h = less b a h

-- r is how f and g compare by cross products
module _ (f g : Frac) (r : Ordering) (is : r ≡ int_cmp (num_of f *ℤ den_of g) (num_of g *ℤ den_of f)) where
  abbrev left : ℤ
  left = num_of f *ℤ den_of g

  abbrev right : ℤ
  right = num_of g *ℤ den_of f

  -- less exactly where f is less
  pub less_exactly : (r ≡ Less) ↔ (value f <ℚ value g)
  less_exactly =
      let crossed = ratio-<ℚ-ratio (num_of f) (den_of f) (num_of g) (den_of g) f.positive g.positive in
      (λ e. crossed.1 (int_ranked left right Less (sym e ∙ is)), λ h. is ∙ sym (int_cmp_is left right Less (crossed.0 h)))

  -- equal exactly where the numbers are
  pub equal_exactly : (r ≡ Equal) ↔ (value f ≡ value g)
  equal_exactly =
      let crossed = ratio-≡-ratio (num_of f) (den_of f) (num_of g) (den_of g) f.positive g.positive in
      (λ e. crossed.1 (int_ranked left right Equal (sym e ∙ is)), λ h. is ∙ sym (int_cmp_is left right Equal (crossed.0 h)))

  -- greater exactly where g is less
  pub greater_exactly : (r ≡ Greater) ↔ (value g <ℚ value f)
  greater_exactly =
      let crossed = ratio-<ℚ-ratio (num_of g) (den_of g) (num_of f) (den_of f) g.positive f.positive in
      (λ e. crossed.1 (int_ranked left right Greater (sym e ∙ is)), λ h. is ∙ sym (int_cmp_is left right Greater (crossed.0 h)))
