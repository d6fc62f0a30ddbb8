-- A nonlinear call whose meaning keeps the laws of `Atom`, and a linear call whose meaning keeps those of `LinearOp`, keep the laws of calls.
use Rattle.std.proofs.Common.{◌≡◌, Some, List, length, sym, subst}
use Rattle.dcx_math.specs.Rational.{◌+ℚ◌, ◌*ℚ◌}
use Rattle.dcx_shape.specs.declared.shape.Sides.{Sides}
use Rattle.dcx_atom.specs.Signs.{IsBeyond, Follows, combination, sign_at}
use Rattle.dcx_atom.specs.Meaning.{Meaning}
use Rattle.dcx_atom.specs.Laws as atom
use Rattle.dcx_atom.specs.Linear as linear
use Rattle.dcx_atom.specs.Linear.{LinearMeaning}
use Rattle.dcx_atom.proofs.LinearSums.{value_combination}
use Rattle.dcx_convex.specs.Calls.{IsLawful}
use Rattle.dcx_convex.specs.Atoms.{atom_call, linear_call}
use Rattle.dcx_convex.proofs.Beyond.{beyond_same}

pub atom_lawful : (m : Meaning) → atom.KeepsSign m → atom.KeepsTrend m → atom.IsBent m → (args : List Sides) (sides : Sides) → m.shape args ≡ Some sides →
    IsLawful (atom_call m args sides) (length args)
atom_lawful m sign trend bent args sides is = record {
  sign_law = λ signs a n h j b. sign args sides is j b signs a n h;
  monotonicity = λ bend signs a b e h f j l.
      subst (λ c. IsBeyond c (m.value args a j) (m.value args b j)) e
      (trend args sides is j l signs a b h (λ i k. subst (λ c. Follows c (m.trend i (sign_at signs i)) (a i k) (b i k)) (sym e) (f i k)));
  curvature = λ bend t r a b e p q one j l.
      subst (λ c. IsBeyond c (m.value args (combination t r a b) j) (t *ℚ m.value args a j +ℚ r *ℚ m.value args b j)) e (bent args sides is j l t r a b p q one);
}

pub linear_lawful : (m : LinearMeaning) → linear.IsLinear m → linear.KeepsSign m → linear.KeepsTrend m → (args : List Sides) (sides : Sides) → m.shape args ≡ Some sides →
    IsLawful (linear_call m args sides) (length args)
linear_lawful m law sign trend args sides is = record {
  sign_law = λ signs a n h j b. sign args sides is j b signs a n h;
  monotonicity = λ bend signs a b e h f j l. trend args sides is j l bend a b f;
  curvature = λ bend t r a b e p q one j l. beyond_same bend (value_combination m law args sides is j l t r a b);
}
