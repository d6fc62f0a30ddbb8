-- All laws of a call in one.
use Rattle.dcx_atom.specs.Meaning.{Meaning}
use Rattle.dcx_atom.specs.Laws.{SumsUp, KeepsSign, KeepsTrend, IsBent, IsSoundGraph, IsTightGraph, HasSubgradients, Recedes}
use Rattle.dcx_atom.specs.OwnUnknowns.{HasOwnUnknowns}
use Rattle.dcx_atom.specs.Fractions.{HasFractionSummands, HasFractionCoefficients, HasFractionSlopes}
use Rattle.dcx_atom.specs.Duality.{HasDualGraph}
use Rattle.dcx_atom.specs.Linear as linear_call
use Rattle.dcx_atom.specs.Linear.{LinearMeaning, IsLinear}

-- a nonlinear call keeps the laws
pub record IsLawful (m : Meaning) : Type 0 where
  pub formation : SumsUp m
  pub sign : KeepsSign m
  pub monotonicity : KeepsTrend m
  pub curvature : IsBent m
  pub soundness : IsSoundGraph m
  pub tightness : IsTightGraph m
  pub subgradient : HasSubgradients m
  pub recession : Recedes m
  pub own_unknowns : HasOwnUnknowns m
  pub duality : HasDualGraph m
  pub fraction_summands : HasFractionSummands m
  pub fraction_coefficients : HasFractionCoefficients m
  pub fraction_slopes : HasFractionSlopes m

-- a linear call keeps the laws
pub record IsLawfulLinear (m : LinearMeaning) : Type 0 where
  pub linearity : IsLinear m
  pub sign : linear_call.KeepsSign m
  pub monotonicity : linear_call.KeepsTrend m
