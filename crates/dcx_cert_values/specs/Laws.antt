-- The laws of forming: its checks tell one thing each, and divisors that pass theirs aren't 0.
use Rattle.std.specs.Prelude.{ℕ, List}
use Rattle.dcx_point.specs.Pairs.{Pairs}
use Rattle.dcx_tree.specs.declared.problem.Problem.{Problem}
use Rattle.dcx_tree.specs.Meaning.{IsAccepted, IsFitting, setting_of}
use Rattle.dcx_fit.specs.Fit.{FitsParameters}
use Rattle.dcx_fit.specs.Laws.{DividesByNoZero}
use Rattle.dcx_cert_sections.specs.Laws.{IsSettled}
use Rattle.dcx_cert_values.specs.Forming.{forming, forming_fixed, divisors}

-- the checks of forming tell one thing each
pub record AreSettledHere : Type 0 where
  pub below : (p : Problem) (setting point : Pairs) (roots : List ℕ) → IsSettled (forming p setting point roots)
  pub fixed : (p : Problem) (setting : Pairs) → IsSettled (forming_fixed p setting)
  pub divisors : (p : Problem) (setting : Pairs) → IsSettled (divisors p setting)

-- where an accepted problem passes the check of its divisors, nothing is divided by 0, at any point; with a setting that fits
-- the parameters it is a fitting one
pub record DivisorsAreNotZero : Type 0 where
  pub nonzero : (p : Problem) (setting : Pairs) → IsAccepted p → (divisors p setting).passes → DividesByNoZero p (setting_of p setting)
  pub fitting : (p : Problem) (setting : Pairs) → IsAccepted p → FitsParameters p.parameters setting → (divisors p setting).passes → IsFitting p setting
