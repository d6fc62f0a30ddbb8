-- The lines of a check.
use Rattle.std.specs.Prelude.{ℕ, Bool, true, false, List, ◌++◌, codes, decimal}
use Rattle.dcx_atom.specs.declared.flags.Sign.{Sign}
use Rattle.dcx_tree.specs.declared.constraint.Sense.{Sense}
use Rattle.dcx_tree.specs.declared.constraint.Sense.TheVariants.{Minimize, Maximize}
use Rattle.dcx_rules.specs.declared.curvature.Curvature.{Curvature}
use Rattle.dcx_rules.specs.declared.curvature.Curvature.TheVariants.{Constant, Affine, Convex, Concave}
use Rattle.dcx_refusal.specs.declared.checked.Checked.{Checked}

-- which way the objective goes
unfoldable pub sense_text : Sense → List ℕ
sense_text Minimize = codes "minimize"
sense_text Maximize = codes "maximize"

-- a number that is at least 0 and at most 0 is 0
unfoldable pub signs_text : (nonneg nonpos : Bool) → List ℕ
signs_text true true = codes "zero"
signs_text true false = codes "nonneg"
signs_text false true = codes "nonpos"
signs_text false false = codes "unknown"

-- what is known of the objective's sign
unfoldable pub sign_text : Sign → List ℕ
sign_text sign = signs_text sign.nonneg sign.nonpos

-- the objective's curvature
unfoldable pub curvature_text : Curvature → List ℕ
curvature_text Constant = codes "constant"
curvature_text Affine = codes "affine"
curvature_text Convex = codes "convex"
curvature_text Concave = codes "concave"

-- objective SENSE sign SIGN curvature CURVATURE
unfoldable pub objective_line : Checked → List ℕ
objective_line c =
    codes "objective " ++ sense_text c.sense ++ codes " sign " ++ sign_text c.sign ++ codes " curvature " ++ curvature_text c.curvature ++ codes "\n"

-- whether the problem is accepted also where parameters are affine
unfoldable pub dpp_line : Bool → List ℕ
dpp_line true = codes "dpp yes\n"
dpp_line false = codes "dpp no\n"

-- WORD COUNT entries COUNT
unfoldable pub size_line : List ℕ → ℕ → ℕ → List ℕ
size_line word count entries = word ++ codes " " ++ decimal count ++ codes " entries " ++ decimal entries ++ codes "\n"

-- what is found of an accepted problem
unfoldable pub checked_text : Checked → List ℕ
checked_text c =
    codes "accepted\n" ++ objective_line c ++ dpp_line c.dpp
    ++ size_line (codes "variables") c.variables c.variable_entries
    ++ size_line (codes "parameters") c.parameters c.parameter_entries
    ++ size_line (codes "constraints") c.constraints c.constraint_entries
