-- The whole script for three points.
use Rattle.std.proofs.Common.{◌≡◌, ◌++◌, refl}
use Rattle.std.specs.Prelude.{codes}
use Rattle.std.specs.Fmt.{digits}
use Rattle.dcx_trial.specs.Trial.{trial_text}

three_points : trial_text 3 ≡
    codes "import cvxpy as cp\n"
    ++ codes "import numpy as np\n"
    ++ codes "t = np.array([0, 1, 2])\n"
    ++ codes "b = np.array([11, 3, 5])\n"
    ++ codes "s = cp.Variable()\n"
    ++ codes "a = cp.Variable()\n"
    ++ codes "q = cp.Parameter(nonneg=True)\n"
    ++ codes "prob = cp.Problem(cp.Minimize(cp.norm1(s*t + a - b) + q*cp.abs(s)))\n"
unfolding trial_text digits
three_points = refl
