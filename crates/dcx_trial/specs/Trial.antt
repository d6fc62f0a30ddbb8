-- The text of a made-up script.
use Rattle.std.specs.Prelude.{ℕ, ◌+◌, ◌*◌, ◌%◌, ◌==◌, if◌then◌else◌, List, ◌++◌, map, codes, decimal}
use Rattle.std.specs.List.{join_by, range_with_len}

-- the points stand at 0, 1, 2 and so on
abbrev pub places : ℕ → List ℕ
places size = range_with_len 0 size

-- each lies on a line, but for every fifth, which is 10 above it
abbrev pub height_at : ℕ → ℕ
height_at place = 2 * place + 1 + (if place % 5 == 0 then 10 else 0)

abbrev pub heights : ℕ → List ℕ
heights size = map height_at (places size)

-- numbers with a comma and a blank between them
abbrev pub numbers_text : List ℕ → List ℕ
numbers_text numbers = join_by decimal (codes ", ") numbers

unfoldable pub trial_text : ℕ → List ℕ
trial_text size =
    codes "import cvxpy as cp\nimport numpy as np\nt = np.array(["
    ++ numbers_text (places size)
    ++ codes "])\nb = np.array(["
    ++ numbers_text (heights size)
    ++ codes "])\ns = cp.Variable()\na = cp.Variable()\nq = cp.Parameter(nonneg=True)\n"
    ++ codes "prob = cp.Problem(cp.Minimize(cp.norm1(s*t + a - b) + q*cp.abs(s)))\n"
