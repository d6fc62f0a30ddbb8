-- The calls of the language as a table: their names, and their arguments in order.
use Rattle.std.specs.Prelude.{ℕ, Bool, true, false, codes, List, [], ◌∷◌, ◌++◌, Option, Some, None}
use Rattle.std.specs.Map.{lookup}
use Rattle.dcx_point.specs.Pairs.{same_name}
use Rattle.dcx_syntax.specs.declared.tree.Module.{Module}
use Rattle.dcx_syntax.specs.declared.tree.Module.TheVariants.{Cvxpy, Numpy}
use Rattle.dcx_signature.specs.declared.table.Function.{Function}
use Rattle.dcx_signature.specs.declared.table.Function.TheVariants as functions
use Rattle.dcx_signature.specs.declared.table.Takes.{Takes}
use Rattle.dcx_signature.specs.declared.table.Takes.TheVariants as takes

-- an argument that a call takes: its name, in which ways it may be given, whether it must be, and what it may be
pub record Param : Type 0 where
  pub word : List ℕ
  pub by_position : Bool
  pub by_name : Bool
  pub needed : Bool
  pub takes : Takes

-- the arguments in order; and what more of them by position may be, of which there are at least so many
pub record Row : Type 0 where
  pub params : List Param
  pub rest : Option Takes
  pub least : ℕ

-- must be given
abbrev pub must : List ℕ → Takes → Param
must word t = record { word = word; by_position = true; by_name = true; needed = true; takes = t }

-- may be left out
abbrev pub may : List ℕ → Takes → Param
may word t = record { word = word; by_position = true; by_name = true; needed = false; takes = t }

-- may be given by name alone
abbrev pub keyword : List ℕ → Takes → Param
keyword word t = record { word = word; by_position = false; by_name = true; needed = false; takes = t }

-- has no name by which it could be given
abbrev pub unnamed : Bool → List ℕ → Takes → Param
unnamed needed word t = record { word = word; by_position = true; by_name = false; needed = needed; takes = t }

abbrev pub these : List Param → Row
these params = record { params = params; rest = None; least = 0 }

abbrev pub at_least : ℕ → Takes → Row
at_least n t = record { params = []; rest = Some t; least = n }

-- ---- the words of arguments
abbrev pub x_word : List ℕ
x_word = codes "x"

abbrev pub matrix_word : List ℕ
matrix_word = codes "X"

abbrev pub a_word : List ℕ
a_word = codes "a"

abbrev pub b_word : List ℕ
b_word = codes "b"

abbrev pub v_word : List ℕ
v_word = codes "v"

abbrev pub e_word : List ℕ
e_word = codes "e"

abbrev pub n_word : List ℕ
n_word = codes "n"

abbrev pub k_word : List ℕ
k_word = codes "k"

abbrev pub list_word : List ℕ
list_word = codes "list"

abbrev pub axis_word : List ℕ
axis_word = codes "axis"

abbrev pub shape_word : List ℕ
shape_word = codes "shape"

abbrev pub order_word : List ℕ
order_word = codes "order"

abbrev pub value_word : List ℕ
value_word = codes "value"

abbrev pub nonneg_word : List ℕ
nonneg_word = codes "nonneg"

abbrev pub nonpos_word : List ℕ
nonpos_word = codes "nonpos"

abbrev pub symmetric_word : List ℕ
symmetric_word = codes "symmetric"

abbrev pub diag_word : List ℕ
diag_word = codes "diag"

abbrev pub boolean_word : List ℕ
boolean_word = codes "boolean"

abbrev pub integer_word : List ℕ
integer_word = codes "integer"

abbrev pub objective_word : List ℕ
objective_word = codes "objective"

abbrev pub constraints_word : List ℕ
constraints_word = codes "constraints"

-- those of `range`, which aren't written
abbrev pub first_word : List ℕ
first_word = codes "first"

abbrev pub second_word : List ℕ
second_word = codes "second"

abbrev pub step_word : List ℕ
step_word = codes "step"

-- ---- the rows
-- the attributes that a variable may have, and a parameter may not
abbrev pub shapely_words : List (List ℕ)
shapely_words = symmetric_word ∷ diag_word ∷ boolean_word ∷ integer_word ∷ []

abbrev pub attributes : Takes → List Param
attributes t = keyword symmetric_word t ∷ keyword diag_word t ∷ keyword boolean_word t ∷ keyword integer_word t ∷ []

abbrev pub declaration : List Param
declaration = may shape_word takes.Shape ∷ keyword (codes "name") takes.Text ∷ keyword nonneg_word takes.Truth ∷ keyword nonpos_word takes.Truth ∷ []

-- a call of one expression, alone or along a side
abbrev pub of_one : Row
of_one = these (must x_word takes.Expression ∷ [])

abbrev pub along : Row
along = these (must x_word takes.Expression ∷ may axis_word takes.Axis ∷ [])

abbrev pub with_share : Row
with_share = these (must x_word takes.Expression ∷ must k_word takes.Share ∷ [])

abbrev pub row : Function → Row
row functions.Range = these (unnamed true first_word takes.Whole ∷ unnamed false second_word takes.Whole ∷ unnamed false step_word takes.Step ∷ [])
row functions.Variable = these (declaration ++ attributes takes.Truth)
row functions.Parameter = these (declaration ++ keyword value_word takes.Numbers ∷ attributes takes.Anything)
row functions.Constant = these (must v_word takes.Numbers ∷ [])
row functions.Minimize = these (must e_word takes.Expression ∷ [])
row functions.Maximize = these (must e_word takes.Expression ∷ [])
row functions.Problem = these (must objective_word takes.Objective ∷ may constraints_word takes.Constraints ∷ [])
row functions.Array = these (must v_word takes.Rows ∷ [])
row functions.Ones = these (must shape_word takes.ShapeOfNone ∷ [])
row functions.Zeros = these (must shape_word takes.ShapeOfNone ∷ [])
row functions.Eye = these (must n_word takes.Count ∷ [])
row functions.Multiply = these (must a_word takes.Expression ∷ must b_word takes.Expression ∷ [])
row functions.Vectorize = of_one
row functions.Reshape = these (must x_word takes.Expression ∷ must shape_word takes.Shape ∷ may order_word takes.Order ∷ [])
row functions.Sum = along
row functions.Mean = along
row functions.CumSum = along
row functions.Diff = these (must x_word takes.Expression ∷ may k_word takes.Count ∷ [])
row functions.Trace = these (must matrix_word takes.Expression ∷ [])
row functions.Diag = of_one
row functions.HStack = these (must list_word takes.Expressions ∷ [])
row functions.VStack = these (must list_word takes.Expressions ∷ [])
row functions.Abs = of_one
row functions.Pos = of_one
row functions.Neg = of_one
row functions.Maximum = at_least 2 takes.Expression
row functions.Minimum = at_least 2 takes.Expression
row functions.MaxOf = along
row functions.MinOf = along
row functions.Norm1 = along
row functions.NormInf = along
row functions.SumLargest = with_share
row functions.SumSmallest = with_share
row functions.CumMax = of_one
row functions.Norm = these (must x_word takes.Expression ∷ unnamed true order_word takes.NormOrder ∷ [])
row functions.TotalVariation = of_one

-- a solve takes these, and looks at neither
abbrev pub ignored_words : List (List ℕ)
ignored_words = codes "solver" ∷ codes "verbose" ∷ []

abbrev pub solve_row : Row
solve_row = these (keyword (codes "solver") takes.Anything ∷ keyword (codes "verbose") takes.Anything ∷ [])

-- ---- the names of the modules
abbrev pub functions_of : Module → List (List ℕ × Function)
functions_of Cvxpy =
    (codes "Variable", functions.Variable) ∷ (codes "Parameter", functions.Parameter) ∷ (codes "Constant", functions.Constant) ∷
    (codes "Minimize", functions.Minimize) ∷ (codes "Maximize", functions.Maximize) ∷ (codes "Problem", functions.Problem) ∷
    (codes "multiply", functions.Multiply) ∷ (codes "vec", functions.Vectorize) ∷ (codes "reshape", functions.Reshape) ∷
    (codes "sum", functions.Sum) ∷ (codes "mean", functions.Mean) ∷ (codes "cumsum", functions.CumSum) ∷
    (codes "diff", functions.Diff) ∷ (codes "trace", functions.Trace) ∷ (codes "diag", functions.Diag) ∷
    (codes "hstack", functions.HStack) ∷ (codes "vstack", functions.VStack) ∷ (codes "abs", functions.Abs) ∷
    (codes "pos", functions.Pos) ∷ (codes "neg", functions.Neg) ∷ (codes "maximum", functions.Maximum) ∷
    (codes "minimum", functions.Minimum) ∷ (codes "max", functions.MaxOf) ∷ (codes "min", functions.MinOf) ∷
    (codes "norm1", functions.Norm1) ∷ (codes "norm_inf", functions.NormInf) ∷ (codes "sum_largest", functions.SumLargest) ∷
    (codes "sum_smallest", functions.SumSmallest) ∷ (codes "cummax", functions.CumMax) ∷ (codes "norm", functions.Norm) ∷
    (codes "tv", functions.TotalVariation) ∷ []
functions_of Numpy = (codes "array", functions.Array) ∷ (codes "ones", functions.Ones) ∷ (codes "zeros", functions.Zeros) ∷ (codes "eye", functions.Eye) ∷ []

abbrev pub function_named : Module → List ℕ → Option Function
function_named m name = lookup (same_name name) (functions_of m)
