-- The texts of what only a line of the report is made of: places and operations.
use Rattle.std.specs.Prelude.{ℕ, List, ◌++◌, codes, decimal}
use Rattle.dcx_shape.specs.declared.place.Place.{Place}
use Rattle.dcx_frac.specs.declared.fraction.Op.{Op}
use Rattle.dcx_frac.specs.declared.fraction.Op.TheVariants.{Add, Sub, Mul, Div, Lcm}
use Rattle.dcx_frac.specs.declared.fraction.Passes.{Passes}
use Rattle.dcx_lines.specs.Pieces.{entry_text}

-- line:column
unfoldable pub place_text : Place → List ℕ
place_text place = decimal place.line ++ codes ":" ++ decimal place.column

-- add, sub, mul, div or lcm
unfoldable pub op_text : Op → List ℕ
op_text Add = codes "add"
op_text Sub = codes "sub"
op_text Mul = codes "mul"
op_text Div = codes "div"
op_text Lcm = codes "lcm"

-- a blank, the operation, and its operands
unfoldable pub passes_text : Passes → List ℕ
passes_text passes = codes " " ++ op_text passes.op ++ entry_text passes.left ++ entry_text passes.right
