-- The lines of numbers and arrays, each with its line feed.
use Rattle.std.specs.Prelude.{ℕ, List, ◌++◌, codes, decimal}
use Rattle.std.specs.List.{flat_map, enumerate_from}
use Rattle.dcx_frac.specs.declared.fraction.Frac.{Frac}
use Rattle.dcx_frac.specs.Text.{frac_text}
use Rattle.dcx_atom.specs.declared.array.Array.{Array}
use Rattle.dcx_lines.specs.Pieces.{array_text}

-- WORD NAME SHAPE = NUMBER NUMBER ..
unfoldable pub named_line : List ℕ → List ℕ × Array → List ℕ
named_line word pair = word ++ codes " " ++ pair.0 ++ codes " " ++ array_text pair.1 ++ codes "\n"

-- dual NUMBER SHAPE = NUMBER NUMBER ..
unfoldable pub dual_line : ℕ × Array → List ℕ
dual_line numbered = codes "dual " ++ decimal numbered.0 ++ codes " " ++ array_text numbered.1 ++ codes "\n"

-- a line for each constraint, numbered from 1
unfoldable pub dual_lines : List Array → List ℕ
dual_lines duals = flat_map dual_line (enumerate_from 1 duals)

-- WORD NUMBER
unfoldable pub number_line : List ℕ → Frac → List ℕ
number_line word number = word ++ codes " " ++ frac_text number ++ codes "\n"
