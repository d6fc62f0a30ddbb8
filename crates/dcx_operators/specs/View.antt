-- Pairs, operands and indices of the code, as those of the definitions, and whole numbers as the code counts them.
use Rattle.std.specs.Prelude.{ℤ, option_map}
use Rattle.std.specs.Int.{saturate_signed, w64}
use Rattle.dcx_shape.specs.declared.index.Pick.{Pick}
use Rattle.dcx_shape.specs.declared.index.Pick.TheVariants as picks
use Rattle.dcx_shape.specs.declared.slice.Slice.{Slice}
use Rattle.dcx_script_values.specs.declared.reading.Operand as code_operand
use Rattle.dcx_script_values.specs.Nodes.{Operand}
use Rattle.dcx_script_values.specs.Meant.{meant}
use Rattle.dcx_script_values.specs.View.{read_as, meant_operand}
use Rattle.dcx_operators.specs.declared.operators.Pair as code_pair
use Rattle.dcx_operators.specs.declared.operators.Pair.TheVariants as pairs
use Rattle.dcx_operators.specs.declared.indices.Evaluated as code_evaluated
use Rattle.dcx_operators.specs.declared.indices.Evaluated.TheVariants as indices
use Rattle.dcx_operators.specs.Operators.{Pair, both_plain, both_lists, with_expression, neither}
use Rattle.dcx_operators.specs.Indices.{Evaluated, single, sliced}

-- ---- operands
abbrev pub pair_meant : code_pair.Pair → Pair
pair_meant (pairs.Plain a b) = both_plain a.value b.value
pair_meant (pairs.Lists xs ys) = both_lists xs.value ys.value
pair_meant (pairs.WithExpression r q) = with_expression (read_as r) (read_as q)
pair_meant pairs.Neither = neither

abbrev pub operands_meant : code_operand.Operand × code_operand.Operand → Operand × Operand
operands_meant x = (meant_operand x.0, meant_operand x.1)

-- ---- indices
abbrev pub evaluated : code_evaluated.Evaluated → Evaluated
evaluated (indices.Single v) = single (meant v)
evaluated (indices.Sliced start stop step) = sliced (option_map meant start) (option_map meant stop) (option_map meant step)

-- the whole number in 64 bits that is nearest
abbrev pub nearest : ℤ → ℤ
nearest z = saturate_signed w64 z

abbrev pub nearest_slice : Slice → Slice
nearest_slice s = record { start = option_map nearest s.start; stop = option_map nearest s.stop; step = nearest s.step }

-- a pick with numbers of 64 bits, which of an array takes the same
abbrev pub nearest_pick : Pick → Pick
nearest_pick (picks.At z) = picks.At (nearest z)
nearest_pick (picks.Range s) = picks.Range (nearest_slice s)
