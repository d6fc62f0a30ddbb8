-- What was given for an argument, as the code has it.
use Rattle.std.specs.Prelude.{ℕ, List}
use Rattle.dcx_script_values.specs.Values.{Value}
use Rattle.dcx_script_values.specs.Meant.{meant}
use Rattle.dcx_signature.specs.declared.matching.Argument as code_argument

abbrev pub argument_seen : code_argument.Argument → List ℕ × Value
argument_seen a = (a.word.now, meant a.value)
