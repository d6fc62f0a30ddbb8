-- How the logic stores what was given for the arguments of a call.
use Rattle.std.specs.Prelude.{ℕ, List}
use Rattle.std.specs.Coded.{Coded, coded_list, coded_ℕ, coded×}
use Rattle.dcx_script_values.specs.Values.{Value}
use Rattle.dcx_script_values.specs.Codes.{value_code}

abbrev pub bound_code : Coded (List (List ℕ × Value))
bound_code = coded_list (coded× (coded_list coded_ℕ) value_code)
