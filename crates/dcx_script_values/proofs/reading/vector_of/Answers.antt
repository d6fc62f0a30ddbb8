-- More numbers than a side may be long are no vector.
use Rattle.std.proofs.Common.{sym, map, arith}
use Rattle.std.proofs.lemmas.List.{length-map}
use Rattle.dcx_script_values.specs.Meant.{meant}
use Rattle.dcx_script_values.proofs.Forms.{vector_of-many}
use Rattle.dcx_script_values.proofs.reading.vector_of.Goals as goal

pub returns-in-None : goal.returns-in-None
returns-in-None c = sym (vector_of-many (map meant c.args.values.now) (omega (arith, length-map c.args.values.now meant, c.in-None.ensures)))
