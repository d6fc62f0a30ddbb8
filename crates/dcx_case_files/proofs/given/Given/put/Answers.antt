-- A file that is put changes no other.
use Rattle.std.proofs.Common.{arith}
use Rattle.std.proofs.lemmas.Map.Text.{text_keys}
use Rattle.dcx_case_files.proofs.given.Given.put.Goals as goal

pub returns-clause-others : goal.returns-clause-others
returns-clause-others c = grind (arith, text_keys)
