-- A program with affine coefficients, at a setting.
use Rattle.std.specs.Prelude.{◌≡◌, ℕ, Result, Ok, Err}
use Rattle.std.specs.List.{All}
use Rattle.dcx_frac.specs.declared.fraction.Frac.{Frac}
use Rattle.dcx_frac.specs.declared.fraction.Passes.{Passes}
use Rattle.dcx_point.specs.Pairs.{Pairs}
use Rattle.dcx_linear.specs.declared.param_form.ParamForm.{ParamForm}
use Rattle.dcx_linear.specs.FormsAt.{IsListedRow, IsListedForm, ProgramOf, program_gives}
use Rattle.dcx_graph.specs.Program.{Program}

-- the setting has each parameter entry that a form of the program lists
pub record IsListedProgram (setting : Pairs) (q : Program ParamForm) : Type 0 where
  pub rows : All (IsListedRow setting) q.rows
  pub objective : IsListedForm setting q.objective

-- the program without origins
abbrev pub linear_in : {C : Type 0} → Program C → ProgramOf C
linear_in q = (q.rows, q.objective, q.kinds)

-- the program at a setting, whose rows come from where they came from; or the first operation that passes, with its row
abbrev pub FixGives : Pairs → Program ParamForm → Result (Program Frac) (ℕ × Passes) → Type 0
FixGives setting q (Ok r) = program_gives setting (linear_in q) (Ok (linear_in r)) × (r.origins ≡ q.origins)
FixGives setting q (Err stop) = program_gives setting (linear_in q) (Err stop)
