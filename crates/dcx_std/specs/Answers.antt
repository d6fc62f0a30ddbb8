-- What an answer to the scaled program of rows shows of the rows.
use Rattle.dcx_frac.specs.Frac.{value}
use Rattle.dcx_linear.specs.Rows.{IsOptimal, IsInfeasible, IsUnbounded}
use Rattle.dcx_tab.specs.declared.program.Program.{Program}
use Rattle.dcx_lp_answer.specs.declared.answer.LpStatus.{LpStatus}
use Rattle.dcx_lp_answer.specs.declared.answer.LpStatus.TheVariants as status
use Rattle.dcx_lp_answer.specs.declared.answer.LpAnswer.{LpAnswer}
use Rattle.dcx_lp_answer.specs.Notes.{numbers}
use Rattle.dcx_lp_answer.specs.Right.{multiplier_at}
use Rattle.dcx_std.specs.GivenRows.{GivenRows}
use Rattle.dcx_std.specs.Solutions.{linear_program, unknowns_at}

-- the unknowns are those that the columns stand for; the multiplier of a row is that of its integer row times the
-- factor, and turned where an equality was negated
abbrev pub IsRightForRowsAs : LpStatus → GivenRows → Program → LpAnswer → Type 0
IsRightForRowsAs status.Optimal rows q a = IsOptimal (linear_program rows) (value a.number) (unknowns_at q.columns (numbers a.columns)) (multiplier_at q.columns a)
IsRightForRowsAs status.Infeasible rows q a = IsInfeasible (linear_program rows) (value a.number) (multiplier_at q.columns a)
IsRightForRowsAs status.Unbounded rows q a = IsUnbounded (linear_program rows) (unknowns_at q.columns (numbers a.columns)) (unknowns_at q.columns (numbers a.ray)) (value a.number) (value a.slope)

-- the answer to the program is right for the rows
abbrev pub IsRightForRows : GivenRows → Program → LpAnswer → Type 0
IsRightForRows rows q a = IsRightForRowsAs a.status rows q a
