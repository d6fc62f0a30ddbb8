-- The first misfit stops the program, or what stops forming it.
use Rattle.std.proofs.Common.{refl, sym, subst}
use Rattle.std.specs.Prelude.{IfErr}
use Rattle.std.proofs.lemmas.Result.{err_from_is_err_and}
use Rattle.dcx_fit.specs.Fit.{IsFirstMisfit}
use Rattle.dcx_cache.specs.Programs.{ProgramStops}
use Rattle.dcx_cache.proofs.Stopped.{misfit_stops, program_stops}
use Rattle.dcx_cache.proofs.program.formed.Goals as goal

pub returns-in-Err-clause-stops : goal.returns-in-Err-clause-stops
returns-in-Err-clause-stops g c =
    let p = c.args.problem.now in
    let s = c.args.setting.now in
    subst (ProgramStops p s) (sym c.program_stop.ensures) (program_stops p s ((c.in_ok-fit.ensures {u = tt}).fits.0 refl) c.in-Err.stop (c.in-Err.ensures {u = tt}).program)

pub returns-in_err-fit-clause-fits : goal.returns-in_err-fit-clause-fits
returns-in_err-fit-clause-fits g c = let p = err_from_is_err_and c.from_residual.result c.from_residual.ensures.1 in rw p.1 tt

pub returns-in_err-fit-clause-gives : goal.returns-in_err-fit-clause-gives
returns-in_err-fit-clause-gives g c = let p = err_from_is_err_and c.from_residual.result c.from_residual.ensures.1 in rw p.1 tt

pub returns-in_err-fit-clause-from_map : goal.returns-in_err-fit-clause-from_map
returns-in_err-fit-clause-from_map g c = let p = err_from_is_err_and c.from_residual.result c.from_residual.ensures.1 in rw p.1 tt

pub returns-in_err-fit-clause-stops : goal.returns-in_err-fit-clause-stops
returns-in_err-fit-clause-stops g c =
    let p = err_from_is_err_and c.from_residual.result c.from_residual.ensures.1 in
    let q = c.args.problem.now in
    let s = c.args.setting.now in
    let misfit = subst (λ r. IfErr r (IsFirstMisfit q.parameters s)) c.in_err-fit.was c.fit.ensures.stops in
    rw (p.1, p.2) (misfit_stops q s c.in_err-fit.field-0.0 misfit)
