-- Where building the program stops, and memory doesn't run out, there is none.
use Rattle.std.proofs.Common.{rules, ◌≢◌}
use Rattle.dcx_linear.specs.declared.param_form.ParamForm.{ParamForm}
use Rattle.dcx_graph.specs.declared.stop.ReduceStop.TheVariants as stops
use Rattle.dcx_graph.specs.Reduced.{Reduction}
use Rattle.dcx_cache.proofs.Maps.{no_map}
use Rattle.dcx_cache.proofs.program.map_of.Goals as goal

pub returns-in-Err-clause-kept : goal.returns-in-Err-clause-kept
returns-in-Err-clause-kept g c =
    let n : c.in-Err.field-0 ≢ stops.Memory = search rules in
    no_map (λ (q : Reduction ParamForm). q.program) c.args.problem.now c.in-Err.field-0 n (c.in-Err.ensures {u = tt}).program

pub returns-in-Err-clause-counted : goal.returns-in-Err-clause-counted
returns-in-Err-clause-counted g c = λ m. absurd (returns-in-Err-clause-kept g c m)
