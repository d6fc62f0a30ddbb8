-- The map that is kept lists entries of the setting alone, and fixed there it is the session's program.
use Rattle.std.proofs.Common.{option_copied, subst}
use Rattle.dcx_cache.specs.Programs.{IsMapOf}
use Rattle.dcx_cache.specs.Sessions.{KeepsMap}
use Rattle.dcx_cache.proofs.Maps.{map_is_listed, from_map}
use Rattle.dcx_cache.proofs.program.program_at.Goals as goal

pub fix-requires : goal.fix-requires
fix-requires g c =
    map_is_listed c.args.problem.now c.args.setting.now c.in-Some.map.now.program (subst (λ o. KeepsMap c.args.problem.now (option_copied o)) c.in-Some.is c.requires.kept) c.requires.fits

pub returns-in-Some-clause-program : goal.returns-in-Some-clause-program
returns-in-Some-clause-program g c =
    let m : IsMapOf c.args.problem.now c.in-Some.map.now.program = subst (λ o. KeepsMap c.args.problem.now (option_copied o)) c.in-Some.is c.requires.kept in
    from_map c.args.problem.now c.args.setting.now c.in-Some.map.now.program c.fix.result m c.fix.ensures.program
