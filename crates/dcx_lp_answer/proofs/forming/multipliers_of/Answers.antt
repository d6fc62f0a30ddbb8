-- The multipliers are formed one after the other, and the one at which the code stops is the first that passes.
use Rattle.std.proofs.Common.{Ok, map, sym, refl, ap, ◌∙◌}
use Rattle.dcx_lp_answer.specs.Multipliers.{multiplier_of}
use Rattle.dcx_lp_answer.proofs.Passing.{all_made, made_next, passes_next}
use Rattle.dcx_lp_answer.proofs.forming.multipliers_of.Goals as goal

pub returns-in-Err-clause-stops : goal.returns-in-Err-clause-stops
returns-in-Err-clause-stops c =
    passes_next (multiplier_of c.args.status c.args.kind) c.args.notes.now c.notes.found.items c.notes.index c.index-notes-index.result c.notes-test.true c.index-notes-index.is c.notes.invariant
    c.args.first _ c.in-Err.passes (sym c.multiplier.ensures ∙ c.in-Err.is) refl

pub notes-preserved : goal.notes-preserved
notes-preserved c =
    made_next (multiplier_of c.args.status c.args.kind) c.args.notes.now c.notes.found.items c.notes.index c.index-notes-index.result c.notes-test.true c.index-notes-index.is c.notes.invariant
    c.in-Ok.number c.push.new.self.items (sym c.multiplier.ensures ∙ c.in-Ok.is) (c.in_ok-push-in-Ok.ensures.items)

pub returns-clause-made : goal.returns-clause-made
returns-clause-made c =
    ap (map Ok) c.from_vec.ensures ∙ all_made (multiplier_of c.args.status c.args.kind) c.args.notes.now c.notes.found.items c.notes.index c.notes-test.false c.notes.invariant
