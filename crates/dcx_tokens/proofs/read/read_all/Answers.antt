-- A step reads on, the first step that stops tells the fault, and at the end the last line ends.
use Rattle.std.proofs.Common.{◌≢◌, sym, ◌∙◌, subst}
use Rattle.std.proofs.lemmas.Bool.{false≢true}
use Rattle.dcx_tokens.specs.declared.fault.ReadFault.TheVariants as fault
use Rattle.dcx_tokens.specs.Reading.{Reads}
use Rattle.dcx_tokens.specs.View.{state_of, IsBefore}
use Rattle.dcx_tokens.proofs.Readings.{read_on, stopped, ended, ended_badly}
use Rattle.dcx_tokens.proofs.read.read_all.Goals as goal

pub loop-rest-preserved : goal.loop-rest-preserved
loop-rest-preserved c =
    let back = c.split_at.ensures.back in
    record {
      so_far = λ ts f more. c.loop-rest.invariant.so_far ts f (read_on _ _ c.loop-rest.rest.now c.c-item.result c.in-Ok.count ts f c.in-len1-up.len_at_least c.c-item.is
          c.in-Ok.ensures.gives (subst (λ xs. Reads (state_of c.step.new.self) xs ts f) back more));
      within = c.in-Ok.ensures.within;
      before = subst (λ xs. IsBefore c.step.new.self xs) (sym back) c.in-Ok.ensures.before;
      room = c.in-Ok.ensures.room;
    }

pub returns-in-Err : goal.returns-in-Err
returns-in-Err c =
    let other : c.in-Err.fault ≢ fault.Memory = λ e. false≢true (sym c.if-is_memory.false ∙ c.is_memory.ensures.1 e) in
    c.loop-rest.invariant.so_far _ _ (stopped _ c.loop-rest.rest.now c.c-item.result c.step.new.self c.in-Err.fault c.in-len1-up.len_at_least c.c-item.is other c.in-Err.ensures.gives)

pub returns-in-Ok-finish : goal.returns-in-Ok-finish
returns-in-Ok-finish c = c.loop-rest.invariant.so_far _ _ (ended _ c.loop-rest.rest.now c.finish.new.self c.in_default.len_below c.in-Ok-finish.ensures.gives)

pub returns-else-is_memory-2 : goal.returns-else-is_memory-2
returns-else-is_memory-2 c =
    let other : c.in-Err-finish.fault ≢ fault.Memory = λ e. false≢true (sym c.if-is_memory-2.false ∙ c.is_memory-in-Err-finish.ensures.1 e) in
    c.loop-rest.invariant.so_far _ _ (ended_badly _ c.loop-rest.rest.now c.finish.new.self c.in-Err-finish.fault c.in_default.len_below other c.in-Err-finish.ensures.gives)
