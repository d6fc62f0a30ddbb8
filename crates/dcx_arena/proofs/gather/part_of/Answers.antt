-- The part stays sound and renamed with each node more, and nothing is told where memory runs out.
use Rattle.std.proofs.Common.{◌+◌, ◌∙◌, ap}
use Rattle.std.proofs.lemmas.Result.{err_from_is_err_and}
use Rattle.dcx_arena.proofs.gather.part_of.Goals as goal

pub add_next-requires-clause-whole : goal.add_next-requires-clause-whole
add_next-requires-clause-whole g c = c.requires.whole

pub add_next-requires-clause-finished : goal.add_next-requires-clause-finished
add_next-requires-clause-finished g c = c.requires.finished

pub add_next-requires-clause-sound : goal.add_next-requires-clause-sound
add_next-requires-clause-sound g c = c.loop-node.invariant.sound

pub add_next-requires-clause-renamed : goal.add_next-requires-clause-renamed
add_next-requires-clause-renamed g c = c.loop-node.invariant.renamed

pub returns-in_err-add_next-clause-sound : goal.returns-in_err-add_next-clause-sound
returns-in_err-add_next-clause-sound g c = let p = err_from_is_err_and c.from_residual.result c.from_residual.ensures.1 in rw p.1 tt

pub returns-in_err-add_next-clause-renamed : goal.returns-in_err-add_next-clause-renamed
returns-in_err-add_next-clause-renamed g c = let p = err_from_is_err_and c.from_residual.result c.from_residual.ensures.1 in rw p.1 tt

pub returns-in_err-add_next-clause-count : goal.returns-in_err-add_next-clause-count
returns-in_err-add_next-clause-count g c = let p = err_from_is_err_and c.from_residual.result c.from_residual.ensures.1 in rw p.1 tt

pub loop-node-preserved : goal.loop-node-preserved
loop-node-preserved g c = record {
  sound = c.in_ok-add_next.ensures.sound;
  renamed = c.in_ok-add_next.ensures.renamed;
  count = c.in_ok-add_next.ensures.count ∙ ap (λ n. n + 1) c.loop-node.invariant.count;
}

pub returns-clause-sound : goal.returns-clause-sound
returns-clause-sound g c = c.loop-node.invariant.sound

pub returns-clause-renamed : goal.returns-clause-renamed
returns-clause-renamed g c = c.loop-node.invariant.renamed
