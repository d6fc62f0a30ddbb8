-- What stops a setting, from what stops a part of the way.
use Rattle.dcx_answer.specs.declared.stop.Stop.{Stop}
use Rattle.dcx_answer.specs.declared.stop.Stop.TheVariants.{TooLarge, ZeroDivisor, Wide, Memory}
use Rattle.dcx_graph.specs.declared.stop.ReduceStop.{ReduceStop}
use Rattle.dcx_graph.specs.declared.stop.ReduceStop.TheVariants as reduces
use Rattle.dcx_graph.specs.declared.reading.AnswerStop.{AnswerStop}
use Rattle.dcx_graph.specs.declared.reading.AnswerStop.TheVariants as reads

-- there is no program
abbrev pub program_stop : ReduceStop → Stop
program_stop (reduces.TooLarge rows columns) = TooLarge rows columns
program_stop (reduces.ZeroDivisor node entry) = ZeroDivisor node entry
program_stop (reduces.Wide site) = Wide site
program_stop reduces.Memory = Memory

-- the answer isn't read
abbrev pub reading_stop : AnswerStop → Stop
reading_stop (reads.Wide site) = Wide site
reading_stop reads.Memory = Memory
