-- A stop is the fault at its first token.
use Rattle.dcx_read.proofs.Parsing.{stop-parses}
use Rattle.dcx_read.proofs.parser.parse_tokens.Goals as goal

pub returns-in-Err : goal.returns-in-Err
returns-in-Err c = stop-parses c.args.text.now c.args.tokens.now c.args.end c.in-Err.stop _ c.fault_of.ensures c.in-Err.ensures
