-- Whatever reading gives from here on, the whole text gives; with each step fewer characters are left.
use Rattle.std.proofs.Common.{List, Option, length}
use Rattle.dcx_tokens.specs.declared.fault.ReadFault.{ReadFault}
use Rattle.dcx_tokens.specs.declared.token.Token.{Token}
use Rattle.dcx_tokens.specs.Position.{IsInText}
use Rattle.dcx_tokens.specs.Reading.{Reads}
use Rattle.dcx_tokens.specs.View.{state_of, HasRoom, IsBefore}
use Rattle.dcx_tokens.proofs.read.read_all.Given as goal

abbrev pub invariant-loop-rest : goal.invariant-loop-rest
invariant-loop-rest l = record {
  so_far : (tokens : List Token) (fault : Option ReadFault) → Reads (state_of l.reader) l.rest tokens fault → Reads (state_of l.fn.reader) l.chars tokens fault;
  within : IsInText l.reader.at;
  before : IsBefore l.reader l.rest;
  room : HasRoom l.reader;
}

abbrev pub decreases-loop-rest : goal.decreases-loop-rest
decreases-loop-rest l = length l.rest
