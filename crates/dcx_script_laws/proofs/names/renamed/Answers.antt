-- The law of names.
use Rattle.dcx_script_laws.proofs.Renamed.Exchange.{exchange_holds}
use Rattle.dcx_script_laws.proofs.Renamed.Expressions.{expr_follows}
use Rattle.dcx_script_laws.proofs.Renamed.Lines.{lines_follow, meaning_follows}
use Rattle.dcx_script_laws.proofs.Renamed.Problems.{same_problem}
use Rattle.dcx_script_laws.proofs.Renamed.Works.{works_renamed}
use Rattle.dcx_script_laws.proofs.names.renamed.Goals as goal

pub returns : goal.returns
returns c = record {
  expression = λ rename is x. expr_follows is x;
  lines = λ rename is ls. lines_follow is ls;
  script = meaning_follows;
  work = λ rename is. works_renamed is;
  problem = λ rename is. same_problem is;
  exchange = exchange_holds;
}
