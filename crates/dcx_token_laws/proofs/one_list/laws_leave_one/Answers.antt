-- Each step of a reading takes from such a list what it reads itself.
use Rattle.dcx_token_laws.proofs.Depths.{one_list}
use Rattle.dcx_token_laws.proofs.one_list.laws_leave_one.Goals as goal

pub returns : goal.returns
returns c = one_list
