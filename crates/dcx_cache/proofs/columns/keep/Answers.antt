-- What is kept holds no column twice.
use Rattle.std.proofs.Common.{◌≡◌, ℕ, List, Option, None, IfOk, subst}
use Rattle.dcx_chained.specs.Tables.{table_of}
use Rattle.dcx_cache.specs.Columns.{columns_after}
use Rattle.dcx_cache.proofs.Basics.{renewed, still_apart}
use Rattle.dcx_cache.proofs.columns.keep.Goals as goal

pub returns-clause-columns : goal.returns-clause-columns
returns-clause-columns c =
    let t = table_of c.args.found.solved.tableau in
    let e = subst (λ r. IfOk r (λ (x : Option (List ℕ)). x ≡ columns_after None c.args.answer.now t)) c.in-Ok.is c.new_columns.ensures in
    renewed c.args.columns.now c.in-Ok.anew c.renew.new.columns c.args.answer.now t c.renew.ensures e

pub returns-clause-apart : goal.returns-clause-apart
returns-clause-apart c =
    let t = table_of c.args.found.solved.tableau in
    still_apart c.args.columns.now c.renew.new.columns c.args.answer.now t c.requires (returns-clause-columns c)
