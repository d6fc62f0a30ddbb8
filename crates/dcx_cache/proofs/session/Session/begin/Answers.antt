-- The map that is kept is there exactly where the problem has one, and only then are all nodes counted.
use Rattle.dcx_cache.proofs.Kept.{kept_map}
use Rattle.dcx_cache.proofs.session.Session.begin.Goals as goal

pub returns-in-Ok-clause-cached : goal.returns-in-Ok-clause-cached
returns-in-Ok-clause-cached g c = kept_map c.args.problem c.in-Ok.map (c.in-Ok.ensures {u = tt}).kept

pub returns-in-Ok-clause-counted : goal.returns-in-Ok-clause-counted
returns-in-Ok-clause-counted g c = λ t. (c.in-Ok.ensures {u = tt}).counted ((kept_map c.args.problem c.in-Ok.map (c.in-Ok.ensures {u = tt}).kept).0 t)
