-- The item that is read is put at the end.
use Rattle.dcx_settings.proofs.line.push_item.Goals as goal

pub returns-clause-ok : goal.returns-clause-ok
returns-clause-ok c = (c.in_ok-next.next, c.in_ok-next.ensures.ok, c.in_ok-next.ensures.names, c.in_ok-push.ensures.items)
