-- One more head leads nowhere.
use Rattle.std.proofs.Common.{refl}
use Rattle.dcx_links.specs.Lines.{none}
use Rattle.dcx_links.proofs.Empty.{none_push, length_push}
use Rattle.dcx_links.proofs.reserve.make_heads.Goals as goal

pub loop-i-init : goal.loop-i-init
loop-i-init c = rw c.new-heads.ensures.items (record { count = refl; none = λ k. refl })

pub loop-i-preserved : goal.loop-i-preserved
loop-i-preserved c =
    let v = c.loop-i.invariant in
    rw c.in_ok-push.ensures.items (record {
      count = length_push c.loop-i.heads.items none c.loop-i._i v.count;
      none = none_push c.loop-i.heads.items v.none;
    })
