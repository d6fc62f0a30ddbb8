-- The variable is whole where it is marked.
use Rattle.dcx_declared.proofs.Marked.{read_at, marked_is_whole}
use Rattle.dcx_declared.proofs.whole.is_whole.Goals as goal

pub returns : goal.returns
returns c =
    let p = c.args.problem.now in
    let v = c.index-as_slice-k.result in
    marked_is_whole p c.args.k v c.is_marked.result (read_at p c.args.k c.as_slice.result.now v c.as_slice.ensures c.requires c.index-as_slice-k.is) c.is_marked.ensures
