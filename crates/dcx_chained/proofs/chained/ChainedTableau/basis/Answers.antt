-- The list of basic columns is the basis.
use Rattle.std.proofs.Common.{arith}
use Rattle.std.proofs.lemmas.List.{get_or_read}
use Rattle.dcx_chained.proofs.RowReads.{length-rows_of}
use Rattle.dcx_chained.proofs.chained.ChainedTableau.basis.Goals as goal

pub index-requires : goal.index-requires
index-requires c =
    let l = length-rows_of c.args.self.now.links in
    let h = c.args.self.now.height in
    let s = c.args.self.now.basis_size in
    let r = c.requires in
    omega (arith, l, h, s, r)

pub returns : goal.returns
returns c =
    let l = length-rows_of c.args.self.now.links in
    let h = c.args.self.now.height in
    let s = c.args.self.now.basis_size in
    let r = c.requires in
    get_or_read c.args.self.now.basis.items c.args.row c.index.result.now (omega (arith, l, h, s, r)) c.index.ensures 0
