-- The last unknown is that of the last entry of the last variable.
use Rattle.std.proofs.Common.{length, sym, ◌∙◌, arith}
use Rattle.std.proofs.lemmas.Option.{same_Some, none-some}
use Rattle.dcx_nodes.proofs.Corner.{nonempty, last_there, last_fits, last_read}
use Rattle.dcx_nodes.proofs.count.unknown_count.Goals as goal

pub bounds-firsts-last : goal.bounds-firsts-last
bounds-firsts-last c = last_there c.args.variables.now (nonempty (length c.args.variables.now) (sym c.if-is_empty.false ∙ c.is_empty.ensures)) c.args.firsts.now c.requires.firsts

pub entry_unknowns-requires-clause-fits : goal.entry_unknowns-requires-clause-fits
entry_unknowns-requires-clause-fits c =
    let fits = last_fits c.args.variables.now (nonempty (length c.args.variables.now) (sym c.if-is_empty.false ∙ c.is_empty.ensures)) c.args.firsts.now c.requires.firsts
    c.index-variables-last.result c.index-variables-last.is in
    omega (arith, fits, c.requires.few)

pub overflow_add-result : goal.overflow_add-result
overflow_add-result c =
    let (u, read, all) = last_read c.args.variables.now (nonempty (length c.args.variables.now) (sym c.if-is_empty.false ∙ c.is_empty.ensures)) c.args.firsts.now c.requires.firsts
    c.index-variables-last.result c.index-variables-last.is c.requires.square c.in_ok-unknowns.unknowns.items c.len.result c.index.result.now c.in_ok-unknowns.ensures
    (c.len.ensures ∙ c.in_ok-unknowns.unknowns.ok.0) c.index.ensures in
    let same = same_Some c.in-Some.unknown u (sym c.in-Some.is ∙ read) in
    omega (arith, same, all, c.requires.few)

pub returns-in-Some : goal.returns-in-Some
returns-in-Some c =
    let (u, read, all) = last_read c.args.variables.now (nonempty (length c.args.variables.now) (sym c.if-is_empty.false ∙ c.is_empty.ensures)) c.args.firsts.now c.requires.firsts
    c.index-variables-last.result c.index-variables-last.is c.requires.square c.in_ok-unknowns.unknowns.items c.len.result c.index.result.now c.in_ok-unknowns.ensures
    (c.len.ensures ∙ c.in_ok-unknowns.unknowns.ok.0) c.index.ensures in
    let same = same_Some c.in-Some.unknown u (sym c.in-Some.is ∙ read) in
    omega (arith, same, all)

pub bounds-firsts-last-in-None : goal.bounds-firsts-last-in-None
bounds-firsts-last-in-None c = last_there c.args.variables.now (nonempty (length c.args.variables.now) (sym c.if-is_empty.false ∙ c.is_empty.ensures)) c.args.firsts.now c.requires.firsts

pub returns : goal.returns
returns c =
    let (u, read, all) = last_read c.args.variables.now (nonempty (length c.args.variables.now) (sym c.if-is_empty.false ∙ c.is_empty.ensures)) c.args.firsts.now c.requires.firsts
    c.index-variables-last.result c.index-variables-last.is c.requires.square c.in_ok-unknowns.unknowns.items c.len.result c.index.result.now c.in_ok-unknowns.ensures
    (c.len.ensures ∙ c.in_ok-unknowns.unknowns.ok.0) c.index.ensures in
    absurd (none-some u (sym c.in-None.is ∙ read))
