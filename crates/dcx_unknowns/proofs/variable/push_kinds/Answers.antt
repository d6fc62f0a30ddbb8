-- The kinds of one more variable are added behind those so far.
use Rattle.std.proofs.Common.{◌∙◌, ◌++◌, ◌∷◌, [], ap, rules, sym, take}
use Rattle.std.proofs.lemmas.List.{flat_map_more, take_all, take_more}
use Rattle.std.proofs.lemmas.Result.{err_from_is_err_and}
use Rattle.dcx_unknowns.specs.Unknowns.{own_kinds, variable_kinds}
use Rattle.dcx_unknowns.proofs.variable.push_kinds.Goals as goal

pub variables-init : goal.variables-init
variables-init c = search rules

pub variables-smaller : goal.variables-smaller
variables-smaller c = search rules

pub variables-preserved : goal.variables-preserved
variables-preserved c =
    let vs = c.args.variables.now in
    let old = c.args.kinds.now.items in
    let i = c.variables.variable-index in
    let v = c.variable-item.result in
    c.in_ok-push_own.ensures ∙ ap (λ ks. ks ++ own_kinds v) c.variables.invariant ∙ flat_map_more own_kinds old (take i vs) v
    ∙ ap (λ xs. old ++ variable_kinds xs) (ap (λ w. take i vs ++ w ∷ []) c.variable-item.is ∙ sym (take_more vs i v c.variables-test.true))

pub returns : goal.returns
returns c = c.variables.invariant ∙ ap (λ xs. c.args.kinds.now.items ++ variable_kinds xs) (take_all c.variables.variable-index c.args.variables.now c.variables-test.false)

pub returns-in_err-push_own : goal.returns-in_err-push_own
returns-in_err-push_own c = let p = err_from_is_err_and c.from_residual.result c.from_residual.ensures.1 in rw p.1 tt
