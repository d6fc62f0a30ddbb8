-- One more unknown has its kind.
use Rattle.std.proofs.Common.{◌≡◌, ◌∙◌, ap, arith, [], ◌∷◌, ◌++◌, replicate}
use Rattle.std.proofs.lemmas.List.{replicate_more}
use Rattle.dcx_atom.specs.declared.graph.AuxKind.TheVariants.{Free, Nonneg}
use Rattle.dcx_fold.proofs.largest.level_kinds.Goals as goal

pub loop-unknown-preserved : goal.loop-unknown-preserved
loop-unknown-preserved c = c.in_ok-push-2.ensures.items ∙ ap (λ xs. xs ++ Nonneg ∷ []) c.loop-unknown.invariant ∙ ap (λ xs. Free ∷ xs) (replicate_more c.loop-unknown._unknown Nonneg)

pub returns : goal.returns
returns c =
    let end : c.loop-unknown._unknown ≡ c.args.size = omega (arith, c.loop-unknown-test.false, c.loop-unknown.auto._unknown-end) in
    c.from_vec.ensures ∙ c.loop-unknown.invariant ∙ ap (λ n. Free ∷ replicate n Nonneg) end
