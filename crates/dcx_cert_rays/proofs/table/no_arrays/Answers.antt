-- One more place of the table has no array.
use Rattle.std.proofs.Common.{◌≡◌, ◌∙◌, ◌++◌, ◌∷◌, [], None, replicate, refl, ap, arith}
use Rattle.dcx_cert_rays.proofs.Tables.{replicate_more}
use Rattle.dcx_cert_rays.proofs.table.no_arrays.Goals as goal

pub loop-preserved : goal.loop-preserved
loop-preserved c = replicate_more c.loop.counter _ c.push.new.self.items refl (c.in_ok-push.ensures.items ∙ ap (λ xs. xs ++ None ∷ []) c.loop.invariant)

pub returns : goal.returns
returns c = let e : c.loop.counter ≡ c.args.count = omega arith in c.loop.invariant ∙ ap (λ n. replicate n None) e
