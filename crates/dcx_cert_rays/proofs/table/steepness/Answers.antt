-- A number of the array that is kept, or 0.
use Rattle.std.proofs.Common.{◌≡◌, ◌<◌, inl, inr, List, length, Some, None, IsSome, sym, ap, ◌∙◌, subst, arith}
use Rattle.std.proofs.lemmas.Bool.{false≢true}
use Rattle.dcx_frac.specs.declared.fraction.Frac.{Frac}
use Rattle.dcx_atom.specs.Arrays.{number_at}
use Rattle.dcx_tree.specs.Values.{array_at}
use Rattle.dcx_cert_rays.proofs.Steep.{level}
use Rattle.dcx_cert_rays.proofs.Tables.{read_at}
use Rattle.dcx_cert_rays.proofs.table.steepness.Goals as goal

pub returns-in-Some : goal.returns-in-Some
returns-in-Some c =
    let arrays = c.args.arrays.now in
    let i = c.args.node.0 in
    let within : i < length arrays = let e = c.requires.kept.sized in omega (arith, e, c.requires.there) in
    let there : array_at arrays i ≡ Some c.in-Some.array = read_at arrays i c.index-arrays-node.result within c.index-arrays-node.is ∙ c.in-Some.is in
    c.number_at.ensures.exact ∙ ap (λ (xs : List Frac). number_at xs c.args.entry) c.as_slice.ensures ∙ (c.requires.kept.steep i c.in-Some.array there).numbers c.args.entry

pub returns-in-None : goal.returns-in-None
returns-in-None c =
    let arrays = c.args.arrays.now in
    let i = c.args.node.0 in
    let within : i < length arrays = let e = c.requires.kept.sized in omega (arith, e, c.requires.there) in
    let there : array_at arrays i ≡ None = read_at arrays i c.index-arrays-node.result within c.index-arrays-node.is ∙ c.in-None.is in
    c.zero.ensures ∙ sym (elim c.requires.known [
      | inl t ↦ level c.args.along.now.problem.now c.args.along.now.setting.now c.args.along.now.ray.now i c.requires.there t c.args.entry
      | inr some ↦ absurd (false≢true (subst IsSome there some))
    ])
