-- The first entry and the others.
use Rattle.std.proofs.Common.{◌∙◌, sym, ap, map, drop}
use Rattle.dcx_frac.specs.Frac.{value}
use Rattle.dcx_atom.specs.declared.array.Array.{Array}
use Rattle.dcx_atom.specs.Arrays.{number_at}
use Rattle.dcx_atom.specs.Farthest.{extreme_from}
use Rattle.dcx_atom.proofs.Lists.{first_and_others}
use Rattle.dcx_elem.proofs.ExtremeSteps.{entry_is}
use Rattle.dcx_elem.proofs.extremes.extreme_at.Goals as goal

pub returns : goal.returns
returns c =
    let place = c.args.place in
    let args = c.args.args.now in
    let x = c.index-args-0.result in
    let here = entry_is args 0 place x c.as_slice.result.now c.index-as_slice-place.result c.requires.places c.requires.some c.index-args-0.is
    (c.as_slice.ensures ∙ ap (λ (z : Array). z.entries) (sym c.index-args-0.is)) c.index-as_slice-place.is in
    c.farthest.ensures
    ∙ ap (λ zs. extreme_from c.args.bend (value c.index-as_slice-place.result) (map (λ z. number_at z.entries place) zs)) c.others.ensures
    ∙ ap (λ y. extreme_from c.args.bend y (map (λ z. number_at z.entries place) (drop 1 args))) here
    ∙ first_and_others c.args.bend (λ z. number_at z.entries place) args x c.requires.some c.index-args-0.is
