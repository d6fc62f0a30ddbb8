-- The variable that is read is the first one that is to be whole, and it stands where its name does.
use Rattle.std.proofs.Common.{◌≡◌, length, inl, refl, sym, ap, subst, ◌∙◌, arith}
use Rattle.std.proofs.lemmas.Option.{same_Some}
use Rattle.dcx_call.specs.declared.attribute.Variable.{Variable}
use Rattle.dcx_declared.specs.Stands.{StandsAt}
use Rattle.dcx_declared.proofs.Marked.{read_at, whole_within}
use Rattle.dcx_declared.proofs.whole.whole_place.Goals as goal

pub bounds-as_slice-k : goal.bounds-as_slice-k
bounds-as_slice-k c =
    let size = ap length c.as_slice.ensures in
    omega (arith, whole_within c.args.problem.now c.args.k c.requires.is, size)

pub place_of-requires : goal.place_of-requires
place_of-requires c =
    let p = c.args.problem.now in
    let v = c.index-as_slice-k.result in
    let at = read_at p c.args.k c.as_slice.result.now v c.as_slice.ensures (whole_within p c.args.k c.requires.is) c.index-as_slice-k.is in
    inl (c.args.k, v, at, refl)

pub returns : goal.returns
returns c =
    let p = c.args.problem.now in
    let v = c.index-as_slice-k.result in
    let at = read_at p c.args.k c.as_slice.result.now v c.as_slice.ensures (whole_within p c.args.k c.requires.is) c.index-as_slice-k.is in
    let same : v ≡ c.requires.is.variable = same_Some v c.requires.is.variable (sym at ∙ c.requires.is.there) in
    record {
      number = c.args.k;
      first = c.requires;
      stands = subst (λ (x : Variable). StandsAt p x.name c.place_of.result) same c.place_of.ensures;
    }
