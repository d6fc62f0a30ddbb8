-- The array that is found is tested.
use Rattle.std.proofs.Common.{◌≡◌, refl, sym, rules}
use Rattle.dcx_shape.specs.Shape.{sides_of}
use Rattle.dcx_fit.specs.Fit.{IsMet}
use Rattle.dcx_fit.proofs.Misfits.{met}
use Rattle.dcx_fit.proofs.parameters.fault_of.Goals as goal

pub returns-then-ne : goal.returns-then-ne
returns-then-ne c = (
  refl,
  record {
    array = c.in-Some.array.now;
    there = sym c.in-Some.ensures;
    is_declared = refl;
    is_given = refl;
    differs = search rules;
  },
)

pub returns-in_err-entry : goal.returns-in_err-entry
returns-in_err-entry c =
    let q = c.args.parameter.now in
    let same : sides_of c.in-Some.array.now.shape ≡ sides_of q.shape = search rules in
    let kept : IsMet c.args.setting.now q = met c.args.setting.now q c.in-Some.array.now (sym c.in-Some.ensures) same c.in_err-entry.ensures in
    search rules

pub returns : goal.returns
returns c =
    let same : sides_of c.in-Some.array.now.shape ≡ sides_of c.args.parameter.now.shape = search rules in
    (refl, record { array = c.in-Some.array.now; there = sym c.in-Some.ensures; shape = same; first = c.in_ok-entry.ensures })
