-- The subgradient law of the slopes that are answered.
use Rattle.std.proofs.Common.{◌≡◌, Option, Some, None, IfSome, refl}
use Rattle.std.proofs.lemmas.Result.{IfOk-weaker}
use Rattle.dcx_shape.specs.Sides.{entries_of}
use Rattle.dcx_shape.specs.declared.shape.Sides.{Sides}
use Rattle.dcx_atom.specs.Arrays.{sides_list}
use Rattle.dcx_atom.specs.Steps.{AreSlopesOf}
use Rattle.dcx_atom.proofs.Accepted.{slopes-bound}
use Rattle.dcx_unit_tests.specs.Uses.{BoundBelow}
use Rattle.dcx_unit_tests.proofs.laws.bound.Goals as goal

each : (o : Option Sides) (P Q : Sides → Type 0) → ((s : Sides) → o ≡ Some s → P s → Q s) → IfSome o P → IfSome o Q
each None P Q f h = tt
each (Some s) P Q f h = f s refl h

pub returns : goal.returns
returns g c =
    let m = g.A.Atom.meaning c.args.atom.now in
    let args = sides_list c.args.args.now in
    let cs = c.args.coefficients.now in
    let ws = c.args.weights.now in
    IfOk-weaker c.slopes.result (λ gs. IfSome (m.shape args) (λ s. AreSlopesOf m args (entries_of s) cs ws gs)) (λ gs. IfSome (m.shape args) (λ s. BoundBelow m args (entries_of s) cs gs))
    (λ gs. each (m.shape args) (λ s. AreSlopesOf m args (entries_of s) cs ws gs) (λ s. BoundBelow m args (entries_of s) cs gs)
    (λ s e h. slopes-bound m (g.met.A.Atom.subgradient c.args.atom.now) args s e cs ws gs h)) c.slopes.ensures.ok
