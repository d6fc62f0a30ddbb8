-- A value, zeros, or a kept array.
use Rattle.std.proofs.Common.{◌∙◌, Bool, sym, subst}
use Rattle.std.specs.Prelude.{IsTrue}
use Rattle.std.proofs.lemmas.Result.{IfOk-weaker}
use Rattle.dcx_atom.specs.declared.array.Array.{Array}
use Rattle.dcx_right.specs.Fixed.{is_fixed}
use Rattle.dcx_cert_rays.specs.Steepness.{IsArgument}
use Rattle.dcx_cert_rays.proofs.Known.{value_argument}
use Rattle.dcx_cert_rays.proofs.Steep.{level_argument}
use Rattle.dcx_cert_rays.proofs.node.argument.Goals as goal

pub returns-then-counts : goal.returns-then-counts
returns-then-counts c =
    let p = c.args.along.now.problem.now in
    let setting = c.args.along.now.setting.now in
    let ray = c.args.along.now.ray.now in
    let i = c.args.node.0 in
    let is : IsArgument p setting ray c.args.counts i c.kept_value.result.now =
    subst (λ (b : Bool). IsArgument p setting ray b i c.kept_value.result.now) (sym c.if-counts.true)
    (value_argument p setting ray c.args.along.now.values.now c.requires.given.values i c.kept_value.result.now (c.requires.fixed c.if-counts.true) c.kept_value.ensures) in
    IfOk-weaker c.copy_array.result _ _ (λ (v : Array) e. subst (IsArgument p setting ray c.args.counts i) (sym e) is) c.copy_array.ensures

pub returns-then-along-node : goal.returns-then-along-node
returns-then-along-node c =
    let p = c.args.along.now.problem.now in
    let setting = c.args.along.now.setting.now in
    let ray = c.args.along.now.ray.now in
    let i = c.args.node.0 in
    let t : IsTrue (is_fixed p i) = sym (c.requires.given.fixed.each i c.requires.there) ∙ c.if-along-node.true in
    level_argument p setting ray i c.requires.there t c.args.counts c.if-counts.false c.zeros.result c.shape.result c.shape.ensures c.zeros.ensures.shape c.zeros.ensures.numbers
