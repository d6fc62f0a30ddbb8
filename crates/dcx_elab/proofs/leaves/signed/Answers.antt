-- One sign more.
use Rattle.std.proofs.Common.{◌≡◌, ◌+◌, ◌-◌, ◌<◌, length, take, ap, ◌∙◌, arith}
use Rattle.std.proofs.lemmas.Result.{err_from_is_err_and}
use Rattle.dcx_syntax.specs.declared.tree.Sign.TheVariants.{Plus}
use Rattle.dcx_syntax.specs.declared.tree.Signed.{Signed}
use Rattle.dcx_script_values.specs.Meant.{meant}
use Rattle.dcx_script_values.proofs.Acts.{Fails-same}
use Rattle.dcx_elab.specs.Expressions.{signed}
use Rattle.dcx_elab.proofs.Signs.{signed-fault, signed-next}
use Rattle.dcx_elab.proofs.leaves.signed.Goals as goal

-- any sign
none : Signed
none = record { sign = Plus; place = record { line = 0; column = 0 } }

pub returns-in_err-value : goal.returns-in_err-value
unfolding none
returns-in_err-value c =
    let p = err_from_is_err_and c.from_residual.result c.from_residual.ensures.1 in
    let i = c.loop-left.left - 1 in
    let inside = c.loop-left.invariant.1 in
    let on : c.loop-left.left ≡ i + 1 = omega arith in
    let within : i < length c.args.signs.now = omega (arith, inside) in
    rw (p.1, p.2) (Fails-same c.in_err-value.field-0.0 _ (signed c.args.signs.now (meant c.args.value) c.args.state.now)
    (c.loop-left.invariant.0 ∙ ap (λ n. signed (take n c.args.signs.now) (meant c.loop-left.value) c.loop-left.state) on)
    (signed-fault c.args.signs.now i none (meant c.loop-left.value) c.in_err-value.field-0.0 c.loop-left.state within c.in_err-value.ensures))

pub loop-left-preserved : goal.loop-left-preserved
unfolding none
loop-left-preserved c =
    let i = c.loop-left.left - 1 in
    let inside = c.loop-left.invariant.1 in
    let on : c.loop-left.left ≡ i + 1 = omega arith in
    let within : i < length c.args.signs.now = omega (arith, inside) in (
      c.loop-left.invariant.0 ∙ ap (λ n. signed (take n c.args.signs.now) (meant c.loop-left.value) c.loop-left.state) on
          ∙ signed-next c.args.signs.now i none (meant c.loop-left.value) (meant c.in_ok-value.value) c.loop-left.state c.sign_value.new.state within c.in_ok-value.ensures,
      omega (arith, inside),
    )
