-- One more node passes its checks, or is the first that doesn't.
use Rattle.std.proofs.Common.{inl, inr, ◌<◌, false, Bool, List, [], Option, get_or, length, sym, ap, subst, ◌∙◌, arith}
use Rattle.std.proofs.lemmas.Result.{err_from_is_err_and}
use Rattle.dcx_atom.specs.declared.array.Array.{Array}
use Rattle.dcx_tree.specs.Values.{IsMarked}
use Rattle.dcx_cert_values.specs.Marks.{AreClosed}
use Rattle.dcx_cert_values.proofs.Known.{no_variable_given}
use Rattle.dcx_cert_values.proofs.Fixed.{below_fixed, fixed_no_variable}
use Rattle.dcx_cert_values.proofs.Dividing.{below_divisors, passed_none, passed_more, known_now, args_now, divisor_now, first_failing}
use Rattle.dcx_cert_values.proofs.quotients.divisors.Goals as goal

pub loop-i-init : goal.loop-i-init
loop-i-init c =
    let p = c.args.problem.now in
    let s = c.args.setting.now in
    let marks = c.in_ok-marks.marks.items in
    let old = c.args.values.now in
    record {
      below = below_divisors p s marks old c.requires.values c.in_ok-marks.ensures.sound
          (subst (λ (xs : List (Option Array)). AreClosed p.tree xs marks) c.as_slice.ensures c.in_ok-marks.ensures.closed) c.in_ok-marks.ensures.starts;
      passed = passed_none p s marks old c.requires.values;
    }

pub step-requires-clause-below : goal.step-requires-clause-below
step-requires-clause-below c = λ e.
    let i = c.loop-i.i in
    c.loop-i.invariant.below.sound i (ap (λ (xs : List Bool). get_or xs i false) (sym c.deref.ensures.value) ∙ sym c.is_marked-is_below.ensures ∙ e)

pub step-requires-clause-known : goal.step-requires-clause-known
step-requires-clause-known c = λ b.
    let i = c.loop-i.i in
    elim (known_now c.args.problem.now c.args.setting.now c.in_ok-marks.marks.items c.args.values.now c.loop-i.invariant.below i c.loop-i.values c.loop-i.invariant.passed b) [
      | inl m ↦ inl (c.is_marked-is_below.ensures ∙ ap (λ (xs : List Bool). get_or xs i false) c.deref.ensures.value ∙ m)
      | inr s ↦ inr s
    ]

pub step-requires-clause-given : goal.step-requires-clause-given
step-requires-clause-given c = λ n e at.
    let p = c.args.problem.now in
    let i = c.loop-i.i in
    let m : IsMarked c.in_ok-marks.marks.items i = ap (λ (xs : List Bool). get_or xs i false) (sym c.deref.ensures.value) ∙ sym c.is_marked-is_below.ensures ∙ e in
    no_variable_given p c.args.setting.now c.requires.parameters [] i n at (fixed_no_variable p i n at (below_fixed p c.requires.accepted i (c.loop-i.invariant.below.sound i m)))

pub step-requires-clause-args : goal.step-requires-clause-args
step-requires-clause-args c = λ e.
    let i = c.loop-i.i in
    let m : IsMarked c.in_ok-marks.marks.items i = ap (λ (xs : List Bool). get_or xs i false) (sym c.deref.ensures.value) ∙ sym c.is_marked-is_below.ensures ∙ e in
    args_now c.args.problem.now c.args.setting.now c.in_ok-marks.marks.items c.args.values.now c.loop-i.invariant.below i c.loop-i.values c.loop-i.invariant.passed m

pub step-requires-clause-divisor : goal.step-requires-clause-divisor
step-requires-clause-divisor c =
    divisor_now c.args.problem.now c.args.setting.now c.in_ok-marks.marks.items c.args.values.now c.loop-i.invariant.below c.loop-i.i c.loop-i.values c.loop-i.invariant.passed

pub returns-in_err-step-clause-checked : goal.returns-in_err-step-clause-checked
returns-in_err-step-clause-checked c =
    let r = err_from_is_err_and c.from_residual-in_err-step.result c.from_residual-in_err-step.ensures.1 in
    let lt : c.loop-i.i < length c.args.problem.now.tree = omega (arith, c.loop-i-test.true, c.nodes-i-end.ensures.count) in
    rw (r.1, r.2)
    (first_failing c.args.problem.now c.args.setting.now c.in_ok-marks.marks.items c.args.values.now c.loop-i.invariant.below c.loop-i.i c.loop-i.values c.loop-i.invariant.passed _ lt
    c.in_err-step.ensures.checked)

pub loop-i-preserved : goal.loop-i-preserved
loop-i-preserved c =
    let i = c.loop-i.i in
    record {
      below = c.loop-i.invariant.below;
      passed = passed_more c.args.problem.now c.args.setting.now c.in_ok-marks.marks.items c.args.values.now c.loop-i.invariant.below i c.loop-i.values c.loop-i.invariant.passed c.step.new.values
          c.step.ensures.values c.step.ensures.stays
          (λ m. c.in_ok-step.ensures.kept (c.is_marked-is_below.ensures ∙ ap (λ (xs : List Bool). get_or xs i false) c.deref.ensures.value ∙ m)) c.in_ok-step.ensures.checked
          c.step.ensures.only;
    }

pub returns-clause-checked : goal.returns-clause-checked
returns-clause-checked c = λ k lt. c.loop-i.invariant.passed.passed k (omega (arith, lt, c.loop-i-test.false, c.nodes-i-end.ensures.count))

pub returns-in_err-step-clause-only : goal.returns-in_err-step-clause-only
returns-in_err-step-clause-only c = λ only j s.
    let below = below_fixed c.args.problem.now c.requires.accepted in
    elim (c.step.ensures.only j s) [
      | inl b ↦ below j b
      | inr was ↦ elim (c.loop-i.invariant.passed.only j was) [ inl b ↦ below j b | inr first ↦ only j first ]
    ]

pub returns-clause-only : goal.returns-clause-only
returns-clause-only c = λ only j s. elim (c.loop-i.invariant.passed.only j s) [
  | inl b ↦ below_fixed c.args.problem.now c.requires.accepted j b
  | inr was ↦ only j was
]
