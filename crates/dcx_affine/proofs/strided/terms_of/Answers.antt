-- One more term is listed, of an entry within the stride.
use Rattle.std.proofs.Common.{ℕ, ◌+◌, ◌*◌, ◌<◌, ◌≤◌, ◌∙◌, ap, map, refl, arith}
use Rattle.dcx_atom.specs.Frac.{value}
use Rattle.dcx_atom.specs.declared.terms.Triple.{Triple}
use Rattle.dcx_atom.specs.Axis.{stride_entry}
use Rattle.dcx_atom.specs.Linear.{linear_term}
use Rattle.dcx_atom.proofs.Lists.{list_below-push}
use Rattle.dcx_affine.proofs.strided.terms_of.Goals as goal

-- an entry of a stride is no farther than its end
within : (first i count step all : ℕ) → i < count → first + count * step < all → first + i * step < all
within first i count step all h b = let l = longer i count step h in omega (arith, l)
  where
    longer : (i n step : ℕ) → i < n → i * step ≤ n * step
    longer i n step h = grind arith

pub loop-i-preserved : goal.loop-i-preserved
loop-i-preserved c =
    let next : Triple = record { argument = 0; entry = stride_entry c.args.stride c.loop-i.i; coefficient = c.args.coefficient } in
    ap (map linear_term) c.in_ok-push.ensures.items
    ∙ list_below-push c.loop-i.i (λ i. record { argument = 0; entry = stride_entry c.args.stride i; coefficient = value c.args.coefficient }) linear_term
    c.loop-i.terms.items next c.loop-i.invariant refl

pub overflow_mul-i : goal.overflow_mul-i
overflow_mul-i c =
    let h = within c.args.stride.first c.loop-i.i c.args.stride.count c.args.stride.step 4294967296 c.loop-i-test.true c.requires in
    omega (arith, h)

pub overflow_add-stride : goal.overflow_add-stride
overflow_add-stride c =
    let h = within c.args.stride.first c.loop-i.i c.args.stride.count c.args.stride.step 4294967296 c.loop-i-test.true c.requires in
    omega (arith, h)
