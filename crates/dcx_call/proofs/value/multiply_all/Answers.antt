-- The pairs that are listed are those of each entry.
use Rattle.std.proofs.Common.{◌≡◌, ℕ, ◌<◌, List, [], get_or}
use Rattle.std.proofs.lemmas.Result.{IfOk-weaker, IfErr-weaker}
use Rattle.dcx_shape.specs.Shape.{sides_of}
use Rattle.dcx_atom.specs.Arrays.{number_at}
use Rattle.dcx_affine.specs.declared.pairing.Pair.{Pair}
use Rattle.dcx_affine.specs.Pairing.{paired_sides, pairs_at}
use Rattle.dcx_call.specs.Values.{pair_sum}
use Rattle.dcx_call.proofs.Entries.{Forming, formed_alike, stop_alike}
use Rattle.dcx_call.proofs.CallValues.{pairs_found, pairs_alike}
use Rattle.dcx_call.proofs.value.multiply_all.Goals as goal

pub returns-clause-ok : goal.returns-clause-ok
returns-clause-ok c =
    let l = c.args.left.now in
    let r = c.args.right.now in
    let f : ℕ → List Pair = pairs_at c.args.pairing (sides_of l.shape) (sides_of r.shape) in
    let listed = pairs_found (paired_sides c.args.pairing (sides_of l.shape) (sides_of r.shape)) c.args.size c.in-Ok.pairs f c.requires.shape c.requires.size c.in-Ok.ensures in
    let own : Forming = λ j. pair_sum (get_or c.as_slice.result.now j []) (number_at c.as_slice-2.result.now) (number_at c.as_slice-3.result.now) j in
    let told : Forming = λ j. pair_sum (f j) (number_at l.entries) (number_at r.entries) j in
    let same : (j : ℕ) → j < c.args.size → own j ≡ told j =
    pairs_alike c.as_slice.result.now c.in-Ok.pairs c.as_slice-2.result.now c.as_slice-3.result.now l.entries r.entries f c.args.size
    c.as_slice.ensures listed c.as_slice-2.ensures c.as_slice-3.ensures in
    IfOk-weaker c.fill.result _ _ (λ xs h. formed_alike own told c.args.size xs same h) c.fill.ensures.ok

pub returns-clause-stop : goal.returns-clause-stop
returns-clause-stop c =
    let l = c.args.left.now in
    let r = c.args.right.now in
    let f : ℕ → List Pair = pairs_at c.args.pairing (sides_of l.shape) (sides_of r.shape) in
    let listed = pairs_found (paired_sides c.args.pairing (sides_of l.shape) (sides_of r.shape)) c.args.size c.in-Ok.pairs f c.requires.shape c.requires.size c.in-Ok.ensures in
    let own : Forming = λ j. pair_sum (get_or c.as_slice.result.now j []) (number_at c.as_slice-2.result.now) (number_at c.as_slice-3.result.now) j in
    let told : Forming = λ j. pair_sum (f j) (number_at l.entries) (number_at r.entries) j in
    let same : (j : ℕ) → j < c.args.size → own j ≡ told j =
    pairs_alike c.as_slice.result.now c.in-Ok.pairs c.as_slice-2.result.now c.as_slice-3.result.now l.entries r.entries f c.args.size
    c.as_slice.ensures listed c.as_slice-2.ensures c.as_slice-3.ensures in
    IfErr-weaker c.fill.result _ _ (λ stop h. stop_alike own told c.args.size stop same h) c.fill.ensures.stop
