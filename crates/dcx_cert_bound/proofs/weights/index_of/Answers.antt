-- At first no weights are indexed; the place of the next ones is put at their node.
use Rattle.std.proofs.Common.{◌≡◌, ◌-◌, ◌<◌, length, drop, get_or, replicate, sym, ap, ◌∙◌, subst}
use Rattle.std.proofs.lemmas.List.{length-replicate, length-set}
use Rattle.std.proofs.lemmas.Option.{slice_get-get_or}
use Rattle.dcx_cert_bound.specs.Weights.{weights_at}
use Rattle.dcx_cert_bound.proofs.Indexing.{none_indexed, indexed-more, drop-more, place_inside, none_dropped}
use Rattle.dcx_cert_bound.proofs.weights.index_of.Goals as goal

pub loop-k-init : goal.loop-k-init
loop-k-init c =
    let weights = c.args.weights.now in
    let made : c.in_ok-index.index.items ≡ replicate c.args.nodes (length weights) = c.in_ok-index.ensures.items_if_clones_equal (λ y h. h) in
    record {
      sized = ap length made ∙ length-replicate c.args.nodes (length weights);
      each = λ i b. none_indexed c.in_ok-index.index.items weights c.args.nodes i made b ∙ sym (ap (λ ws. weights_at ws i) (none_dropped weights));
    }

pub loop-k-preserved : goal.loop-k-preserved
loop-k-preserved c =
    let weights = c.args.weights.now in
    let index = c.loop-k.index.items in
    let k = c.loop-k.k in
    let place = length weights - 1 - k in
    let w = c.index-weights-place.result in
    let below : k < length weights = c.loop-k-test.true in
    let lt : place < length weights = place_inside (length weights) k below in
    let own = get_or weights place w in
    record {
      sized = length-set index own.node.0 place ∙ c.loop-k.invariant.sized;
      each = λ i b. (
          indexed-more index weights place own (slice_get-get_or weights place w lt) (subst (λ n. own.node.0 < n) (sym c.loop-k.invariant.sized) (c.requires place w lt)) i
          (subst (λ n. i < n) (sym c.loop-k.invariant.sized) b) (drop (length weights - k) weights) (c.loop-k.invariant.each i b)
          ∙ sym (ap (λ ws. weights_at ws i) (drop-more weights k w below)));
    }
