-- The weights of a node stand where the index tells.
use Rattle.std.proofs.Common.{◌≡◌, ◌≢◌, ◌⊎◌, inl, inr, ℕ, suc, ◌+◌, ◌-◌, ◌<◌, arith, nat_eq, eq-eqb, List, [], ◌∷◌, length, drop, get_or, replicate, Some, sym, ap, ◌∙◌, subst}
use Rattle.std.specs.Prelude.{slice_set, if◌then◌else◌}
use Rattle.std.specs.List.{slice_get}
use Rattle.std.proofs.Math.Seq.{drop-cons, drop-length}
use Rattle.std.proofs.lemmas.Bool.{cases_eq, ne_eqb}
use Rattle.std.proofs.lemmas.List.{length-set, length-replicate, get_or-replicate, get_or-set_same, get_or-set_other}
use Rattle.std.proofs.lemmas.Option.{slice_get-get_or, slice_get_past}
use Rattle.dcx_cert_sections.specs.declared.weights.NodeWeights.{NodeWeights}
use Rattle.dcx_cert_bound.specs.Weights.{numbers_if, numbers_in, indexed_at, weights_at}

-- where the index points past the last weights there are none
pub none_indexed : (index : List ℕ) (weights : List NodeWeights) (n i : ℕ) → index ≡ replicate n (length weights) → i < n → indexed_at index weights i ≡ []
none_indexed index weights n i e b =
    ap (λ xs. indexed_at xs weights i) e
    ∙ ap (numbers_in weights) (slice_get-get_or (replicate n (length weights)) i 0 (subst (λ m. i < m) (sym (length-replicate n (length weights))) b)
    ∙ ap Some (get_or-replicate n i (length weights) 0 b))
    ∙ ap numbers_if (slice_get_past weights (length weights) (omega arith))

-- the index with one more place
module _ (index : List ℕ) (weights : List NodeWeights) (place : ℕ) (w : NodeWeights) (at : slice_get weights place ≡ Some w) (inside : w.node.0 < length index) where
  own_indexed : indexed_at (slice_set index w.node.0 place) weights w.node.0 ≡ w.numbers
  own_indexed =
      ap (numbers_in weights) (slice_get-get_or (slice_set index w.node.0 place) w.node.0 0 (subst (λ n. w.node.0 < n) (sym (length-set index w.node.0 place)) inside)
      ∙ ap Some (get_or-set_same index w.node.0 place 0 inside))
      ∙ ap numbers_if at

  other_indexed : (i : ℕ) → i < length index → i ≢ w.node.0 → indexed_at (slice_set index w.node.0 place) weights i ≡ indexed_at index weights i
  other_indexed i b ne =
      ap (numbers_in weights)
      (slice_get-get_or (slice_set index w.node.0 place) i 0 (subst (λ n. i < n) (sym (length-set index w.node.0 place)) b)
      ∙ ap Some (get_or-set_other index w.node.0 i place 0 ne) ∙ sym (slice_get-get_or index i 0 b))

  pub indexed-more : (i : ℕ) → i < length index → (rest : List NodeWeights) → indexed_at index weights i ≡ weights_at rest i
      → indexed_at (slice_set index w.node.0 place) weights i ≡ weights_at (w ∷ rest) i
  indexed-more i b rest so_far = by (cases_eq w.node.0 i)
    where
      by : (w.node.0 ≡ i) ⊎ (w.node.0 ≢ i) → indexed_at (slice_set index w.node.0 place) weights i ≡ (if nat_eq w.node.0 i then w.numbers else weights_at rest i)
      by (inl e) =
          ap (indexed_at (slice_set index w.node.0 place) weights) (sym e) ∙ own_indexed
          ∙ sym (ap (λ b. if b then w.numbers else weights_at rest i) (eq-eqb w.node.0 i e))
      by (inr ne) =
          other_indexed i b (λ e. ne (sym e)) ∙ so_far ∙ sym (ap (λ b. if b then w.numbers else weights_at rest i) (ne_eqb w.node.0 i ne))

-- the last items with one more
pub drop-more : {A : Type 0} (xs : List A) (k : ℕ) (d : A) → k < length xs → drop (length xs - (k + 1)) xs ≡ get_or xs (length xs - 1 - k) d ∷ drop (length xs - k) xs
drop-more xs k d b =
    let place = length xs - 1 - k in
    let here : length xs - (k + 1) ≡ place = omega arith in
    let next : suc place ≡ length xs - k = omega (arith, b) in
    let lt : place < length xs = omega (arith, b) in
    ap (λ n. drop n xs) here ∙ drop-cons xs place d lt ∙ ap (λ n. get_or xs place d ∷ drop n xs) next

pub place_inside : (n k : ℕ) → k < n → n - 1 - k < n
place_inside n k b = omega (arith, b)

pub none_dropped : {A : Type 0} (xs : List A) → drop (length xs - 0) xs ≡ []
none_dropped xs = let e : length xs - 0 ≡ length xs = omega arith in ap (λ n. drop n xs) e ∙ drop-length xs
