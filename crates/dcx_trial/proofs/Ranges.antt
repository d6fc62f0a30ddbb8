-- One point more of the script: the lists of its numbers grow by one at the end.
use Rattle.std.proofs.Common.{◌≡◌, ℕ, ◌+◌, [], ◌∷◌, ◌++◌, sym, ap, ◌∙◌, arith}
use Rattle.std.proofs.lemmas.List.{map-id}
use Rattle.std.proofs.lemmas.List.FromFn.{map-range_with_len_more}
use Rattle.dcx_trial.specs.Trial.{places, height_at, heights}

pub one_place_more : (n : ℕ) → places (n + 1) ≡ places n ++ n ∷ []
one_place_more n = sym (map-id (places (n + 1))) ∙ map-range_with_len_more (λ i. i) 0 n n (omega arith) ∙ ap (λ is. is ++ n ∷ []) (map-id (places n))

pub one_height_more : (n : ℕ) → heights (n + 1) ≡ heights n ++ height_at n ∷ []
one_height_more n = map-range_with_len_more height_at 0 n n (omega arith)
