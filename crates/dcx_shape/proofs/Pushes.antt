-- What holds at each place of a list holds at each of the list with one element more.
use Rattle.std.proofs.Common.{◌≡◌, ℕ, ◌+◌, ◌<◌, List, [], ◌∷◌, ◌++◌, length, get_or, ap, ◌∙◌, arith, inl, inr}
use Rattle.std.proofs.lemmas.Bool.{cases_lt}
use Rattle.std.proofs.lemmas.List.{length_push, get_or_push, get_or_append_left}

pub each_pushed : (P : ℕ → ℕ → Type 0) (xs ys : List ℕ) (x k : ℕ) → ys ≡ xs ++ x ∷ [] → length xs ≡ k → ((q : ℕ) → q < k → P q (get_or xs q 0)) → P k x
    → (length ys ≡ k + 1) × ((q : ℕ) → q < k + 1 → P q (get_or ys q 0))
each_pushed P xs ys x k pushed count each last = (
  ap length pushed ∙ length_push xs x ∙ ap (λ n. n + 1) count,
  (λ q h. elim (cases_lt q k) [
    | inl below ↦ rw (pushed, get_or_append_left xs (x ∷ []) 0 q (omega (arith, below, count))) (each q below)
    | inr above ↦
        let is_last : q ≡ k = omega (arith, h, above) in
        rw (is_last, pushed, get_or_push xs x 0 k count) last
  ]),
)
