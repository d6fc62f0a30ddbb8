-- Variables that are gone through one by one.
use Rattle.std.proofs.Common.{◌≡◌, inl, inr, ℕ, ◌+◌, ◌<◌, ◌≤◌, List, [], length, get_or, take, Option, Some, None, IsNone, option_map, refl, sym, ap, ◌∙◌, subst, arith}
use Rattle.std.specs.List.{slice_get, All}
use Rattle.std.specs.Option.{unwrap_or}
use Rattle.std.proofs.lemmas.Bool.{cases_eq}
use Rattle.std.proofs.lemmas.List.{take_all}
use Rattle.std.proofs.lemmas.Option.{same_Some, slice_get-get_or}
use Rattle.dcx_shape.specs.Shape.{sides_of}
use Rattle.dcx_atom.specs.declared.array.Array.{Array}
use Rattle.dcx_atom.specs.Arrays.{number_at}
use Rattle.dcx_point.specs.Pairs.{Pairs, array_of}
use Rattle.dcx_call.specs.declared.attribute.Variable.{Variable}
use Rattle.dcx_call.specs.Attributes.{counted}
use Rattle.dcx_call.specs.Values.{given_by}
use Rattle.dcx_domain.specs.Points.{IsInside}
use Rattle.dcx_domain.proofs.Entries.{zeros_within}

module _ {X : Type 0} (P : X → Type 0) (xs : List X) where
  -- what holds of those before place i
  abbrev pub HoldBelow : ℕ → Type 0
  HoldBelow i = (j : ℕ) (x : X) → j < i → slice_get xs j ≡ Some x → P x

  -- and of the next one
  pub one_more : (i : ℕ) (x : X) → slice_get xs i ≡ Some x → P x → HoldBelow i → HoldBelow (i + 1)
  one_more i x at here so_far j y lt at' = elim (cases_eq j i) [
    | inl e ↦ subst P (same_Some x y (sym at ∙ subst (λ k. slice_get xs k ≡ Some y) e at')) here
    | inr other ↦ so_far j y (omega (arith, lt, other)) at'
  ]

  -- holds of all
  pub all_below : (i : ℕ) → length xs ≤ i → HoldBelow i → All P xs
  all_below i past h = λ j d lt. h j (get_or xs j d) (omega (arith, lt, past)) (slice_get-get_or xs j d lt)

  pub all_taken : (i : ℕ) → length xs ≤ i → All P (take i xs) → All P xs
  all_taken i past h = subst (All P) (take_all i xs past) h

-- a variable without an array is inside, since its numbers count as 0
pub none_inside : (v : Variable) (given : Pairs) → None ≡ array_of given v.name → IsInside v given
none_inside v given e =
    let zeros = λ (j : ℕ). ap (λ (o : Option Array). number_at (unwrap_or (option_map (λ (x : Array). x.entries) o) []) j) (sym e) in
    zeros_within (counted v.whole v.attribute) (sides_of v.shape) (given_by given v.name) zeros

-- what isn't there
pub none_left : {X : Type 0} (o : Option X) → ((x : X) → o ≡ Some x → ⊥) → IsNone o
none_left None h = refl
none_left (Some x) h = absurd (h x refl)
