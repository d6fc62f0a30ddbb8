-- The pairs of a point, place by place.
use Rattle.std.proofs.Common.{◌≡◌, ℕ, ◌+◌, ◌<◌, List, [], ◌∷◌, ◌++◌, length, take, get_or, Some, None, sym, ap, ◌∙◌, subst, arith, append_assoc}
use Rattle.std.specs.Prelude.{IfSome}
use Rattle.std.specs.List.{slice_get, flat_map}
use Rattle.std.proofs.lemmas.Option.{none-some, same_Some, slice_get-get_or}
use Rattle.std.proofs.lemmas.List.{take_more, append-nil}
use Rattle.std.proofs.lemmas.Grind.{flat_map-append}
use Rattle.std.proofs.lemmas.Map.Entries.{lookup_from_place}
use Rattle.std.specs.Cmp.Lexicographic.{nat_list_eq_equiv}
use Rattle.dcx_atom.specs.declared.array.Array.{Array}
use Rattle.dcx_point.specs.Pairs.{Pairs, names_of, array_of, AreDistinct}
use Rattle.dcx_point.proofs.Names.{pair_at as entry_at}

module _ (ps : Pairs) (i : ℕ) (name : List ℕ) (distinct : AreDistinct ps) (at : slice_get (names_of ps) i ≡ Some name) where
  found_at : array_of ps name ≡ Some (entry_at ps i name at).0
  found_at = lookup_from_place nat_list_eq_equiv ps i name (entry_at ps i name at).0 distinct (entry_at ps i name at).1

  -- where names are distinct, the array of the name at a place is the one that stands there
  pub pair_at : (array : Array) → array_of ps name ≡ Some array → slice_get ps i ≡ Some (name, array)
  pair_at array h =
      let same : (entry_at ps i name at).0 ≡ array = same_Some (entry_at ps i name at).0 array (sym found_at ∙ h) in
      (entry_at ps i name at).1 ∙ ap (λ a. Some (name, a)) same

  -- and it has one
  pub not_missing : array_of ps name ≡ None → ⊥
  not_missing h = none-some (entry_at ps i name at).0 (sym h ∙ found_at)

-- one more line
pub lines_more : {A : Type 0} (line : A → List ℕ) (xs : List A) (i : ℕ) (start old new : List ℕ) → i < length xs → old ≡ start ++ flat_map line (take i xs)
    → IfSome (slice_get xs i) (λ x. new ≡ old ++ line x) → new ≡ start ++ flat_map line (take (i + 1) xs)
lines_more line [] i start old new l h more = absurd (omega (arith, l))
lines_more line (x ∷ xs) i start old new l h more =
    let item = get_or (x ∷ xs) i x in
    let here : new ≡ old ++ line item = subst (λ o. IfSome o (λ y. new ≡ old ++ line y)) (slice_get-get_or (x ∷ xs) i x l) more in
    let taken : take (i + 1) (x ∷ xs) ≡ take i (x ∷ xs) ++ item ∷ [] = take_more (x ∷ xs) i x l in
    let front = flat_map line (take i (x ∷ xs)) in
    here ∙ ap (λ o. o ++ line item) h ∙ append_assoc start front (line item)
    ∙ ap (λ t. start ++ t) (sym (ap (flat_map line) taken ∙ flat_map-append line (take i (x ∷ xs)) (item ∷ []) ∙ ap (λ t. front ++ t) (append-nil (line item))))
