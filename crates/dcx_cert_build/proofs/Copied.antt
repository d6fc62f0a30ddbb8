-- The values of parameters, put one after the other.
use Rattle.std.proofs.Common.{◌≡◌, ℕ, zero, suc, ◌+◌, false, List, [], ◌∷◌, ◌++◌, map, take, Option, Some, None, option_map, refl, sym, ap, ◌∙◌, subst}
use Rattle.std.specs.Prelude.{slice_get}
use Rattle.std.specs.List.{AllByRecursion, IsDistinct, flat_map}
use Rattle.std.proofs.lemmas.List.{take_more, append-nil}
use Rattle.std.proofs.lemmas.Grind.{flat_map-append}
use Rattle.std.proofs.lemmas.Option.{none-some, same_Some, slice_get_within, get_or_from_slice_get}
use Rattle.dcx_atom.specs.declared.array.Array.{Array}
use Rattle.dcx_point.specs.Pairs.{Pairs, same_name, array_of, with_array}
use Rattle.dcx_point.proofs.Puts.{absent}
use Rattle.dcx_point.proofs.Names.{unlike}
use Rattle.dcx_point.proofs.Copied.{not_some}
use Rattle.dcx_call.specs.declared.attribute.Parameter.{Parameter}
use Rattle.dcx_cert_build.specs.Built.{value_if}

-- the array of a parameter, and those of parameters in order
abbrev pub value_of : Pairs → Parameter → Pairs
value_of setting q = value_if q.name (array_of setting q.name)

module _ (setting : Pairs) where
  -- names apart have no array
  apart : (name : List ℕ) (q : Parameter) (rest : Pairs) → same_name name q.name ≡ false → array_of rest name ≡ None → array_of (value_of setting q ++ rest) name ≡ None
  apart name q rest s none = by (array_of setting q.name)
    where
      by : (o : Option Array) → array_of (value_if q.name o ++ rest) name ≡ None
      by None = none
      by (Some x) = rw s none

  name_apart : (qs : List Parameter) (i : ℕ) (q : Parameter) (P : List ℕ → Type 0) → AllByRecursion P (map (λ x. x.name) qs) → slice_get qs i ≡ Some q → P q.name
  name_apart [] i q P all e = absurd (none-some q e)
  name_apart (p ∷ qs) zero q P all e = subst (λ (z : Parameter). P z.name) (same_Some p q e) all.0
  name_apart (p ∷ qs) (suc i) q P all e = name_apart qs i q P all.1 e

  -- the values of the parameters before one have none of its name
  unvalued : (qs : List Parameter) (i : ℕ) (q : Parameter) → IsDistinct same_name (map (λ x. x.name) qs) → slice_get qs i ≡ Some q → array_of (flat_map (value_of setting) (take i qs)) q.name ≡ None
  unfolding IsDistinct
  unvalued [] i q d e = absurd (none-some q e)
  unvalued (p ∷ qs) zero q d e = refl
  unvalued (p ∷ qs) (suc i) q d e =
      apart q.name p (flat_map (value_of setting) (take i qs)) (unlike p.name q.name (name_apart qs i q (λ n. same_name p.name n ≡ false) d.0 e)) (unvalued qs i q d.1 e)

  module _ (qs : List Parameter) (i : ℕ) (q : Parameter) (distinct : IsDistinct same_name (map (λ x. x.name) qs)) (at : slice_get qs i ≡ Some q) (before after : Pairs)
      (was : before ≡ flat_map (value_of setting) (take i qs)) where
    next_is : flat_map (value_of setting) (take (i + 1) qs) ≡ flat_map (value_of setting) (take i qs) ++ value_of setting q
    next_is =
        ap (flat_map (value_of setting)) (take_more qs i q (slice_get_within qs i q at) ∙ ap (λ y. take i qs ++ y ∷ []) (get_or_from_slice_get qs i q q at))
        ∙ flat_map-append (value_of setting) (take i qs) (q ∷ [])
        ∙ ap (λ y. flat_map (value_of setting) (take i qs) ++ y) (append-nil (value_of setting q))

    -- one more value
    pub value_more : (a : Array) → Some a ≡ array_of setting q.name → after ≡ with_array before q.name a → after ≡ flat_map (value_of setting) (take (i + 1) qs)
    value_more a valued puts =
        puts ∙ ap (λ z. with_array z q.name a) was
        ∙ absent (flat_map (value_of setting) (take i qs)) q.name a (unvalued qs i q distinct at)
        ∙ ap (λ o. flat_map (value_of setting) (take i qs) ++ value_if q.name o) valued ∙ sym next_is

    -- or none
    pub value_none : {X : Type 0} (f : X → Array) (o : Option X) → option_map f o ≡ array_of setting q.name → ((x : X) → o ≡ Some x → ⊥) → after ≡ before
        → after ≡ flat_map (value_of setting) (take (i + 1) qs)
    value_none f o valued none same =
        same ∙ was ∙ sym (append-nil (flat_map (value_of setting) (take i qs)))
        ∙ ap (λ t. flat_map (value_of setting) (take i qs) ++ value_if q.name t) (sym (not_some f o none) ∙ valued) ∙ sym next_is
