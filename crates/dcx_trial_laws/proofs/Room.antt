-- The sides of a trial's nodes: what numbers and vectors of one length make together, and that it is not too much.
use Rattle.std.proofs.Common.{◌≡◌, ℕ, zero, suc, max, Bool, true, if◌then◌else◌, nat_eq}
use Rattle.std.proofs.Common.{[], ◌∷◌, Option, Some, None, inl, inr, refl, ap, arith}
use Rattle.std.proofs.lemmas.Bool.{or_right, eq-eqb}
use Rattle.dcx_shape.specs.declared.shape.Shape.{Shape}
use Rattle.dcx_shape.specs.declared.shape.Sides.{Sides}
use Rattle.dcx_shape.specs.declared.shape.Sides.TheVariants.{Scalar, Vector}
use Rattle.dcx_shape.specs.Sides.{HasFewEntries}
use Rattle.dcx_shape.specs.Broadcast.{side_from_right, IsJoinedSide, IsBroadcast}
use Rattle.dcx_array.specs.Shapes.{common_with, common_of}
use Rattle.dcx_array.proofs.Broadcasts.{broadcast_is}
use Rattle.dcx_affine.specs.Places.{same_sides}
use Rattle.dcx_call.specs.Calls.{shape_of}
use Rattle.dcx_trial_laws.proofs.Grades.{times, plus, promote}

module _ (n : ℕ) (few : HasFewEntries (Vector n)) where
  abbrev pub vector_shape : Shape
  vector_shape = record { sides = Vector n; few = few }

  own : nat_eq n n ≡ true
  own = eq-eqb n n refl

  pub vectors_alike : same_sides (Vector n) (Vector n) ≡ true
  vectors_alike = own

  greater : n ≡ max 1 n
  greater = let some = few.some in omega arith

  other_greater : n ≡ max n 1
  other_greater = let some = few.some in omega arith

  own_greater : n ≡ max n n
  own_greater = omega arith

  -- ---- shared sides
  one : IsJoinedSide 1 1 1
  one = record { fits = inl refl; greater = refl }

  number_and_vector : IsBroadcast Scalar (Vector n) (Vector n)
  number_and_vector = record { rank = refl; sides = by }
    where
      by : (k : ℕ) → IsJoinedSide (side_from_right Scalar k) (side_from_right (Vector n) k) (side_from_right (Vector n) k)
      by zero = record { fits = inr (inl refl); greater = greater }
      by (suc zero) = one
      by (suc (suc k)) = one

  vector_and_number : IsBroadcast (Vector n) Scalar (Vector n)
  vector_and_number = record { rank = refl; sides = by }
    where
      by : (k : ℕ) → IsJoinedSide (side_from_right (Vector n) k) (side_from_right Scalar k) (side_from_right (Vector n) k)
      by zero = record { fits = inr (inr refl); greater = other_greater }
      by (suc zero) = one
      by (suc (suc k)) = one

  two_vectors : IsBroadcast (Vector n) (Vector n) (Vector n)
  two_vectors = record { rank = refl; sides = by }
    where
      by : (k : ℕ) → IsJoinedSide (side_from_right (Vector n) k) (side_from_right (Vector n) k) (side_from_right (Vector n) k)
      by zero = record { fits = inl refl; greater = own_greater }
      by (suc zero) = one
      by (suc (suc k)) = one

  pub common_first : common_of (Scalar ∷ Vector n ∷ []) ≡ Some (Vector n)
  common_first = ap (λ o. common_with o []) (broadcast_is Scalar (Vector n) (Vector n) number_and_vector)

  pub common_second : common_of (Vector n ∷ Scalar ∷ []) ≡ Some (Vector n)
  common_second = ap (λ o. common_with o []) (broadcast_is (Vector n) Scalar (Vector n) vector_and_number)

  pub common_both : common_of (Vector n ∷ Vector n ∷ []) ≡ Some (Vector n)
  common_both = ap (λ o. common_with o []) (broadcast_is (Vector n) (Vector n) (Vector n) two_vectors)

  -- ---- the sides of calls
  if_so : Bool → Option Sides
  if_so b = if b then Some (Vector n) else None

  pub promoted_sides : shape_of (promote vector_shape) (Scalar ∷ []) ≡ Some (Vector n)
  unfolding if_so
  promoted_sides = ap if_so (or_right (nat_eq 1 n) true refl)

  pub product_sides : shape_of times (Vector n ∷ Vector n ∷ []) ≡ Some (Vector n)
  unfolding if_so
  product_sides = ap if_so own

  pub sum_sides : shape_of plus (Vector n ∷ Vector n ∷ []) ≡ Some (Vector n)
  unfolding if_so
  sum_sides = ap if_so own
