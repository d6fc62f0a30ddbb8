-- Each setting fits, or something stops it.
use Rattle.std.proofs.Common.{◌≡◌, ◌≢◌, ◌⊎◌, inl, inr, ℕ, zero, suc, ◌<◌, ◌≤◌, Bool, true, false, List, length, get_or, Option, Some, None, refl, sym, ap, ap₂, ◌∙◌, subst, arith}
use Rattle.std.specs.List.{slice_get, All, list_any}
use Rattle.std.proofs.lemmas.Bool.{cases_eq}
use Rattle.std.proofs.lemmas.Option.{same_Some, slice_get-get_or, slice_get_cases}
use Rattle.dcx_frac.specs.declared.fraction.Frac.{Frac}
use Rattle.dcx_shape.specs.declared.shape.Sides.{Sides}
use Rattle.dcx_shape.specs.declared.shape.Sides.TheVariants.{Scalar, Vector, Matrix}
use Rattle.dcx_shape.specs.Shape.{sides_of}
use Rattle.dcx_shape.specs.Sides.{entries_of}
use Rattle.dcx_atom.specs.declared.array.Array.{Array}
use Rattle.dcx_atom.specs.Arrays.{number_at}
use Rattle.dcx_point.specs.Pairs.{Pairs, same_name, names_of, array_of}
use Rattle.dcx_call.specs.declared.attribute.Parameter.{Parameter}
use Rattle.dcx_domain.specs.Entries.{KeepsAt, LeavesAt, LeavesFirstAt}
use Rattle.dcx_domain.proofs.Entries.{all_keep, entries_hold}
use Rattle.dcx_domain.proofs.Variables.{HoldBelow}
use Rattle.dcx_answer.specs.declared.stop.Stop.{Stop}
use Rattle.dcx_answer.specs.declared.stop.Stop.TheVariants.{UnknownParam, MissingParam, ParamShape, ParamSign, Memory}
use Rattle.dcx_fit.specs.Fit.{IsNamed, IsMet, FitsParameters, IsFaultOf, IsFirstMisfit}
use Rattle.dcx_fit.proofs.Names.{known, unknown}
use Rattle.dcx_fit.proofs.Misfits.{met, unmet_first}

-- P holds at each place below n, or there is a first one where N does
module _ (P N : ℕ → Type 0) where
  first_below : (n : ℕ) → ((k : ℕ) → k < n → P k ⊎ N k) → ((k : ℕ) → k < n → P k) ⊎ ((k : ℕ) × (k < n) × N k × ((j : ℕ) → j < k → P j))
  first_below zero d = inl (λ k lt. absurd (omega (arith, lt)))
  first_below (suc n) d = by (first_below n (λ k lt. d k (omega (arith, lt)))) (d n (omega arith))
    where
      by : ((k : ℕ) → k < n → P k) ⊎ ((k : ℕ) × (k < n) × N k × ((j : ℕ) → j < k → P j)) → P n ⊎ N n →
          ((k : ℕ) → k < suc n → P k) ⊎ ((k : ℕ) × (k < suc n) × N k × ((j : ℕ) → j < k → P j))
      by (inr (k, lt, here, below)) e = inr (k, omega (arith, lt), here, below)
      by (inl all) (inr here) = inr (n, omega arith, here, all)
      by (inl all) (inl here) = inl (λ k lt. elim (cases_eq k n) [ inl e ↦ subst P (sym e) here | inr other ↦ all k (omega (arith, lt, other)) ])

-- the same of the elements of a list
module _ {X : Type 0} (P N : X → Type 0) (each : (x : X) → P x ⊎ N x) (xs : List X) where
  here : (k : ℕ) → k < length xs → ((x : X) → slice_get xs k ≡ Some x → P x) ⊎ ((x : X) × (slice_get xs k ≡ Some x) × N x)
  here k lt = by (slice_get_cases xs k).1
    where
      by : ((x : X) × (k < length xs) × (slice_get xs k ≡ Some x) × (get_or xs k x ≡ x)) ⊎ ((length xs ≤ k) × (slice_get xs k ≡ None)) →
          ((x : X) → slice_get xs k ≡ Some x → P x) ⊎ ((x : X) × (slice_get xs k ≡ Some x) × N x)
      by (inl (x, _, e, _)) = elim (each x) [ inl p ↦ inl (λ y e'. subst P (same_Some x y (sym e ∙ e')) p) | inr n ↦ inr (x, e, n) ]
      by (inr (past, _)) = absurd (omega (arith, past, lt))

  first_in : All P xs ⊎ ((k : ℕ) × (x : X) × (slice_get xs k ≡ Some x) × N x × HoldBelow P xs k)
  first_in = elim (first_below (λ k. (x : X) → slice_get xs k ≡ Some x → P x) (λ k. (x : X) × (slice_get xs k ≡ Some x) × N x) (length xs) here) [
    | inl all ↦ inl (λ k d lt. all k lt (get_or xs k d) (slice_get-get_or xs k d lt))
    | inr (k, lt, (x, there, fails), below) ↦ inr (k, x, there, fails, λ j y less e. below j less y e)
  ]

-- two shapes have the same sides, or not
same_or_not : (a b : Sides) → (a ≡ b) ⊎ (a ≢ b)
same_or_not Scalar Scalar = inl refl
same_or_not Scalar (Vector n) = inr (λ e. cc)
same_or_not Scalar (Matrix r c) = inr (λ e. cc)
same_or_not (Vector n) Scalar = inr (λ e. cc)
same_or_not (Vector n) (Vector m) = elim (cases_eq n m) [ inl e ↦ inl (ap Vector e) | inr f ↦ inr (λ e. f cc) ]
same_or_not (Vector n) (Matrix r c) = inr (λ e. cc)
same_or_not (Matrix r c) Scalar = inr (λ e. cc)
same_or_not (Matrix r c) (Vector n) = inr (λ e. cc)
same_or_not (Matrix r c) (Matrix s d) = by (cases_eq r s) (cases_eq c d)
  where
    by : (r ≡ s) ⊎ (r ≢ s) → (c ≡ d) ⊎ (c ≢ d) → (Matrix r c ≡ Matrix s d) ⊎ (Matrix r c ≢ Matrix s d)
    by (inl e) (inl f) = inl (ap₂ Matrix e f)
    by (inr n) f = inr (λ e. n cc)
    by (inl e) (inr n) = inr (λ e'. n cc)

-- ---- one parameter
abbrev HasFault : Pairs → Parameter → Type 0
HasFault given q = (stop : Stop) × IsFaultOf given q stop × (stop ≢ Memory)

module _ (given : Pairs) (q : Parameter) (x : Array) (there : array_of given q.name ≡ Some x) where
  -- an entry that leaves, with its number
  broken : sides_of x.shape ≡ sides_of q.shape → (k : ℕ) → LeavesFirstAt q.attribute (sides_of q.shape) (number_at x.entries) k → HasFault given q
  broken same k leaves = by (slice_get_cases x.entries k).1
    where
      by : ((v : Frac) × (k < length x.entries) × (slice_get x.entries k ≡ Some v) × (get_or x.entries k v ≡ v)) ⊎ ((length x.entries ≤ k) × (slice_get x.entries k ≡ None)) → HasFault given q
      by (inl (v, _, at, _)) = (ParamSign q.name k v, (refl, record { array = x; there = there; shape = same; first = record { leaves = leaves; number = at } }), λ m. cc)
      by (inr (past, _)) = let full = x.full in let sizes = ap entries_of same in let lt = leaves.there in absurd (omega (arith, past, lt, full, sizes))

  of_its_shape : sides_of x.shape ≡ sides_of q.shape → IsMet given q ⊎ HasFault given q
  of_its_shape same =
      elim (first_below (KeepsAt q.attribute (sides_of q.shape) (number_at x.entries)) (LeavesAt q.attribute (sides_of q.shape) (number_at x.entries))
      (entries_of (sides_of q.shape)) (entries_hold.either q.attribute (sides_of q.shape) (number_at x.entries))) [
        | inl all ↦ inl (met given q x there same (all_keep q.attribute (sides_of q.shape) (number_at x.entries) all))
        | inr (k, lt, leaves, before) ↦ inr (broken same k (record { there = lt; leaves = leaves; before = before }))
      ]

  found : IsMet given q ⊎ HasFault given q
  found = elim (same_or_not (sides_of x.shape) (sides_of q.shape)) [
    | inl same ↦ of_its_shape same
    | inr differs ↦ inr (ParamShape q.name q.shape x.shape, (refl, record { array = x; there = there; is_declared = refl; is_given = refl; differs = differs }), λ m. cc)
  ]

met_or_wrong : (given : Pairs) (q : Parameter) → IsMet given q ⊎ HasFault given q
met_or_wrong given q = by (array_of given q.name) refl
  where
    by : (o : Option Array) → array_of given q.name ≡ o → IsMet given q ⊎ HasFault given q
    by None e = inr (MissingParam q.name, (refl, e), λ m. cc)
    by (Some x) e = found given q x e

-- ---- the setting
named_or_not : (ps : List Parameter) (name : List ℕ) → IsNamed ps name ⊎ (¬ IsNamed ps name)
named_or_not ps name = by (list_any (λ q. same_name name q.name) ps) refl
  where
    by : (b : Bool) → list_any (λ q. same_name name q.name) ps ≡ b → IsNamed ps name ⊎ (¬ IsNamed ps name)
    by true e = inl (known ps name e)
    by false e = inr (unknown ps name e)

pub each : (ps : List Parameter) (given : Pairs) → FitsParameters ps given ⊎ ((stop : Stop) × IsFirstMisfit ps given stop × (stop ≢ Memory))
each ps given = by (first_in (IsNamed ps) (λ n. ¬ IsNamed ps n) (named_or_not ps) (names_of given))
  where
    met_all : All (IsNamed ps) (names_of given) → All (IsMet given) ps ⊎ ((k : ℕ) × (q : Parameter) × (slice_get ps k ≡ Some q) × HasFault given q × HoldBelow (IsMet given) ps k) →
        FitsParameters ps given ⊎ ((stop : Stop) × IsFirstMisfit ps given stop × (stop ≢ Memory))
    met_all named (inl all) = inl (record { named = named; met = all })
    met_all named (inr (k, q, there, (stop, fault, m), before)) =
        inr (stop, unmet_first ps given stop named (record { position = k; parameter = q; there = there; fault = fault; before = before }), m)

    by : All (IsNamed ps) (names_of given) ⊎ ((k : ℕ) × (n : List ℕ) × (slice_get (names_of given) k ≡ Some n) × (¬ IsNamed ps n) × HoldBelow (IsNamed ps) (names_of given) k) →
        FitsParameters ps given ⊎ ((stop : Stop) × IsFirstMisfit ps given stop × (stop ≢ Memory))
    by (inl named) = met_all named (first_in (IsMet given) (HasFault given) (met_or_wrong given) ps)
    by (inr (k, n, there, absent, before)) = inr (UnknownParam n, record { position = k; there = there; unknown = absent; before = before }, λ m. cc)
