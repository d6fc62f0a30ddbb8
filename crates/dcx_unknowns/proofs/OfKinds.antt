-- Unknowns of their kinds: those of the variables, and the auxiliary unknowns of each node.
use Rattle.std.proofs.Common.{◌≡◌, inl, inr, ℕ, zero, suc, ◌+◌, ◌<◌, arith, IsTrue, List, [], ◌∷◌, ◌++◌, length, map, Option, Some, None, option_map, slice_get, refl, sym, ap, ◌∙◌, subst, pos}
use Rattle.std.specs.Prelude.{slice_index_or}
use Rattle.std.specs.List.{flat_map, range_with_len, AllZip}
use Rattle.std.proofs.lemmas.Bool.{false≢true}
use Rattle.std.proofs.lemmas.Option.{none-some, same_Some, slice_get-map}
use Rattle.dcx_math.specs.Rational.{ℚ, whole, ◌≤ℚ◌}
use Rattle.dcx_atom.specs.declared.graph.AuxKind.{AuxKind}
use Rattle.dcx_atom.specs.declared.graph.AuxKind.TheVariants as aux
use Rattle.dcx_atom.specs.Rows.{Filling, KindsHold}
use Rattle.dcx_linear.specs.declared.row.UnknownKind.{UnknownKind}
use Rattle.dcx_linear.specs.declared.row.UnknownKind.TheVariants as kinds
use Rattle.dcx_linear.specs.FormTerms.{Unknowns}
use Rattle.dcx_linear.specs.Rows.{IsOfKind, AreOfKinds}
use Rattle.dcx_unknowns.specs.Layout.{aux_kind}
use Rattle.dcx_math.proofs.Lists.{in_left}
use Rattle.dcx_unknowns.proofs.Places.{in_right, in_either}
use Rattle.dcx_unknowns.specs.Equations.{is_nonneg, is_nonpos}
use Rattle.dcx_unknowns.proofs.Lists.{flat_first, zip_at}

-- ---- kinds by tests
module _ (ks : List UnknownKind) (u : Unknowns) where
  pub kinds_from : ((n : ℕ) → IsTrue (is_nonneg (slice_get ks n)) → whole (pos 0) ≤ℚ u n) → ((n : ℕ) → IsTrue (is_nonpos (slice_get ks n)) → u n ≤ℚ whole (pos 0)) → AreOfKinds ks u
  kinds_from h g n kinds.Free e = tt
  kinds_from h g n kinds.Nonneg e = h n (ap is_nonneg e)
  kinds_from h g n kinds.Nonpos e = g n (ap is_nonpos e)

  pub nonneg_from : AreOfKinds ks u → (n : ℕ) → IsTrue (is_nonneg (slice_get ks n)) → whole (pos 0) ≤ℚ u n
  nonneg_from h n t = by (slice_get ks n) refl t
    where
      by : (o : Option UnknownKind) → slice_get ks n ≡ o → IsTrue (is_nonneg o) → whole (pos 0) ≤ℚ u n
      by None e t = absurd (false≢true t)
      by (Some kinds.Free) e t = absurd (false≢true t)
      by (Some kinds.Nonneg) e t = h n kinds.Nonneg e
      by (Some kinds.Nonpos) e t = absurd (false≢true t)

  pub nonpos_from : AreOfKinds ks u → (n : ℕ) → IsTrue (is_nonpos (slice_get ks n)) → u n ≤ℚ whole (pos 0)
  nonpos_from h n t = by (slice_get ks n) refl t
    where
      by : (o : Option UnknownKind) → slice_get ks n ≡ o → IsTrue (is_nonpos o) → u n ≤ℚ whole (pos 0)
      by None e t = absurd (false≢true t)
      by (Some kinds.Free) e t = absurd (false≢true t)
      by (Some kinds.Nonneg) e t = absurd (false≢true t)
      by (Some kinds.Nonpos) e t = h n kinds.Nonpos e

-- ---- kinds in two parts
module _ (ks ls : List UnknownKind) (u : Unknowns) where
  pub kinds_left : AreOfKinds (ks ++ ls) u → AreOfKinds ks u
  kinds_left h n kind e = h n kind (in_left ks ls n kind e)

  pub kinds_right : AreOfKinds (ks ++ ls) u → AreOfKinds ls (λ m. u (length ks + m))
  kinds_right h m kind e = h (length ks + m) kind (in_right ks ls m ∙ e)

  pub kinds_both : AreOfKinds ks u → AreOfKinds ls (λ m. u (length ks + m)) → AreOfKinds (ks ++ ls) u
  kinds_both h g n kind e = elim (in_either ks ls n kind e) [
    | inl here ↦ h n kind here
    | inr (m, z, there) ↦ subst (λ i. IsOfKind kind (u i)) (sym z) (g m kind there)
  ]

-- ---- the kinds of auxiliary unknowns
pub nonneg_at : (ks : List AuxKind) (k : ℕ) → slice_index_or ks k aux.Free ≡ aux.Nonneg → slice_get ks k ≡ Some aux.Nonneg
nonneg_at [] k e = cc
nonneg_at (x ∷ ks) zero e = ap Some e
nonneg_at (x ∷ ks) (suc k) e = nonneg_at ks k e

-- those of list i of several, one after the other
pub part_holds : (f : ℕ → List AuxKind) (n i : ℕ) (u : Unknowns) → i < n → AreOfKinds (map aux_kind (flat_map f (range_with_len 0 n))) u →
    KindsHold (f i) (λ k. u (length (flat_map f (range_with_len 0 i)) + k))
part_holds f n i u b h k e =
    let place = length (flat_map f (range_with_len 0 i)) + k in
    h place kinds.Nonneg
    (slice_get-map aux_kind (flat_map f (range_with_len 0 n)) place
    ∙ ap (option_map aux_kind) (flat_first f n i k aux.Nonneg b (nonneg_at (f i) k e)))

-- ---- numbers for auxiliary unknowns
-- the first numbers of a filling, one for each of the kinds
abbrev pub taken : List AuxKind → Filling → List ℚ
taken [] t = []
taken (x ∷ ks) t = t 0 ∷ taken ks (λ k. t (suc k))

pub taken_at : (ks : List AuxKind) (t : Filling) (k : ℕ) → k < length ks → slice_get (taken ks t) k ≡ Some (t k)
taken_at [] t k b = absurd (omega arith)
taken_at (x ∷ ks) t zero b = refl
taken_at (x ∷ ks) t (suc k) b = taken_at ks (λ k. t (suc k)) k (omega arith)

pub taken_length : (ks : List AuxKind) (t : Filling) → length (taken ks t) ≡ length ks
taken_length [] t = refl
taken_length (x ∷ ks) t = ap suc (taken_length ks (λ k. t (suc k)))

abbrev pub IsOfAuxKind : AuxKind → ℚ → Type 0
IsOfAuxKind x q = IsOfKind (aux_kind x) q

pub taken_kinds : (ks : List AuxKind) (t : Filling) → KindsHold ks t → AllZip IsOfAuxKind ks (taken ks t)
taken_kinds [] t h = tt
taken_kinds (aux.Free ∷ ks) t h = (tt, taken_kinds ks (λ k. t (suc k)) (λ k. h (suc k)))
taken_kinds (aux.Nonneg ∷ ks) t h = (h 0 refl, taken_kinds ks (λ k. t (suc k)) (λ k. h (suc k)))

-- numbers beside their kinds are of these
pub zipped_kinds : (ks : List AuxKind) (xs : List ℚ) → AllZip IsOfAuxKind ks xs → (u : Unknowns) → ((m : ℕ) (x : ℚ) → slice_get xs m ≡ Some x → u m ≡ x) → AreOfKinds (map aux_kind ks) u
zipped_kinds ks xs h u is m kind e = by (slice_get ks m) refl (sym (slice_get-map aux_kind ks m) ∙ e)
  where
    by : (o : Option AuxKind) → slice_get ks m ≡ o → option_map aux_kind o ≡ Some kind → IsOfKind kind (u m)
    by None z f = absurd (none-some kind f)
    by (Some k) z f =
        let (x, at, of) = zip_at IsOfAuxKind ks xs h m k z in
        subst (λ w. IsOfKind w (u m)) (same_Some (aux_kind k) kind f) (subst (IsOfKind (aux_kind k)) (sym (is m x at)) of)
