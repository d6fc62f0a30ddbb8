-- What one pick takes, and why it takes nothing, is what the relations say.
use Rattle.std.specs.Prelude.{◌≡◌, ◌≢◌, ℕ, ◌≤◌, ℤ, pos, negsuc, ◌<ℤ◌, ◌≤ℤ◌, ◌⊎◌, List, [], ◌∷◌, Ok, Err}
use Rattle.std.proofs.Common.{refl, sym, ap, ◌∙◌, subst, arith, inl, inr}
use Rattle.std.proofs.lemmas.Bool.{lt-ltb, cases_lt, le-ltb}
use Rattle.std.proofs.lemmas.Int.{ints}
use Rattle.dcx_shape.specs.declared.index.Pick.{Pick}
use Rattle.dcx_shape.specs.declared.index.Pick.TheVariants.{At, Range as Along}
use Rattle.dcx_shape.specs.declared.fault.ShapeFault.{ShapeFault}
use Rattle.dcx_shape.specs.declared.fault.ShapeFault.TheVariants as shape_faults
use Rattle.dcx_shape.specs.Slice.{counted, IsSlice}
use Rattle.dcx_shape.specs.Index.{HasStep, Takes, IsPickFault}
use Rattle.dcx_array.specs.declared.fault.ArrayFault.{ArrayFault}
use Rattle.dcx_array.specs.declared.fault.ArrayFault.TheVariants.{Clash, ZeroDivisor, TooMany, Wide, Range, Empty, Memory}
use Rattle.dcx_array.specs.Answers.{fault_of}
use Rattle.dcx_array.specs.Picks.{slice_places, some_places, counted_place, picked}
use Rattle.dcx_array.proofs.Slices.{slice_places-is, slice_places-are}

-- ---- what is taken
pub picked_is : (n : ℕ) (p : Pick) (places : List ℕ) → HasStep p → Takes n p places → picked n p ≡ Ok places
picked_is n (At i) places h (q, below, is, e) = ap (counted_place n) is ∙ rw (lt-ltb q n below) (ap Ok (sym e))
picked_is n (Along s) places h (is, some) = ap some_places (slice_places-is n s places h is) ∙ there places some
  where
    there : (ps : List ℕ) → ps ≢ [] → some_places ps ≡ Ok ps
    there [] f = absurd (f refl)
    there (p ∷ ps) f = refl

-- ---- why nothing is
out_of_range : (n : ℕ) (z : ℤ) → (z <ℤ pos 0) ⊎ (pos n ≤ℤ z) → counted_place n z ≡ Err Range
out_of_range n (negsuc k) out = refl
out_of_range n (pos k) (inl low) = absurd (omega (arith, ints))
out_of_range n (pos k) (inr high) = rw (le-ltb k n (omega (arith, ints))) refl

pub picked_fault : (n : ℕ) (p : Pick) (fault : ShapeFault) → HasStep p → IsPickFault n p fault → picked n p ≡ Err (fault_of fault)
picked_fault n (At i) fault h (e, out) = out_of_range n (counted n i) out ∙ ap (λ x. Err (fault_of x)) (sym e)
picked_fault n (Along s) fault h (e, none) = ap some_places (slice_places-is n s [] h none) ∙ ap (λ x. Err (fault_of x)) (sym e)

-- ---- and back
-- a pick takes something, or has a fault
pub decided : (n : ℕ) (p : Pick) → HasStep p → ((places : List ℕ) × Takes n p places) ⊎ ((fault : ShapeFault) × IsPickFault n p fault)
decided n (At i) h = by (counted n i) refl
  where
    by : (z : ℤ) → counted n i ≡ z → ((places : List ℕ) × Takes n (At i) places) ⊎ ((fault : ShapeFault) × IsPickFault n (At i) fault)
    by (pos q) e = elim (cases_lt q n) [ inl below ↦ inl (q ∷ [], (q, below, e, refl)) | inr over ↦ inr (shape_faults.Range, (refl, inr (rw e (omega (arith, ints))))) ]
    by (negsuc q) e = inr (shape_faults.Range, (refl, inl (rw e (omega (arith, ints)))))
decided n (Along s) h = by (slice_places n s) (slice_places-are n s h)
  where
    by : (ps : List ℕ) → IsSlice n s ps → ((places : List ℕ) × Takes n (Along s) places) ⊎ ((fault : ShapeFault) × IsPickFault n (Along s) fault)
    by [] is = inr (shape_faults.Empty, (refl, is))
    by (q ∷ qs) is = inl (q ∷ qs, (is, (λ none. cc)))

-- a fault is told as one
abbrev fault_back : ArrayFault → ShapeFault
fault_back Clash = shape_faults.Clash
fault_back ZeroDivisor = shape_faults.Memory
fault_back (TooMany n) = shape_faults.Memory
fault_back (Wide passes) = shape_faults.Memory
fault_back Range = shape_faults.Range
fault_back Empty = shape_faults.Empty
fault_back Memory = shape_faults.Memory

back_of : (f : ShapeFault) → fault_back (fault_of f) ≡ f
back_of shape_faults.Clash = refl
back_of shape_faults.Range = refl
back_of shape_faults.Empty = refl
back_of shape_faults.Memory = refl

pub fault_of-injective : (f g : ShapeFault) → fault_of f ≡ fault_of g → f ≡ g
fault_of-injective f g e = sym (back_of f) ∙ ap fault_back e ∙ back_of g

pub picked-Ok : (n : ℕ) (p : Pick) (places : List ℕ) → HasStep p → picked n p ≡ Ok places → Takes n p places
picked-Ok n p places h e = elim (decided n p h) [
  | inl t ↦ let is : picked n p ≡ Ok t.0 = picked_is n p t.0 h t.1 in let same : t.0 ≡ places = cc in subst (Takes n p) same t.1
  | inr f ↦ let is : picked n p ≡ Err (fault_of f.0) = picked_fault n p f.0 h f.1 in cc
]

pub picked-Err : (n : ℕ) (p : Pick) (fault : ShapeFault) → HasStep p → picked n p ≡ Err (fault_of fault) → IsPickFault n p fault
picked-Err n p fault h e = elim (decided n p h) [
  | inl t ↦ let is : picked n p ≡ Ok t.0 = picked_is n p t.0 h t.1 in cc
  | inr f ↦
      let is : picked n p ≡ Err (fault_of f.0) = picked_fault n p f.0 h f.1 in
      let same : fault_of f.0 ≡ fault_of fault = cc in
      subst (IsPickFault n p) (fault_of-injective f.0 fault same) f.1
]
