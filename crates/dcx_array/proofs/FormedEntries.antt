-- A formed array has each entry as it is formed, and else the first that isn't tells why.
use Rattle.std.specs.Prelude.{◌≡◌, ℕ, zero, suc, ◌<◌, List, [], ◌∷◌, map, Option, Some, None, Result, Ok, Err, IsOk}
use Rattle.std.proofs.Common.{refl, sym, ap, ◌∙◌, arith}
use Rattle.std.proofs.lemmas.Bool.{false≢true}
use Rattle.dcx_frac.specs.declared.fraction.Frac.{Frac}
use Rattle.dcx_frac.specs.declared.fraction.Passes.{Passes}
use Rattle.dcx_shape.specs.declared.shape.Shape.{Shape}
use Rattle.dcx_shape.specs.Shape.{sides_of}
use Rattle.dcx_shape.specs.Sides.{entries_of}
use Rattle.dcx_atom.specs.declared.array.Array.{Array}
use Rattle.dcx_atom.specs.Arrays.{list_below}
use Rattle.dcx_atom.specs.Entrywise.{AreFormed, IsFirst}
use Rattle.dcx_atom.proofs.BoundRows.{list_below-first, map-list_below}
use Rattle.dcx_atom.proofs.Lists.{list_below-same}
use Rattle.dcx_array.specs.declared.fault.ArrayFault.TheVariants.{Wide}
use Rattle.dcx_array.specs.Arrays.{filled, stop_in, first_stop, formed_number, formed_unless, formed_array}
use Rattle.dcx_atom.proofs.OneArray.{array_from_parts}

-- ---- each is formed
first_stop-formed : (xs : List Frac) → first_stop (map Ok xs) ≡ None
first_stop-formed [] = refl
first_stop-formed (x ∷ xs) = first_stop-formed xs

formed_numbers : (xs : List Frac) → map formed_number (map Ok xs) ≡ xs
formed_numbers [] = refl
formed_numbers (x ∷ xs) = ap (λ ys. x ∷ ys) (formed_numbers xs)

pub formed_is : (shape : Shape) (f : ℕ → Result Frac Passes) (a : Array) → a.shape ≡ shape → AreFormed f (entries_of (sides_of shape)) a.entries → formed_array shape f ≡ Ok a
formed_is shape f a e h =
    let n : ℕ = entries_of (sides_of shape) in
    let passed : first_stop (list_below n f) ≡ None = ap first_stop (sym h) ∙ first_stop-formed a.entries in
    let numbers : a.entries ≡ list_below n (λ k. formed_number (f k)) = sym (formed_numbers a.entries) ∙ ap (map formed_number) h ∙ map-list_below n f formed_number in
    ap (formed_unless shape f) passed ∙ ap Ok (sym (array_from_parts a (filled shape (λ k. formed_number (f k))) e numbers))

-- numbers that are there
pub formed_given : (shape : Shape) (f : ℕ → Frac) → formed_array shape (λ k. Ok (f k)) ≡ Ok (filled shape f)
formed_given shape f = formed_is shape (λ k. Ok (f k)) (filled shape f) refl (map-list_below (entries_of (sides_of shape)) f Ok)

-- ---- one isn't
stop_at : (n : ℕ) (f : ℕ → Result Frac Passes) (passes : Passes) (j : ℕ) → j < n → ((i : ℕ) → i < j → IsOk (f i)) → f j ≡ Err passes → first_stop (list_below n f) ≡ Some passes
stop_at zero f passes j b before here = absurd (omega arith)
stop_at (suc n) f passes zero b before here = ap first_stop (list_below-first n f) ∙ ap (λ r. stop_in r (first_stop (list_below n (λ i. f (suc i))))) here
stop_at (suc n) f passes (suc j) b before here =
    ap first_stop (list_below-first n f) ∙ passed (f 0) (before 0 (omega arith)) ∙ stop_at n (λ i. f (suc i)) passes j (omega arith) (λ i c. before (suc i) (omega arith)) here
  where
    passed : (r : Result Frac Passes) → IsOk r → stop_in r (first_stop (list_below n (λ i. f (suc i)))) ≡ first_stop (list_below n (λ i. f (suc i)))
    passed (Ok x) ok = refl
    passed (Err p) ok = absurd (false≢true ok)

pub formed_stops : (shape : Shape) (f : ℕ → Result Frac Passes) (passes : Passes) → IsFirst f (entries_of (sides_of shape)) passes → formed_array shape f ≡ Err (Wide passes)
formed_stops shape f passes h = ap (formed_unless shape f) (stop_at (entries_of (sides_of shape)) f passes h.entry h.within h.before h.here)

-- ---- and back
-- where none stops, each is formed
each_formed : (n : ℕ) (f : ℕ → Result Frac Passes) → first_stop (list_below n f) ≡ None → (k : ℕ) → k < n → Ok (formed_number (f k)) ≡ f k
each_formed zero f none k b = absurd (omega arith)
each_formed (suc n) f none k b = by (f 0) refl (ap first_stop (sym (list_below-first n f)) ∙ none) (λ rest j c. each_formed n (λ i. f (suc i)) rest j c) k b
  where
    by : (r : Result Frac Passes) → f 0 ≡ r → stop_in r (first_stop (list_below n (λ i. f (suc i)))) ≡ None →
        (first_stop (list_below n (λ i. f (suc i))) ≡ None → (j : ℕ) → j < n → Ok (formed_number (f (suc j))) ≡ f (suc j)) → (i : ℕ) → i < suc n → Ok (formed_number (f i)) ≡ f i
    by (Err p) e none rest i c = cc
    by (Ok x) e none rest zero c = rw e refl
    by (Ok x) e none rest (suc i) c = rest none i (omega arith)

none_stops : (n : ℕ) (f : ℕ → Result Frac Passes) → first_stop (list_below n f) ≡ None → AreFormed f n (list_below n (λ k. formed_number (f k)))
none_stops n f none = map-list_below n (λ k. formed_number (f k)) Ok ∙ list_below-same n (λ k. Ok (formed_number (f k))) f (each_formed n f none)

-- where one stops, there is a first
ok_earlier : (f : ℕ → Result Frac Passes) (n : ℕ) (x : Frac) → f 0 ≡ Ok x → ((j : ℕ) → j < n → IsOk (f (suc j))) → (j : ℕ) → j < suc n → IsOk (f j)
ok_earlier f n x e before zero b = rw e refl
ok_earlier f n x e before (suc j) b = before j (omega arith)

first_at : (n : ℕ) (f : ℕ → Result Frac Passes) (passes : Passes) → first_stop (list_below n f) ≡ Some passes → IsFirst f n passes
first_at zero f passes e = cc
first_at (suc n) f passes e = by (f 0) refl (ap first_stop (sym (list_below-first n f)) ∙ e) (λ rest. first_at n (λ i. f (suc i)) passes rest)
  where
    later : (x : Frac) → f 0 ≡ Ok x → IsFirst (λ i. f (suc i)) n passes → IsFirst f (suc n) passes
    later x e h = record { entry = suc h.entry; within = omega (arith, h.within); before = ok_earlier f h.entry x e h.before; here = h.here }

    by : (r : Result Frac Passes) → f 0 ≡ r → stop_in r (first_stop (list_below n (λ i. f (suc i)))) ≡ Some passes →
        (first_stop (list_below n (λ i. f (suc i))) ≡ Some passes → IsFirst (λ i. f (suc i)) n passes) → IsFirst f (suc n) passes
    by (Err p) s t rest = let same : p ≡ passes = cc in record { entry = 0; within = omega arith; before = λ j c. absurd (omega arith); here = s ∙ ap Err same }
    by (Ok x) s t rest = later x s (rest t)

-- what was formed
pub formed_array-Ok : (shape : Shape) (f : ℕ → Result Frac Passes) (a : Array) → formed_array shape f ≡ Ok a → (a.shape ≡ shape) × AreFormed f (entries_of (sides_of shape)) a.entries
formed_array-Ok shape f a e = by (first_stop (list_below (entries_of (sides_of shape)) f)) refl e
  where
    by : (o : Option Passes) → first_stop (list_below (entries_of (sides_of shape)) f) ≡ o → formed_unless shape f o ≡ Ok a → (a.shape ≡ shape) × AreFormed f (entries_of (sides_of shape)) a.entries
    by (Some p) s t = cc
    by None s t =
        let same : filled shape (λ k. formed_number (f k)) ≡ a = cc in
        (ap (λ x. x.shape) (sym same), ap (λ x. map Ok x.entries) (sym same) ∙ none_stops (entries_of (sides_of shape)) f s)

pub formed_array-Err : (shape : Shape) (f : ℕ → Result Frac Passes) (passes : Passes) → formed_array shape f ≡ Err (Wide passes) → IsFirst f (entries_of (sides_of shape)) passes
formed_array-Err shape f passes e = by (first_stop (list_below (entries_of (sides_of shape)) f)) refl e
  where
    by : (o : Option Passes) → first_stop (list_below (entries_of (sides_of shape)) f) ≡ o → formed_unless shape f o ≡ Err (Wide passes) → IsFirst f (entries_of (sides_of shape)) passes
    by (Some p) s t = let same : p ≡ passes = cc in first_at (entries_of (sides_of shape)) f passes (s ∙ ap Some same)
    by None s t = cc
