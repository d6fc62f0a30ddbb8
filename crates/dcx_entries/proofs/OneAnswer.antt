-- Entries are formed in one way.
use Rattle.std.proofs.Common.{◌≡◌, ℕ, ◌<◌, Bool, true, false, List, [], ◌∷◌, length, Option, Result, Ok, Err, slice_index_or, sym, ap, ap₂, ◌∙◌, subst, arith}
use Rattle.std.specs.List.{list_any}
use native.Mathlib.Decide.{dec_lt}
use Rattle.dcx_math.proofs.Lists.{element_at}
use Rattle.dcx_frac.specs.declared.fraction.Frac.{Frac}
use Rattle.dcx_frac.specs.declared.fraction.Passes.{Passes}
use Rattle.dcx_atom.specs.declared.stops.ValueStop.{ValueStop}
use Rattle.dcx_atom.specs.declared.stops.ValueStop.TheVariants as stops
use Rattle.dcx_affine.specs.declared.pairing.Pair.{Pair}
use Rattle.dcx_arena.proofs.OneGathering.{one_list}
use Rattle.dcx_linear.specs.declared.change.Change.{Change}
use Rattle.dcx_linear.specs.declared.form.Form.{Form}
use Rattle.dcx_linear.specs.Forms.{sum_gives_linear, change_gives_linear}
use Rattle.dcx_linear.specs.FormLaws.{one_linear_sum, one_linear_change}
use Rattle.dcx_linear.specs.Multiples.{multiple_gives}
use Rattle.dcx_linear.specs.Parts.{Follows, sums_parts}
use Rattle.dcx_linear.proofs.PartSums.{one_follows, one_parts}
use Rattle.dcx_linear.proofs.MultipleLaws.{one_multiple}
use Rattle.dcx_entries.specs.declared.entries.EntryForms.{EntryForms}
use Rattle.dcx_entries.specs.declared.scaling.Scaling.{Scaling}
use Rattle.dcx_entries.specs.declared.scaling.Scaling.TheVariants.{LeftNumber, RightNumber, LeftAffine, RightAffine, Divisor}
use Rattle.dcx_entries.specs.Forming.{FormsEach, AtEntry}
use Rattle.dcx_entries.specs.Parts.{Arguments, zero_form, left_scaled, right_scaled, divided, has_zero_divisor}
use Rattle.dcx_entries.specs.Sums.{adds, adds_multiple, adds_pair, adds_each}
use Rattle.dcx_entries.specs.Entries.{alone, LinearEntry, EachSum, AtomEntry, PairSum, PairEntryBy, PairEntry}

-- where each entry has one answer, all together have one
module _ {A E : Type 0} (F : ℕ → Result A E → Type 0) (one : (j : ℕ) (r s : Result A E) → F j r → F j s → r ≡ s) where
  same_values : (j : ℕ) (x y : A) → F j (Ok x) → F j (Ok y) → x ≡ y
  same_values j x y h k = let e = one j (Ok x) (Ok y) h k in cc

  same_stops : (j : ℕ) (x y : E) → F j (Err x) → F j (Err y) → x ≡ y
  same_stops j x y h k = let e = one j (Err x) (Err y) h k in cc

  not_both : (j : ℕ) (x : A) (e : E) → F j (Ok x) → F j (Err e) → ⊥
  not_both j x e h k = let d = one j (Ok x) (Err e) h k in cc

  pub one_each : (n : ℕ) (r s : Result (List A) E) → FormsEach F n r → FormsEach F n s → r ≡ s
  one_each n (Ok xs) (Ok ys) h k = ap Ok (one_list xs ys (h.0 ∙ sym k.0) (λ j x y e d. same_values j x y (h.1 j x e) (k.1 j y d)))
  one_each n (Ok xs) (Err e) h k = let x = element_at xs k.0 (rw h.0 k.1) in absurd (not_both k.0 x.0 e (h.1 k.0 x.0 x.1) k.2)
  one_each n (Err e) (Ok ys) h k = let y = element_at ys h.0 (rw k.0 h.1) in absurd (not_both h.0 y.0 e (k.1 h.0 y.0 y.1) h.2)
  one_each n (Err e) (Err d) h k = ap Err (by (dec_lt h.0 k.0) (dec_lt k.0 h.0))
    where
      by : Dec (h.0 < k.0) → Dec (k.0 < h.0) → e ≡ d
      by (yes lt) q = let x = k.3 h.0 lt in absurd (not_both h.0 x.0 e x.1 h.2)
      by (no f) (yes lt) = let x = h.3 k.0 lt in absurd (not_both k.0 x.0 d x.1 k.2)
      by (no f) (no q) = let same : h.0 ≡ k.0 = omega (arith, f, q) in same_stops k.0 e d (subst (λ j. F j (Err e)) same h.2) k.2

-- what passes at an entry
one_at_entry : {A : Type 0} (F : Result A Passes → Type 0) → ((r s : Result A Passes) → F r → F s → r ≡ s) → (j : ℕ) (r s : Result A ValueStop) → AtEntry j F r → AtEntry j F s → r ≡ s
one_at_entry F one j (Ok x) (Ok y) h k = let e = one (Ok x) (Ok y) h k in let d : x ≡ y = cc in ap Ok d
one_at_entry F one j (Ok x) (Err (stops.Passes i p)) h k = let e = one (Ok x) (Err p) h k.1 in absurd cc
one_at_entry F one j (Ok x) (Err (stops.ZeroDivisor i)) h k = absurd k
one_at_entry F one j (Ok x) (Err stops.Memory) h k = absurd k
one_at_entry F one j (Err (stops.Passes i p)) (Ok y) h k = let e = one (Err p) (Ok y) h.1 k in absurd cc
one_at_entry F one j (Err (stops.Passes i p)) (Err (stops.Passes l q)) h k =
    let e = one (Err p) (Err q) h.1 k.1 in
    let d : p ≡ q = cc in
    ap₂ (λ m o. Err (stops.Passes m o)) (h.0 ∙ sym k.0) d
one_at_entry F one j (Err (stops.Passes i p)) (Err (stops.ZeroDivisor l)) h k = absurd k
one_at_entry F one j (Err (stops.Passes i p)) (Err stops.Memory) h k = absurd k
one_at_entry F one j (Err (stops.ZeroDivisor i)) s h k = absurd h
one_at_entry F one j (Err stops.Memory) s h k = absurd h

-- many things added one after the other
one_adds_each : {T S : Type 0} (Add : T → S → Result S Passes → Type 0) → ((x : T) (f : S) (r s : Result S Passes) → Add x f r → Add x f s → r ≡ s)
    → (xs : List T) (f : S) (r s : Result S Passes) → adds_each Add xs f r → adds_each Add xs f s → r ≡ s
one_adds_each Add one [] f r s h k = h ∙ sym k
one_adds_each Add one (x ∷ xs) f r s h k = one_follows (Add x f) (λ g q. adds_each Add xs g q) (one x f) (λ g. one_adds_each Add one xs g) r s h k

module _ {C : Type 0} (of_number : Frac → C) (number_of : C → Option Frac) (Sums : C → C → Result C Passes → Type 0) (Changes : Change → C → Result C Passes → Type 0)
    (one_sum : (a b : C) (r s : Result C Passes) → Sums a b r → Sums a b s → r ≡ s)
    (one_change : (change : Change) (a : C) (r s : Result C Passes) → Changes change a r → Changes change a s → r ≡ s) where
  one_parts_sum : (parts : List (Change × Form C)) (r s : Result (Form C) Passes) → sums_parts of_number number_of Sums Changes parts r → sums_parts of_number number_of Sums Changes parts s → r ≡ s
  one_parts_sum parts r s h k = one_parts number_of Sums Changes one_sum one_change parts (zero_form of_number) r s h k

  one_linear : (parts : List (Change × Form C)) (r s : Result (EntryForms C) Passes) → LinearEntry of_number number_of Sums Changes parts r → LinearEntry of_number number_of Sums Changes parts s
      → r ≡ s
  one_linear parts r s h k = one_follows (sums_parts of_number number_of Sums Changes parts) (λ f q. q ≡ Ok (alone f)) (one_parts_sum parts) (λ f r s h k. h ∙ sym k) r s h k

  one_rows : (lists : List (List (Change × Form C))) (r s : Result (List (Form C)) Passes) → EachSum of_number number_of Sums Changes lists r → EachSum of_number number_of Sums Changes lists s → r ≡ s
  one_rows lists r s h k = one_each (λ j q. sums_parts of_number number_of Sums Changes (slice_index_or lists j []) q) (λ j. one_parts_sum (slice_index_or lists j [])) (length lists) r s h k

  one_atom : (result : List (Change × Form C)) (rows : List (List (Change × Form C))) (r s : Result (EntryForms C) Passes) → AtomEntry of_number number_of Sums Changes result rows r
      → AtomEntry of_number number_of Sums Changes result rows s → r ≡ s
  one_atom result rows r s h k =
      one_follows (sums_parts of_number number_of Sums Changes result) (λ f q. Follows (EachSum of_number number_of Sums Changes rows) (λ gs s. s ≡ Ok (record { form = f; rows = gs })) q)
      (one_parts_sum result)
      (λ f. one_follows (EachSum of_number number_of Sums Changes rows) (λ gs s. s ≡ Ok (record { form = f; rows = gs })) (one_rows rows) (λ gs r s h k. h ∙ sym k)) r s h k

  one_added : (part : Change × Form C) (f : Form C) (r s : Result (Form C) Passes) → adds number_of Sums Changes part f r → adds number_of Sums Changes part f s → r ≡ s
  one_added part f r s h k =
      one_follows (change_gives_linear number_of Changes part.0 part.1) (sum_gives_linear number_of Sums f) (one_linear_change number_of Changes one_change part.0 part.1)
      (λ x. one_linear_sum number_of Sums one_sum f x) r s h k

  one_multiple_added : (c : C) (g f : Form C) (r s : Result (Form C) Passes) → adds_multiple number_of Sums Changes c g f r → adds_multiple number_of Sums Changes c g f s → r ≡ s
  one_multiple_added c g f r s h k =
      one_follows (multiple_gives number_of Changes c g) (sum_gives_linear number_of Sums f) (one_multiple number_of Changes c one_change g) (λ x. one_linear_sum number_of Sums one_sum f x) r s h k

  module _ (args : Arguments C) where
    one_pair : (scaling : Scaling) (x : Pair) (f : Form C) (r s : Result (Form C) Passes) → adds_pair number_of Sums Changes scaling args x f r → adds_pair number_of Sums Changes scaling args x f s
        → r ≡ s
    one_pair LeftNumber x f r s h k = one_added (left_scaled number_of args x) f r s h k
    one_pair RightNumber x f r s h k = one_added (right_scaled number_of args x) f r s h k
    one_pair LeftAffine x f r s h k = one_multiple_added (args 0 x.left).constant (args 1 x.right) f r s h k
    one_pair RightAffine x f r s h k = one_multiple_added (args 1 x.right).constant (args 0 x.left) f r s h k
    one_pair Divisor x f r s h k = one_added (divided number_of args x) f r s h k

    one_pair_sum : (scaling : Scaling) (pairs : List Pair) (r s : Result (EntryForms C) Passes) → PairSum of_number number_of Sums Changes scaling args pairs r
        → PairSum of_number number_of Sums Changes scaling args pairs s → r ≡ s
    one_pair_sum scaling pairs r s h k =
        one_follows (adds_each (adds_pair number_of Sums Changes scaling args) pairs (zero_form of_number)) (λ f q. q ≡ Ok (alone f))
        (one_adds_each (adds_pair number_of Sums Changes scaling args) (one_pair scaling) pairs (zero_form of_number)) (λ f r s h k. h ∙ sym k) r s h k

    one_pair_by : (zero : Bool) (scaling : Scaling) (pairs : List Pair) (j : ℕ) (r s : Result (EntryForms C) ValueStop) → PairEntryBy of_number number_of Sums Changes zero scaling args pairs j r
        → PairEntryBy of_number number_of Sums Changes zero scaling args pairs j s → r ≡ s
    one_pair_by true scaling pairs j r s h k = h ∙ sym k
    one_pair_by false scaling pairs j r s h k = one_at_entry (PairSum of_number number_of Sums Changes scaling args pairs) (one_pair_sum scaling pairs) j r s h k

  -- ---- all entries
  pub one_linear_entries : (parts : ℕ → List (Change × Form C)) (n : ℕ) (r s : Result (List (EntryForms C)) ValueStop)
      → FormsEach (λ j. AtEntry j (LinearEntry of_number number_of Sums Changes (parts j))) n r → FormsEach (λ j. AtEntry j (LinearEntry of_number number_of Sums Changes (parts j))) n s → r ≡ s
  one_linear_entries parts n r s h k =
      one_each (λ j q. AtEntry j (LinearEntry of_number number_of Sums Changes (parts j)) q)
      (λ j. one_at_entry (LinearEntry of_number number_of Sums Changes (parts j)) (one_linear (parts j)) j) n r s h k

  pub one_atom_entries : (results : ℕ → List (Change × Form C)) (rows : ℕ → List (List (Change × Form C))) (n : ℕ) (r s : Result (List (EntryForms C)) ValueStop)
      → FormsEach (λ j. AtEntry j (AtomEntry of_number number_of Sums Changes (results j) (rows j))) n r
      → FormsEach (λ j. AtEntry j (AtomEntry of_number number_of Sums Changes (results j) (rows j))) n s → r ≡ s
  one_atom_entries results rows n r s h k =
      one_each (λ j q. AtEntry j (AtomEntry of_number number_of Sums Changes (results j) (rows j)) q)
      (λ j. one_at_entry (AtomEntry of_number number_of Sums Changes (results j) (rows j)) (one_atom (results j) (rows j)) j) n r s h k

  pub one_pair_entries : (scaling : Scaling) (args : Arguments C) (pairs : ℕ → List Pair) (n : ℕ) (r s : Result (List (EntryForms C)) ValueStop)
      → FormsEach (λ j. PairEntry of_number number_of Sums Changes scaling args (pairs j) j) n r → FormsEach (λ j. PairEntry of_number number_of Sums Changes scaling args (pairs j) j) n s → r ≡ s
  one_pair_entries scaling args pairs n r s h k = one_each (λ j q. PairEntry of_number number_of Sums Changes scaling args (pairs j) j q)
      (λ j. one_pair_by args (list_any (has_zero_divisor number_of scaling args) (pairs j)) scaling (pairs j) j) n r s h k
