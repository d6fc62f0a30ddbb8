-- What the form of an entry is made of, where it is formed.
use Rattle.std.proofs.Common.{◌≡◌, ℕ, Bool, true, false, List, [], Option, Result, Ok, refl, sym, ap, subst}
use Rattle.std.specs.List.{list_any}
use Rattle.dcx_frac.specs.declared.fraction.Frac.{Frac}
use Rattle.dcx_frac.specs.declared.fraction.Passes.{Passes}
use Rattle.dcx_affine.specs.declared.pairing.Pair.{Pair}
use Rattle.dcx_linear.specs.declared.change.Change.{Change}
use Rattle.dcx_linear.specs.declared.form.Form.{Form}
use Rattle.dcx_linear.specs.Parts.{sums_parts}
use Rattle.dcx_entries.specs.declared.entries.EntryForms.{EntryForms}
use Rattle.dcx_entries.specs.declared.scaling.Scaling.{Scaling}
use Rattle.dcx_entries.specs.Parts.{Arguments, zero_form, has_zero_divisor}
use Rattle.dcx_entries.specs.Sums.{adds_pair, adds_each}
use Rattle.dcx_entries.specs.Entries.{alone, LinearEntry, EachSum, AtomEntry, PairSum, PairEntry, PairEntryBy}

-- an answer is an entry
pub entry_is : {C E : Type 0} (entry other : EntryForms C) → (let r : Result (EntryForms C) E = Ok entry in r ≡ Ok other) → entry ≡ other
entry_is entry other h = cc

module _ {C : Type 0} (of_number : Frac → C) (number_of : C → Option Frac) (Sums : C → C → Result C Passes → Type 0) (Changes : Change → C → Result C Passes → Type 0) where
  -- a sum of parts, without rows
  pub record IsSum (parts : List (Change × Form C)) (entry : EntryForms C) : Type 0 where
    pub sums : sums_parts of_number number_of Sums Changes parts (Ok entry.form)
    pub rows : entry.rows ≡ []

  pub linear_made : (parts : List (Change × Form C)) (entry : EntryForms C) → LinearEntry of_number number_of Sums Changes parts (Ok entry) → IsSum parts entry
  linear_made parts entry h =
      let e = entry_is {E = Passes} entry (alone h.0) h.2 in
      record { sums = subst (λ (z : EntryForms C). sums_parts of_number number_of Sums Changes parts (Ok z.form)) (sym e) h.1; rows = ap (λ (z : EntryForms C). z.rows) e }

  -- a sum of parts, and rows that are sums too
  pub record IsGraphSum (result : List (Change × Form C)) (rows : List (List (Change × Form C))) (entry : EntryForms C) : Type 0 where
    pub sums : sums_parts of_number number_of Sums Changes result (Ok entry.form)
    pub rows_sum : EachSum of_number number_of Sums Changes rows (Ok entry.rows)

  pub atom_made : (result : List (Change × Form C)) (rows : List (List (Change × Form C))) (entry : EntryForms C) → AtomEntry of_number number_of Sums Changes result rows (Ok entry)
      → IsGraphSum result rows entry
  atom_made result rows entry h =
      let made : EntryForms C = record { form = h.0; rows = h.2.0 } in
      let e = entry_is {E = Passes} entry made h.2.2 in
      record {
        sums = subst (λ (z : EntryForms C). sums_parts of_number number_of Sums Changes result (Ok z.form)) (sym e) h.1;
        rows_sum = subst (λ (z : EntryForms C). EachSum of_number number_of Sums Changes rows (Ok z.rows)) (sym e) h.2.1;
      }

  -- a sum over pairs
  pub record IsPairSum (scaling : Scaling) (args : Arguments C) (pairs : List Pair) (entry : EntryForms C) : Type 0 where
    pub sums : adds_each (adds_pair number_of Sums Changes scaling args) pairs (zero_form of_number) (Ok entry.form)
    pub rows : entry.rows ≡ []

  pub pair_summed : (scaling : Scaling) (args : Arguments C) (pairs : List Pair) (j : ℕ) (entry : EntryForms C) → PairEntry of_number number_of Sums Changes scaling args pairs j (Ok entry) →
      (list_any (has_zero_divisor number_of scaling args) pairs ≡ false) × PairSum of_number number_of Sums Changes scaling args pairs (Ok entry)
  pair_summed scaling args pairs j entry h = by (list_any (has_zero_divisor number_of scaling args) pairs) refl h
    where
      by : (b : Bool) → list_any (has_zero_divisor number_of scaling args) pairs ≡ b → PairEntryBy of_number number_of Sums Changes b scaling args pairs j (Ok entry) →
          (list_any (has_zero_divisor number_of scaling args) pairs ≡ false) × PairSum of_number number_of Sums Changes scaling args pairs (Ok entry)
      by true d h = cc
      by false d h = (d, h)

  pub pair_made : (scaling : Scaling) (args : Arguments C) (pairs : List Pair) (j : ℕ) (entry : EntryForms C) → PairEntry of_number number_of Sums Changes scaling args pairs j (Ok entry)
      → IsPairSum scaling args pairs entry
  pair_made scaling args pairs j entry h =
      let s = (pair_summed scaling args pairs j entry h).1 in
      let e = entry_is {E = Passes} entry (alone s.0) s.2 in
      record {
        sums = subst (λ (z : EntryForms C). adds_each (adds_pair number_of Sums Changes scaling args) pairs (zero_form of_number) (Ok z.form)) (sym e) s.1;
        rows = ap (λ (z : EntryForms C). z.rows) e;
      }
