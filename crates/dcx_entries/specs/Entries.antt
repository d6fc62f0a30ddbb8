-- An entry of a node: its form, and the rows of its graph.
use Rattle.std.specs.Prelude.{◌≡◌, ℕ, Bool, true, false, List, [], length, map, Option, Result, Ok, Err, slice_index_or}
use Rattle.std.specs.List.{list_any}
use Rattle.dcx_frac.specs.declared.fraction.Frac.{Frac}
use Rattle.dcx_frac.specs.declared.fraction.Passes.{Passes}
use Rattle.dcx_linear.specs.declared.change.Change.{Change}
use Rattle.dcx_linear.specs.declared.form.Form.{Form}
use Rattle.dcx_point.specs.Pairs.{Pairs}
use Rattle.dcx_linear.specs.Forms.{is_constant}
use Rattle.dcx_linear.specs.Parts.{Follows, sums_parts}
use Rattle.dcx_entries.specs.declared.entries.EntryForms.{EntryForms}
use Rattle.dcx_atom.specs.declared.stops.ValueStop.{ValueStop}
use Rattle.dcx_atom.specs.declared.stops.ValueStop.TheVariants as stops
use Rattle.dcx_affine.specs.declared.pairing.Pair.{Pair}
use Rattle.dcx_entries.specs.declared.scaling.Scaling.{Scaling}
use Rattle.dcx_entries.specs.Forming.{FormsEach, AtEntry}
use Rattle.dcx_entries.specs.Parts.{Arguments, zero_form, has_zero_divisor}
use Rattle.dcx_entries.specs.Sums.{adds_pair, adds_each}

-- a form without rows
abbrev pub alone : {C : Type 0} → Form C → EntryForms C
alone f = record { form = f; rows = [] }

-- the forms of entries
abbrev pub entry_forms : {C : Type 0} → List (EntryForms C) → List (Form C)
entry_forms es = map (λ e. e.form) es

-- entry j of a parameter, given by its position and its name: the number, or the entry itself where parameters are affine
abbrev pub ParameterEntry : {C : Type 0} → (ℕ → List ℕ → ℕ → Pairs → C → Type 0) → ℕ → List ℕ → Pairs → ℕ → Result (EntryForms C) ValueStop → Type 0
ParameterEntry {C} gives position name setting j r = (c : C) × gives position name j setting c × (r ≡ Ok (alone (is_constant c)))

module _ {C : Type 0} (of_number : Frac → C) (number_of : C → Option Frac) (Sums : C → C → Result C Passes → Type 0) (Changes : Change → C → Result C Passes → Type 0) where
  -- an entry of a linear call, which is the sum of these parts
  abbrev pub LinearEntry : List (Change × Form C) → Result (EntryForms C) Passes → Type 0
  LinearEntry parts r = Follows (sums_parts of_number number_of Sums Changes parts) (λ f q. q ≡ Ok (alone f)) r

  -- the sums of lists of parts, in order
  abbrev pub EachSum : List (List (Change × Form C)) → Result (List (Form C)) Passes → Type 0
  EachSum lists r = FormsEach (λ k. sums_parts of_number number_of Sums Changes (slice_index_or lists k [])) (length lists) r

  -- an entry of an atom: the sum of the parts of its result, and then those of its rows
  abbrev pub AtomEntry : List (Change × Form C) → List (List (Change × Form C)) → Result (EntryForms C) Passes → Type 0
  AtomEntry result rows r = Follows (sums_parts of_number number_of Sums Changes result) (λ f q. Follows (EachSum rows) (λ gs s. s ≡ Ok (record { form = f; rows = gs })) q) r

  -- the sum of these pairs as an entry
  abbrev pub PairSum : Scaling → Arguments C → List Pair → Result (EntryForms C) Passes → Type 0
  PairSum scaling args pairs r = Follows (adds_each (adds_pair number_of Sums Changes scaling args) pairs (zero_form of_number)) (λ f q. q ≡ Ok (alone f)) r

  -- where a pair is divided by 0 nothing is summed
  abbrev pub PairEntryBy : Bool → Scaling → Arguments C → List Pair → ℕ → Result (EntryForms C) ValueStop → Type 0
  PairEntryBy true scaling args pairs j r = r ≡ Err (stops.ZeroDivisor j)
  PairEntryBy false scaling args pairs j r = AtEntry j (PairSum scaling args pairs) r

  -- entry j of a product or a quotient, which is the sum of these pairs
  abbrev pub PairEntry : Scaling → Arguments C → List Pair → ℕ → Result (EntryForms C) ValueStop → Type 0
  PairEntry scaling args pairs j r = PairEntryBy (list_any (has_zero_divisor number_of scaling args) pairs) scaling args pairs j r
